use Rattle.std.proofs.Common.{◌≡◌, Bool, true, false, not, refl, sym, ap, ◌∙◌}
use Rattle.std.specs.Prelude.{is_some}
use Rattle.std.proofs.lemmas.Bool.{true≢false}
use Rattle.sat_checker.proofs.lemmas.state.Forgetting.{assumed_same, may_go}
use Rattle.sat_checker.proofs.state.CheckerState.may_delete.Goals as goal

must_be : (b : Bool) → not b ≡ false → b ≡ true
must_be true e = refl
must_be false e = absurd (true≢false e)

pub returns-then-mentions : goal.returns-then-mentions
returns-then-mentions c = λ f k h. true≢false (sym c.if-mentions.true ∙ c.mentions.ensures ∙ assumed_same c.args.self.now f k c.args.var ∙ h.not_assumed)

pub returns : goal.returns
returns c = λ f k.
    may_go c.args.self.now f k c.args.var c.data-data.result c.mention.result c.data-data.ensures (must_be c.data-data.result.known c.if-not-data.false) (ap is_some (sym c.get.ensures) ∙ sym c.is_some.ensures ∙ c.if-is_some.false)
    (sym (assumed_same c.args.self.now f k c.args.var) ∙ sym c.mentions.ensures ∙ c.if-mentions.false) (c.mention.ensures f k.formula.clauses)
