use Rattle.std.proofs.Common.{◌<◌, ◌≡◌, true, subst}
use Rattle.std.specs.List.{list_any}
use Rattle.sat_checker.specs.LiteralSets.{is_among}
use Rattle.sat_checker.specs.inner.SlotView.{live_clauses}
use Rattle.sat_checker.proofs.lemmas.store.Mentions.{stored_among}
use Rattle.sat_checker.proofs.store.clauses.Clauses.have_literal.Goals as goal

pub returns : goal.returns
returns c = λ e.
    subst (λ ss. list_any (λ x. is_among x.literals c.args.lit) (live_clauses ss) ≡ true) c.self.view_is
    (stored_among c.args.lit c.self.inside.slots (subst (λ n. 0 < n) (c.self.invariant.0.counted c.args.lit) (c.has_literal.ensures e)))
