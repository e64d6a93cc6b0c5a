use Rattle.std.proofs.Common.{ℕ, ◌≡◌, ◌∙◌, Option, None, Some, sym}
use Rattle.sat_checker.specs.Stored.{nothing_stored}
use Rattle.sat_checker.proofs.lemmas.state.Refiled.{loosened}
use Rattle.sat_checker.proofs.state.CheckerState.new.Goals as goal

not_held : (o : Option ℕ) (v : ℕ) → o ≡ None → o ≡ Some v → ⊥
not_held o v a b = let e : ◌≡◌ {A = Option ℕ} None (Some v) = sym a ∙ b in absurd cc

not_named : (name : ℕ) → ◌≡◌ {A = Option ℕ} None (Some name) → ⊥
not_named name e = absurd cc

pub returns : goal.returns
returns c = record {
  formula = loosened c.new.result nothing_stored c.new.ensures;
  variables = record {
    each = c.new-2.ensures.variables;
    holders = λ name v. ((λ e. absurd (not_held _ v (c.new-2.ensures.holders name) e)), (λ e. absurd (not_named name e)));
  };
  assumed = c.new-3.ensures;
}
