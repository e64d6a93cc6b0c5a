use Rattle.std.proofs.Common.{ℕ, ◌≡◌, Bool, true, false, MatchBool, List, [], ◌∷◌, inl, inr, sym, ap, ◌∙◌}
use Rattle.std.proofs.lemmas.Bool.{true≢false}
use Rattle.std.specs.List.{AllByRecursion}
use Rattle.sat_base.specs.values.Literals.{variable}
use Rattle.sat_checker.specs.Stored.{Sample, Stored, Variable, mode_of}
use Rattle.sat_checker.specs.Accepts.{CanBeAdded}
use Rattle.sat_checker.specs.declared.variables.Variables.{Variables}
use Rattle.sat_checker.specs.inner.FormulaView.{StoredStatus}
use Rattle.sat_checker.specs.inner.VariablesView.{StoresVariables, AreSampling}
use Rattle.sat_checker.proofs.lemmas.state.Keeping.{sampling_kept}
use Rattle.sat_checker.proofs.state.CheckerState.may_add.Goals as goal

sampling_back : (vs : Variables) (f : Stored) (ls : List ℕ) → StoresVariables vs f.variables → AllByRecursion (λ l. mode_of (variable l) f ≡ Sample) ls → AreSampling vs ls
sampling_back vs f [] k h = tt
sampling_back vs f (l ∷ ls) k h = (ap (λ (x : Variable). x.mode) (k.each (variable l)) ∙ h.0, sampling_back vs f ls k h.1)

-- unsat isn't recorded
added_or : (vs : Variables) (f : Stored) (ls : List ℕ) (b : Bool) → StoresVariables vs f.variables → f.unsat ≡ false → MatchBool b (AreSampling vs ls) (AreSampling vs ls → ⊥) → MatchBool b (CanBeAdded f ls) (CanBeAdded f ls → ⊥)
added_or vs f ls true k u h = inr (sampling_kept vs f ls k h)
added_or vs f ls false k u h = λ may. elim may [ inl e ↦ true≢false (sym e ∙ u) | inr s ↦ h (sampling_back vs f ls k s) ]

pub returns-else-self : goal.returns-else-self
returns-else-self c = λ f k. added_or c.args.self.now.variables f c.args.clause.now c.are_sampling.result k.variables (sym (ap (λ (s : StoredStatus). s.unsat) k.formula.status) ∙ c.if-self.false) c.are_sampling.ensures
