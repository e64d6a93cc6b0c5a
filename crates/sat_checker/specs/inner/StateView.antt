-- How the checker's state represents that of the definition, and when its result for a step is correct.
use Rattle.std.specs.Prelude.{ℕ, ◌≡◌, Bool, false, List, Result, MatchResult}
use Rattle.sat_checker.specs.Storing.{with_stored, with_input, with_literals_known}
use Rattle.sat_base.specs.steps.Steps.{Step}
use Rattle.sat_checker.specs.LiteralSets.{canonical}
use Rattle.sat_checker.specs.Stored.{Stored}
use Rattle.sat_checker.specs.Accepts.{Accepts, effect}
use Rattle.sat_checker.specs.Looks.{most_looks}
use Rattle.sat_checker.specs.inner.FormulaView.{RepresentsFormula, rehashed_in, DecidesChange, ChangeResult}
use Rattle.sat_checker.specs.inner.LookCounts.{LooksOver}
use Rattle.sat_checker.specs.inner.VariablesView.{KeepsVariableData, StoresVariables}
use Rattle.sat_checker.specs.declared.state.CheckerState.{CheckerState}
use Rattle.sat_checker.specs.declared.store.StoreError.{StoreError}

-- `RepresentsStored state f` holds if the state represents `f`, once all clauses are filed by their current hashes.
pub record RepresentsStored (state : CheckerState) (f : Stored) : Type 0 where
  pub formula : RepresentsFormula (rehashed_in state.formula) f
  pub variables : StoresVariables state.variables f.variables
  pub assumed : state.assumed ≡ canonical f.assumed

-- `RepresentsFiled state f` holds if the state represents `f`, and all clauses are filed by their current hashes.
pub record RepresentsFiled (state : CheckerState) (f : Stored) : Type 0 where
  pub formula : RepresentsFormula state.formula f
  pub variables : StoresVariables state.variables f.variables
  pub assumed : state.assumed ≡ canonical f.assumed

-- `DecidesStep result old step new` holds if the step is accepted only if the rules accept it, and `new` then
-- represents its effect; it is refused only if the rules refuse it, and an error is returned only if the rules accept
-- it.
abbrev pub DecidesStep : Result Bool StoreError → CheckerState → Step → CheckerState → Type 0
DecidesStep result old step new = (f : Stored) → RepresentsStored old f → DecidesChange result (Accepts f step) (RepresentsStored new (effect step f)) (effect step f)

-- `ChangesStored result old change new` holds if `new` represents `change f` whenever the result is `Ok` and `old`
-- represents `f` with all clauses filed. `CounterEnd` means that a number of `change f` does not fit in 64 bits.
abbrev pub ChangesStored : {T : Type 0} → Result T StoreError → CheckerState → (Stored → Stored) → CheckerState → Type 0
ChangesStored result old change new = (f : Stored) → RepresentsFiled old f → ChangeResult result (RepresentsStored new (change f)) (change f)

-- What is stored after a derived clause, as redundant (true) or as irredundant; its variables are then known, too.
abbrev pub with_derived : Bool → List ℕ → Stored → Stored
with_derived redundant clause f = with_stored redundant clause (with_literals_known clause f)

-- What is stored after a clause of the formula; its variables are then known.
abbrev pub with_added_clause : List ℕ → Stored → Stored
with_added_clause clause f = with_input clause (with_literals_known clause f)

-- `KeepsDataUnlessAccepted result old new` holds if the data of variables is unchanged, unless the step is accepted.
abbrev pub KeepsDataUnlessAccepted : Result Bool StoreError → CheckerState → CheckerState → Type 0
KeepsDataUnlessAccepted result old new = MatchResult result (λ accepted. accepted ≡ false → KeepsVariableData old.variables new.variables) (λ _. KeepsVariableData old.variables new.variables)

-- `LooksWithin state step old new` holds if the number of looks did not decrease, and rose at most by the bound of the
-- step.
abbrev pub LooksWithin : CheckerState → Step → ℕ → ℕ → Type 0
LooksWithin state step old new = LooksOver (RepresentsStored state) (λ f. most_looks f step) old new
