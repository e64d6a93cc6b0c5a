-- Steps of the search, and how they affect names.
use Rattle.std.specs.Prelude.{ℕ, ◌≡◌, ◌∷◌, Bool, false, Option, Some, List, map}
use Rattle.std.specs.List.{AllByRecursion}
use Rattle.sat_base.specs.values.Literals.{variable}
use Rattle.sat_base.specs.script.ScriptState.{ScriptState}
use Rattle.sat_base.specs.steps.Steps.{Step, AtClause, UnitClauses, DeleteClause, ChangeHashBits, Model, FailedAssumptions, End}
use Rattle.sat_solver.specs.session.Session.{IsAllowedStep, session_after}
use Rattle.sat_checker.specs.matching.Bridge.{LiveVariables}
use Rattle.sat_solver.specs.variables.Variables.{data_at, solver_of}
use Rattle.sat_solver.specs.variables.Naming.{StoresUnit}
use Rattle.sat_solver.specs.variables.Calls.{NamesInvariant, NamesAgree}
use Rattle.sat_solver.specs.declared.variables.Variables.{Variables}

-- `AreIndexed n ls` holds if the literals `ls` are over proof variables that have indices
abbrev pub AreIndexed : Variables → List ℕ → Type 0
AreIndexed n = AllByRecursion (λ l. (x : ℕ) × (solver_of n (variable l) ≡ Some x))

-- `IsSearchStepOver n step` holds if `step` is one that an ask makes: derivations over variables that have indices,
-- deletions, changes of width, a model over variables in use, a failed core, or the end of a proof
abbrev pub IsSearchStepOver : Variables → Step → Type 0
IsSearchStepOver n (AtClause redundant clause hashes) = AreIndexed n clause
IsSearchStepOver n (UnitClauses us) = AreIndexed n (map (λ u. u.0) us)
IsSearchStepOver n (DeleteClause clause proof) = Unit {0}
IsSearchStepOver n (ChangeHashBits bits) = Unit {0}
IsSearchStepOver n (Model ls) = AllByRecursion (λ l. (data_at n (variable l)).deleted ≡ false) ls
IsSearchStepOver n (FailedAssumptions core hashes) = Unit {0}
IsSearchStepOver n End = Unit {0}
IsSearchStepOver n step = ⊥

-- `SearchesPreserveNames` holds if the invariant of names is preserved by every allowed step that a search may make
-- over variables with indices
abbrev pub SearchesPreserveNames : Type 0
SearchesPreserveNames = (n : Variables) (steps : List Step) (step : Step) → NamesInvariant n steps → IsAllowedStep (session_after steps) step → IsSearchStepOver n step → NamesInvariant n (step ∷ steps)

-- `SearchesAgree` holds if names and steps still match the same script state after every allowed step that a search may
-- make over variables with indices
abbrev pub SearchesAgree : Type 0
SearchesAgree = (n : Variables) (steps : List Step) (step : Step) → NamesInvariant n steps → IsAllowedStep (session_after steps) step → IsSearchStepOver n step → (j : ScriptState) (live : LiveVariables) → NamesAgree n steps j live → NamesAgree n (step ∷ steps) j live

-- `UnitsPreserveNames` holds if storing any value as the unit of a variable that has an index preserves the invariant
-- of names, and names and steps still match the same script state
abbrev pub UnitsPreserveNames : Type 0
UnitsPreserveNames = (old new : Variables) (steps : List Step) (v x : ℕ) (value : Option Bool) → NamesInvariant old steps → solver_of old v ≡ Some x → StoresUnit old new v value → NamesInvariant new steps × ((j : ScriptState) (live : LiveVariables) → NamesAgree old steps j live → NamesAgree new steps j live)
