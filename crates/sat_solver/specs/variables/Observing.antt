-- Hidden variables that get names.
use Rattle.std.specs.Prelude.{ℕ, ◌+◌, ◌≤◌, ◌==◌, ◌≡◌, max, set, false, Some, None, List, [], ◌∷◌, if◌then◌else◌}
use Rattle.sat_base.specs.script.ScriptState.{ScriptState, Witnessed, insert_by_name}
use Rattle.sat_base.specs.steps.Steps.{Step, UserVarName, ChangeSamplingMode}
use Rattle.sat_solver.specs.variables.Calls.{NamesInvariant, NamesAgree}
use Rattle.sat_checker.specs.matching.Checking.{variable_named}
use Rattle.sat_checker.specs.matching.Bridge.{LiveVariables}
use Rattle.sat_solver.specs.variables.Live.{given}
use Rattle.sat_solver.specs.variables.Naming.{IsNextUser, IsLowestUnused, KeepsNames}
use Rattle.sat_solver.specs.variables.Search.{KeepsWhatSearchSees}
use Rattle.sat_solver.specs.variables.Variables.{data_at, user_of, variables_used}
use Rattle.sat_solver.specs.declared.variables.Variables.{Variables}

-- `observed name identity j` is the script state after the identity gets the name (counted from 1), and mode witness
abbrev pub observed : ℕ → ℕ → ScriptState → ScriptState
observed name identity j = record {
  first_unused = max j.first_unused (name + 1);
  in_use = insert_by_name (record { name = name; identity = identity }) j.in_use;
  modes = set j.modes identity Witnessed;
  identity_count = j.identity_count;
  clauses = j.clauses;
}

-- `Observes low s j live t k users` holds if, from steps `s` and script state `j` to `t` and `k`, live variables
-- without a name, by increasing number from `low` on, got the next names `users` (counted from 0). For each, one step
-- set mode witness, the next gave the name.
pub data Observes : ℕ → List Step → ScriptState → LiveVariables → List Step → ScriptState → List ℕ → Type 0 where
  all_named : {low : ℕ} {s : List Step} {j : ScriptState} {live : LiveVariables} → Observes low s j live s j []
  one_more : {low : ℕ} {s t : List Step} {j k : ScriptState} {live : LiveVariables} {users : List ℕ} (v i user : ℕ) → low ≤ v → given live v ≡ Some i → ((name : ℕ) → variable_named s name ≡ Some v → ⊥) → IsLowestUnused j (user + 1)
      → Observes (v + 1) (UserVarName v (Some user) ∷ ChangeSamplingMode v false ∷ s) (observed (user + 1) i j) live t k users → Observes low s j live t k (user ∷ users)

-- `IsHidden n v` holds if the proof variable `v` is in use and has no name
pub record IsHidden (n : Variables) (v : ℕ) : Type 0 where
  pub live : (data_at n v).deleted ≡ false
  pub nameless : user_of n v ≡ None

-- `NamesHidden old new from to v user` holds if the hidden variable `v` got the lowest name not in use, `user` (counted
-- from 0), and mode witness, by exactly two steps; its identity is unchanged, and so is what a search sees
pub record NamesHidden (old new : Variables) (from to : List Step) (v user : ℕ) : Type 0 where
  pub valid : NamesInvariant new to
  pub next : IsNextUser old user
  pub step : to ≡ UserVarName v (Some user) ∷ ChangeSamplingMode v false ∷ from
  pub users : (w : ℕ) → user_of new w ≡ (if w == v then Some user else user_of old w)
  pub deleted : (w : ℕ) → (data_at new w).deleted ≡ (data_at old w).deleted
  pub count : variables_used new ≡ variables_used old
  pub names : KeepsNames old new
  pub kept : (j : ScriptState) (live : LiveVariables) (i : ℕ) → NamesAgree old from j live → given live v ≡ Some i → NamesAgree new to (observed (user + 1) i j) live
  pub unseen : KeepsWhatSearchSees old new from to

-- `NamesAllHidden old new from to users` holds if all hidden variables, by increasing number, got the next names
-- `users` (counted from 0) and mode witness; other names and what a search sees are unchanged
pub record NamesAllHidden (old new : Variables) (from to : List Step) (users : List ℕ) : Type 0 where
  pub valid : NamesInvariant new to
  pub all : (v : ℕ) → IsHidden new v → ⊥
  pub names : KeepsNames old new
  pub kept : (j : ScriptState) (live : LiveVariables) → NamesAgree old from j live → (k : ScriptState) × Observes 0 from j live to k users × NamesAgree new to k live
  pub unseen : KeepsWhatSearchSees old new from to
