-- How calls over names change names, proof and script state.
use Rattle.std.specs.Prelude.{ℕ, ◌+◌, ◌==◌, ◌≡◌, max, false, Some, List, [], ◌∷◌, map, if◌then◌else◌}
use Rattle.sat_base.specs.script.ScriptState.{ScriptState, with_name, with_names, new_names, introduce}
use Rattle.sat_base.specs.steps.Steps.{Step, UserVarName}
use Rattle.sat_solver.specs.session.Session.{AreAllowedSteps, session_after}
use Rattle.sat_checker.specs.matching.Bridge.{LiveVariables, IsBridge}
use Rattle.sat_solver.specs.variables.Variables.{VariablesInvariant, NamesMatchSteps, NamesMatchState, global_of, names_used}
use Rattle.sat_checker.specs.matching.Checking.{variable_named}
use Rattle.sat_checker.specs.matching.ProofChecking.{checker_rules}
use Rattle.sat_checker.specs.matching.Expected.{Expected, NewName}
use Rattle.sat_checker.specs.matching.Traces.{HasTrace}
use Rattle.sat_solver.specs.variables.Naming.{ExtendsNames}
use Rattle.sat_solver.specs.variables.Search.{KeepsWhatSearchSees}
use Rattle.sat_solver.specs.session.AllowedSteps.{OnlyAllowedSteps}
use Rattle.sat_solver.specs.variables.NamingSteps.{IsDue, IsNextVariable}
use Rattle.sat_solver.specs.variables.VariableRoom.{live_count, LeavesRoom}
use Rattle.sat_solver.specs.declared.variables.Variables.{Variables}

-- `NamesInvariant n steps` holds if the stored names are consistent in themselves, match the steps, all of which were
-- allowed, and every name has the proof variable that the steps gave it
pub record NamesInvariant (n : Variables) (steps : List Step) : Type 0 where
  pub tidy : VariablesInvariant n
  pub said : NamesMatchSteps n (session_after steps)
  pub may : AreAllowedSteps steps
  -- by the steps, every name has the variable that is stored for it
  pub read : (u : ℕ) → variable_named steps (u + 1) ≡ global_of n u

-- `NamesAgree n steps j live` holds if the stored names and the steps match the script state `j`, when its identities
-- are assigned to live proof variables as `live` says
pub record NamesAgree (n : Variables) (steps : List Step) (j : ScriptState) (live : LiveVariables) : Type 0 where
  pub judged : NamesMatchState n j live
  pub bridge : IsBridge checker_rules j steps live

-- `HasScriptState n steps` holds if the stored names and the steps match some script state
abbrev pub HasScriptState : Variables → List Step → Type 0
HasScriptState n steps = (j : ScriptState) × (live : LiveVariables) × NamesAgree n steps j live

-- `ReachesScriptState new from to j es` holds if the names `new` and the steps `to` match the script state `j`, and the
-- ordered steps made since `from` are exactly `es`, in order
pub record ReachesScriptState (new : Variables) (from to : List Step) (j : ScriptState) (es : List Expected) : Type 0 where
  pub live : LiveVariables
  pub agree : NamesAgree new to j live
  pub trace : HasTrace checker_rules from to es

-- `IntroducesOne old new from to user v` holds if exactly one step was made since `from`, which gave the name `user`
-- (counted from 0) to the proof variable `v`, not known before; it gets a new identity. Other names, indices and
-- clauses are unchanged.
pub record IntroducesOne (old new : Variables) (from to : List Step) (user v : ℕ) : Type 0 where
  pub valid : NamesInvariant new to
  pub named : (u : ℕ) → global_of new u ≡ (if u == user then Some v else global_of old u)
  pub used : names_used new ≡ max (names_used old) (user + 1)
  pub step : to ≡ UserVarName v (Some user) ∷ from
  pub kept : (j : ScriptState) (live : LiveVariables) → NamesAgree old from j live → NamesAgree new to (with_name (user + 1) j) ((v, j.identity_count) ∷ live)
  pub unknown : checker_rules.knows from v ≡ false
  pub live : live_count new ≡ live_count old + 1
  pub next : IsNextVariable (session_after from) user v
  pub extends : ExtendsNames old new
  pub unseen : KeepsWhatSearchSees old new from to

-- `IntroducesAll old new from to names` holds if exactly the names `names` (counted from 1), none of them in use
-- before, were introduced, in order; names in use, indices and clauses are unchanged
pub record IntroducesAll (old new : Variables) (from to : List Step) (names : List ℕ) : Type 0 where
  pub valid : NamesInvariant new to
  pub extends : ExtendsNames old new
  pub unseen : KeepsWhatSearchSees old new from to
  pub comes : OnlyAllowedSteps IsDue from to
  pub kept : (j : ScriptState) (live : LiveVariables) → NamesAgree old from j live → ReachesScriptState new from to (with_names names j) (map NewName names)

-- `ChangesScriptState old new from to judge due` holds if, for every script state that names `old` and steps `from`
-- match, `new` and `to` match the one that `judge` makes of it, and the ordered steps made are those that `due` gives
-- for it
pub record ChangesScriptState (old new : Variables) (from to : List Step) (judge : ScriptState → ScriptState) (due : ScriptState → List Expected) : Type 0 where
  pub valid : NamesInvariant new to
  pub kept : (j : ScriptState) (live : LiveVariables) → NamesAgree old from j live → ReachesScriptState new from to (judge j) (due j)

-- `IntroducesName old new from to user` holds if the name `user` (counted from 0) was introduced, with all lower names
-- never used, or nothing changed for scripts because it was in use
abbrev pub IntroducesName : Variables → Variables → List Step → List Step → ℕ → Type 0
IntroducesName old new from to user = ChangesScriptState old new from to (introduce (user + 1)) (λ j. map NewName (new_names (user + 1) j))

-- `IntroducesNameUnseen old new from to user` holds if the name `user` (counted from 0) is in use now, introduced if it
-- wasn't before, with only ordered steps; indices, clauses, units, width and assumptions are unchanged
pub record IntroducesNameUnseen (old new : Variables) (from to : List Step) (user : ℕ) : Type 0 where
  pub brings : IntroducesName old new from to user
  pub extends : ExtendsNames old new
  pub unseen : KeepsWhatSearchSees old new from to
  pub comes : OnlyAllowedSteps IsDue from to
  pub room : LeavesRoom old new user

-- `KeepsScriptState old new from to` holds if the names and steps still match every script state that they matched, and
-- no ordered step was made
abbrev pub KeepsScriptState : Variables → Variables → List Step → List Step → Type 0
KeepsScriptState old new from to = ChangesScriptState old new from to (λ j. j) (λ j. [])
