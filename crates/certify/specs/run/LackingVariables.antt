-- When no variable is left for a name, given the steps that were made. Lists of steps have the newest first.
use Rattle.std.specs.Prelude.{ℕ, ◌+◌, ◌-◌, ◌<◌, ◌≡◌, true, None, List, [], ◌∷◌, ◌++◌, length}
use Rattle.std.specs.List.{AllByRecursion}
use Rattle.sat_base.specs.script.Script.{Command, Clause, Ask, Hide, Witness, Sample, names_of}
use Rattle.sat_base.specs.script.ScriptState.{ScriptState, state_after_accepted, after_script, introduce_all, refusal_of}
use Rattle.sat_base.specs.steps.Steps.{Step}
use Rattle.sat_base.specs.values.Literals.{var_limit}
use Rattle.sat_checker.specs.SortedSets.{NoRepeats}
use Rattle.sat_checker.specs.matching.ProofChecking.{checker_rules}

-- `LacksVariables steps introduced` holds if there are not enough proof variables for `introduced` new names: together
-- with some distinct variables that are known after the steps, they would be more than `var_limit` (2^28).
pub record LacksVariables (steps : List Step) (introduced : ℕ) : Type 0 where
  pub in_use : List ℕ
  pub once : NoRepeats in_use
  pub known : AllByRecursion (λ v. checker_rules.knows steps v ≡ true) in_use
  pub more : var_limit < length in_use + introduced

-- how many names get a new variable when `names` are introduced from left to right in the state `j`, including smaller
-- names that were never used
abbrev pub introduced_for : List ℕ → ScriptState → ℕ
introduced_for names j = (introduce_all names j).identity_count - j.identity_count

-- `OneNameLacksVariable command names j steps` holds if one of `names`, in the state after `command` has processed the
-- names before it, needs more new variables than there are after `steps` (`LacksVariables`).
pub record OneNameLacksVariable (command : List ℕ → Command) (names : List ℕ) (j : ScriptState) (steps : List Step) : Type 0 where
  pub first : List ℕ
  pub name : ℕ
  pub following : List ℕ
  pub whole : names ≡ first ++ (name ∷ following)
  pub lacks : LacksVariables steps (introduced_for (name ∷ []) (state_after_accepted (command first) j))

-- `CommandLacksVariables j command steps` holds if `command`, in state `j`, introduces more names than there are proof
-- variables left after `steps`. For `Hide`, `Witness` and `Sample`, which introduce one name after another, this holds
-- of one of their names.
abbrev pub CommandLacksVariables : ScriptState → Command → List Step → Type 0
CommandLacksVariables j (Clause ls) steps = LacksVariables steps (introduced_for (names_of ls) j)
CommandLacksVariables j (Ask ls) steps = LacksVariables steps (introduced_for (names_of ls) j)
CommandLacksVariables j (Hide names) steps = OneNameLacksVariable Hide names j steps
CommandLacksVariables j (Witness names) steps = OneNameLacksVariable Witness names j steps
CommandLacksVariables j (Sample names) steps = OneNameLacksVariable Sample names j steps

-- `SomeCommandLacks j commands steps` holds if one of the commands is not refused and lacks variables for its names, in
-- the state after the commands before it. `j` is the state before all of them.
pub record SomeCommandLacks (j : ScriptState) (commands : List Command) (steps : List Step) : Type 0 where
  pub before : List Command
  pub command : Command
  pub following : List Command
  pub whole : commands ≡ before ++ (command ∷ following)
  pub accepted_one : refusal_of (after_script before j) command ≡ None
  pub lacks : CommandLacksVariables (after_script before j) command steps
