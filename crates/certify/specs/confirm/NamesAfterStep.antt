-- Which variables names refer to after one more step.
use Rattle.std.specs.Prelude.{ℕ, ◌≤◌, ◌≡◌, true, false, Some, List, ◌∷◌}
use Rattle.sat_base.specs.values.Literals.{var_limit}
use Rattle.sat_base.specs.script.Script.{Literal}
use Rattle.sat_base.specs.steps.Steps.{Step}
use Rattle.sat_checker.specs.Accepts.{Accepts, ready_after}
use Rattle.sat_checker.specs.matching.Checking.{AreAcceptedBy, is_ordered, variable_named}
use Rattle.sat_checker.specs.matching.Expected.{Outcome, FitsExpected}
use Rattle.sat_checker.specs.matching.ProofChecking.{checker_rules}
use Rattle.certify.specs.confirm.Comparing.{Due}
use Rattle.certify.specs.confirm.Variables.{variable_in}
use Rattle.certify.specs.declared.confirm.variables.NamedVars.{NamedVars}

-- `AreVariablesOfNames variables earlier` holds if the steps `earlier`, newest first, are accepted, and after them the
-- table `variables` has the variable of every name. No two names share a variable, every variable is known, and no name
-- with a variable is past the limit.
pub record AreVariablesOfNames (variables : NamedVars) (earlier : List Step) : Type 0 where
  pub accepted : AreAcceptedBy checker_rules earlier
  pub named : variable_named earlier ≡ variable_in variables
  pub apart : (m n v : ℕ) → variable_named earlier m ≡ Some v → variable_named earlier n ≡ Some v → m ≡ n
  pub known : (m v : ℕ) → variable_named earlier m ≡ Some v → checker_rules.knows earlier v ≡ true
  pub few : (name v : ℕ) → variable_named earlier name ≡ Some v → name ≤ var_limit

-- `NamesFollowStep due old step new` holds if the table `new` has the variables of names after the step, whenever `old`
-- had them before, and the step is accepted and fits the expected step `due` for some outcome and ask.
abbrev pub NamesFollowStep : Due → NamedVars → Step → NamedVars → Type 0
NamesFollowStep due old step new = (earlier : List Step) (o : Outcome) (ask : List Literal) → AreVariablesOfNames old earlier
    → FitsExpected (checker_rules.knows earlier) earlier (due o ask) step → Accepts (ready_after earlier) step → AreVariablesOfNames new (step ∷ earlier)

-- `UnorderedKeepVariables` holds if an unordered step that is accepted does not change the variable of any name.
abbrev pub UnorderedKeepVariables : Type 0
UnorderedKeepVariables = (variables : NamedVars) (earlier : List Step) (step : Step) → AreVariablesOfNames variables earlier
    → is_ordered step ≡ false → Accepts (ready_after earlier) step → AreVariablesOfNames variables (step ∷ earlier)
