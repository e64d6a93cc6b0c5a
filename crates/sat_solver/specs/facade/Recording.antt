-- What the steps of a solver record, and what a call has written whose target failed. Lists of steps have the newest
-- first.
use Rattle.std.specs.Prelude.{◌≡◌, true, false, List, ◌++◌}
use Rattle.sat_base.specs.steps.Steps.{Step}
use Rattle.sat_checker.specs.matching.ProofChecking.{checker_rules}
use Rattle.sat_solver.specs.declared.state.SatState.TheVariants as states
use Rattle.sat_solver.specs.proof.ProofView.{TargetFails}
use Rattle.sat_solver.specs.session.Session.{AreAllowedSteps}
use Rattle.sat_solver.specs.facade.States.{MatchesState}
use Rattle.sat_solver.specs.facade.View.{SolverView}

-- `RecordsAnswer v` holds if every step was allowed when it was made, names and steps agree with the script state, and
-- a checker that accepted the steps has recorded unsat exactly if the answer is `Unsat`
pub record RecordsAnswer {L : Type 0} (v : SolverView L) : Type 0 where
  pub allowed : AreAllowedSteps v.steps
  pub state : MatchesState v
  pub recorded : v.answer ≡ states.Unsat → checker_rules.unsat v.steps ≡ true
  pub unrecorded : (v.answer ≡ states.Unsat → ⊥) → checker_rules.unsat v.steps ≡ false

-- `FailsWhileWriting old new` holds if steps were made, and a call of the target failed while their text was written,
-- so that it is broken; the list of listeners is unchanged
pub record FailsWhileWriting {L : Type 0} (old new : SolverView L) : Type 0 where
  pub steps : List Step
  pub history : new.steps ≡ steps ++ old.steps
  pub listening : new.listeners ≡ old.listeners
  pub target : TargetFails old.target steps new.target
