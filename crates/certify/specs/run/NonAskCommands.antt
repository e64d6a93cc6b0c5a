-- Commands that are not asks, as a run's solver carries them out: clauses, and commands that hide names or set modes.
use Rattle.std.specs.Prelude.{ℕ, ◌+◌, ◌≡◌, true, false, List, [], ◌∷◌, Result}
use Rattle.sat_base.specs.script.Script.{Command, Hide, Witness, Sample}
use Rattle.sat_base.specs.script.ScriptState.{ScriptState, Sampled, Witnessed, state_after_accepted}
use Rattle.sat_base.specs.steps.Steps.{Step}
use Rattle.sat_checker.specs.matching.ProofChecking.{checker_rules}
use Rattle.sat_solver.specs.declared.error.SolverError.{SolverError}
use Rattle.sat_solver.specs.variables.NamingSteps.{IsHidingStep, IsModeStep}
use Rattle.sat_checker.specs.matching.Expected.{Expected, steps_hiding, steps_setting_mode}
use Rattle.sat_checker.specs.matching.Bridge.{LiveVariables}
use Rattle.sat_solver.specs.facade.Calls.{MakesSteps}
use Rattle.sat_solver.specs.facade.Naming.{ChangesMode}
use Rattle.sat_solver.specs.facade.States.{IsInState}
use Rattle.certify.specs.declared.refusals.NameState.{NameState}
use Rattle.certify.specs.declared.refusals.NameState.TheVariants as state
use Rattle.certify.specs.run.SolverCalls.{IsReadySolver}
use Rattle.certify.specs.run.Stretches.{IsCommandStep, MakesExpectedSteps, due_for_command}
use Rattle.certify.specs.run.RunSolver.{Solver}

-- the command `h`, `s` or `w` that gives names this state (hidden, sampled or witnessed)
abbrev pub command_for_state : NameState → List ℕ → Command
command_for_state state.Hidden names = Hide names
command_for_state state.Sampled names = Sample names
command_for_state state.Witnessed names = Witness names

-- the ordered steps that are expected for a command that gives names this state, in the script state before it
abbrev pub due_for_state : NameState → List ℕ → ScriptState → List Expected
due_for_state state.Hidden names = steps_hiding names
due_for_state state.Sampled names = steps_setting_mode Sampled names
due_for_state state.Witnessed names = steps_setting_mode Witnessed names

-- `IsStepForState state name earlier step` holds if `step` is allowed after the steps `earlier` while `name` gets this
-- state: an ordered step, the deletion of a hidden variable without an index, or a change of the variable's mode.
abbrev pub IsStepForState : NameState → ℕ → List Step → Step → Type 0
IsStepForState state.Hidden name = IsHidingStep
IsStepForState state.Sampled name = IsModeStep name true
IsStepForState state.Witnessed name = IsModeStep name false

-- `ChangesNameState r old new user st` holds if a call with result `r` introduces the name `user + 1` and gives it the
-- state `st`, as in `ChangesMode`.
abbrev pub ChangesNameState : Result (Unit {0}) SolverError → Solver → Solver → ℕ → NameState → Type 0
ChangesNameState r old new user st = ChangesMode r old new user (state_after_accepted (command_for_state st ((user + 1) ∷ [])))

-- `NonAskCarriedOut c old new` holds if the command `c`, which is not an ask and not refused, was carried out: the
-- solver is in the state after it, and made the expected ordered steps and else only allowed ones. Assumptions and
-- rounds are unchanged.
pub record NonAskCarriedOut (c : Command) (old new : Solver) : Type 0 where
  pub ready : IsReadySolver new
  pub took : MakesSteps old new
  pub assumed : new.assumptions ≡ old.assumptions
  pub clock : new.clock ≡ old.clock
  pub keeps : (j : ScriptState) (live : LiveVariables) → IsInState old j live
      → (then : LiveVariables) × IsInState new (state_after_accepted c j) then
      × MakesExpectedSteps (IsCommandStep c) old.steps new.steps (due_for_command (checker_rules.unsat old.steps) c j)
