-- The effect of a run's calls to its solver, and which faults these calls return.
use Rattle.std.specs.Prelude.{ℕ, ◌+◌, ◌<◌, ◌≡◌, Bool, true, false, None, Result, IfErr, List}
use Rattle.sat_base.specs.script.ScriptState.{ScriptState, state_after_accepted, refusal_of_names}
use Rattle.sat_base.specs.script.Script.{Command}
use Rattle.sat_base.specs.values.Literals.{var_limit}
use Rattle.sat_checker.specs.contracts.processing.NobodyProofProcessor.TheImpl.{ghosts}
use Rattle.sat_solver.specs.declared.error.SolverError.{SolverError}
use Rattle.sat_solver.specs.declared.error.SolverError.TheVariants as errors
use Rattle.sat_solver.specs.declared.state.SatState.{SatState}
use Rattle.sat_solver.specs.declared.state.SatState.TheVariants as states
use Rattle.sat_checker.specs.matching.Bridge.{LiveVariables}
use Rattle.sat_solver.specs.variables.Refusing.{names_in}
use Rattle.sat_solver.specs.variables.VariableRoom.{HasVariablesFor}
use Rattle.sat_solver.specs.proof.ProofView.{is_drat}
use Rattle.sat_solver.specs.solver.AddingToSearch.{IsNameErrorOr}
use Rattle.sat_solver.specs.facade.Adding.{Added, ReplacesAssumptions, StepsOfAssumptions, StepsOfClause}
use Rattle.sat_solver.specs.facade.Answers.{Answered, StepsOfAsk}
use Rattle.sat_solver.specs.facade.Calls.{MakesSteps}
use Rattle.sat_solver.specs.facade.Checking.{CheckerAfter}
use Rattle.sat_solver.specs.facade.Recording.{FailsWhileWriting, RecordsAnswer}
use Rattle.sat_solver.specs.facade.States.{IsInState}
use Rattle.certify.specs.declared.fault.RunFault.{RunFault}
use Rattle.certify.specs.declared.fault.RunFault.TheVariants as fault
use Rattle.certify.specs.declared.summary.Answer.{Answer}
use Rattle.certify.specs.declared.summary.Answer.TheVariants as kind
use Rattle.certify.specs.declared.summary.AskReport.{AskReport}
use Rattle.certify.specs.run.FinishedRun.{SpendsWithinBudget}
use Rattle.certify.specs.run.LackingVariables.{CommandLacksVariables}
use Rattle.certify.specs.run.RunSolver.{Solver}

-- `IsSolverFault error` holds if the error can be returned by a solver that has not failed before, for a call that it
-- does not refuse.
abbrev pub IsSolverFault : SolverError → Type 0
IsSolverFault = IsNameErrorOr (Unit {0})

-- the fault of a run for this error of its solver; any error other than a failed write, no memory or a full store
-- counts as `CounterEnd`
abbrev pub fault_for : SolverError → RunFault
fault_for (errors.ProofIoError cause) = fault.CertificateWrite
fault_for errors.OutOfMemory = fault.OutOfMemory
fault_for errors.StoreFull = fault.StoreFull
fault_for e = fault.CounterEnd

-- `is_interrupted error` is true if the error is `Interrupted`: the rounds of a search are exhausted.
abbrev pub is_interrupted : SolverError → Bool
is_interrupted errors.Interrupted = true
is_interrupted e = false

-- `ByWriteFault fault answers certificate rest` holds if one of the three statements does: `answers` or `certificate`
-- if the fault names that writer, and `rest` for any other fault. It never holds of `ScriptRead`.
abbrev pub ByWriteFault : RunFault → Type 0 → Type 0 → Type 0 → Type 0
ByWriteFault fault.ScriptRead answers certificate rest = ⊥
ByWriteFault fault.AnswersWrite answers certificate rest = answers
ByWriteFault fault.CertificateWrite answers certificate rest = certificate
ByWriteFault fault.OutOfMemory answers certificate rest = rest
ByWriteFault fault.StoreFull answers certificate rest = rest
ByWriteFault fault.CounterEnd answers certificate rest = rest

-- `IsCaused fault full lacks` holds if the statement `full` holds when the fault is `StoreFull`, and `lacks` when it is
-- `CounterEnd`. It holds for every other fault.
abbrev pub IsCaused : RunFault → (full lacks : Type 0) → Type 0
IsCaused fault.ScriptRead full lacks = Unit {0}
IsCaused fault.AnswersWrite full lacks = Unit {0}
IsCaused fault.CertificateWrite full lacks = Unit {0}
IsCaused fault.OutOfMemory full lacks = Unit {0}
IsCaused fault.StoreFull full lacks = full
IsCaused fault.CounterEnd full lacks = lacks

-- `FailsSolver e old new` holds if a call of the solver, from `old` to `new`, failed with the fault `e`. If `e` is
-- `CertificateWrite`, a call of that writer failed while the steps were written; otherwise they were all written.
abbrev pub FailsSolver : RunFault → Solver → Solver → Type 0
FailsSolver e old new = ByWriteFault e ⊥ (FailsWhileWriting old new) (MakesSteps old new)

-- `FailsIf r old new` holds if `r` is `Ok`, or `FailsSolver` holds for its fault.
abbrev pub FailsIf : {T : Type 0} → Result T RunFault → Solver → Solver → Type 0
FailsIf r old new = IfErr r (λ e. FailsSolver e old new)

-- `AgreesWithChecker r old new` holds if the result of a call agrees with the state of a checker of the solver's own
-- (`CheckerAfter`). A run's solver has no such checker.
abbrev pub AgreesWithChecker : {T : Type 0} → Result T SolverError → Solver → Solver → Type 0
AgreesWithChecker r old new = CheckerAfter ghosts.takes r old new

-- `IsReadySolver s` holds if the solver has not failed, does not write DRAT, has no checker of its own, and its answer
-- is `Unsat` exactly if a checker of its steps has recorded unsat. It may have assumptions.
pub record IsReadySolver (s : Solver) : Type 0 where
  pub going : s.failed ≡ false
  pub no_lines : is_drat s.target ≡ false
  pub unchecked : s.listeners ≡ None
  pub records : RecordsAnswer s

-- `AreAllowedNames s user` holds if no variable of the literals with codes `user` has a name that is refused, in some
-- script state that the solver agrees with.
abbrev pub AreAllowedNames : Solver → List ℕ → Type 0
AreAllowedNames s user = (j : ScriptState) × (live : LiveVariables) × IsInState s j live × (refusal_of_names j (names_in user) ≡ None)

-- `LacksRoomFor s users` holds if there are not enough proof variables for all names that would be introduced with
-- `users`, which are names counted from 0.
abbrev pub LacksRoomFor : Solver → (users : List ℕ) → Type 0
LacksRoomFor s users = HasVariablesFor s.names users → ⊥

-- `RefusedForRoom old new users` holds if a call was refused because there are not enough proof variables for the names
-- `users`, counted from 0, and the solver is unchanged.
abbrev pub RefusedForRoom : Solver → Solver → (users : List ℕ) → Type 0
RefusedForRoom old new users = LacksRoomFor old users × (new ≡ old)

-- `LacksVariablesFor old new c` holds if, in every script state that `old` agrees with, the command `c` lacks variables
-- for its names after the steps of `new`, and the state after `c` has more identities than `var_limit`.
abbrev pub LacksVariablesFor : Solver → Solver → Command → Type 0
LacksVariablesFor old new c = (j : ScriptState) (live : LiveVariables) → IsInState old j live
    → (var_limit < (state_after_accepted c j).identity_count) × CommandLacksVariables j c new.steps

-- `ClauseAccepted old new user` holds if the clause of the literals with codes `user` was added, the steps that this
-- requires were made, and the solver is ready for the next call.
pub record ClauseAccepted (old new : Solver) (user : List ℕ) : Type 0 where
  pub added : Added old new user
  pub steps : StepsOfClause old new user
  pub took : MakesSteps old new
  pub ready : IsReadySolver new

-- `AssumptionsAccepted old new user` holds if the literals with codes `user` are now the assumptions, the steps that
-- this requires were made, and the solver is ready for the next call.
pub record AssumptionsAccepted (old new : Solver) (user : List ℕ) : Type 0 where
  pub replaced : ReplacesAssumptions old new user
  pub steps : StepsOfAssumptions old new user
  pub took : MakesSteps old new
  pub ready : IsReadySolver new

-- `RoundsLimited budget old new` holds if a search makes at most `budget` rounds from now on. Only parameters and
-- values set with them changed (clock and decay factors), not the rounds counted so far.
pub record RoundsLimited (budget : ℕ) (old new : Solver) : Type 0 where
  pub ready : IsReadySolver new
  pub limit : new.parameters.max_steps ≡ budget
  pub same : new ≡ record old { parameters = new.parameters; clock = new.clock; decay = new.decay; clause_decay = new.clause_decay }
  pub rounds : new.clock.rounds ≡ old.clock.rounds

-- `IsAnswerOfState state answer` holds if `answer` is the kind of answer for this state of the solver: `Unsat` both
-- with assumptions and without.
abbrev pub IsAnswerOfState : SatState → Answer → Type 0
IsAnswerOfState states.Unknown answer = answer ≡ kind.Unknown
IsAnswerOfState states.Sat answer = answer ≡ kind.Sat
IsAnswerOfState states.UnsatUnderAssumptions answer = answer ≡ kind.Unsat
IsAnswerOfState states.Unsat answer = answer ≡ kind.Unsat

-- `Solved answer old new` holds if a search led from `old` to `new` with this kind of answer, the steps of an ask were
-- made, and the solver is ready for the next call.
pub record Solved (answer : Answer) (old new : Solver) : Type 0 where
  pub answered : Answered old new
  pub steps : StepsOfAsk old new
  pub took : MakesSteps old new
  pub ready : IsReadySolver new
  pub answer_is : IsAnswerOfState new.answer answer

-- `Searched budget report old new` holds if a search was limited to `budget` rounds and led to the answer in `report`,
-- in its number of rounds. This is within the budget, and unknown only if all rounds were used (`SpendsWithinBudget`).
pub record Searched (budget : ℕ) (report : AskReport) (old new : Solver) : Type 0 where
  pub mid : Solver
  pub limited : RoundsLimited budget old mid
  pub solved : Solved report.answer mid new
  pub spent : SpendsWithinBudget budget old.clock.rounds report
  pub rounds : new.clock.rounds ≡ old.clock.rounds + report.steps
