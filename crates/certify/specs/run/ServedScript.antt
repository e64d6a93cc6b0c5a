-- How a script is served while its commands are read, whatever bytes could follow. Lists of steps have the newest
-- first.
use Rattle.std.specs.Prelude.{ℕ, ◌+◌, ◌≡◌, true, false, Option, List, ◌++◌, map, length, Result, Ok, Err}
use Rattle.sat_base.specs.declared.device.whole.ReadError.{ReadError}
use Rattle.sat_base.specs.declared.device.whole.ReadError.TheVariants as errors
use Rattle.sat_base.specs.device.Device.{Writer, WriterAccepts}
use Rattle.sat_base.specs.device.Reading.{Source}
use Rattle.sat_base.specs.script.Script.{Command}
use Rattle.sat_base.specs.script.Language.{Reading, prepend_commands}
use Rattle.sat_base.specs.script.ScriptState.{ScriptState, accepted_commands, after_script}
use Rattle.sat_base.specs.steps.Steps.{Step}
use Rattle.sat_checker.specs.matching.Expected.{Outcome}
use Rattle.sat_solver.specs.facade.Calls.{HasFullStore, MakesSteps}
use Rattle.sat_solver.specs.facade.Recording.{FailsWhileWriting}
use Rattle.certify.specs.Devices.{NoWriterCallFailed, OneWriterCallFailed}
use Rattle.certify.specs.answers.Answers.{answers_from}
use Rattle.certify.specs.answers.RightAnswers.{OutcomesAreRight}
use Rattle.certify.specs.confirm.Streams.{CanBeTotal, rest_in}
use Rattle.certify.specs.declared.fault.RunFault.{RunFault}
use Rattle.certify.specs.declared.fault.RunFault.TheVariants as fault
use Rattle.certify.specs.declared.script.reader.ScriptReader.{ScriptReader}
use Rattle.certify.specs.declared.run.session.RunState.{RunState}
use Rattle.certify.specs.declared.summary.AskReport.{AskReport}
use Rattle.certify.specs.script.LastPiece.{ReadFailsAhead, ConsumesSomeOrEnds, ConsumesSome as TookOf}
use Rattle.certify.specs.script.Commands.{ReaderMeans, ReaderMeansIf}
use Rattle.certify.specs.run.FinishedRun.{refused_count, malformed_at, answer_kind, AreWithinBudget, rounds_of_asks, identities_given}
use Rattle.certify.specs.run.Stopping.{StopsServing}
use Rattle.certify.specs.run.Unfinished.{ExceedsLimit}
use Rattle.certify.specs.run.SolverCalls.{IsCaused, IsReadySolver}
use Rattle.certify.specs.run.Serving.{RunPlace, Serves}
use Rattle.certify.specs.run.BetweenCommands.{RunInvariant, HasStateBetweenCommands, run_place}
use Rattle.certify.specs.run.Stretches.{ServesCommands}
use Rattle.certify.specs.run.RunSolver.{Solver}

-- `ServedAll j commands old new before after` holds if these commands, refused ones included, were served in order from
-- state `j` on, which led the run from `old` to `new`. Their answers were written between `before` and `after`.
pub record ServedAll {C : Type 0} (j : ScriptState) (commands : List Command)
    (old new : RunState C) (before after : Writer) : Type 0 where
  pub judge : ScriptState
  pub at : HasStateBetweenCommands new judge
  pub judges : judge ≡ after_script commands j
  pub took : MakesSteps old.solver new.solver
  pub counted : new.commands ≡ old.commands + length commands
  pub budget : new.budget ≡ old.budget
  pub text : List ℕ
  pub written : WriterAccepts before after text
  pub reports : List AskReport
  pub asks : new.asks.items ≡ old.asks.items ++ reports
  pub refused : ℕ
  pub refusals : new.refused ≡ old.refused + refused
  pub serves : Serves old.budget (run_place old j) (run_place new judge) commands text reports refused

-- `ServesTo budget a script to answered reports refused` holds if the complete script was served from place `a` on,
-- which led to the steps `to`. `answered` is the text of the answers and of a malformed ending, `reports` are those of
-- the asks, and `refused` is the number of refused commands.
pub record ServesTo (budget : ℕ) (a : RunPlace) (script : Reading) (to : List Step)
    (answered : List ℕ) (reports : List AskReport) (refused : ℕ) : Type 0 where
  pub outcomes : List Outcome
  pub right : OutcomesAreRight a.judge (accepted_commands a.judge script.0) outcomes
  pub says : answers_from a.number a.judge script.0 script.1 outcomes ≡ answered
  pub refuses : refused_count a.judge script.0 ≡ refused
  pub kinds : map (λ r. r.answer) reports ≡ map answer_kind outcomes
  pub spent : AreWithinBudget budget a.rounds (identities_given a.judge (accepted_commands a.judge script.0)) reports
  pub follows : ServesCommands a.judge a.steps to (accepted_commands a.judge script.0) outcomes (rounds_of_asks reports)

-- `ServesWholeScript j script count at old new before after` holds if the rest `script` was served from state `j` on to
-- its end, and its answers were written between `before` and `after`. The run counted `count` more commands; `at` is
-- the number of the command at which the script is malformed, or `None`.
pub record ServesWholeScript {C : Type 0} (j : ScriptState) (script : Reading) (count : ℕ) (at : Option ℕ)
    (old new : RunState C) (before after : Writer) : Type 0 where
  pub took : MakesSteps old.solver new.solver
  pub counted : new.commands ≡ old.commands + count
  pub ends : at ≡ malformed_at (old.commands + length script.0 + 1) script.1
  pub text : List ℕ
  pub written : WriterAccepts before after text
  pub reports : List AskReport
  pub asks : new.asks.items ≡ old.asks.items ++ reports
  pub refused : ℕ
  pub refusals : new.refused ≡ old.refused + refused
  pub serves : ServesTo old.budget (run_place old j) script new.solver.steps text reports refused

-- `ServesUpTo j text counted a b reader old new before after` holds if some commands were served, from state `j` on,
-- while the script was read from `a` to `b`. `text` gives the script's commands at `a`, `counted` those without the ask
-- that a header may add; the rest of both is left for `reader` at `b`.
pub record ServesUpTo {C : Type 0} (j : ScriptState) (text counted : List ℕ → Reading) (a b : Source)
    (reader : ScriptReader) (old new : RunState C) (before after : Writer) : Type 0 where
  pub commands : List Command
  pub left : List ℕ → Reading
  pub means : ReaderMeans reader left
  pub plain : List ℕ → Reading
  pub counts : ReaderMeansIf false reader plain
  pub took : TookOf true a b
  pub reads : (total : List ℕ) → CanBeTotal b total → text (rest_in total a) ≡ prepend_commands commands (left (rest_in total b))
  pub holds : (total : List ℕ) → CanBeTotal b total
      → length (counted (rest_in total a)).0 ≡ length commands + length (plain (rest_in total b)).0
  pub goes_on : RunInvariant new
  pub served : ServedAll j commands old new before after

-- the fault of a run for an error of reading the script: `ScriptRead` or `OutOfMemory`
abbrev pub run_fault : ReadError → RunFault
run_fault errors.Failed = fault.ScriptRead
run_fault errors.OutOfMemory = fault.OutOfMemory

-- `ByRunFault fault script answers certificate rest` holds if one of the four statements does: `script`, `answers` or
-- `certificate` if the fault names that device, and `rest` for any other fault.
abbrev pub ByRunFault : RunFault → Type 0 → Type 0 → Type 0 → Type 0 → Type 0
ByRunFault fault.ScriptRead script answers certificate rest = script
ByRunFault fault.AnswersWrite script answers certificate rest = answers
ByRunFault fault.CertificateWrite script answers certificate rest = certificate
ByRunFault fault.OutOfMemory script answers certificate rest = rest
ByRunFault fault.StoreFull script answers certificate rest = rest
ByRunFault fault.CounterEnd script answers certificate rest = rest

-- `RunFails e a b old new before after` holds if a run failed with `e`. If `e` names a device, a call of that device
-- failed (or the script was read 2^48 times), and none of another. The script was read from `a` to `b`, and the
-- answers' writer changed from `before` to `after`.
abbrev pub RunFails : RunFault → Source → Source → Solver → Solver → Writer → Writer → Type 0
RunFails e a b old new before after = ByRunFault e
    (ReadFailsAhead a b × NoWriterCallFailed before after × MakesSteps old new)
    (ConsumesSomeOrEnds a b × OneWriterCallFailed before after × MakesSteps old new)
    (ConsumesSomeOrEnds a b × NoWriterCallFailed before after × FailsWhileWriting old new)
    (ConsumesSomeOrEnds a b × NoWriterCallFailed before after × MakesSteps old new)

-- `ServesScript j text counted result a b old new before after` holds if the script, read from `a` to `b`, was served
-- to its end from state `j` on or, with an error, a prefix of correct answers was written. `StoreFull` and `CounterEnd`
-- have their causes (`IsCaused`). `counted` reads it without the ask that a header may add.
abbrev pub ServesScript : {C : Type 0} → ScriptState → (List ℕ → Reading) → (List ℕ → Reading) → Result (Option ℕ) RunFault
    → Source → Source → RunState C → RunState C → Writer → Writer → Type 0
ServesScript j text counted (Ok at) a b old new before after = TookOf false a b × IsReadySolver new.solver × ((total : List ℕ) → CanBeTotal b total
    → ServesWholeScript j (text (rest_in total a)) (length (counted (rest_in total a)).0) at old new before after)
ServesScript j text counted (Err e) a b old new before after = RunFails e a b old.solver new.solver before after
    × ((total : List ℕ) → CanBeTotal b total → StopsServing old.budget (run_place old j) (text (rest_in total a)) new.solver.steps before after)
    × IsCaused e (HasFullStore new.solver) ((total : List ℕ) → CanBeTotal b total → ExceedsLimit old.commands j (text (rest_in total a)) new.solver.steps)
