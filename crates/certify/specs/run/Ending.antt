-- How a run ends.
use Rattle.std.specs.Prelude.{◌≡◌, ℕ, true, Option, Some, [], ◌∷◌, Result, Ok, Err}
use Rattle.sat_base.specs.device.Device.{Writer, WriterAccepts}
use Rattle.sat_base.specs.steps.Steps.{End}
use Rattle.sat_base.specs.device.Sink.{empty_sink}
use Rattle.sat_solver.specs.declared.proof.format.ProofFormat.TheVariants.{Varisat}
use Rattle.sat_solver.specs.declared.proof.hash_bits.Counting.{Counting}
use Rattle.sat_solver.specs.proof.Counting.{nothing_counted as uncounted}
use Rattle.sat_solver.specs.proof.ProofView.{Closed, Open, ReturnsWriter, TargetReceivesAll, is_open}
use Rattle.sat_solver.specs.session.Session.{AreAllowedSteps}
use Rattle.sat_solver.specs.facade.Calls.{MakesSteps, ReachesBySteps}
use Rattle.sat_solver.specs.facade.Recording.{FailsWhileWriting}
use Rattle.certify.specs.Devices.{NoWriterCallFailed, OneWriterCallFailed}
use Rattle.certify.specs.declared.fault.RunFault.{RunFault}
use Rattle.certify.specs.declared.run.session.RunState.{RunState}
use Rattle.certify.specs.declared.summary.Summary.{Summary}
use Rattle.certify.specs.run.Unfinished.{ReceivedBytes, ReceivedStepsPrefix}
use Rattle.certify.specs.run.SolverCalls.{ByWriteFault, IsCaused}
use Rattle.certify.specs.run.RunSolver.{Solver}

-- `HasTarget s` holds if the solver has a target for its certificate that is not closed: it is open, or broken by a
-- failed call.
abbrev pub HasTarget : Solver → Type 0
HasTarget s = (c : Counting) → s.target ≡ Closed c → ⊥

-- `HasOpenTarget s` holds if the solver's target is open, so that the certificate can still be written.
abbrev pub HasOpenTarget : Solver → Type 0
HasOpenTarget s = is_open s.target ≡ true

-- `ReturnedWithEnd s given` holds if the solver's open target received what was pending and the step `End`, was
-- flushed, and its writer is returned as `given`. All steps, including `End`, were allowed.
pub record ReturnedWithEnd (s : Solver) (given : Writer) : Type 0 where
  pub takes : TargetReceivesAll s.target (End ∷ []) given
  pub may : AreAllowedSteps (End ∷ s.steps)

-- `ReturnedAfter Goes s given` holds if `Goes` leads from `s` to a state of the solver all of whose steps are allowed,
-- and the writer of that state's target is returned as `given`; pending bytes are lost.
pub record ReturnedAfter (Goes : Solver → Solver → Type 0) (s : Solver) (given : Writer) : Type 0 where
  pub last : Solver
  pub goes : Goes s last
  pub may : ∥ AreAllowedSteps last.steps ∥₁
  pub gives : ReturnsWriter last.target (Some given)

-- `ReturnedWithPrefix s given` holds if the returned writer `given` received a prefix of the text of accepted steps,
-- and nothing else, since its certificate was opened: in any state without steps from which the solver reached `s`. `s`
-- may follow a fault.
pub record ReturnedWithPrefix (s : Solver) (given : Writer) : Type 0 where
  pub front : (opened : Solver) (from : Writer) → opened.target ≡ Open Varisat uncounted (empty_sink from)
      → opened.steps ≡ [] → ReachesBySteps opened s → ReceivedStepsPrefix (from, given)

-- `EndsCertificate result s given` holds if the certificate was ended and flushed or, with an error, was not; its
-- writer is returned as `given`. The error is never `StoreFull` or `CounterEnd`.
abbrev pub EndsCertificate : Result (Unit {0}) RunFault → Solver → Writer → Type 0
EndsCertificate (Ok x) s given = ReturnedWithEnd s given
EndsCertificate (Err e) s given = ByWriteFault e ⊥ (ReturnedAfter FailsWhileWriting s given) (ReturnedAfter MakesSteps s given) × IsCaused e ⊥ ⊥

-- `FinishesRun result s given before after` holds if the certificate was ended, and its writer is returned as `given`.
-- Then the answers' writer was flushed, from `before` to `after`, without receiving bytes. With a fault, which is never
-- `StoreFull` or `CounterEnd`, ending or flushing failed.
abbrev pub FinishesRun : Result (Unit {0}) RunFault → Solver → (given before after : Writer) → Type 0
FinishesRun (Ok x) s given before after = ReturnedWithEnd s given × WriterAccepts before after [] × (after.flushed ≡ true)
FinishesRun (Err e) s given before after = ByWriteFault e
    (OneWriterCallFailed before after × ReturnedWithEnd s given)
    (NoWriterCallFailed before after × ReturnedAfter FailsWhileWriting s given)
    (NoWriterCallFailed before after × ReturnedAfter MakesSteps s given)
    × ReceivedBytes before after []
    × IsCaused e ⊥ ⊥

-- `SummaryAgrees at s summary` holds if the summary has the counts and the ask reports of the run's state `s`, and says
-- that the script is malformed at command `at`, or nowhere (`None`).
pub record SummaryAgrees {C : Type 0} (at : Option ℕ) (s : RunState C) (summary : Summary) : Type 0 where
  pub commands : summary.commands ≡ s.commands
  pub refused : summary.refused ≡ s.refused
  pub ends : summary.malformed ≡ at
  pub asks : summary.asks ≡ s.asks

-- `EndsRun served result s given before after` holds if a run whose script was served with the result `served` ended
-- with `result`. `given` is the certificate's writer, and the answers' writer changed from `before` to `after`. If
-- serving failed, `result` is that fault, and nothing more is written.
abbrev pub EndsRun : {C : Type 0} → Result (Option ℕ) RunFault → Result Summary RunFault → RunState C → (given before after : Writer) → Type 0
EndsRun (Ok at) (Ok summary) s given before after = FinishesRun (Ok tt) s.solver given before after × SummaryAgrees at s summary
EndsRun (Ok at) (Err e) s given before after = FinishesRun (Err e) s.solver given before after
EndsRun (Err e) r s given before after =
    (r ≡ Err e) × (after ≡ before) × ReturnsWriter s.solver.target (Some given) × ∥ AreAllowedSteps s.solver.steps ∥₁
