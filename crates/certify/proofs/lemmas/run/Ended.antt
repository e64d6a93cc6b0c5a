-- A certificate that could not be ended.
use Rattle.std.proofs.Common.{◌≡◌, ◌∙◌, true, inl, Some, List, Err, refl, sym}
use Rattle.std.proofs.lemmas.Bool.{true≢false}
use Rattle.sat_base.specs.device.Device.{Writer}
use Rattle.sat_base.specs.steps.Steps.{Step}
use Rattle.sat_checker.specs.contracts.processing.NobodyProofProcessor.TheImpl.{ghosts}
use Rattle.sat_solver.specs.declared.error.SolverError.{SolverError}
use Rattle.sat_solver.specs.declared.error.SolverError.TheVariants as errors
use Rattle.sat_solver.specs.declared.proof.emitted.CheckFault.TheVariants as checks
use Rattle.sat_solver.specs.declared.proof.hash_bits.Counting.{Counting}
use Rattle.sat_solver.specs.facade.Calls.{FailsAfterSteps, MakesSteps, TargetAfter}
use Rattle.sat_solver.specs.facade.Checking.{CheckerAfterError}
use Rattle.sat_solver.specs.facade.Proving.{ClosesProof}
use Rattle.sat_solver.specs.facade.Recording.{FailsWhileWriting}
use Rattle.sat_solver.specs.proof.ProofView.{Target, Closed, Open, Broken, TargetReceives, ReturnsWriter, is_open}
use Rattle.sat_solver.specs.session.Session.{AreAllowedSteps}
use Rattle.certify.specs.run.SolverCalls.{FailsSolver, ByWriteFault, IsCaused, IsReadySolver, IsSolverFault, fault_for}
use Rattle.certify.specs.declared.fault.RunFault.{RunFault}
use Rattle.certify.specs.declared.fault.RunFault.TheVariants as fault
use Rattle.certify.specs.run.Ending.{EndsCertificate, FinishesRun, ReturnedAfter, HasOpenTarget, HasTarget}
use Rattle.certify.proofs.lemmas.run.CallFaults.{call_fails, none_failed}
use Rattle.certify.proofs.lemmas.run.Stopping.{bytes_none}
use Rattle.certify.specs.run.RunSolver.{Solver}

-- a call failed, and the writer of its target was returned
given_back : (e : RunFault) (old new : Solver) (given : Writer) → FailsSolver e old new → ∥ AreAllowedSteps new.steps ∥₁ → ReturnsWriter new.target (Some given)
    → ByWriteFault e ⊥ (ReturnedAfter FailsWhileWriting old given) (ReturnedAfter MakesSteps old given)
given_back fault.ScriptRead old new given h may g = h
given_back fault.AnswersWrite old new given h may g = h
given_back fault.CertificateWrite old new given h may g = record { last = new; goes = h; may = may; gives = g }
given_back e old new given h may g = record { last = new; goes = h; may = may; gives = g }

-- closing the proof failed, and its writer was returned
pub closing_fails : (e : SolverError) (old new : Solver) (given : Writer) → FailsAfterSteps e old new → ∥ AreAllowedSteps new.steps ∥₁ → ReturnsWriter new.target (Some given)
    → ByWriteFault (fault_for e) ⊥ (ReturnedAfter FailsWhileWriting old given) (ReturnedAfter MakesSteps old given)
closing_fails e old new given h may g = given_back (fault_for e) old new given (call_fails old new e h) may g

-- an error of closing is a fault of the solver
pub closing_fault : (e : SolverError) (old new : Solver) → IsReadySolver old → ClosesProof (Err e) old new → IsSolverFault e
closing_fault errors.HasFailed old new ready h = absurd (true≢false (sym h.cause ∙ ready.going))
closing_fault (errors.ProofIoError cause) old new ready h = inl tt
closing_fault errors.OutOfMemory old new ready h = inl tt
closing_fault (errors.ProofProcessorError cause) old new ready h = inl tt
closing_fault errors.CounterEnd old new ready h = inl tt
closing_fault e old new ready h = absurd h

-- closing never fails because of a full store or a counter
pub closing_caused : (e : SolverError) (old new : Solver) → IsReadySolver old → ClosesProof (Err e) old new → FailsAfterSteps e old new → CheckerAfterError ghosts.takes e old new → IsCaused (fault_for e) ⊥ ⊥
closing_caused errors.HasFailed old new ready h t w = absurd (true≢false (sym h.cause ∙ ready.going))
closing_caused (errors.ProofIoError cause) old new ready h t w = tt
closing_caused errors.OutOfMemory old new ready h t w = tt
closing_caused (errors.ProofProcessorError cause) old new ready h t w = absurd (none_failed old new (checks.Processor cause) (t.listening ∙ ready.unchecked) w)
closing_caused errors.CounterEnd old new ready h t w = absurd (none_failed old new checks.CounterEnd (t.listening ∙ ready.unchecked) w)
closing_caused e old new ready h t w = absurd h

-- a target that was open is still there
kept_open : (t : Target) (steps : List Step) (u : Target) → is_open t ≡ true → TargetReceives t steps u → (c : Counting) → u ≡ Closed c → ⊥
kept_open (Closed n) steps u o h c e = absurd (true≢false (sym o))
kept_open (Open f n s) steps u o h c e = let x : Open f h.0 h.1 ≡ Closed c = sym h.2 ∙ e in cc
kept_open (Broken w) steps u o h c e = absurd (true≢false (sym o))

kept_after : (e : SolverError) (t : Target) (steps : List Step) (u : Target) → is_open t ≡ true → TargetAfter e t steps u → (c : Counting) → u ≡ Closed c → ⊥
kept_after (errors.ProofIoError cause) (Closed n) steps u o h c e = h
kept_after (errors.ProofIoError cause) (Open f n s) steps u o h c e = let x : Broken h.0 ≡ Closed c = sym h.1 ∙ e in cc
kept_after (errors.ProofIoError cause) (Broken w) steps u o h c e = h
kept_after x t steps u o h c e = kept_open t steps u o h c e

pub closing_has_target : (e : SolverError) (old new : Solver) → HasOpenTarget old → FailsAfterSteps e old new → HasTarget new
closing_has_target e old new o h = kept_after e old.target h.steps new.target o h.target

-- the answers' writer received nothing more
pub closing_keeps : (e : RunFault) (s : Solver) (given w : Writer) → EndsCertificate (Err e) s given → FinishesRun (Err e) s given w w
closing_keeps fault.ScriptRead s given w f = absurd f.0
closing_keeps fault.AnswersWrite s given w f = absurd f.0
closing_keeps e s given w f = (((refl, refl), f.0), bytes_none w, f.1)
