-- A failed call reports the underlying error, and the proof no longer stores it.
use Rattle.std.proofs.Common.{◌≡◌, false, true, inl, inr, refl, Err, List, [], ◌∷◌}
use Rattle.sat_base.specs.device.Device.{Writer}
use Rattle.sat_base.specs.steps.Steps.{Step, End}
use Rattle.sat_checker.specs.declared.processing.ProofProcessor.{Ghosts}
use Rattle.sat_solver.specs.proof.ProofView.{EmitsExactly, ClosesTarget, FailsToEmit, FailsCheck, has_missed_step, without_listener_error}
use Rattle.sat_solver.specs.declared.proof.emitted.CheckFault.{CheckFault}
use Rattle.sat_solver.specs.declared.proof.emitted.CheckFault.TheVariants as checks
use Rattle.sat_solver.specs.declared.proof.Proof.{Proof}
use Rattle.sat_solver.specs.declared.proof.ProofError.{ProofError}
use Rattle.sat_solver.specs.declared.proof.ProofError.TheVariants.{Write, OutOfMemory, Check}
use Rattle.sat_solver.specs.declared.error.SolverError.{SolverError}
use Rattle.sat_solver.specs.declared.error.SolverError.TheVariants as errors
use Rattle.sat_solver.specs.cdcl.Faults.{StoresError, MissesOnlyByFault}
use Rattle.sat_solver.specs.cdcl.StepEffects.{EmitsUpToFault, error_of_proof}
use Rattle.sat_solver.proofs.lemmas.cdcl.GoingLemmas.{complaint_kept}
use Rattle.sat_solver.proofs.lemmas.session.ProofLemmas.{complains_now, gains_adds}
use Rattle.sat_solver.specs.declared.context.Context.{Context}
use Rattle.sat_solver.specs.declared.solver.Engine.{Engine}
use Rattle.sat_solver.specs.solver.Answering.{EngineFlushFails}
use Rattle.sat_solver.specs.solver.Calls.{EngineEndsInFailure, EngineSolves}
use Rattle.sat_solver.specs.solver.FailedEngine.{failed_with}
use Rattle.sat_solver.specs.solver.Proving.{EngineClosesProof}
use Rattle.sat_solver.specs.solver.SearchingForAnswer.{AnswersOrBreaks}
use Rattle.sat_solver.specs.solver.AddingToSearch.{NameStepsFailOr}

module _ {W L : Type 0} {G : Ghosts L} (seen : W → Writer) (p q : Proof W L G) where
  adds_reported : (steps : List Step) → EmitsExactly seen steps p q → EmitsExactly seen steps p (without_listener_error q)
  adds_reported steps h = record { history = h.history; listening = h.listening; target = h.target }

  pub fails_reported : (steps : List Step) → FailsToEmit seen steps p q → FailsToEmit seen steps p (without_listener_error q)
  fails_reported steps h = record { history = h.history; listening = h.listening; target = h.target }

  pub check_reported : (fault : CheckFault) (steps : List Step) → FailsCheck seen fault steps p q → FailsCheck seen fault steps p (without_listener_error q)
  check_reported fault steps h = record { adds = adds_reported steps h.adds; why = h.why }

  -- what a failed call has done is the same once its error was reported
  pub went_reported : (e : SolverError) (steps : List Step) → EmitsUpToFault {A = Unit {0}} seen (Err e) steps p q → EmitsUpToFault {A = Unit {0}} seen (Err e) steps p (without_listener_error q)
  went_reported (errors.ProofIoError cause) steps h = fails_reported steps h
  went_reported (errors.ProofProcessorError cause) steps h = check_reported _ steps h
  went_reported errors.CounterEnd steps h = check_reported _ steps h
  went_reported e steps h = adds_reported steps h

  loss_reported : (e : SolverError) → MissesOnlyByFault e p q → MissesOnlyByFault e p (without_listener_error q)
  loss_reported errors.Interrupted h = h
  loss_reported e h = h

  flush_reported : (e : SolverError) → EngineFlushFails seen e p q → EngineFlushFails seen e p (without_listener_error q)
  flush_reported (errors.ProofIoError cause) h = fails_reported _ h
  flush_reported (errors.ProofProcessorError cause) h = check_reported _ _ h
  flush_reported errors.OutOfMemory h = check_reported _ _ h
  flush_reported errors.CounterEnd h = check_reported _ _ h
  flush_reported e h = absurd h

module _ {W L : Type 0} {G : Ghosts L} (seen : W → Writer) where
  -- a call over names failed
  pub names_reported : {full : Type 0} (e : SolverError) (a : Context W L G) (s : Engine W L G) → NameStepsFailOr full seen e a s.context → NameStepsFailOr full seen e a (failed_with s).context
  names_reported e a s h = record { fault = h.fault; steps = h.steps; went = went_reported seen a.proof s.context.proof e h.steps h.went; loss = loss_reported seen a.proof s.context.proof e h.loss }

  module _ (s mid : Engine W L G) (going : s.failed ≡ false) where
    ended : (e : SolverError) → AnswersOrBreaks seen (Err e) (record s { used = true }) mid → EngineEndsInFailure seen e s (failed_with mid)
    ended e h = record {
      going = going;
      failed = refl;
      breaks = record { fault = h.0.0.fault; steps = h.0.0.steps; went = went_reported seen s.context.proof mid.context.proof e h.0.0.steps h.0.0.went; loss = loss_reported seen s.context.proof mid.context.proof e h.0.0.loss };
      counts = record { more = h.1.more; within = h.1.within; few = h.1.few };
      known = λ k. flush_reported seen s.context.proof mid.context.proof e (h.2 k);
    }

    -- an ask failed
    pub solve_ends : (e : SolverError) → AnswersOrBreaks seen (Err e) (record s { used = true }) mid → EngineSolves seen (Err e) s (failed_with mid)
    solve_ends (errors.ProofIoError cause) h = ended _ h
    solve_ends (errors.ProofProcessorError cause) h = ended _ h
    solve_ends errors.OutOfMemory h = ended _ h
    solve_ends errors.StoreFull h = ended _ h
    solve_ends errors.CounterEnd h = ended _ h
    solve_ends e h = absurd h.0.0.fault

  module _ (s : Engine W L G) (going : s.failed ≡ false) (taking : has_missed_step s.context.proof ≡ false) (p : Proof W L G) where
    abbrev pub closing : Engine W L G
    closing = record s { context = record s.context { proof = p } }

    unchecked : (fault : CheckFault) → ClosesTarget {W = W} seen (Err (Check fault)) s.context.proof p → FailsCheck seen fault (End ∷ []) s.context.proof (without_listener_error p)
    unchecked fault h = check_reported seen s.context.proof p fault (End ∷ []) (record { adds = h.0; why = (complains_now fault p (has_missed_step s.context.proof) taking h.1).0 })

    -- closing a proof failed
    pub close_ends : (e : ProofError) → ClosesTarget {W = W} seen (Err e) s.context.proof p → EngineClosesProof seen (Err (error_of_proof e)) s (failed_with closing)
    close_ends (Write cause) h = record { going = going; failed = refl; fails = fails_reported seen s.context.proof p _ h.0; clock = refl }
    close_ends OutOfMemory h = record { going = going; failed = refl; adds = inl (adds_reported seen s.context.proof p [] (gains_adds seen [] s.context.proof p h)); loss = inl h.taking; clock = refl }
    close_ends (Check checks.OutOfMemory) h = (let k = unchecked checks.OutOfMemory h in record { going = going; failed = refl; adds = inr k; loss = inr k.why; clock = refl })
    close_ends (Check checks.CounterEnd) h = record { going = going; failed = refl; fails = unchecked checks.CounterEnd h; clock = refl }
    close_ends (Check (checks.Processor cause)) h = record { going = going; failed = refl; fails = unchecked (checks.Processor cause) h; clock = refl }

    pub close_kept : (e : ProofError) → ClosesTarget {W = W} seen (Err e) s.context.proof p → StoresError (error_of_proof e) p
    close_kept (Write cause) h = h.1
    close_kept OutOfMemory h = tt
    close_kept (Check fault) h = complaint_kept fault p (complains_now fault p (has_missed_step s.context.proof) taking h.1).1
