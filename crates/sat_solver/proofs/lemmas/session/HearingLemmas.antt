-- What the listeners of a solver's own checker hear.
use Rattle.std.proofs.Common.{ℕ, ◌≡◌, ◌∙◌, ◌⊎◌, inl, inr, false, Option, None, Some, List, [], ◌∷◌, ◌++◌, Result, Ok, Err, refl, sym, ap}
use Rattle.std.proofs.lemmas.Bool.{true≢false}
use Rattle.anyhow.specs.declared.error.Error.{Error}
use Rattle.sat_base.specs.steps.Steps.{Step, ChangeHashBits}
use Rattle.sat_checker.specs.Accepts.{stored_after}
use Rattle.sat_checker.specs.CheckerView.{CheckerView, HasAccepted, ListenerFailsAtStep, RunsOutOfMemoryAt, StepResultAfter, SettlingResultAfter, checker_has_failed}
use Rattle.sat_checker.specs.KernelView.{KernelHasNoPendingConflict}
use Rattle.sat_checker.specs.Stored.{Stored}
use Rattle.sat_checker.specs.Storing.{with_conflict_settled, settled_by}
use Rattle.sat_checker.specs.announcements.Announcements.{Notice, notices_after, notices_of, delayed_announcement, delayed_empty_clause}
use Rattle.sat_checker.specs.listeners.Receiving.{ReceivesSince, notices_made}
use Rattle.sat_checker.specs.declared.error.CheckerError.{CheckerError}
use Rattle.sat_checker.specs.declared.error.CheckerError.TheVariants as errors
use Rattle.sat_checker.specs.declared.processing.Nobody.{Nobody}
use Rattle.sat_checker.specs.declared.processing.Processing.{Processing}
use Rattle.sat_checker.specs.declared.processing.ProcessingError.{ProcessingError}
use Rattle.sat_checker.specs.declared.processing.ProcessingError.TheVariants as faults
use Rattle.sat_solver.specs.declared.proof.emitted.CheckFault.{CheckFault}
use Rattle.sat_solver.specs.declared.proof.emitted.CheckFault.TheVariants as checks
use Rattle.sat_solver.specs.proof.Checked.{OkOrCheckerFailure}
use Rattle.sat_solver.specs.proof.Listening.{Receives, HeardAll, HeardUpTo, HasHeard, CheckerFailedBecause}
use Rattle.sat_solver.specs.session.Session.{AreAllowedSteps}
use Rattle.sat_solver.specs.proof.Widths.{IsNarrowedTo, none_yet, width_changes, one_more}
use Rattle.sat_solver.proofs.lemmas.session.StepLemmas.{sessions_are_accepted}

-- these steps announce nothing and leave no unit conflict
pub record Quiet (written : List Step) : Type 0 where
  pub conflict : (stored_after written).conflict ≡ None
  pub no_notices : notices_after written ≡ []

still : (f : Stored) → f.conflict ≡ None → (with_conflict_settled f).conflict ≡ None
still f e = ap (λ c. (settled_by c f).conflict) e ∙ e

shown : (written : List Step) (f : Stored) → f.conflict ≡ None → notices_after written ≡ [] → notices_after written ++ notices_of f (delayed_announcement f) ++ [] ≡ []
shown written f e t = ap (λ ts. ts ++ notices_of f (delayed_announcement f) ++ []) t ∙ ap (λ c. notices_of f (delayed_empty_clause f.next_id c) ++ []) e

width_quiet : (bits : ℕ) (written : List Step) → Quiet written → Quiet (ChangeHashBits bits ∷ written)
width_quiet bits written q = record {
  conflict = still (stored_after written) q.conflict;
  no_notices = shown written (stored_after written) q.conflict q.no_notices;
}

pub widths_quiet : {written : List Step} {width : ℕ} (wide : List Step) → wide ≡ [] → IsNarrowedTo wide written width → Quiet written
widths_quiet wide e none_yet = record { conflict = refl; no_notices = refl }
widths_quiet wide e (width_changes bits h) = width_quiet bits _ (widths_quiet wide e h)
widths_quiet wide e (one_more step k h) = cc

-- so there is nothing to report
pub none_reported : (written : List Step) → Quiet written → (conflict : Option (ℕ × ℕ)) → notices_made conflict written ≡ []
none_reported written q (Some c) = q.no_notices
none_reported written q None = ap (λ ts. ts ++ notices_of (stored_after written) (delayed_announcement (stored_after written))) q.no_notices ∙ ap (λ c. notices_of (stored_after written) (delayed_empty_clause (stored_after written).next_id c)) q.conflict

module _ {L : Type 0} (takes : L → Notice → Result Unit Error → L → Type 0) (begun : Processing L Nobody) where
  -- listeners have heard everything as long as the checker does not fail
  pub heard_all : (now : Processing L Nobody) (written : List Step) (conflict : Option (ℕ × ℕ)) → ReceivesSince (Receives takes) [] (notices_made conflict written) begun now → HeardAll takes begun now written
  heard_all now written (Some c) h = inl h
  heard_all now written None h = inr h

  -- what listeners have heard when the checker failed
  pub has_heard : (now : Processing L Nobody) (written : List Step) (in_hand : Option Step) (fault : CheckFault) → CheckerFailedBecause takes begun now written in_hand fault → HasHeard takes begun now written
  has_heard now written in_hand checks.OutOfMemory h = elim h [ inl a ↦ inl a | inr b ↦ inr (faults.OutOfMemory, b) ]
  has_heard now written in_hand checks.CounterEnd h = inl h.1
  has_heard now written in_hand (checks.Processor cause) h = inr (faults.ProofProcessorError cause, h)

  module _ (old new : CheckerView (Processing L Nobody)) (written : List Step) (going : checker_has_failed old ≡ false) where
    -- the checker failed before it announced the step, or while it did
    abbrev pub Broke : Step → CheckFault → Type 0
    Broke step fault = CheckerFailedBecause takes begun new.listeners written (Some step) fault ⊎ CheckerFailedBecause takes begun new.listeners (step ∷ written) None fault

    up_to : (step : Step) (e : ProcessingError) → ListenerFailsAtStep (Receives takes) [] begun e new step written → HeardUpTo takes begun new.listeners written e ⊎ HeardUpTo takes begun new.listeners (step ∷ written) e
    up_to step e (inl b) = inl (inr b.1.heard)
    up_to step e (inr b) = inr (inl b.1.heard)

    starved : (step : Step) → HeardUpTo takes begun new.listeners written faults.OutOfMemory ⊎ HeardUpTo takes begun new.listeners (step ∷ written) faults.OutOfMemory → Broke step checks.OutOfMemory
    starved step (inl h) = inl (inr h)
    starved step (inr h) = inr (inr h)

    starved_at : (step : Step) → RunsOutOfMemoryAt (Receives takes) [] begun new step written → Broke step checks.OutOfMemory
    starved_at step (inl s) = inl (inl s.1.heard)
    starved_at step (inr b) = starved step (up_to step faults.OutOfMemory b)

    -- the checker's answer to an allowed step
    pub answered : (r : Result (Unit {0}) CheckerError) (step : Step) → AreAllowedSteps (step ∷ written) → StepResultAfter (Receives takes) [] begun r old step new written
        → OkOrCheckerFailure r (HasAccepted (Receives takes) [] begun new (step ∷ written) × (checker_has_failed new ≡ false)) (Broke step)
    answered (Ok x) step may a = (a.1.valid, a.1.goes_on)
    answered (Err errors.OutOfMemory) step may a = (tt, starved_at step a.1)
    answered (Err errors.CounterEnd) step may a = (tt, inl (a.1, a.2.heard))
    answered (Err (errors.ProofProcessorError cause)) step may a = (tt, up_to step (faults.ProofProcessorError cause) a.1)
    answered (Err errors.CheckFailed) step may a = absurd (a.1 (sessions_are_accepted (step ∷ written) may).0.1)
    answered (Err errors.HasFailed) step may a = absurd (true≢false (sym a.0 ∙ going))
    answered (Err e) step may a = absurd a

    -- the checker's answer when it reports a pending unit conflict
    pub answered_delayed : (r : Result (Unit {0}) CheckerError) → SettlingResultAfter (Receives takes) [] begun r old new written
        → OkOrCheckerFailure r (HasAccepted (Receives takes) [] begun new written × (checker_has_failed new ≡ false) × KernelHasNoPendingConflict new.kernel) (CheckerFailedBecause takes begun new.listeners written None)
    answered_delayed (Ok x) a = (a.2, a.3, a.4)
    answered_delayed (Err errors.OutOfMemory) a = (tt, inr (inr a.3.heard))
    answered_delayed (Err errors.CounterEnd) a = (tt, (a.2, a.3.heard))
    answered_delayed (Err (errors.ProofProcessorError cause)) a = (tt, inr a.3.heard)
    answered_delayed (Err errors.HasFailed) a = absurd (true≢false (sym a.0 ∙ going))
    answered_delayed (Err e) a = absurd a
