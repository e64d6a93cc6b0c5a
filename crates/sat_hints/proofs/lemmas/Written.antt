-- What the checker's result for a certificate means for the lines that were written.
use Rattle.std.proofs.Common.{ℕ, ◌+◌, ◌<◌, ◌≤◌, ◌^◌, ◌≡◌, false, List, [], ◌∷◌, ◌++◌, length, length-append, Result, Ok, Err, inl, inr, refl, subst, arith}
use Rattle.std.proofs.lemmas.Bool.{both_ways}
use Rattle.anyhow.specs.declared.error.Error.{Error}
use Rattle.sat_base.specs.device.Device.{Reader, Writer}
use Rattle.sat_base.specs.steps.Steps.{Step, End}
use Rattle.sat_base.specs.steps.StepText.{SpellsSteps}
use Rattle.sat_checker.specs.Accepts.{AcceptsAll, ready_after}
use Rattle.sat_checker.specs.CheckerView.{CheckerView, checker_has_failed, FailsBeforeStep, ListenerFailsAtStep}
use Rattle.sat_checker.specs.ProofView.{ReadsProofPart, most_bytes, steps_after, FoundNoEnd, ProofResultAfter}
use Rattle.sat_checker.specs.announcements.Announcements.{Notice}
use Rattle.sat_checker.specs.announcements.Transcripts.{Transcribed}
use Rattle.sat_checker.specs.listeners.Receiving.{CallListeners, OwnReceivesFirst}
use Rattle.sat_checker.specs.listeners.ProcessingView.{listeners_of, EachListenerReceives}
use Rattle.sat_checker.specs.declared.error.CheckerError.{CheckerError}
use Rattle.sat_checker.specs.declared.error.CheckerError.TheVariants as errors
use Rattle.sat_checker.specs.declared.processing.Processing.{Processing}
use Rattle.sat_checker.specs.declared.processing.ProcessingError.{ProcessingError}
use Rattle.sat_checker.specs.declared.processing.ProcessingError.TheVariants as faults
use Rattle.sat_checker.proofs.lemmas.checker.Proofs.{taken_one}
use Rattle.sat_checker.proofs.lemmas.invariants.FewBytes.{ids_within_bytes, none_is_spent}
use Rattle.sat_hints.specs.Conversion.{hint_text}
use Rattle.sat_hints.specs.Converts.{GaveAcceptedSteps, GaveAcceptedProof}
use Rattle.sat_hints.specs.declared.line_writer.LineWriter.{LineWriter}
use Rattle.sat_hints.specs.inner.LineWriting.{outlet}
use Rattle.sat_hints.specs.inner.LinesWritten.{hint_error_of, SendFailsAfter, SentAll, SentPrefix, SendsHintText}
use Rattle.sat_hints.specs.inner.AnnouncedLines.{PutsAnnouncedLine}
use Rattle.sat_hints.proofs.lemmas.AreProved.{read_proved}
use Rattle.sat_hints.proofs.lemmas.Heard.{since_sent, since_broken, front_all, front_reported, front_by, all_by, broken_all, broken_reported}

-- SHORT TEXTS
within : (text rest : List ℕ) → length (text ++ rest) ≤ most_bytes → length text ≤ most_bytes
within text rest h = let e : length (text ++ rest) ≡ length text + length rest = length-append text rest in omega arith

ids_few : (passed : List Step) (text rest : List ℕ) → SpellsSteps (passed ++ End ∷ []) text → length (text ++ rest) ≤ most_bytes → (ready_after (End ∷ steps_after passed [])).next_id < 2 ^ 64
ids_few passed text rest s h =
    let i = subst (λ z. (ready_after z).next_id ≤ length text) (taken_one passed End []) (ids_within_bytes (passed ++ End ∷ []) text s) in
    let k = within text rest h in
    let e : most_bytes < 2 ^ 64 = omega arith in
    omega arith

module _ {W P T : Type 0} (seen : W → Writer) (Takes : P → Notice → Result Unit Error → P → Type 0) (Reads : T → Transcribed → Result Unit Error → T → Type 0)
    (begun : CallListeners (LineWriter W) (Processing P T)) (well : begun.own.failed ≡ false) (none : listeners_of begun.others ≡ record { processors = []; transcripts = [] }) where
  abbrev Receives : CallListeners (LineWriter W) (Processing P T) → Notice → Result Unit ProcessingError → CallListeners (LineWriter W) (Processing P T) → Type 0
  Receives = OwnReceivesFirst (PutsAnnouncedLine seen) (EachListenerReceives Takes Reads)

  abbrev Checker : Type 0
  Checker = CheckerView (CallListeners (LineWriter W) (Processing P T))

  gave_of : {old new : Checker} {from to : Reader} {passed last : List Step} {rest : List ℕ} → ReadsProofPart old new from to [] passed last rest → AcceptsAll (steps_after passed []) → GaveAcceptedSteps from to passed last rest
  gave_of w a = record { steps = w.steps; unended = w.unended; accepted = a }

  stopped : (new : Checker) (steps : List Step) → FailsBeforeStep Receives [] begun new steps → SentPrefix (outlet seen begun.own) (outlet seen new.listeners.own) (hint_text steps)
  stopped new steps s = elim s.heard [
    | inl h ↦ front_reported (outlet seen begun.own) (outlet seen new.listeners.own) steps (since_sent seen Takes Reads _ begun new.listeners well h)
    | inr h ↦ front_all (outlet seen begun.own) (outlet seen new.listeners.own) steps (since_sent seen Takes Reads _ begun new.listeners well h)
  ]

  abbrev BrokenBy : ProcessingError → Checker → Step → List Step → Type 0
  BrokenBy f new step steps = (cause : Error) × (f ≡ faults.ProofProcessorError cause) × AcceptsAll steps × SendFailsAfter (outlet seen begun.own) (outlet seen new.listeners.own) step steps

  broken_at : (f : ProcessingError) (new : Checker) (step : Step) (steps : List Step) → ListenerFailsAtStep Receives [] begun f new step steps → BrokenBy f new step steps
  broken_at f new step steps b = elim b [
    | inl h ↦
        let k = since_broken seen Takes Reads f _ begun new.listeners well none h.1.heard in
        (k.0, k.1, h.1.fails.valid.kernel.accepted, inl (broken_all (outlet seen begun.own).sink (outlet seen new.listeners.own).sink steps k.2))
    | inr h ↦
        let k = since_broken seen Takes Reads f _ begun new.listeners well none h.1.heard in
        (k.0, k.1, h.1.fails.valid.kernel.accepted.0, inr (h.0, broken_reported (outlet seen begun.own).sink (outlet seen new.listeners.own).sink (step ∷ steps) k.2))
  ]

  no_memory : {A : Type 0} (new : Checker) (step : Step) (steps : List Step) → BrokenBy faults.OutOfMemory new step steps → A
  no_memory new step steps b = absurd (let e : ◌≡◌ {A = ProcessingError} faults.OutOfMemory (faults.ProofProcessorError b.0) = b.1 in cc)

  pub errs_written : (e : CheckerError) (old new : Checker) (from to : Reader) → checker_has_failed old ≡ false → (e ≡ errors.OutOfMemory → FoundNoEnd from to) → ProofResultAfter Receives [] begun (Err e) old new from to [] → SendsHintText (Err (hint_error_of e)) from to (outlet seen begun.own) (outlet seen new.listeners.own)
  errs_written errors.CheckFailed old new from to f u k =
      (k.0, k.4, (k.1, k.2, gave_of k.3 k.6.fails.valid.kernel.accepted, k.5), front_all (outlet seen begun.own) (outlet seen new.listeners.own) (steps_after k.0 []) (since_sent seen Takes Reads _ begun new.listeners well k.6.heard))
  errs_written errors.ProofIncomplete old new from to f u k =
      (k.0, k.3, (k.1, gave_of k.2 k.6.0.kernel.accepted, k.4, k.5), front_by (outlet seen begun.own) (outlet seen new.listeners.own) _ (steps_after k.0 []) (since_sent seen Takes Reads _ begun new.listeners well (k.6.0.heard k.6.1)))
  errs_written errors.ParseError old new from to f u k =
      (k.0, k.3, (k.1, gave_of k.2 k.5.0.kernel.accepted, k.4), front_by (outlet seen begun.own) (outlet seen new.listeners.own) _ (steps_after k.0 []) (since_sent seen Takes Reads _ begun new.listeners well (k.5.0.heard k.5.1)))
  errs_written errors.IoError old new from to f u k =
      (k.0, k.1, k.3, gave_of k.2 k.5.0.kernel.accepted, k.4, front_by (outlet seen begun.own) (outlet seen new.listeners.own) _ (steps_after k.0 []) (since_sent seen Takes Reads _ begun new.listeners well (k.5.0.heard k.5.1)))
  errs_written errors.OutOfMemory old new from to f u k = elim k.3 [
    | inl h ↦ (k.0, k.1, k.2, u refl, inl (gave_of h.0 h.2.fails.valid.kernel.accepted, h.1), stopped new (steps_after k.0 []) h.2)
    | inr h ↦ elim h.2 [
      | inl s ↦ (k.0, k.1, k.2, u refl, inr (h.0, gave_of h.1 s.1.fails.valid.kernel.accepted, s.0), stopped new (steps_after k.0 []) s.1)
      | inr b ↦ no_memory new h.0 (steps_after k.0 []) (broken_at faults.OutOfMemory new h.0 (steps_after k.0 []) b)
    ]
  ]
  errs_written errors.CounterEnd old new from to f u k =
      absurd (none_is_spent k.0 k.1 k.3.steps.text k.3.steps.spelt (within k.3.steps.text k.2 k.3.steps.bytes) k.5)
  errs_written (errors.ProofProcessorError cause) old new from to f u k =
      let b = broken_at (faults.ProofProcessorError cause) new k.1 (steps_after k.0 []) k.5 in
      (k.0, k.1, k.2, k.4, gave_of k.3 b.2, b.3)
  errs_written errors.HasFailed old new from to f u k = absurd (both_ways (checker_has_failed old) f k.0)

  -- the certificate was accepted to its end
  ends_of : (old new : Checker) (from to : Reader) → (k : ProofResultAfter Receives [] begun (Ok tt) old new from to []) → GaveAcceptedProof from to k.0 k.1
  ends_of old new from to k = record { gave = gave_of k.2 k.4.0.kernel.accepted.0; none_failed = k.3; ends = k.4.0.kernel.accepted.1 }

  all_of : (old new : Checker) (from to : Reader) → (k : ProofResultAfter Receives [] begun (Ok tt) old new from to []) → SentAll (outlet seen begun.own) (outlet seen new.listeners.own) (hint_text (End ∷ steps_after k.0 []))
  all_of old new from to k = all_by (outlet seen begun.own) (outlet seen new.listeners.own) _ (End ∷ steps_after k.0 []) k.5 (since_sent seen Takes Reads _ begun new.listeners well (k.4.0.heard k.4.1))

  pub ok_written : (old new : Checker) (from to : Reader) → (k : ProofResultAfter Receives [] begun (Ok tt) old new from to []) → SendsHintText (Ok tt) from to (outlet seen begun.own) (outlet seen new.listeners.own)
  ok_written old new from to k =
      let ids = ids_few k.0 k.2.steps.text k.1 k.2.steps.spelt k.2.steps.bytes in
      (k.0, k.1, ends_of old new from to k, read_proved k.0 k.2.steps.text k.2.steps.spelt k.4.0.kernel.accepted ids, all_of old new from to k)
