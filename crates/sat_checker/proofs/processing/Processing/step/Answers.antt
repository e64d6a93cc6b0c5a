use Rattle.std.proofs.Common.{◌∙◌, refl}
use Rattle.sat_checker.specs.announcements.Transcripts.{transcript}
use Rattle.sat_checker.specs.listeners.AnnouncementView.{announcement_of, notice_of, variables_of}
use Rattle.sat_checker.specs.listeners.Notifying.{AllNotified, Transcribes, some_processors, all_processors}
use Rattle.sat_checker.proofs.lemmas.listeners.Calls.{some_refilled, refilled_by}
use Rattle.sat_checker.proofs.processing.Processing.step.Goals as goal

pub returns-in-Err : goal.returns-in-Err
returns-in-Err g c =
    some_processors c.in-Err.cause refl (some_refilled _ _ _ _ c.deref_mut.ensures.value (c.notify_processors.auto.processors ∙ c.deref_mut.ensures.len) _ c.in-Err.cause c.in-Err.ensures.err) refl

pub returns-in-Ok : goal.returns-in-Ok
returns-in-Ok g c =
    all_processors (refilled_by _ _ _ _ c.deref_mut.ensures.value (c.notify_processors.auto.processors ∙ c.deref_mut.ensures.len) (AllNotified (λ r b d. g.P.ProofProcessor.takes b (notice_of c.args.step.now c.args.names) r d)) c.in-Ok.ensures.ok)
    (refilled_by _ _ _ _ c.deref_mut-in-Ok.ensures.value (c.transcribe.auto.transcripts ∙ c.deref_mut-in-Ok.ensures.len)
    (Transcribes (λ said r b d. g.T.ProofTranscriptProcessor.reads b said r d) (transcript (variables_of c.args.names) (announcement_of c.args.step.now)) c.transcribe.result) c.transcribe.ensures)
