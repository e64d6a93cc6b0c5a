use Rattle.std.proofs.Common.{◌≡◌, take, drop}
use Rattle.sat_checker.specs.listeners.Notifying.{AllNotified}
use Rattle.sat_checker.specs.listeners.TranscriptView.{transcribed_of}
use Rattle.sat_checker.proofs.processing.notify_transcripts.Given as goal

-- the transcripts before the index were notified, and the others did not change
abbrev pub invariant-loop-transcript : goal.invariant-loop-transcript
invariant-loop-transcript g l = record {
  notified : AllNotified (λ r b d. g.T.ProofTranscriptProcessor.reads b (transcribed_of l.step) r d) (take l.transcript-index l.initial.transcripts) (take l.transcript-index l.transcripts);
  rest : drop l.transcript-index l.transcripts ≡ drop l.transcript-index l.initial.transcripts;
}
