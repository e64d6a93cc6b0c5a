use Rattle.std.proofs.Common.{◌≡◌, take, drop}
use Rattle.sat_checker.specs.listeners.Notifying.{AllNotified}
use Rattle.sat_checker.specs.listeners.AnnouncementView.{notice_of}
use Rattle.sat_checker.proofs.processing.notify_processors.Given as goal

-- the processors before the index were notified, and the others did not change
abbrev pub invariant-loop-processor : goal.invariant-loop-processor
invariant-loop-processor g l = record {
  notified : AllNotified (λ r b d. g.P.ProofProcessor.takes b (notice_of l.step l.names) r d) (take l.processor-index l.initial.processors) (take l.processor-index l.processors);
  rest : drop l.processor-index l.processors ≡ drop l.processor-index l.initial.processors;
}
