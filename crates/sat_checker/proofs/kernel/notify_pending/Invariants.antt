use Rattle.std.proofs.Common.{drop}
use Rattle.sat_checker.specs.inner.NotifyingSteps.{notices_with}
use Rattle.sat_checker.specs.listeners.AnnouncementView.{variables_of}
use Rattle.sat_checker.specs.listeners.Receiving.{call_listeners, ReceivesAll, OwnReceivesFirst, ReceivesUpToFault}
use Rattle.sat_checker.specs.listeners.ProcessingView.{EachListenerReceives}
use Rattle.sat_checker.proofs.kernel.notify_pending.Given as goal

-- if the listeners now receive the remaining announcements, they have received all of them
abbrev pub invariant-loop-place : goal.invariant-loop-place
invariant-loop-place g l = record {
  all : (m : _) → ReceivesAll (OwnReceivesFirst g.O.ProofProcessor.takes (EachListenerReceives g.P.ProofProcessor.takes g.T.ProofTranscriptProcessor.reads))
      (notices_with (variables_of l.fn.names) (drop l.place l.news)) (call_listeners l.own l.others) m
      → ReceivesAll (OwnReceivesFirst g.O.ProofProcessor.takes (EachListenerReceives g.P.ProofProcessor.takes g.T.ProofTranscriptProcessor.reads))
      (notices_with (variables_of l.fn.names) l.news) (call_listeners l.fn.own l.fn.others) m;
  up_to : (e : _) (m : _) → ReceivesUpToFault (OwnReceivesFirst g.O.ProofProcessor.takes (EachListenerReceives g.P.ProofProcessor.takes g.T.ProofTranscriptProcessor.reads))
      e (notices_with (variables_of l.fn.names) (drop l.place l.news)) (call_listeners l.own l.others) m
      → ReceivesUpToFault (OwnReceivesFirst g.O.ProofProcessor.takes (EachListenerReceives g.P.ProofProcessor.takes g.T.ProofTranscriptProcessor.reads))
      e (notices_with (variables_of l.fn.names) l.news) (call_listeners l.fn.own l.fn.others) m;
}
