use Rattle.std.proofs.Common.{rules}
use Rattle.sat_checker.specs.listeners.AnnouncementView.{announcement_of, variables_of}
use Rattle.sat_checker.specs.listeners.Receiving.{call_listeners, OwnReceivesFirst}
use Rattle.sat_checker.specs.listeners.ProcessingView.{EachListenerReceives}
use Rattle.sat_checker.proofs.lemmas.listeners.Heard.{news_more, news_broken, news_fault, news_none}
use Rattle.sat_checker.proofs.kernel.notify_pending.Goals as goal

pub returns-in-Err : goal.returns-in-Err
returns-in-Err g c =
    c.loop-place.invariant.up_to _ _ (news_fault (OwnReceivesFirst g.O.ProofProcessor.takes (EachListenerReceives g.P.ProofProcessor.takes g.T.ProofTranscriptProcessor.reads)) (variables_of c.args.names) c.args.news.now c.loop-place.place (announcement_of c.get.result) (announcement_of c.get.result) (search rules) (c.get.ensures (announcement_of c.get.result)) (call_listeners c.loop-place.own c.loop-place.others) c.in-Err.error (call_listeners c.step_with.new.own c.step_with.new.self) c.in-Err.ensures)

pub loop-place-preserved : goal.loop-place-preserved
loop-place-preserved g c = record {
  all = λ m h. c.loop-place.invariant.all m (news_more (OwnReceivesFirst g.O.ProofProcessor.takes (EachListenerReceives g.P.ProofProcessor.takes g.T.ProofTranscriptProcessor.reads)) (variables_of c.args.names) c.args.news.now c.loop-place.place (announcement_of c.get.result) (announcement_of c.get.result) (search rules) (c.get.ensures (announcement_of c.get.result)) (call_listeners c.loop-place.own c.loop-place.others) (call_listeners c.step_with.new.own c.step_with.new.self) m c.in-Ok.ensures h);
  up_to = λ e m h. c.loop-place.invariant.up_to e m (news_broken (OwnReceivesFirst g.O.ProofProcessor.takes (EachListenerReceives g.P.ProofProcessor.takes g.T.ProofTranscriptProcessor.reads)) (variables_of c.args.names) c.args.news.now c.loop-place.place (announcement_of c.get.result) (announcement_of c.get.result) (search rules) (c.get.ensures (announcement_of c.get.result)) (call_listeners c.loop-place.own c.loop-place.others) e (call_listeners c.step_with.new.own c.step_with.new.self) m c.in-Ok.ensures h);
}

pub returns : goal.returns
returns g c = c.loop-place.invariant.all _ (news_none (OwnReceivesFirst g.O.ProofProcessor.takes (EachListenerReceives g.P.ProofProcessor.takes g.T.ProofTranscriptProcessor.reads)) (variables_of c.args.names) c.args.news.now c.loop-place.place (search rules) (call_listeners c.loop-place.own c.loop-place.others))
