use Rattle.std.proofs.Common.{refl, sym, ap, inl}
use Rattle.sat_checker.specs.Storing.{with_conflict_settled}
use Rattle.sat_checker.specs.listeners.AnnouncementView.{variables_of}
use Rattle.sat_checker.specs.listeners.Receiving.{call_listeners, OwnReceivesFirst}
use Rattle.sat_checker.specs.listeners.ProcessingView.{EachListenerReceives}
use Rattle.sat_checker.proofs.lemmas.listeners.Heard.{same_itself}
use Rattle.sat_checker.proofs.lemmas.listeners.Taken.{leaves_conflict, settled_stands, turned, turned_none, conflict_heard, conflict_broken, delayed_ok, delayed_err}
use Rattle.sat_checker.proofs.kernel.Kernel.settle_conflict.Goals as goal

pub returns-in-Ok-clause-notifies : goal.returns-in-Ok-clause-notifies
returns-in-Ok-clause-notifies g c = λ before begun steps s.
    let k = s.kernel.kept c.requires in
    let valid = settled_stands c.args.self.now steps s.kernel c.requires c.in-Some.stored c.in-Some.contradicting c.in-Some.is _ (λ f. turned c.settle.result _ (with_conflict_settled k.formula) (sym c.if-is_err.ensures.value) (c.settle.ensures.settles k.formula f)) refl refl refl in
    let heard = conflict_heard c.args.self.now steps s.kernel c.requires c.in-Some.stored c.in-Some.contradicting c.in-Some.is (OwnReceivesFirst g.O.ProofProcessor.takes (EachListenerReceives g.P.ProofProcessor.takes g.T.ProofTranscriptProcessor.reads)) before begun (call_listeners c.args.own.now c.args.others.now) (s.heard c.requires) (variables_of c.new.result)
    (λ v. ap (λ z. z v) c.new.ensures) (call_listeners c.step_with.new.own c.step_with.new.self) (call_listeners c.step_with.new.own c.step_with.new.self, (_, same_itself _, c.in-Ok.ensures), refl) in
    delayed_ok (OwnReceivesFirst g.O.ProofProcessor.takes (EachListenerReceives g.P.ProofProcessor.takes g.T.ProofTranscriptProcessor.reads)) before begun c.args.self.now _ (call_listeners c.args.own.now c.args.others.now) (call_listeners c.step_with.new.own c.step_with.new.self) steps c.requires refl valid c.requires (turned_none c.settle.result _ (sym c.if-is_err.ensures.value) c.settle.ensures.none) heard

pub returns-in-Err-clause-notifies : goal.returns-in-Err-clause-notifies
returns-in-Err-clause-notifies g c = λ before begun steps s.
    let k = s.kernel.kept c.requires in
    let valid = settled_stands c.args.self.now steps s.kernel c.requires c.in-Some.stored c.in-Some.contradicting c.in-Some.is _ (λ f. turned c.settle.result _ (with_conflict_settled k.formula) (sym c.if-is_err.ensures.value) (c.settle.ensures.settles k.formula f)) refl refl refl in
    let heard = conflict_broken c.args.self.now steps s.kernel c.requires c.in-Some.stored c.in-Some.contradicting c.in-Some.is (OwnReceivesFirst g.O.ProofProcessor.takes (EachListenerReceives g.P.ProofProcessor.takes g.T.ProofTranscriptProcessor.reads)) before begun (call_listeners c.args.own.now c.args.others.now) (s.heard c.requires) (variables_of c.new.result)
    (λ v. ap (λ z. z v) c.new.ensures) c.in-Err.error (call_listeners c.step_with.new.own c.step_with.new.self) (inl (_, same_itself _, c.in-Err.ensures)) in
    rw c.fault.ensures (delayed_err (OwnReceivesFirst g.O.ProofProcessor.takes (EachListenerReceives g.P.ProofProcessor.takes g.T.ProofTranscriptProcessor.reads)) before begun c.args.self.now _ (call_listeners c.args.own.now c.args.others.now) (call_listeners c.step_with.new.own c.step_with.new.self) steps c.requires refl (leaves_conflict c.args.self.now steps s.kernel c.requires c.in-Some.stored c.in-Some.contradicting c.in-Some.is) (record { valid = valid; failed = refl }) c.in-Err.error heard)
