use Rattle.sat_base.specs.steps.StepViews.{step_of}
use Rattle.sat_checker.specs.CheckerView.{checker_view}
use Rattle.sat_checker.specs.listeners.Receiving.{call_listeners, OwnReceivesFirst}
use Rattle.sat_checker.specs.listeners.ProcessingView.{EachListenerReceives}
use Rattle.sat_checker.proofs.lemmas.listeners.Taken.{delayed_stops, settled_goes_on}
use Rattle.sat_checker.proofs.kernel.Kernel.check_step.Goals as goal

pub returns-in-Err-clause-notifies : goal.returns-in-Err-clause-notifies
returns-in-Err-clause-notifies g c = λ before begun steps s.
    delayed_stops (OwnReceivesFirst g.O.ProofProcessor.takes (EachListenerReceives g.P.ProofProcessor.takes g.T.ProofTranscriptProcessor.reads)) before begun steps (step_of c.args.step.now) (checker_view c.args.self.now (call_listeners c.args.own.now c.args.others.now)) (checker_view c.process_unit_conflicts.new.self (call_listeners c.process_unit_conflicts.new.own c.process_unit_conflicts.new.others)) c.in-Err.error (c.in-Err.ensures.notifies before begun steps s)

pub returns-in-Ok-clause-notifies : goal.returns-in-Ok-clause-notifies
returns-in-Ok-clause-notifies g c = λ before begun steps s.
    let a = c.in-Ok.ensures.notifies before begun steps s in
    settled_goes_on (OwnReceivesFirst g.O.ProofProcessor.takes (EachListenerReceives g.P.ProofProcessor.takes g.T.ProofTranscriptProcessor.reads)) before begun steps (step_of c.args.step.now) (checker_view c.args.self.now (call_listeners c.args.own.now c.args.others.now)) (checker_view c.process_unit_conflicts.new.self (call_listeners c.process_unit_conflicts.new.own c.process_unit_conflicts.new.others)) (checker_view c.step.new.self (call_listeners c.step.new.own c.step.new.others)) c.step.result
    c.if-self.false a.3 (c.step.ensures.notifies before begun steps a.2)
