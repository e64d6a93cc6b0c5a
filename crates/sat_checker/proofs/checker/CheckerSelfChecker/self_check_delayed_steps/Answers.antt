use Rattle.sat_checker.specs.CheckerView.{view_of}
use Rattle.sat_checker.specs.listeners.Receiving.{call_listeners}
use Rattle.sat_checker.specs.listeners.ProcessingView.{EachListenerReceives}
use Rattle.sat_checker.proofs.lemmas.listeners.Alone.{stands_up, delayed_down}
use Rattle.sat_checker.proofs.lemmas.listeners.Somebody.{delayed_faults}
use Rattle.sat_checker.proofs.checker.CheckerSelfChecker.self_check_delayed_steps.Goals as goal

pub returns-clause-notifies : goal.returns-clause-notifies
returns-clause-notifies g c = λ before begun steps s.
    delayed_down (EachListenerReceives g.P.ProofProcessor.takes g.T.ProofTranscriptProcessor.reads) _ before begun c.process_unit_conflicts.result _ _ steps (c.process_unit_conflicts.ensures.notifies before (call_listeners _ begun) steps (stands_up (EachListenerReceives g.P.ProofProcessor.takes g.T.ProofTranscriptProcessor.reads) _ before begun c.args.self.now.kernel c.args.self.now.processing steps s))

pub returns-clause-faults : goal.returns-clause-faults
returns-clause-faults g c = λ steps s. delayed_faults g.P.ProofProcessor.takes g.T.ProofTranscriptProcessor.reads (view_of c.args.self.now) _ steps s c.process_unit_conflicts.result (returns-clause-notifies g c)
