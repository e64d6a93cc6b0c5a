use Rattle.sat_base.specs.steps.StepViews.{step_of}
use Rattle.sat_checker.specs.CheckerView.{view_of}
use Rattle.sat_checker.specs.listeners.Receiving.{call_listeners}
use Rattle.sat_checker.specs.listeners.ProcessingView.{EachListenerReceives}
use Rattle.sat_checker.proofs.lemmas.listeners.Alone.{stands_up, step_down}
use Rattle.sat_checker.proofs.lemmas.listeners.Somebody.{step_faults}
use Rattle.sat_checker.proofs.checker.Checker.check_step.Goals as goal

pub returns-clause-notifies : goal.returns-clause-notifies
returns-clause-notifies g c = λ before begun steps s.
    step_down (EachListenerReceives g.P.ProofProcessor.takes g.T.ProofTranscriptProcessor.reads) _ before begun c.check_step.result _ (step_of c.args.step.now) _ steps (c.check_step.ensures.notifies before (call_listeners _ begun) steps (stands_up (EachListenerReceives g.P.ProofProcessor.takes g.T.ProofTranscriptProcessor.reads) _ before begun c.args.self.now.kernel c.args.self.now.processing steps s))

pub returns-clause-faults : goal.returns-clause-faults
returns-clause-faults g c = λ steps s. step_faults g.P.ProofProcessor.takes g.T.ProofTranscriptProcessor.reads (view_of c.args.self.now) _ steps s c.check_step.result (step_of c.args.step.now) (returns-clause-notifies g c)
