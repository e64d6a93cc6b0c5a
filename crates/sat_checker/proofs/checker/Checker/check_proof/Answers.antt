use Rattle.sat_checker.specs.CheckerView.{view_of}
use Rattle.sat_checker.specs.listeners.Receiving.{call_listeners}
use Rattle.sat_checker.specs.listeners.ProcessingView.{EachListenerReceives}
use Rattle.sat_checker.proofs.lemmas.listeners.Alone.{stands_up, proof_down}
use Rattle.sat_checker.proofs.lemmas.listeners.Somebody.{proof_faults}
use Rattle.sat_checker.proofs.checker.Checker.check_proof.Goals as goal

pub returns-clause-proof : goal.returns-clause-proof
returns-clause-proof g c = λ before begun steps s.
    proof_down (EachListenerReceives g.P.ProofProcessor.takes g.T.ProofTranscriptProcessor.reads) _ before begun c.check_proof_by.result _ _ _ _ steps (c.check_proof_by.ensures.proof before (call_listeners _ begun) steps (stands_up (EachListenerReceives g.P.ProofProcessor.takes g.T.ProofTranscriptProcessor.reads) _ before begun c.args.self.now.kernel c.args.self.now.processing steps s))

pub returns-clause-faults : goal.returns-clause-faults
returns-clause-faults g c = λ steps s. proof_faults g.P.ProofProcessor.takes g.T.ProofTranscriptProcessor.reads (view_of c.args.self.now) _ steps s c.check_proof_by.result _ _ (returns-clause-proof g c)
