use Rattle.sat_checker.specs.listeners.TranscriptView.{transcribed_of}
use Rattle.sat_checker.proofs.lemmas.listeners.Boxed.{moved}
use Rattle.sat_checker.proofs.processing.boxes.BoxDynProofTranscriptProcessorProofTranscriptProcessor.process_step.Goals as goal

pub returns : goal.returns
returns g c =
    moved (λ i x w. (goal.ProofTranscriptProcessor-dyn g (i, x)).reads x (transcribed_of c.args.step.now) c.process_step.result w)
    (λ r. record c.args.self.now { vtable = r.0; value = r.1 }) _ _ c.as_mut.ensures.value.1 c.process_step.new.self c.process_step.ensures
