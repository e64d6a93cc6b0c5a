use Rattle.sat_checker.specs.listeners.AnnouncementView.{notice_of}
use Rattle.sat_checker.proofs.lemmas.listeners.Boxed.{moved}
use Rattle.sat_checker.proofs.processing.boxes.BoxDynProofProcessorProofProcessor.process_step.Goals as goal

pub returns : goal.returns
returns g c =
    moved (λ i x w. (goal.ProofProcessor-dyn g (i, x)).takes x (notice_of c.args.step.now c.args.names) c.process_step.result w)
    (λ r. record c.args.self.now { vtable = r.0; value = r.1 }) _ _ c.as_mut.ensures.value.1 c.process_step.new.self c.process_step.ensures
