-- Why a proof did not accept a step of a call over names.
use Rattle.std.specs.Prelude.{◌≡◌, Some, List}
use Rattle.sat_base.specs.device.Device.{Writer}
use Rattle.sat_base.specs.steps.Steps.{Step}
use Rattle.sat_checker.specs.declared.processing.ProofProcessor.{Ghosts}
use Rattle.sat_solver.specs.declared.variables.error.NameError.{NameError}
use Rattle.sat_solver.specs.declared.variables.error.NameError.TheVariants as errors
use Rattle.sat_solver.specs.proof.ListenerErrors.{IsListenerError}
use Rattle.sat_solver.specs.session.Emitting.{FailsWhileEmitting}
use Rattle.sat_solver.specs.proof.ProofView.{FailsCheck}
use Rattle.sat_solver.specs.declared.proof.Proof.{Proof}

-- `StepNotAccepted seen old e new` holds if `e` is the error of a call of the target, which failed while the text of
-- steps was written, or of the own checker, which failed at steps that were written. The underlying error is stored.
abbrev pub StepNotAccepted : {W L : Type 0} {G : Ghosts L} → (W → Writer) → Proof W L G → NameError → Proof W L G → Type 0
StepNotAccepted seen old (errors.Write cause) new = FailsWhileEmitting seen old new × (new.cause ≡ Some cause)
StepNotAccepted seen old (errors.Check fault) new = (steps : List Step) × FailsCheck seen fault steps old new × IsListenerError fault new.made.complaint
StepNotAccepted seen old e new = ⊥
