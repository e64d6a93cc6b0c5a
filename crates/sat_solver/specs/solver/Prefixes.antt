-- What the target of the engine has received since it was opened, whichever call of the solver failed.
use Rattle.std.specs.Prelude.{◌≡◌, false, Option, Some}
use Rattle.sat_base.specs.device.Device.{Writer}
use Rattle.sat_base.specs.device.Sink.{empty_sink}
use Rattle.sat_checker.specs.declared.processing.ProofProcessor.{Ghosts}
use Rattle.sat_solver.specs.proof.Checked.{has_begun}
use Rattle.sat_solver.specs.proof.Counting.{nothing_counted}
use Rattle.sat_solver.specs.proof.Prefixes.{PrefixSince, ProofReachesBySteps}
use Rattle.sat_solver.specs.proof.ProofView.{Open}
use Rattle.sat_solver.specs.solver.View.{proof_in, engine_target}
use Rattle.sat_solver.specs.solver.Whole.{steps_in}
use Rattle.sat_solver.specs.declared.proof.format.ProofFormat.{ProofFormat}
use Rattle.sat_solver.specs.declared.solver.Engine.{Engine}

-- `EngineReachesBySteps seen old new` holds if some steps were made between `old` and `new`, and the target received
-- their text, or a call of it failed while the text of the oldest of them was written
abbrev pub EngineReachesBySteps : {W L : Type 0} {G : Ghosts L} → (W → Writer) → Engine W L G → Engine W L G → Type 0
EngineReachesBySteps seen old new = ProofReachesBySteps seen (proof_in old) (proof_in new)

-- `EngineReturnsAcceptedPrefix seen returned s` holds if the target `returned` has received a prefix of the text of
-- steps that a checker accepts, provided that only ends of proofs came before it was opened, even if a call has failed
-- since
abbrev pub EngineReturnsAcceptedPrefix : {W L : Type 0} {G : Ghosts L} → (W → Writer) → Option W → Engine W L G → Type 0
EngineReturnsAcceptedPrefix {W} {L} {G} seen returned s = (opened : Engine W L G) (f : ProofFormat) (from : Writer) (given : W) → returned ≡ Some given
    → engine_target seen opened ≡ Open f nothing_counted (empty_sink from) → has_begun (steps_in opened) ≡ false → EngineReachesBySteps seen opened s
    → ∥ PrefixSince f from (seen given) (steps_in opened) (steps_in s) ∥₁
