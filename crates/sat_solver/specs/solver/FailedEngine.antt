-- The state of the engine after a failed call.
use Rattle.std.specs.Prelude.{true}
use Rattle.sat_checker.specs.declared.processing.ProofProcessor.{Ghosts}
use Rattle.sat_solver.specs.proof.ProofView.{without_listener_error}
use Rattle.sat_solver.specs.declared.solver.Engine.{Engine}

-- the engine marked as failed, without the stored error of a listener, which is reported now
abbrev pub failed_with : {W L : Type 0} {G : Ghosts L} → Engine W L G → Engine W L G
failed_with s = record s { failed = true; context = record s.context { proof = without_listener_error s.context.proof } }
