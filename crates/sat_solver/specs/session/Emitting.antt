-- Which steps a call has made. Lists of steps have the newest first.
use Rattle.std.specs.Prelude.{List}
use Rattle.sat_base.specs.device.Device.{Writer}
use Rattle.sat_base.specs.steps.Steps.{Step}
use Rattle.sat_checker.specs.declared.processing.ProofProcessor.{Ghosts}
use Rattle.sat_solver.specs.proof.ProofView.{EmitsExactly, FailsToEmit, EmitsChecked}
use Rattle.sat_solver.specs.declared.proof.Proof.{Proof}

-- `EmitsSomeSteps seen old new` holds if some steps (or none) were made, and their text is written to an open target or
-- pending in it; the list of listeners is unchanged
abbrev pub EmitsSomeSteps : {W L : Type 0} {G : Ghosts L} → (W → Writer) → Proof W L G → Proof W L G → Type 0
EmitsSomeSteps seen old new = (steps : List Step) × EmitsExactly seen steps old new

-- `EmitsSomeChecked seen old new` holds if some steps (or none) were made, their text is written or pending, the own
-- checker received them unless it had missed a step before, and no ask began
abbrev pub EmitsSomeChecked : {W L : Type 0} {G : Ghosts L} → (W → Writer) → Proof W L G → Proof W L G → Type 0
EmitsSomeChecked seen old new = (steps : List Step) × EmitsChecked seen steps old new

-- `FailsWhileEmitting seen old new` holds if some steps were made, and a call of the open target failed while their
-- text was written, so that it is broken now
abbrev pub FailsWhileEmitting : {W L : Type 0} {G : Ghosts L} → (W → Writer) → Proof W L G → Proof W L G → Type 0
FailsWhileEmitting seen old new = (steps : List Step) × FailsToEmit seen steps old new
