-- What a target that the engine returns has received since it was opened, even if a call failed.
use Rattle.std.proofs.Common.{sym, subst, Option}
use Rattle.std.proofs.Math.Logic.{∥∥₁_elim, ∥∥₁_prop}
use Rattle.sat_base.specs.device.Device.{Writer}
use Rattle.sat_checker.specs.declared.processing.ProofProcessor.{Ghosts}
use Rattle.sat_solver.specs.proof.Prefixes.{PrefixSince, TargetReceivesPrefix}
use Rattle.sat_solver.specs.proof.ProofView.{Target, ReturnsWriter, target_of, returned_writer}
use Rattle.sat_solver.specs.session.Session.{AreAllowedSteps}
use Rattle.sat_solver.specs.solver.Prefixes.{EngineReturnsAcceptedPrefix}
use Rattle.sat_solver.specs.solver.Whole.{steps_in}
use Rattle.sat_solver.specs.declared.solver.Engine.{Engine}
use Rattle.sat_solver.proofs.lemmas.session.PrefixLemmas.{fronts_are_accepted}

module _ {W L : Type 0} {G : Ghosts L} (seen : W → Writer) where
  pub returns_accepted_prefix : (s : Engine W L G) (returned : Option W) → ReturnsWriter (target_of seen s.context.proof) (returned_writer seen returned) → EngineReturnsAcceptedPrefix seen returned s
  returns_accepted_prefix s returned g opened f from given is open_then begun went =
      let follows = subst (λ (t : Target). TargetReceivesPrefix t went.steps (target_of seen s.context.proof)) open_then went.target in
      let gives = subst (λ (o : Option W). ReturnsWriter (target_of seen s.context.proof) (returned_writer seen o)) is g in
      ∥∥₁_elim s.context.proof.made.may ∥∥₁_prop (λ may.
      let front = fronts_are_accepted f from (seen given) (steps_in opened) went.steps (target_of seen s.context.proof) begun (subst AreAllowedSteps went.history may) follows gives in
      ∣ subst (PrefixSince f from (seen given) (steps_in opened)) (sym went.history) front ∣₁)
