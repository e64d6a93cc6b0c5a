-- The steps of one call follow those of another.
use Rattle.std.proofs.Common.{◌≡◌, sym, subst, Result, Err, List, [], ◌∷◌}
use Rattle.std.specs.Prelude.{IsErrAnd}
use Rattle.std.proofs.lemmas.Result.{err_from_is_err_and}
use Rattle.sat_base.specs.device.Device.{Writer}
use Rattle.sat_base.specs.steps.Steps.{Step}
use Rattle.sat_checker.specs.declared.processing.ProofProcessor.{Ghosts}
use Rattle.sat_solver.specs.session.Emitting.{EmitsSomeChecked, FailsWhileEmitting}
use Rattle.sat_solver.specs.proof.ProofView.{EmitsChecked, FailsToEmit, FailsCheck}
use Rattle.sat_solver.specs.declared.proof.emitted.CheckFault.{CheckFault}
use Rattle.sat_solver.specs.declared.proof.Proof.{Proof}
use Rattle.sat_solver.specs.declared.variables.error.NameError.{NameError}
use Rattle.sat_solver.specs.declared.variables.error.NameError.TheVariants as errors
use Rattle.sat_solver.specs.variables.NameFailures.{EmitsUpTo, EmitsOrFails}
use Rattle.sat_solver.proofs.lemmas.session.ProofLemmas.{gains_adds, gains_more, fails_later, check_later}

-- a step was accepted after others
pub took_step : {W L : Type 0} {G : Ghosts L} (seen : W → Writer) (w a b : Proof W L G) (step : Step) → EmitsSomeChecked seen w a → EmitsChecked seen (step ∷ []) a b → EmitsSomeChecked seen w b
took_step seen w a b step t adds = (_, gains_more seen t.0 (step ∷ []) w a b t.1 adds)

-- a call of the target failed while the text of a step was written; other facts still hold
pub broke_step : {W L Kept : Type 0} {G : Ghosts L} (seen : W → Writer) (w a b : Proof W L G) (step : Step) → EmitsSomeChecked seen w a → FailsToEmit seen (step ∷ []) a b × Kept → FailsWhileEmitting seen w b × Kept
broke_step seen w a b step t fails = ((_, fails_later seen t.0 (step ∷ []) w a b (gains_adds seen t.0 w a t.1) fails.0), fails.1)

-- the checker failed at a step
pub check_step : {W L Kept : Type 0} {G : Ghosts L} {fault : CheckFault} (seen : W → Writer) (w a b : Proof W L G) (step : Step) → EmitsSomeChecked seen w a → FailsCheck seen fault (step ∷ []) a b × Kept → (steps : List Step) × FailsCheck seen fault steps w b × Kept
check_step seen w a b step t fails = (_, check_later seen t.0 (step ∷ []) w a b (gains_adds seen t.0 w a t.1) fails.0, fails.1)

-- memory ran out before a step was made
pub took_none : {W L : Type 0} {G : Ghosts L} (seen : W → Writer) (w a b : Proof W L G) → EmitsSomeChecked seen w a → EmitsChecked seen [] a b → EmitsSomeChecked seen w b
took_none seen w a b t adds = (_, gains_more seen t.0 [] w a b t.1 adds)

module _ {W : Type 0} (took : W → W → Type 0) (broke : W → NameError → W → Type 0) where
  -- a call follows one whose steps were accepted
  pub came_then : {A : Type 0} (r : Result A NameError) (a b c : W) → ((w : W) → took w a → took w b) → EmitsOrFails took broke r b c → EmitsOrFails took broke r a c
  came_then (Err errors.VariableLimit) a b c first last = λ w t. last w (first w t)
  came_then e a b c first last = λ w t. last w (first w t)

  -- an error is passed on
  pub came_on : {A : Type 0} (r : Result A NameError) (e : NameError) (a b : W) → IsErrAnd r (λ f. f ≡ e) → ((w : W) → took w a → EmitsUpTo took broke w e b) → EmitsOrFails took broke r a b
  came_on r e a b h f = (let p = err_from_is_err_and r h in subst (λ r. EmitsOrFails took broke r a b) (sym p.1) (subst (λ e. (w : W) → took w a → EmitsUpTo took broke w e b) (sym p.2) f))

  -- memory ran out
  pub came_starved : {A : Type 0} (r : Result A NameError) (a b : W) → IsErrAnd r (λ f. f ≡ errors.OutOfMemory) → ((w : W) → took w a → took w b) → EmitsOrFails took broke r a b
  came_starved r a b h f = came_on r errors.OutOfMemory a b h f
