-- Parameters of a solver.
use Rattle.std.specs.Prelude.{ℕ, ◌≡◌, true, false, Result, Ok, Err}
use Rattle.sat_solver.specs.Configs.{is_update_in_range, updated}
use Rattle.sat_solver.specs.declared.config.SolverConfigUpdate.{SolverConfigUpdate}
use Rattle.sat_solver.specs.declared.error.SolverError.{SolverError}
use Rattle.sat_solver.specs.declared.error.SolverError.TheVariants as errors
use Rattle.sat_solver.specs.declared.state.SatState.{SatState}
use Rattle.sat_solver.specs.declared.state.SatState.TheVariants as states
use Rattle.sat_solver.specs.solver.Configuring.{at_scale}
use Rattle.sat_solver.specs.facade.View.{SolverView}
use Rattle.sat_solver.specs.facade.Calls.{Refuses}

-- `decay_after answer before now` is the decay that the search uses after an update: the new one, `now`, or still the
-- one before if `answer` is `Unsat`, since there is no search any more
abbrev pub decay_after : SatState → (before now : ℕ) → ℕ
decay_after states.Unsat before now = before
decay_after answer before now = now

-- `Configured u old new` holds if the update `u` is in range and was applied: parameters, scale of the restart schedule
-- and decays of the search (not after `Unsat`); nothing else that callers can observe changed
pub record Configured {L : Type 0} (u : SolverConfigUpdate) (old new : SolverView L) : Type 0 where
  pub going : old.failed ≡ false
  pub range : is_update_in_range u ≡ true
  pub same : new ≡ record old {
    parameters = updated u old.parameters;
    clock = at_scale u.luby_restart_interval_scale old.clock;
    decay = decay_after old.answer old.decay (updated u old.parameters).vsids_decay;
    clause_decay = decay_after old.answer old.clause_decay (updated u old.parameters).clause_activity_decay;
  }

-- `Configures r u old new` holds if `r` is the result of the update `u`: it is applied, or refused after an earlier
-- failure, or refused as `OutOfRange` if a field is out of range; a refusal changes nothing
abbrev pub Configures : {L : Type 0} → Result (Unit {0}) SolverError → SolverConfigUpdate → SolverView L → SolverView L → Type 0
Configures (Ok x) u old new = Configured u old new
Configures (Err errors.HasFailed) u old new = Refuses old new (old.failed ≡ true)
Configures (Err errors.OutOfRange) u old new = Refuses old new ((old.failed ≡ false) × (is_update_in_range u ≡ false))
Configures (Err e) u old new = ⊥
