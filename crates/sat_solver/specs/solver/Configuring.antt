-- Parameters of the engine.
use Rattle.std.specs.Prelude.{ℕ, ◌≡◌, true, false, Option, Result, Ok, Err, unwrap_or}
use Rattle.sat_checker.specs.declared.processing.ProofProcessor.{Ghosts}
use Rattle.sat_solver.specs.Configs.{is_update_in_range, updated}
use Rattle.sat_solver.specs.session.Session.{Session}
use Rattle.sat_solver.specs.declared.config.SolverConfigUpdate.{SolverConfigUpdate}
use Rattle.sat_solver.specs.declared.error.SolverError.{SolverError}
use Rattle.sat_solver.specs.declared.error.SolverError.TheVariants as errors
use Rattle.sat_solver.specs.declared.context.Context.{Context}
use Rattle.sat_solver.specs.clause.Activity.{BumpEffect}
use Rattle.sat_solver.specs.cdcl.Joint.{SearchInvariant}
use Rattle.sat_solver.specs.declared.solver.Engine.{Engine}
use Rattle.sat_solver.specs.declared.solver.find.Schedule.{Schedule}
use Rattle.sat_solver.specs.declared.state.SatState.{SatState}
use Rattle.sat_solver.specs.declared.state.SatState.TheVariants as states
use Rattle.sat_solver.specs.solver.Calls.{EngineRefuses}
use Rattle.sat_solver.specs.solver.View.{answer_in, assumed_in, engine_has_failed, context_of, is_used, known_names, parameters_in, proof_in, schedule_in, reported_in}

-- `SetsDecays a b` holds if the search of `b` has the decays of variables and clauses that the parameters of `a` say,
-- and nothing else has changed
pub record SetsDecays {W L : Type 0} {G : Ghosts L} (a b : Context W L G) : Type 0 where
  pub bumped : (s : Session) → SearchInvariant s a.search → BumpEffect s a.search b.search
  pub parts : b.search.parts ≡ record a.search.parts { vsids = record a.search.parts.vsids { decay = a.config.vsids_decay } }
  pub activity : b.search.activity ≡ record a.search.activity { decay = a.config.clause_activity_decay }
  pub search : b.search ≡ record a.search { parts = b.search.parts; activity = b.search.activity }
  pub same : b ≡ record a { search = b.search }

-- the schedule with the restart scale replaced by `scale`, or unchanged for `None`
abbrev pub at_scale : Option ℕ → Schedule → Schedule
at_scale scale clock = record clock { restarts = record clock.restarts { scale = unwrap_or scale clock.restarts.scale } }

-- `PassesToSearch state a b` holds if the decays in the parameters of `a` were passed to the search, or nothing changed
-- because the answer `state` is `Unsat`
abbrev pub PassesToSearch : {W L : Type 0} {G : Ghosts L} → SatState → Context W L G → Context W L G → Type 0
PassesToSearch states.Unsat a b = b ≡ a
PassesToSearch st a b = SetsDecays a b

-- `KeepsAllElse old new` holds if the proof, the names, the assumptions, the answer, the reported model and core, and
-- whether the solver is used are unchanged
pub record KeepsAllElse {W L : Type 0} {G : Ghosts L} (old new : Engine W L G) : Type 0 where
  pub proof : proof_in new ≡ proof_in old
  pub names : known_names new ≡ known_names old
  pub state : answer_in new ≡ answer_in old
  pub assumed : assumed_in new ≡ assumed_in old
  pub reported : reported_in new ≡ reported_in old
  pub used : is_used new ≡ is_used old

-- `EngineConfigured u old new` holds if the update `u` is in range and was applied: parameters, scale of the restart
-- schedule and, unless the answer is `Unsat`, decays of the search; nothing else that callers can observe changed
pub record EngineConfigured {W L : Type 0} {G : Ghosts L} (u : SolverConfigUpdate) (old new : Engine W L G) : Type 0 where
  pub going : engine_has_failed old ≡ false
  pub range : is_update_in_range u ≡ true
  pub config : parameters_in new ≡ updated u (parameters_in old)
  pub same : KeepsAllElse old new
  -- the schedule of restarts continues, at the scale of the update
  pub clock : schedule_in new ≡ at_scale u.luby_restart_interval_scale (schedule_in old)
  pub decays : PassesToSearch (answer_in old) (record (context_of old) { config = updated u (parameters_in old) }) (context_of new)
  pub failed : engine_has_failed new ≡ false

-- `EngineConfigures r u old new` holds if `r` is the result of the update `u`: it is applied, or refused after an
-- earlier failure, or refused as `OutOfRange` if a field is out of range; a refusal changes nothing
abbrev pub EngineConfigures : {W L : Type 0} {G : Ghosts L} → Result (Unit {0}) SolverError → SolverConfigUpdate → Engine W L G → Engine W L G → Type 0
EngineConfigures (Ok x) u old new = EngineConfigured u old new
EngineConfigures (Err errors.HasFailed) u old new = EngineRefuses old new (engine_has_failed old ≡ true)
EngineConfigures (Err errors.OutOfRange) u old new = EngineRefuses old new ((engine_has_failed old ≡ false) × (is_update_in_range u ≡ false))
EngineConfigures (Err e) u old new = ⊥
