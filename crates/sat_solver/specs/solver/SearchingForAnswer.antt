-- What searching for an answer changes.
use Rattle.std.specs.Prelude.{◌-◌, ◌≡◌, [], Result, Ok, Err}
use Rattle.sat_base.specs.device.Device.{Writer}
use Rattle.sat_checker.specs.declared.processing.ProofProcessor.{Ghosts}
use Rattle.sat_solver.specs.declared.error.SolverError.{SolverError}
use Rattle.sat_solver.specs.variables.Calls.{ChangesScriptState}
use Rattle.sat_solver.specs.schedule.Solving.{CountsEmpoweringIn}
use Rattle.sat_solver.specs.session.AllowedSteps.{OnlyAllowedSteps, OnlyWidthAfterUnsat}
use Rattle.sat_solver.specs.session.Emitting.{EmitsSomeSteps}
use Rattle.sat_solver.specs.proof.ProofView.{EmitsExactly, IsAtWidth}
use Rattle.sat_solver.specs.declared.solver.Engine.{Engine}
use Rattle.sat_solver.specs.declared.state.SatState.TheVariants as states
use Rattle.sat_solver.specs.solver.Answering.{CallFailsWithStoredError, EngineFlushFails}
use Rattle.sat_solver.specs.solver.Calls.{EngineAskCountsRounds, EngineCountsRounds, learned_of, engine_due_for_answer}
use Rattle.sat_solver.specs.solver.Whole.{SolverInvariant, steps_in}

-- `SearchedForAnswer seen old new` holds if a search was made until there is an answer or the allowed rounds are
-- exhausted, and a model or core was written; if the answer was known before, nothing happened. The solver isn't yet
-- marked as used.
pub record SearchedForAnswer {W L : Type 0} {G : Ghosts L} (seen : W → Writer) (old new : Engine W L G) : Type 0 where
  pub whole : SolverInvariant new
  pub does : ChangesScriptState old.names new.names (steps_in old) (steps_in new) (λ j. j) (λ j. engine_due_for_answer old.state new)
  pub comes : OnlyAllowedSteps OnlyWidthAfterUnsat (steps_in old) (steps_in new)
  pub took : EmitsSomeSteps seen old.context.proof new.context.proof
  pub width : (steps_in new ≡ steps_in old → ⊥) → IsAtWidth new.context.proof
  pub same : new ≡ record old { context = new.context; names = new.names; reported = new.reported; clock = new.clock; state = new.state }
  pub users : new.names.global_from_user ≡ old.names.global_from_user
  pub config : new.context.config ≡ old.context.config
  pub counts : EngineAskCountsRounds old new
  pub times : CountsEmpoweringIn (steps_in old) (steps_in new) (learned_of new.state (new.clock.rounds - old.clock.rounds))
  pub known : (old.state ≡ states.Unknown → ⊥) → EmitsExactly seen [] old.context.proof new.context.proof × (new ≡ record old { context = record old.context { proof = new.context.proof } })

-- `AnswersOrBreaks seen r old new` holds if `r` is `Ok` and the search was made as `SearchedForAnswer` says, or `r` is
-- an error (`StoresError`), and rounds are counted; if the answer was known, only a flush or the own checker failed
abbrev pub AnswersOrBreaks : {W L : Type 0} {G : Ghosts L} → (W → Writer) → Result (Unit {0}) SolverError → Engine W L G → Engine W L G → Type 0
AnswersOrBreaks seen (Ok x) old new = SearchedForAnswer seen old new
AnswersOrBreaks seen (Err e) old new = CallFailsWithStoredError seen e old.context new.context × EngineCountsRounds old new × ((old.state ≡ states.Unknown → ⊥) → EngineFlushFails seen e old.context.proof new.context.proof)
