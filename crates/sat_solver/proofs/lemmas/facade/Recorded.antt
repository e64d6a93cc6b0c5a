-- What the steps of a solver record.
use Rattle.std.proofs.Common.{◌≡◌, ◌∙◌, false, List, refl, subst}
use Rattle.sat_base.specs.device.Device.{Writer}
use Rattle.sat_base.specs.script.ScriptState.{ScriptState}
use Rattle.sat_base.specs.steps.Steps.{Step}
use Rattle.sat_checker.specs.declared.processing.ProofProcessor.{Ghosts}
use Rattle.sat_checker.specs.matching.Bridge.{LiveVariables}
use Rattle.sat_checker.specs.matching.ProofChecking.{checker_rules}
use Rattle.sat_solver.specs.session.Session.{AreAllowedSteps, session_after}
use Rattle.sat_solver.specs.declared.solver.Engine.{Engine}
use Rattle.sat_solver.specs.declared.state.SatState.{SatState}
use Rattle.sat_solver.specs.declared.state.SatState.TheVariants as states
use Rattle.sat_solver.specs.solver.Whole.{SolverInvariant, HoldsInState, steps_in, session_in}
use Rattle.sat_solver.specs.solver.View.{EngineIsInState}
use Rattle.sat_solver.specs.facade.Inner.{view_of}
use Rattle.sat_solver.specs.facade.Recording.{RecordsAnswer}
use Rattle.sat_solver.proofs.lemmas.session.StepLemmas.{sessions_are_accepted}

-- what a checker has recorded after allowed steps
unsat_as : (steps : List Step) → AreAllowedSteps steps → checker_rules.unsat steps ≡ (session_after steps).unsat
unsat_as steps may = (sessions_are_accepted steps may).1.unsat

module _ {W L : Type 0} {G : Ghosts L} (seen : W → Writer) (j : ScriptState) (s : Engine W L G) (whole : SolverInvariant s) (matches : (live : LiveVariables) × EngineIsInState s j live) where
  going_by : (st : SatState) → (st ≡ states.Unsat → ⊥) → HoldsInState st s.context s.names s.asked s.assumed.items s.reported.failed_core.items → (session_in s).unsat ≡ false
  going_by states.Unknown n h = h.joined.sound.search.valid.fits.consistent
  going_by states.Sat n h = h.0.joined.sound.search.valid.fits.consistent
  going_by states.UnsatUnderAssumptions n h = h.0.joined.sound.search.valid.fits.consistent
  going_by states.Unsat n h = absurd (n refl)

  pub records_answer : RecordsAnswer (view_of seen j s)
  records_answer = record {
    allowed = whole.valid.may;
    state = matches;
    recorded = λ e. unsat_as (steps_in s) whole.valid.may ∙ subst (λ st. HoldsInState st s.context s.names s.asked s.assumed.items s.reported.failed_core.items) e whole.says;
    unrecorded = λ n. unsat_as (steps_in s) whole.valid.may ∙ going_by s.state n whole.says;
  }
