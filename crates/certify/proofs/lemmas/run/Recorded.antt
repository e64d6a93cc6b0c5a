-- When unsat is recorded after the steps of a solver.
use Rattle.std.proofs.Common.{◌≡◌, ◌∙◌, true, List, refl, sym}
use Rattle.std.proofs.lemmas.Bool.{both_ways}
use Rattle.sat_base.specs.steps.Steps.{Step}
use Rattle.sat_checker.specs.matching.ProofChecking.{checker_rules}
use Rattle.sat_checker.proofs.lemmas.meaning.Answers.{unsat_means_none}
use Rattle.sat_solver.specs.session.Session.{AreAllowedSteps}
use Rattle.sat_solver.specs.declared.state.SatState.{SatState}
use Rattle.sat_solver.specs.declared.state.SatState.TheVariants as states
use Rattle.sat_solver.specs.facade.Recording.{RecordsAnswer}
use Rattle.sat_solver.proofs.lemmas.session.StepLemmas.{sessions_are_accepted}
use Rattle.certify.specs.run.Certifies.{HasRecordedUnsat}
use Rattle.certify.specs.run.RunSolver.{Solver}

pub recorded_at : (steps : List Step) → AreAllowedSteps steps → checker_rules.unsat steps ≡ true → HasRecordedUnsat checker_rules steps
recorded_at steps may u = record { recorded = u; none = λ a h. unsat_means_none steps a (sessions_are_accepted steps may).0 u h }

-- the answer is `Unsat` if unsat is recorded
pub unsat_known : (s : Solver) → RecordsAnswer s → checker_rules.unsat s.steps ≡ true → s.answer ≡ states.Unsat
unsat_known s records u = at s.answer refl
  where
    at : (st : SatState) → s.answer ≡ st → s.answer ≡ states.Unsat
    at states.Unsat e = e
    at states.Unknown e = absurd (both_ways (checker_rules.unsat s.steps) (records.unrecorded (λ f. apart (sym e ∙ f))) u)
      where
        apart : states.Unknown ≡ states.Unsat → ⊥
        apart x = cc
    at states.Sat e = absurd (both_ways (checker_rules.unsat s.steps) (records.unrecorded (λ f. apart (sym e ∙ f))) u)
      where
        apart : states.Sat ≡ states.Unsat → ⊥
        apart x = cc
    at states.UnsatUnderAssumptions e = absurd (both_ways (checker_rules.unsat s.steps) (records.unrecorded (λ f. apart (sym e ∙ f))) u)
      where
        apart : states.UnsatUnderAssumptions ≡ states.Unsat → ⊥
        apart x = cc
