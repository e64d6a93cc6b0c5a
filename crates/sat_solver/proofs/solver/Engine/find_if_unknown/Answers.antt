use Rattle.std.proofs.Common.{arith}
use Rattle.std.proofs.lemmas.Grind.{common_steps}
use Rattle.std.proofs.Common.{◌≡◌, Option, None, Some, subst}
use Rattle.std.specs.Prelude.{◌-◌}
use Rattle.std.proofs.lemmas.Result.{err_from_is_err_and}
use Rattle.sat_solver.specs.declared.state.SatState.{SatState}
use Rattle.sat_solver.specs.declared.state.SatState.TheVariants as states
use Rattle.sat_solver.specs.solver.Found.{SearchFindsAnswer}
use Rattle.sat_solver.proofs.lemmas.solver.SettlingLemmas.{rounds_on, settled_known, settled_some, settled_without}
use Rattle.sat_solver.proofs.solver.Engine.find_if_unknown.Goals as goal

pub returns-in-Sat : goal.returns-in-Sat
returns-in-Sat g c =
    let known = apart c.args.self.now.state c.in-Sat.is in
    record { answers = settled_known g.W.CountedWrite.seen c.args.self.now c.requires.whole known; searched = λ u. absurd (known u) }
  where
    apart : (st : SatState) → st ≡ states.Sat → st ≡ states.Unknown → ⊥
    apart st e f = cc

pub returns-in-UnsatUnderAssumptions : goal.returns-in-UnsatUnderAssumptions
returns-in-UnsatUnderAssumptions g c =
    let known = apart c.args.self.now.state c.in-UnsatUnderAssumptions.is in
    record { answers = settled_known g.W.CountedWrite.seen c.args.self.now c.requires.whole known; searched = λ u. absurd (known u) }
  where
    apart : (st : SatState) → st ≡ states.UnsatUnderAssumptions → st ≡ states.Unknown → ⊥
    apart st e f = cc

pub returns-in-Unsat : goal.returns-in-Unsat
returns-in-Unsat g c =
    let known = apart c.args.self.now.state c.in-Unsat.is in
    record { answers = settled_known g.W.CountedWrite.seen c.args.self.now c.requires.whole known; searched = λ u. absurd (known u) }
  where
    apart : (st : SatState) → st ≡ states.Unsat → st ≡ states.Unknown → ⊥
    apart st e f = cc

none_some : (o : Option SatState) (st : SatState) → o ≡ None → o ≡ Some st → ⊥
none_some o st e f = cc

pub returns-in-Some-clause-answers : goal.returns-in-Some-clause-answers
returns-in-Some-clause-answers g c = grind (arith, common_steps, settled_some, none_some)

pub returns-in-None-clause-answers : goal.returns-in-None-clause-answers
returns-in-None-clause-answers g c =
    let s = c.args.self.now in
    settled_without g.W.CountedWrite.seen s c.requires.whole c.in-Unknown.is c.find_answer.new.context c.find_answer.new.names c.find_answer.new.reported c.find_answer.new.clock c.in_ok-found.ensures.scale c.in_ok-found.ensures.counts
    (c.in_ok-found.ensures.interrupted c.in-None.is) (λ n le fits. c.in_ok-found.ensures.answered n le fits c.in-None.is)
    (subst (λ (o : Option SatState). SearchFindsAnswer g.W.CountedWrite.seen o (c.find_answer.new.clock.rounds - s.clock.rounds) s.names c.find_answer.new.names s.context c.find_answer.new.context c.find_answer.new.reported.failed_core.items) c.in-None.is c.in_ok-found.ensures.finds)

pub returns-in_err-found-clause-answers : goal.returns-in_err-found-clause-answers
returns-in_err-found-clause-answers g c =
    let p = err_from_is_err_and c.from_residual.result c.from_residual.ensures.1 in
    rw (p.1, p.2) (
      c.in_err-found.ensures.breaks,
      rounds_on g.W.CountedWrite.seen c.args.self.now c.requires.whole c.in-Unknown.is c.find_answer.new.context c.find_answer.new.names c.find_answer.new.reported c.find_answer.new.clock c.in_err-found.ensures.scale c.in_err-found.ensures.counts,
      λ n. absurd (n c.in-Unknown.is),
    )
