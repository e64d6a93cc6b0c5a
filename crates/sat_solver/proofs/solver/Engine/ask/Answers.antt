use Rattle.std.proofs.Common.{◌≡◌}
use Rattle.sat_solver.specs.declared.state.SatState.{SatState}
use Rattle.sat_solver.specs.declared.state.SatState.TheVariants as states
use Rattle.sat_solver.proofs.lemmas.solver.ComingLemmas.{asked_in}
use Rattle.sat_solver.proofs.solver.Engine.ask.Goals.{in-Unknown, in-Sat, in-UnsatUnderAssumptions}
use Rattle.sat_solver.proofs.solver.Engine.ask.Goals as goal

unknown_apart : (st : SatState) → st ≡ states.Unknown → st ≡ states.Unsat → ⊥
unknown_apart st e f = cc

sat_apart : (st : SatState) → st ≡ states.Sat → st ≡ states.Unsat → ⊥
sat_apart st e f = cc

core_apart : (st : SatState) → st ≡ states.UnsatUnderAssumptions → st ≡ states.Unsat → ⊥
core_apart st e f = cc

pub returns-clause-asks : goal.returns-clause-asks
returns-clause-asks g c =
    let s = c.args.self.now in
    let apart : s.state ≡ states.Unsat → ⊥ = elim c.match-self.branch [
      | in-Unknown w ↦ unknown_apart s.state w.in-Unknown.is
      | in-Sat w ↦ sat_apart s.state w.in-Sat.is
      | in-UnsatUnderAssumptions w ↦ core_apart s.state w.in-UnsatUnderAssumptions.is
    ] in
    asked_in g.W.CountedWrite.seen s c.requires.whole apart c.set_assumptions_in_search.new.context c.set_assumptions_in_search.new.names c.args.lits.now c.set_assumptions_in_search.new.asked c.in_ok-set_assumptions_in_search.ensures.takes
