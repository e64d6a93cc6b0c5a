use Rattle.std.proofs.Common.{◌≡◌, Bool, subst}
use Rattle.sat_solver.specs.declared.state.SatState.{SatState}
use Rattle.sat_solver.specs.declared.state.SatState.TheVariants as states
use Rattle.sat_solver.specs.solver.AddingToSearch.{ClauseAddedToSearch}
use Rattle.sat_solver.proofs.lemmas.solver.ComingLemmas.{took_left, took_none}
use Rattle.sat_solver.proofs.solver.Engine.take.Goals.{in-Unknown, in-Sat, in-UnsatUnderAssumptions, then-left, else-left}
use Rattle.sat_solver.proofs.solver.Engine.take.Goals as goal

unknown_apart : (st : SatState) → st ≡ states.Unknown → st ≡ states.Unsat → ⊥
unknown_apart st e f = cc

sat_apart : (st : SatState) → st ≡ states.Sat → st ≡ states.Unsat → ⊥
sat_apart st e f = cc

core_apart : (st : SatState) → st ≡ states.UnsatUnderAssumptions → st ≡ states.Unsat → ⊥
core_apart st e f = cc

pub returns-clause-takes : goal.returns-clause-takes
returns-clause-takes g c =
    let s = c.args.self.now in
    let apart : s.state ≡ states.Unsat → ⊥ = elim c.match-self.branch [
      | in-Unknown w ↦ unknown_apart s.state w.in-Unknown.is
      | in-Sat w ↦ sat_apart s.state w.in-Sat.is
      | in-UnsatUnderAssumptions w ↦ core_apart s.state w.in-UnsatUnderAssumptions.is
    ] in
    elim c.if-left.branch [
      | then-left w ↦ rw w.self-is (took_left g.W.CountedWrite.seen s c.requires.whole apart c.add_clause_to_search.new.context c.add_clause_to_search.new.names c.args.lits.now c.add_clause_to_search.new.loading
          (subst (λ (l : Bool). ClauseAddedToSearch g.W.CountedWrite.seen s.names c.add_clause_to_search.new.names s.context c.add_clause_to_search.new.context c.args.lits.now l) w.if-left.true c.in_ok-left.ensures.takes))
      | else-left w ↦ rw w.self-is (took_none g.W.CountedWrite.seen s c.requires.whole apart c.add_clause_to_search.new.context c.add_clause_to_search.new.names c.args.lits.now c.add_clause_to_search.new.loading
          (subst (λ (l : Bool). ClauseAddedToSearch g.W.CountedWrite.seen s.names c.add_clause_to_search.new.names s.context c.add_clause_to_search.new.context c.args.lits.now l) w.if-left.false c.in_ok-left.ensures.takes))
    ]
