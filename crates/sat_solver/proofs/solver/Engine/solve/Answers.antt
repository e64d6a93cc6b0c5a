use Rattle.std.proofs.Common.{refl, sym, subst, true, false}
use Rattle.sat_solver.specs.solver.Calls.{IsAnswer}
use Rattle.sat_solver.proofs.lemmas.solver.AskLemmas.{ask_ends, ask_broken, ask_whole, ask_answered}
use Rattle.sat_solver.proofs.solver.Engine.solve.Goals as goal

pub returns-in-Err-clause-solves : goal.returns-in-Err-clause-solves
returns-in-Err-clause-solves g c =
    rw (c.fail.ensures.error, c.fail.ensures.fails) (ask_ends g.W.CountedWrite.seen c.args.self.now c.if-self.false c.begin_ask.new.self c.begin_ask.ensures.adds c.begin_ask.ensures.taking c.find_if_unknown.new.self c.in-Err.fault c.in-Err.ensures.answers)

pub returns-in-Err-flush_proof-clause-solves : goal.returns-in-Err-flush_proof-clause-solves
returns-in-Err-flush_proof-clause-solves g c =
    rw (c.fail-in-Err-flush_proof.ensures.error, c.fail-in-Err-flush_proof.ensures.fails, c.from.ensures) (ask_broken g.W.CountedWrite.seen c.args.self.now c.if-self.false c.begin_ask.new.self c.begin_ask.ensures.adds c.begin_ask.ensures.taking c.find_if_unknown.new.self c.in_default.ensures.answers c.flush_proof.new.self c.in-Err-flush_proof.error c.in-Err-flush_proof.ensures.flushes)

pub returns-in-Sat-clause-solver : goal.returns-in-Sat-clause-solver
returns-in-Sat-clause-solver g c = ask_whole g.W.CountedWrite.seen c.args.self.now c.if-self.false c.begin_ask.new.self c.begin_ask.ensures.adds c.begin_ask.ensures.taking c.find_if_unknown.new.self c.in_default.ensures.answers c.flush_proof.new.self c.in_default-flush_proof.ensures.flushes

pub returns-in-Sat-clause-solves : goal.returns-in-Sat-clause-solves
returns-in-Sat-clause-solves g c =
    (ask_answered g.W.CountedWrite.seen c.args.self.now c.if-self.false c.begin_ask.new.self c.begin_ask.ensures.adds c.begin_ask.ensures.taking c.find_if_unknown.new.self c.in_default.ensures.answers c.flush_proof.new.self c.begin_ask.ensures.same c.in_default.ensures.searched c.in_default-flush_proof.ensures.flushes, subst (λ st. IsAnswer st true) (sym c.in-Sat.is) refl)

pub returns-in-UnsatUnderAssumptions-clause-solver : goal.returns-in-UnsatUnderAssumptions-clause-solver
returns-in-UnsatUnderAssumptions-clause-solver g c = ask_whole g.W.CountedWrite.seen c.args.self.now c.if-self.false c.begin_ask.new.self c.begin_ask.ensures.adds c.begin_ask.ensures.taking c.find_if_unknown.new.self c.in_default.ensures.answers c.flush_proof.new.self c.in_default-flush_proof.ensures.flushes

pub returns-in-UnsatUnderAssumptions-clause-solves : goal.returns-in-UnsatUnderAssumptions-clause-solves
returns-in-UnsatUnderAssumptions-clause-solves g c =
    (ask_answered g.W.CountedWrite.seen c.args.self.now c.if-self.false c.begin_ask.new.self c.begin_ask.ensures.adds c.begin_ask.ensures.taking c.find_if_unknown.new.self c.in_default.ensures.answers c.flush_proof.new.self c.begin_ask.ensures.same c.in_default.ensures.searched c.in_default-flush_proof.ensures.flushes, subst (λ st. IsAnswer st false) (sym c.in-UnsatUnderAssumptions.is) refl)

pub returns-in-Unsat-clause-solves : goal.returns-in-Unsat-clause-solves
returns-in-Unsat-clause-solves g c =
    (ask_answered g.W.CountedWrite.seen c.args.self.now c.if-self.false c.begin_ask.new.self c.begin_ask.ensures.adds c.begin_ask.ensures.taking c.find_if_unknown.new.self c.in_default.ensures.answers c.flush_proof.new.self c.begin_ask.ensures.same c.in_default.ensures.searched c.in_default-flush_proof.ensures.flushes, subst (λ st. IsAnswer st false) (sym c.in-Unsat.is) refl)

pub returns-in-Unknown-clause-solver : goal.returns-in-Unknown-clause-solver
returns-in-Unknown-clause-solver g c = ask_whole g.W.CountedWrite.seen c.args.self.now c.if-self.false c.begin_ask.new.self c.begin_ask.ensures.adds c.begin_ask.ensures.taking c.find_if_unknown.new.self c.in_default.ensures.answers c.flush_proof.new.self c.in_default-flush_proof.ensures.flushes

pub returns-in-Unknown-clause-solves : goal.returns-in-Unknown-clause-solves
returns-in-Unknown-clause-solves g c =
    (ask_answered g.W.CountedWrite.seen c.args.self.now c.if-self.false c.begin_ask.new.self c.begin_ask.ensures.adds c.begin_ask.ensures.taking c.find_if_unknown.new.self c.in_default.ensures.answers c.flush_proof.new.self c.begin_ask.ensures.same c.in_default.ensures.searched c.in_default-flush_proof.ensures.flushes, c.in-Unknown.is)
