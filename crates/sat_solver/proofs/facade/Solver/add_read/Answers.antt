use Rattle.std.proofs.Common.{arith, inl}
use Rattle.std.proofs.lemmas.Grind.{common_steps}
use Rattle.std.proofs.lemmas.Result.{err_from_is_err_and}
use Rattle.sat_solver.proofs.lemmas.facade.FormulaLemmas.{stops_of, adds_going}
use Rattle.sat_solver.proofs.facade.Solver.add_read.Goals as goal

pub returns-in_err-add_formula-clause-adds : goal.returns-in_err-add_formula-clause-adds
returns-in_err-add_formula-clause-adds g c = grind (arith, common_steps, err_from_is_err_and, stops_of)

pub stop_at-requires : goal.stop_at-requires
stop_at-requires g c = adds_going g.P.ProofProcessor.takes c.args.self.now c.add_formula.new.self c.take_formula-formula.result.clauses c.requires c.in_ok-add_formula.ensures.adds.1

pub returns-in-Err-clause-adds : goal.returns-in-Err-clause-adds
returns-in-Err-clause-adds g c = (
  c.take_formula-formula.result.clauses,
  c.take_formula-formula.ensures.clauses,
  inl (record {
    fault = c.in-Err.error;
    answered = c.in-Err.is;
    is = c.stop_at.ensures.fault;
    mid = c.add_formula.new.self;
    added = c.in_ok-add_formula.ensures.adds.1;
    new_is = c.stop_at.ensures.failed;
  }),
)
