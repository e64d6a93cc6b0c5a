use Rattle.std.proofs.Common.{refl}
use Rattle.std.proofs.lemmas.Result.{err_from_is_err_and}
use Rattle.sat_solver.proofs.lemmas.facade.FormulaLemmas.{so_one, so_stops}
use Rattle.sat_solver.proofs.lemmas.facade.LawLemmas.{calls_go_on}
use Rattle.sat_solver.proofs.lemmas.facade.ReachedLemmas.{so_reached, so_stopped}
use Rattle.sat_solver.proofs.facade.Solver.add_formula.Goals as goal

pub loop-clause-preserved : goal.loop-clause-preserved
loop-clause-preserved g c = record {
  was = c.loop-clause.invariant.was;
  so = so_one g.P.ProofProcessor.takes c.args.self.now c.loop-clause.self c.add_clause.new.self c.args.formula.now.clauses c.loop-clause.clause-iterator c.next.new.self c.in-Some.clause.now c.in-Some.ensures.steps c.loop-clause.invariant.so (record {
    adds = c.in_ok-add_clause.ensures.adds;
    steps = c.in_ok-add_clause.ensures.steps;
    text = c.in_ok-add_clause.ensures.text;
    checker = c.in_ok-add_clause.ensures.checker;
  });
}

pub returns-in_err-add_clause-clause-adds : goal.returns-in_err-add_clause-clause-adds
returns-in_err-add_clause-clause-adds g c =
    let q = err_from_is_err_and c.from_residual.result c.from_residual.ensures.1 in
    rw (q.1, q.2)
    (so_stops g.P.ProofProcessor.takes c.in_err-add_clause.field-0.0 c.args.self.now c.loop-clause.self c.add_clause.new.self c.args.formula.now.clauses c.loop-clause.clause-iterator c.next.new.self c.in-Some.clause.now
    c.loop-clause.invariant.was c.in-Some.ensures.steps c.loop-clause.invariant.so (record {
      adds = c.in_err-add_clause.ensures.adds;
      steps = c.in_err-add_clause.ensures.steps;
      text = c.in_err-add_clause.ensures.text;
      checker = c.in_err-add_clause.ensures.checker;
    }))

-- THE TEXT OF THE STEPS

pub returns-then-is_failed-clause-text : goal.returns-then-is_failed-clause-text
returns-then-is_failed-clause-text g c = (calls_go_on c.args.self.now c.args.self.now).stays refl

pub returns-in_err-add_clause-clause-text : goal.returns-in_err-add_clause-clause-text
returns-in_err-add_clause-clause-text g c = so_stopped g.P.ProofProcessor.takes c.in_err-add_clause.field-0.0 c.args.self.now c.loop-clause.self c.add_clause.new.self c.args.formula.now.clauses c.loop-clause.clause-iterator c.in-Some.clause.now c.loop-clause.invariant.so (record {
  adds = c.in_err-add_clause.ensures.adds;
  steps = c.in_err-add_clause.ensures.steps;
  text = c.in_err-add_clause.ensures.text;
  checker = c.in_err-add_clause.ensures.checker;
})

pub returns-clause-text : goal.returns-clause-text
returns-clause-text g c = so_reached g.P.ProofProcessor.takes c.args.self.now c.loop-clause.self c.args.formula.now.clauses c.loop-clause.clause-iterator c.loop-clause.invariant.so
