use Rattle.sat_checker.proofs.lemmas.state.Keeping.{renamed, unnamed}
use Rattle.sat_checker.proofs.lemmas.state.Refiled.{numbered_by}
use Rattle.std.proofs.lemmas.Result.{err_from_is_err_and}
use Rattle.sat_checker.proofs.state.CheckerState.solver_var_name.Goals as goal

pub returns-in-Some-clause-decides : goal.returns-in-Some-clause-decides
returns-in-Some-clause-decides c = λ f k. (
  tt,
  renamed _ f c.args.var c.args.name c.in-Some.solver c.in-Some.is (record {
    clauses = c.in_ok-set_solver_name.ensures.set f k.formula.clauses;
    units = k.formula.units;
    status = k.formula.status;
    numbered = numbered_by c.args.self.now.formula.store c.set_solver_name.new.self f.units c.args.self.now.formula.status.last f.next_id c.set_solver_name.ensures.ids k.formula.numbered;
    room = k.formula.room;
    marks = k.formula.marks;
  }) (c.in_ok-learn_var.ensures.ok f.variables k.variables) k.assumed,
)

pub returns-clause-decides : goal.returns-clause-decides
returns-clause-decides c = λ f k. (
  tt,
  unnamed _ f c.args.var c.args.name c.in_default.is (record {
    clauses = c.in_ok-set_solver_name-2.ensures.set f k.formula.clauses;
    units = k.formula.units;
    status = k.formula.status;
    numbered = numbered_by c.args.self.now.formula.store c.set_solver_name-2.new.self f.units c.args.self.now.formula.status.last f.next_id c.set_solver_name-2.ensures.ids k.formula.numbered;
    room = k.formula.room;
    marks = k.formula.marks;
  }) k.variables k.assumed,
)

pub returns-in_err-learn_var-clause-decides : goal.returns-in_err-learn_var-clause-decides
returns-in_err-learn_var-clause-decides c = let p = err_from_is_err_and c.from_residual-in_err-learn_var.result c.from_residual-in_err-learn_var.ensures.1 in rw (p.1, p.2) (λ f k. tt)

pub returns-in_err-set_solver_name-clause-decides : goal.returns-in_err-set_solver_name-clause-decides
returns-in_err-set_solver_name-clause-decides c = let p = err_from_is_err_and c.from_residual.result c.from_residual.ensures.1 in rw (p.1, p.2) (λ f k. tt)

pub returns-in_err-set_solver_name-2-clause-decides : goal.returns-in_err-set_solver_name-2-clause-decides
returns-in_err-set_solver_name-2-clause-decides c = let p = err_from_is_err_and c.from_residual-in_err-set_solver_name-2.result c.from_residual-in_err-set_solver_name-2.ensures.1 in rw (p.1, p.2) (λ f k. tt)
