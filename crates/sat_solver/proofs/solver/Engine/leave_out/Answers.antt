use Rattle.std.proofs.Common.{arith}
use Rattle.std.proofs.lemmas.Grind.{common_steps}
use Rattle.std.proofs.lemmas.Result.{err_from_is_err_and}
use Rattle.sat_solver.proofs.lemmas.solver.TakingLemmas.{none_took, names_broke}
use Rattle.sat_solver.proofs.lemmas.solver.ComingLemmas.{left_in}
use Rattle.sat_solver.proofs.solver.Engine.leave_out.Goals as goal

pub returns-clause-takes : goal.returns-clause-takes
returns-clause-takes g c =
    let s = c.args.self.now in
    left_in g.W.CountedWrite.seen s c.requires.whole c.requires.unsat c.leave_out_clause.new.writer c.leave_out_clause.new.variables c.args.lits.now (c.in_ok-leave_out_clause.ensures.emits s.context.proof (none_took g.W.CountedWrite.seen s.context.proof)) c.in_ok-leave_out_clause.ensures.leaves

pub returns-in_err-leave_out_clause-clause-takes : goal.returns-in_err-leave_out_clause-clause-takes
returns-in_err-leave_out_clause-clause-takes g c = grind (arith, common_steps, err_from_is_err_and, none_took, names_broke)
