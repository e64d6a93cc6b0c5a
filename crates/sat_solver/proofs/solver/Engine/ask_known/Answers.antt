use Rattle.std.proofs.Common.{arith}
use Rattle.std.proofs.lemmas.Grind.{common_steps}
use Rattle.std.proofs.lemmas.Result.{err_from_is_err_and}
use Rattle.sat_solver.proofs.lemmas.solver.TakingLemmas.{none_took, names_broke}
use Rattle.sat_solver.proofs.lemmas.solver.ComingLemmas.{asked_known}
use Rattle.sat_solver.proofs.solver.Engine.ask_known.Goals as goal

pub returns-clause-asks : goal.returns-clause-asks
returns-clause-asks g c =
    let s = c.args.self.now in
    asked_known g.W.CountedWrite.seen s c.requires.whole c.requires.unsat c.assume.new.writer c.assume.new.variables c.args.lits.now (c.in_ok-assume.ensures.emits s.context.proof (none_took g.W.CountedWrite.seen s.context.proof)) c.assume.new.asked c.in_ok-assume.ensures.assumes

pub returns-in_err-assume-clause-asks : goal.returns-in_err-assume-clause-asks
returns-in_err-assume-clause-asks g c = grind (arith, common_steps, err_from_is_err_and, none_took, names_broke)
