use Rattle.std.proofs.Common.{[]}
use Rattle.sat_solver.proofs.lemmas.facade.Agreeing.{starts}
use Rattle.sat_solver.proofs.facade.Solver.notifying.Goals as goal

pub returns : goal.returns
returns g c = starts g.W.CountedWrite.seen c.new.result.state c.notifying.result c.new.ensures c.notifying.ensures.view

pub invariant_of-result : goal.invariant_of-result
invariant_of-result g c = record {
  solver = λ _. c.notifying.ensures.whole;
  matches = λ _. ([], rw c.new.ensures c.notifying.ensures.agree);
}
