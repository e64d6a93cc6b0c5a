use Rattle.std.proofs.Common.{arith}
use Rattle.std.proofs.lemmas.Grind.{common_steps}
use Rattle.std.proofs.Common.{ap}
use Rattle.std.proofs.lemmas.Result.{err_from_is_err_and}
use Rattle.sat_base.specs.device.Sink.{sink_of}
use Rattle.sat_base.specs.dimacs.DimacsText.{clause_line, clause_lines}
use Rattle.sat_base.proofs.lemmas.device.Sending.{of_none, of_more, of_same, of_break}
use Rattle.sat_base.proofs.device.output.Output.put_clauses.Goals as goal

pub loop-clause-init : goal.loop-clause-init
loop-clause-init g c = grind (arith, common_steps, of_none, of_same)

pub loop-clause-preserved : goal.loop-clause-preserved
loop-clause-preserved g c = grind (arith, common_steps, of_more, of_same)

pub returns-in_err-put_clause : goal.returns-in_err-put_clause
returns-in_err-put_clause g c =
    let S = g.W.CountedWrite.seen in
    let p = err_from_is_err_and c.from_residual.result c.from_residual.ensures.1 in
    let old = sink_of S g.P.Room.waiting c.args.self.now in
    let mid = sink_of S g.P.Room.waiting c.loop-clause.self in
    let text = clause_lines c.args.formula.now.clauses in
    rw p.1 (of_break text (clause_line c.in-Some.clause.now) (clause_lines c.next.new.self) old mid (sink_of S g.P.Room.waiting c.put_clause.new.self) (of_same text _ _ old mid (ap clause_lines c.in-Some.ensures.steps) c.loop-clause.invariant) c.in_err-put_clause.ensures)
