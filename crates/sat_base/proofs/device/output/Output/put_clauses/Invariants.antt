use Rattle.sat_base.specs.device.Sink.{sink_of}
use Rattle.sat_base.specs.dimacs.DimacsText.{clause_lines}
use Rattle.sat_base.proofs.lemmas.device.Sending.{SentOf}
use Rattle.sat_base.proofs.device.output.Output.put_clauses.Given as goal

abbrev pub invariant-loop-clause : goal.invariant-loop-clause
invariant-loop-clause g l = SentOf (clause_lines l.formula.clauses) (clause_lines l.clause-iterator) (sink_of g.W.CountedWrite.seen g.P.Room.waiting l.fn.self) (sink_of g.W.CountedWrite.seen g.P.Room.waiting l.self)
