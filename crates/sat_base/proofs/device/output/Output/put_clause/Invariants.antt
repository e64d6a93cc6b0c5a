use Rattle.std.proofs.Common.{drop}
use Rattle.sat_base.specs.device.Sink.{sink_of}
use Rattle.sat_base.specs.dimacs.DimacsText.{clause_line}
use Rattle.sat_base.proofs.lemmas.device.Sending.{SentOf}
use Rattle.sat_base.proofs.device.output.Output.put_clause.Given as goal

abbrev pub invariant-loop-lit : goal.invariant-loop-lit
invariant-loop-lit g l = SentOf (clause_line l.lits) (clause_line (drop l.lit-index l.lits)) (sink_of g.W.CountedWrite.seen g.P.Room.waiting l.fn.self) (sink_of g.W.CountedWrite.seen g.P.Room.waiting l.self)
