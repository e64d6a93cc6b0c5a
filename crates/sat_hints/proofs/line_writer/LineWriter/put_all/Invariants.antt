use Rattle.std.proofs.Common.{drop}
use Rattle.sat_hints.specs.inner.LineWriting.{outlet}
use Rattle.sat_hints.proofs.lemmas.Putting.{PutSoFar}
use Rattle.sat_hints.proofs.line_writer.LineWriter.put_all.Given as goal

abbrev pub invariant-loop-byte : goal.invariant-loop-byte
invariant-loop-byte g l = PutSoFar l.bytes (drop l.byte-index l.bytes) (outlet g.W.CountedWrite.seen l.fn.self) (outlet g.W.CountedWrite.seen l.self)
