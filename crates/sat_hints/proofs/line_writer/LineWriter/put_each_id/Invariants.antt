use Rattle.std.proofs.Common.{drop}
use Rattle.sat_hints.specs.Lines.{id_words}
use Rattle.sat_hints.specs.inner.LineWriting.{outlet}
use Rattle.sat_hints.proofs.lemmas.Putting.{PutSoFar}
use Rattle.sat_hints.proofs.line_writer.LineWriter.put_each_id.Given as goal

abbrev pub invariant-loop-id : goal.invariant-loop-id
invariant-loop-id g l = PutSoFar (id_words l.ids) (id_words (drop l.id-index l.ids)) (outlet g.W.CountedWrite.seen l.fn.self) (outlet g.W.CountedWrite.seen l.self)
