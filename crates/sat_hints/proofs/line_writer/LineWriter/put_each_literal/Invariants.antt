use Rattle.std.proofs.Common.{drop}
use Rattle.sat_hints.specs.Lines.{literal_words}
use Rattle.sat_hints.specs.inner.LineWriting.{outlet}
use Rattle.sat_hints.proofs.lemmas.Putting.{PutSoFar}
use Rattle.sat_hints.proofs.line_writer.LineWriter.put_each_literal.Given as goal

abbrev pub invariant-loop-literal : goal.invariant-loop-literal
invariant-loop-literal g l = PutSoFar (literal_words l.literals) (literal_words (drop l.literal-index l.literals)) (outlet g.W.CountedWrite.seen l.fn.self) (outlet g.W.CountedWrite.seen l.self)
