use Rattle.std.proofs.Common.{length}
use Rattle.certify.proofs.lemmas.answers.LiteralsInOrder.{ReadInOrder}
use Rattle.certify.proofs.answers.read.read_literals.Given as goal

abbrev pub invariant-loop-found : goal.invariant-loop-found
invariant-loop-found l = ReadInOrder l.kind l.bytes l.line.items l.rest l.least

abbrev pub decreases-loop-found : goal.decreases-loop-found
decreases-loop-found l = length l.rest
