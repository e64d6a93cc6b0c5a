use Rattle.std.proofs.Common.{length}
use Rattle.certify.proofs.lemmas.answers.LiteralsInOrder.{ReadSoFar}
use Rattle.certify.proofs.answers.read.begins_literals.Given as goal

abbrev pub invariant-loop-found : goal.invariant-loop-found
invariant-loop-found l = ReadSoFar l.kind l.bytes l.rest l.lowest

abbrev pub decreases-loop-found : goal.decreases-loop-found
decreases-loop-found l = length l.rest
