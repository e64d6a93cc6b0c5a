use Rattle.sat_parts.specs.parts.Using.{MarksExactly, OccursInBinaryClauses}
use Rattle.sat_parts.proofs.parts.unused.mark_binary.Given as goal

abbrev pub invariant-loop-code : goal.invariant-loop-code
invariant-loop-code l = MarksExactly l.fn.used l.used (OccursInBinaryClauses l.parts.binary.implied l.code)
