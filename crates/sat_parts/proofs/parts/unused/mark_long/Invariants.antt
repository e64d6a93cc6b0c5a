use Rattle.sat_parts.specs.parts.Using.{MarksExactly, OccursInLongClauses}
use Rattle.sat_parts.proofs.parts.unused.mark_long.Given as goal

abbrev pub invariant-loop-at : goal.invariant-loop-at
invariant-loop-at l = MarksExactly l.fn.used l.used (OccursInLongClauses l.parts.clauses l.parts.db.refs l.at)
