use Rattle.sat_parts.specs.parts.Using.{MarksExactly, OccursInFirstLits}
use Rattle.sat_parts.proofs.parts.unused.mark_clause.Given as goal

abbrev pub invariant-loop-at : goal.invariant-loop-at
invariant-loop-at l = MarksExactly l.fn.used l.used (OccursInFirstLits l.lits l.at)
