use Rattle.std.proofs.Common.{drop}
use Rattle.sat_checker.specs.announcements.Needed.{negations_except}
use Rattle.sat_checker.proofs.lemmas.announcements.Marking.{MarksLeft}
use Rattle.sat_checker.proofs.rup.needed.mark_others.Given as goal

-- the remaining literals and the marked ones are all literals to mark and those marked initially
abbrev pub invariant-loop-lit : goal.invariant-loop-lit
invariant-loop-lit l = MarksLeft (negations_except l.made (drop l.lit-index l.clause)) l.marked.literals (negations_except l.made l.clause) l.fn.marked.literals
