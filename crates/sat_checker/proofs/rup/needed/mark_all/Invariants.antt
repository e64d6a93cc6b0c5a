use Rattle.std.proofs.Common.{drop, map}
use Rattle.sat_base.specs.values.Literals.{negated}
use Rattle.sat_checker.proofs.lemmas.announcements.Marking.{MarksLeft}
use Rattle.sat_checker.proofs.rup.needed.mark_all.Given as goal

-- the remaining literals and the marked ones are all literals to mark and those marked initially
abbrev pub invariant-loop-lit : goal.invariant-loop-lit
invariant-loop-lit l = MarksLeft (map negated (drop l.lit-index l.clause)) l.marked.literals (map negated l.clause) l.fn.marked.literals
