use Rattle.sat_checker.proofs.lemmas.propagation.Looking.{CountsOpen}
use Rattle.sat_checker.proofs.units.assigned.look_at.Given as goal

-- the literals so far that are not false are counted
abbrev pub invariant-loop-lit : goal.invariant-loop-lit
invariant-loop-lit l = CountsOpen l.assigned.literals l.clause l.lit-index l.count l.codes
