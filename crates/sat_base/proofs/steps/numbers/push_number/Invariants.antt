use Rattle.sat_base.proofs.lemmas.steps.NumberBytes.{GroupsWait}
use Rattle.std.specs.Prelude.{◌≡◌}
use Rattle.sat_base.proofs.steps.numbers.push_number.Given as goal

abbrev pub invariant-loop-rest : goal.invariant-loop-rest
invariant-loop-rest g l = GroupsWait l.number l.rest (g.P.Room.waiting l.fn.pending) (g.P.Room.waiting l.pending) (g.P.Room.size l.fn.pending) × (g.P.Room.size l.pending ≡ g.P.Room.size l.fn.pending)

abbrev pub decreases-loop-rest : goal.decreases-loop-rest
decreases-loop-rest g l = l.rest
