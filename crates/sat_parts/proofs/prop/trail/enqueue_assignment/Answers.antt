use Rattle.std.proofs.Common.{inl, inr}
use Rattle.sat_parts.specs.prop.Ready.{state_of}
use Rattle.sat_parts.proofs.lemmas.prop.RoomLemmas.{room_for}
use Rattle.sat_parts.proofs.lemmas.prop.StepLemmas.{asks_enqueued, agrees_by}
use Rattle.sat_parts.proofs.prop.trail.enqueue_assignment.Goals as goal

pub push_assignment-requires-clause-room : goal.push_assignment-requires-clause-room
push_assignment-requires-clause-room c = elim c.requires.room [
  | inl agrees ↦ room_for (state_of c.args.assignment.now c.args.graph.now c.args.trail.now) c.args.lit c.args.reason agrees c.requires.open c.requires.value
  | inr room ↦ room
]

pub returns-clause-agrees : goal.returns-clause-agrees
returns-clause-agrees c = λ agrees.
    rw (c.push_assignment.ensures.value, c.push_assignment.ensures.node, c.push_assignment.ensures.trail)
    (agrees_by (state_of c.args.assignment.now c.args.graph.now c.args.trail.now) c.args.lit c.args.reason c.requires.open c.requires.value agrees)

pub returns-clause-preserves : goal.returns-clause-preserves
returns-clause-preserves c = λ words refs w implied top cause h.
    rw (c.push_assignment.ensures.value, c.push_assignment.ensures.node, c.push_assignment.ensures.trail)
    (asks_enqueued words refs w implied (state_of c.args.assignment.now c.args.graph.now c.args.trail.now) top c.args.lit c.args.reason c.requires.open c.requires.value cause h)
