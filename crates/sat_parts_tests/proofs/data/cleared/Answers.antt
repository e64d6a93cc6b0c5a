use Rattle.std.proofs.Common.{inr}
use Rattle.sat_parts_tests.proofs.data.cleared.Goals as goal

pub enqueue_assignment-requires-clause-room : goal.enqueue_assignment-requires-clause-room
enqueue_assignment-requires-clause-room c = inr c.requires.room
