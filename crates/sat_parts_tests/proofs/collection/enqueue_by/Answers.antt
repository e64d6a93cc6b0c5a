use Rattle.std.proofs.Common.{inr}
use Rattle.sat_parts_tests.proofs.collection.enqueue_by.Goals as goal

pub enqueue_assignment-requires-clause-room : goal.enqueue_assignment-requires-clause-room
enqueue_assignment-requires-clause-room c = inr c.requires
