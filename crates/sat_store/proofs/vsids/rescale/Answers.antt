use Rattle.std.proofs.lemmas.Grind.{common_steps}
use Rattle.std.proofs.Common.{arith}
use Rattle.std.proofs.lemmas.List.{take_at}
use Rattle.sat_store.proofs.lemmas.heap.QueueLemmas.{scaled_entries}
use Rattle.sat_store.proofs.vsids.rescale.Goals as goal

pub returns-clause-heap : goal.returns-clause-heap
returns-clause-heap c = grind (arith, common_steps, take_at, scaled_entries)
