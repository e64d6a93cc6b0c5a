use Rattle.std.proofs.lemmas.Grind.{common_steps}
use Rattle.std.proofs.Common.{arith}
use Rattle.std.proofs.lemmas.List.{get_or_read}
use Rattle.sat_store.proofs.lemmas.heap.FlagLemmas.{flags_count}
use Rattle.sat_store.proofs.lemmas.heap.QueueLemmas.{stays_available}
use Rattle.sat_store.proofs.vsids.Vsids.make_available.Goals as goal

pub returns-else-at-self : goal.returns-else-at-self
returns-else-at-self c = grind (arith, common_steps, get_or_read, flags_count, stays_available)
