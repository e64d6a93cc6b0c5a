use Rattle.std.proofs.lemmas.Grind.{common_steps}
use Rattle.std.proofs.Common.{arith}
use Rattle.sat_checker.proofs.lemmas.store.Entries.{counted_true, counted_false}
use Rattle.sat_checker.proofs.store.slots.Slots.add_count.Goals as goal
use Rattle.sat_checker.proofs.store.slots.Slots.add_count.Goals.{then-redundant, else-redundant}

pub returns : goal.returns
returns c = grind (arith, common_steps, counted_true, counted_false, then-redundant, else-redundant)
