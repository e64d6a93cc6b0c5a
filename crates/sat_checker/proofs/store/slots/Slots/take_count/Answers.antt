use Rattle.std.proofs.Common.{arith}
use Rattle.std.proofs.lemmas.Grind.{common_steps}
use Rattle.sat_checker.proofs.lemmas.store.Entries.{discounted_true, discounted_false}
use Rattle.sat_checker.proofs.store.slots.Slots.take_count.Goals as goal
use Rattle.sat_checker.proofs.store.slots.Slots.take_count.Goals.{then-redundant, else-redundant}

pub returns : goal.returns
returns c = grind (arith, common_steps, discounted_true, discounted_false, then-redundant, else-redundant)
