use Rattle.std.proofs.Common.{arith}
use Rattle.std.proofs.lemmas.Grind.{common_steps}
use Rattle.sat_checker.proofs.lemmas.store.Entries.{rehashed}
use Rattle.sat_checker.proofs.store.slots.Slots.set_hash.Goals as goal

pub returns : goal.returns
returns c = grind (arith, common_steps, rehashed)
