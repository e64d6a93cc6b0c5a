use Rattle.std.proofs.lemmas.Grind.{common_steps}
use Rattle.std.proofs.Common.{arith}
use Rattle.sat_store.proofs.lemmas.clause.HeldClauses.{same_count}
use Rattle.sat_store.proofs.clause.edit.ClauseMut.set_len.Goals as goal

pub set_len-requires : goal.set_len-requires
set_len-requires c = grind (arith, common_steps, same_count)
