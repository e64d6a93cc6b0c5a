use Rattle.std.proofs.lemmas.Grind.{common_steps}
use Rattle.std.proofs.Common.{arith}
use Rattle.std.proofs.lemmas.List.{take_all}
use Rattle.sat_store.proofs.lemmas.clause.HeldClauses.{same_count}
use Rattle.sat_store.proofs.clause.edit.ClauseMut.set_header.Goals as goal

pub set_header-requires-clause-no_longer : goal.set_header-requires-clause-no_longer
set_header-requires-clause-no_longer c = grind (arith, common_steps, same_count)

pub returns-clause-edit : goal.returns-clause-edit
returns-clause-edit c = grind (arith, common_steps, take_all, same_count)
