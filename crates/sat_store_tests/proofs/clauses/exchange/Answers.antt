use Rattle.std.proofs.Common.{arith}
use Rattle.sat_store_tests.proofs.HeldLemmas.{both_held}
use Rattle.sat_store_tests.proofs.clauses.exchange.Goals as goal

pub returns-clause-live : goal.returns-clause-live
returns-clause-live c = grind (arith, both_held, c.requires.live, c.swap.ensures.edit.change)
