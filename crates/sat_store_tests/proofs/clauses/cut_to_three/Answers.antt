use Rattle.std.proofs.Common.{arith}
use Rattle.sat_store_tests.proofs.HeldLemmas.{both_held, first_kept}
use Rattle.sat_store_tests.proofs.clauses.cut_to_three.Goals as goal

pub returns-clause-live : goal.returns-clause-live
returns-clause-live c = grind (arith, both_held, c.requires.live, c.set_len.ensures.edit.change)

pub returns-clause-kept : goal.returns-clause-kept
returns-clause-kept c = grind (arith, first_kept, c.requires.live, c.requires.differ, c.set_len.ensures.edit.change)
