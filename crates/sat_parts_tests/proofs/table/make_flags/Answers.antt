use Rattle.sat_parts_tests.proofs.ListLemmas.{flags_clear}
use Rattle.sat_parts_tests.proofs.table.make_flags.Goals as goal

pub returns-clause-clear : goal.returns-clause-clear
returns-clause-clear c = (flags_clear _ _ 5 c.requires c.in_ok-set_var_count.ensures.flags).0

pub returns-clause-size : goal.returns-clause-size
returns-clause-size c = (flags_clear _ _ 5 c.requires c.in_ok-set_var_count.ensures.flags).1
