use Rattle.sat_parts_tests.proofs.alone.over_long.Given as goal

abbrev pub ghost-propagate_long : goal.ghost-propagate_long
ghost-propagate_long g a = g.live
