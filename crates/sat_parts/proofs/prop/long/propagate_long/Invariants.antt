use Rattle.sat_parts.proofs.prop.long.propagate_long.Given as goal

abbrev pub ghost-propagate_list : goal.ghost-propagate_list
ghost-propagate_list g a = g.live
