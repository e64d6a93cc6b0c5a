use Rattle.sat_hints.proofs.lemmas.Sound.{derived_follow, cores_fail, present_hold, empty_means_none, formula_leaves, formula_is_left}
use Rattle.sat_hints.proofs.laws.derivations_are_sound.Goals as goal

pub returns : goal.returns
returns c = record { derived = derived_follow; cores = cores_fail; present = present_hold; empty = empty_means_none; formula = formula_leaves; left = formula_is_left }
