use Rattle.std.proofs.Common.{arith}
use Rattle.std.proofs.lemmas.Grind.{common_steps}
use Rattle.sat_base.proofs.lemmas.values.FlatLemmas.{start_below, place_inside}
use Rattle.sat_base.proofs.flat_lists.FlatLists.get.Goals as goal

pub slice_bounds-result-count : goal.slice_bounds-result-count
slice_bounds-result-count g c = grind (arith, common_steps, common_steps, start_below, place_inside)
