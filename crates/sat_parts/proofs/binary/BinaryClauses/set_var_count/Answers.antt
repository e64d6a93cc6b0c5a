use Rattle.std.proofs.Common.{arith}
use Rattle.std.proofs.lemmas.Grind.{common_steps}
use Rattle.std.proofs.Common.{◌*◌, length}
use Rattle.sat_parts.proofs.lemmas.prop.PlaceLemmas.{lists_resized, places_resized}
use Rattle.sat_parts.proofs.binary.BinaryClauses.set_var_count.Goals as goal

pub returns-clause-done : goal.returns-clause-done
returns-clause-done c = grind (arith, common_steps, lists_resized)

pub invariant_of-self-2 : goal.invariant_of-self-2
invariant_of-self-2 c = rw c.in_ok-resize.ensures.done (places_resized c.self.inside.by_lit.items (length c.self.inside.lits.items) (2 * c.args.count) c.self.invariant)
