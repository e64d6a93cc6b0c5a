use Rattle.std.proofs.Common.{◌≡◌, ◌<◌, ◌∙◌, None, length, length-set, sym, ap, arith}
use Rattle.sat_parts.specs.prop.Values.{Values}
use Rattle.sat_parts.proofs.lemmas.prop.MirrorLemmas.{mirrors_set}
use Rattle.sat_parts.proofs.prop.assignment.Assignment.unassign_var.Goals as goal

pub invariant_of-self : goal.invariant_of-self
invariant_of-self c =
    let values = c.self.inside.values.items in
    let size : length c.self.inside.values.items ≡ length c.args.self.now.current = ap (λ (a : Values). length a.current) c.self.view_is in
    let lt : c.args.var < length c.self.inside.values.items = omega arith in
    let same = length-set values (c.args.var) (None) in
    rw (c.index.ensures.value, c.set_var.ensures)
    (c.self.invariant.0 ∙ sym same, omega (arith, same, c.self.invariant.1), mirrors_set values c.self.inside.lit_values.codes.items (c.args.var) (None) c.self.invariant.2 lt)
