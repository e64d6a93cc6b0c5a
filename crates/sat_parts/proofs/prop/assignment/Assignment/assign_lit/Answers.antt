use Rattle.std.proofs.Common.{◌≡◌, ◌<◌, ◌∙◌, Some, length, length-set, sym, ap, arith}
use Rattle.sat_base.specs.values.Literals.{is_positive, variable}
use Rattle.sat_parts.specs.prop.Values.{Values}
use Rattle.sat_parts.proofs.lemmas.prop.MirrorLemmas.{mirrors_set}
use Rattle.sat_parts.proofs.prop.assignment.Assignment.assign_lit.Goals as goal

pub invariant_of-self : goal.invariant_of-self
invariant_of-self c =
    let values = c.self.inside.values.items in
    let size : length c.self.inside.values.items ≡ length c.args.self.now.current = ap (λ (a : Values). length a.current) c.self.view_is in
    let lt : variable c.args.lit < length c.self.inside.values.items = omega arith in
    let same = length-set values (variable c.args.lit) (Some (is_positive c.args.lit)) in
    rw (c.index.ensures.value, c.is_positive.ensures, c.make_true.ensures)
    (c.self.invariant.0 ∙ sym same, omega (arith, same, c.self.invariant.1), mirrors_set values c.self.inside.lit_values.codes.items (variable c.args.lit) (Some (is_positive c.args.lit)) c.self.invariant.2 lt)
