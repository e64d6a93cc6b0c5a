use Rattle.std.proofs.Common.{cond, ltb, refl}
use Rattle.std.proofs.lemmas.Simd.{zip2_splat, length-chunk}
use lib.Lanes.{chunk}
use Rattle.sat_base.proofs.lemmas.text.EightBytes.{digits_before, other_at, lane_by_lane}
use Rattle.sat_base.proofs.decimal.short.digit_run.Goals as goal

pub returns-clause-digits : goal.returns-clause-digits
returns-clause-digits c = λ k small h.
    let v = chunk 0 8 c.args.bytes.now in
    let long = length-chunk 0 8 c.args.bytes.now c.requires in
    digits_before c.args.bytes.now _ _ c.requires c.type_inv.bytes c.lowest_set.ensures _ (lane_by_lane (λ a b. cond (ltb a b) 255 0) _ v 9 long (zip2_splat _ v 8 48 long)) refl k small h

pub returns-clause-ends : goal.returns-clause-ends
returns-clause-ends c = λ small.
    let v = chunk 0 8 c.args.bytes.now in
    let long = length-chunk 0 8 c.args.bytes.now c.requires in
    other_at c.args.bytes.now _ _ c.requires c.type_inv.bytes c.lowest_set.ensures _ (lane_by_lane (λ a b. cond (ltb a b) 255 0) _ v 9 long (zip2_splat _ v 8 48 long)) refl small
