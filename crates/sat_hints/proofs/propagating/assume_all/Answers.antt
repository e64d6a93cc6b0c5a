use Rattle.std.proofs.lemmas.Grind.{common_steps}
use Rattle.std.proofs.Common.{◌<◌, ◌∷◌, length, sym, ap, subst, ◌∙◌, arith}
use Rattle.sat_base.specs.values.Literals.{negated}
use Rattle.sat_checker.specs.LiteralSets.{is_among}
use Rattle.sat_checker.specs.inner.AssumedRoom.{LiteralsAndRoom, RoomIsKept, signed}
use Rattle.sat_checker.proofs.lemmas.sets.Rooms.{room_stays, stays_further}
use Rattle.sat_hints.proofs.lemmas.Signs.{lit_at, length-signed, both_met, assumes_same, assumes_more, assumes_all}
use Rattle.sat_hints.proofs.propagating.assume_all.Goals as goal

pub returns-then-is_true-clause-assumes : goal.returns-then-is_true-clause-assumes
returns-then-is_true-clause-assumes c =
    let ls = signed c.args.negate c.args.literals.now in
    let inside : c.loop-literal.literal-index < length ls = omega (arith, length-signed c.args.negate c.args.literals.now) in
    let e = lit_at c.args.negate c.args.literals.now c.loop-literal.literal-index c.literal-item.result c.bitxor-lit.result c.loop-literal-test.true c.literal-item.is c.bitxor-lit.ensures in
    both_met ls c.loop-literal.assumed.literals c.loop-literal.literal-index inside c.loop-literal.invariant.first
    (ap (is_among c.loop-literal.assumed.literals) (sym (c.not.ensures ∙ ap negated e)) ∙ sym c.is_true.ensures ∙ c.if-is_true.true)

pub loop-literal-preserved-then-is_true-2 : goal.loop-literal-preserved-then-is_true-2
loop-literal-preserved-then-is_true-2 c =
    let ls = signed c.args.negate c.args.literals.now in
    let inside : c.loop-literal.literal-index < length ls = omega (arith, length-signed c.args.negate c.args.literals.now) in
    let e = lit_at c.args.negate c.args.literals.now c.loop-literal.literal-index c.literal-item.result c.bitxor-lit.result c.loop-literal-test.true c.literal-item.is c.bitxor-lit.ensures in
    record {
      first =
          assumes_same ls c.loop-literal.assumed.literals c.loop-literal.literal-index inside c.loop-literal.invariant.first
          (ap (is_among c.loop-literal.assumed.literals) (sym (c.not.ensures ∙ ap negated e)) ∙ sym c.is_true.ensures ∙ c.if-is_true.false)
          (ap (is_among c.loop-literal.assumed.literals) (sym e) ∙ sym c.is_true-in-loop-literal.ensures ∙ c.if-is_true-2.true);
      stays = c.loop-literal.invariant.stays;
    }

pub loop-literal-preserved : goal.loop-literal-preserved
loop-literal-preserved c =
    let ls = signed c.args.negate c.args.literals.now in
    let inside : c.loop-literal.literal-index < length ls = omega (arith, length-signed c.args.negate c.args.literals.now) in
    let e = lit_at c.args.negate c.args.literals.now c.loop-literal.literal-index c.literal-item.result c.bitxor-lit.result c.loop-literal-test.true c.literal-item.is c.bitxor-lit.ensures in
    record {
      first =
          assumes_more ls c.loop-literal.assumed.literals c.loop-literal.literal-index inside c.loop-literal.invariant.first c.assume.new.self.literals
          (ap (λ (t : LiteralsAndRoom). t.literals) c.in-Ok.ensures.ok ∙ ap (λ l. l ∷ c.loop-literal.assumed.literals) e)
          (ap (is_among c.loop-literal.assumed.literals) (sym (c.not.ensures ∙ ap negated e)) ∙ sym c.is_true.ensures ∙ c.if-is_true.false);
      stays =
          stays_further c.args.assumed.now.room c.loop-literal.assumed.room c.assume.new.self.room c.loop-literal.invariant.stays
          (subst (RoomIsKept c.loop-literal.assumed.room) (sym (ap (λ (t : LiteralsAndRoom). t.room) c.in-Ok.ensures.ok)) (room_stays c.bitxor-lit.result c.loop-literal.assumed.room));
    }

pub returns-clause-assumes : goal.returns-clause-assumes
returns-clause-assumes c = grind (arith, common_steps, length-signed, assumes_all)
