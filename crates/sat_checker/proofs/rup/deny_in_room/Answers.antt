use Rattle.std.proofs.Common.{inr, ◌∙◌, sym}
use Rattle.sat_checker.proofs.lemmas.propagation.InRoom.{place_reached, place_denied, tautology_signed}
use Rattle.sat_checker.proofs.lemmas.propagation.Walking.{Extends-further}
use Rattle.sat_checker.proofs.rup.deny_in_room.Goals as goal

pub returns-then-include_both_signs-clause-reached : goal.returns-then-include_both_signs-clause-reached
returns-then-include_both_signs-clause-reached c = inr (tautology_signed c.args.negate c.args.literals.now ∙ sym c.include_both_signs.ensures ∙ c.if-include_both_signs.true)

pub returns-then-is_true-clause-reached : goal.returns-then-is_true-clause-reached
returns-then-is_true-clause-reached c =
    place_reached c.args.assigned.now c.loop-literal.assigned c.args.negate c.args.literals.now c.loop-literal.literal-index c.literal-item.result c.loop-literal-test.true c.literal-item.is
    c.loop-literal.invariant.room c.are_in_room.ensures.stand c.loop-literal.invariant.denied c.bitxor-lit.result c.bitxor-lit.ensures c.are_in_room-in-loop-literal.ensures.stand
    (sym c.is_true.ensures ∙ c.if-is_true.true)

pub loop-literal-preserved : goal.loop-literal-preserved
loop-literal-preserved c = record {
  denied =
      place_denied c.args.assigned.now c.loop-literal.assigned c.args.negate c.args.literals.now c.loop-literal.literal-index c.literal-item.result c.loop-literal-test.true c.literal-item.is
      c.loop-literal.invariant.room c.are_in_room.ensures.stand c.loop-literal.invariant.denied c.assume_if_roomy.new.assigned c.bitxor-lit.result c.not.result c.bitxor-lit.ensures c.not.ensures
      (sym c.is_true.ensures ∙ c.if-is_true.false) (sym c.include_both_signs.ensures ∙ c.if-include_both_signs.false) c.assume_if_roomy.ensures.agrees;
  room = c.assume_if_roomy.ensures.room ∙ c.loop-literal.invariant.room;
  extends = Extends-further c.args.assigned.now c.loop-literal.assigned c.assume_if_roomy.new.assigned c.loop-literal.invariant.extends c.assume_if_roomy.ensures.extends;
}
