use Rattle.std.proofs.Common.{◌∷◌, refl, sym, subst, ap, ◌∙◌, arith}
use Rattle.sat_checker.specs.LiteralSets.{is_among}
use Rattle.sat_checker.specs.inner.AssumedRoom.{AgreeWithinRoom}
use Rattle.sat_checker.proofs.lemmas.propagation.InRoom.{tautology_signed}
use Rattle.sat_hints.proofs.lemmas.Signs.{agrees_more, agrees_all}
use Rattle.sat_hints.proofs.propagating.assume_roomy.Goals as goal

pub returns-then-include_both_signs-clause-assumes : goal.returns-then-include_both_signs-clause-assumes
returns-then-include_both_signs-clause-assumes c = tautology_signed c.args.negate c.args.literals.now ∙ sym c.include_both_signs.ensures ∙ c.if-include_both_signs.true

pub loop-literal-init : goal.loop-literal-init
loop-literal-init c = record { agrees = λ l r. ap (λ xs. is_among xs l) c.requires; room = refl }

pub loop-literal-preserved : goal.loop-literal-preserved
loop-literal-preserved c = record {
  agrees =
      agrees_more c.args.negate c.args.literals.now c.loop-literal.literal-index c.literal-item.result c.bitxor.result c.args.assumed.now.room c.loop-literal.assumed.literals c.assume_if_roomy.new.assigned.literals
      c.loop-literal-test.true c.literal-item.is c.bitxor.ensures c.loop-literal.invariant.agrees
      (subst (λ room. AgreeWithinRoom room c.assume_if_roomy.new.assigned.literals (c.bitxor.result ∷ c.loop-literal.assumed.literals)) c.loop-literal.invariant.room c.assume_if_roomy.ensures.agrees);
  room = c.assume_if_roomy.ensures.room ∙ c.loop-literal.invariant.room;
}

pub returns-clause-assumes : goal.returns-clause-assumes
returns-clause-assumes c = (
  tautology_signed c.args.negate c.args.literals.now ∙ sym c.include_both_signs.ensures ∙ c.if-include_both_signs.false,
  agrees_all c.args.negate c.args.literals.now c.loop-literal.literal-index c.args.assumed.now.room c.loop-literal.assumed.literals (omega arith) c.loop-literal.invariant.agrees,
)
