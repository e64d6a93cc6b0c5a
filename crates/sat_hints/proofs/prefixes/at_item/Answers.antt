use Rattle.std.proofs.Common.{◌∷◌, [], subst, sym}
use Rattle.sat_hints.specs.inner.Prefixes.{LeadsToPlace, ReachesPlace}
use Rattle.sat_hints.specs.declared.prefixes.Place.TheVariants.{Item}
use Rattle.sat_hints.proofs.lemmas.Prefixes.{leads_zero, leads_sign, leads_digit}
use Rattle.sat_hints.proofs.lemmas.Reaching.{reaches_zero, reaches_sign, reaches_digit}
use Rattle.sat_hints.proofs.prefixes.at_item.Goals as goal

pub returns-then-byte-eq48-clause-leads : goal.returns-then-byte-eq48-clause-leads
returns-then-byte-eq48-clause-leads c = subst (λ b. LeadsToPlace (Item c.args.part) (b ∷ []) c.after_zero.result) (sym c.if-byte-eq48.true) (rw c.after_zero.ensures (leads_zero c.args.part))

pub returns-then-byte-eq45-clause-leads : goal.returns-then-byte-eq45-clause-leads
returns-then-byte-eq45-clause-leads c = subst (λ b. LeadsToPlace (Item c.args.part) (b ∷ []) c.after_sign.result) (sym c.if-byte-eq45.true) (rw c.after_sign.ensures (leads_sign c.args.part))

pub returns-in_default-clause-leads : goal.returns-in_default-clause-leads
returns-in_default-clause-leads c = leads_digit c.args.part c.args.byte c.in_number.result c.if-byte-eq48.false c.if-byte-eq45.false c.in_number.ensures.leads

pub returns-then-byte-eq48-clause-reaches : goal.returns-then-byte-eq48-clause-reaches
returns-then-byte-eq48-clause-reaches c = subst (λ b. ReachesPlace (Item c.args.part) (b ∷ []) c.after_zero.result) (sym c.if-byte-eq48.true) (rw c.after_zero.ensures (reaches_zero c.args.part))

pub returns-then-byte-eq45-clause-reaches : goal.returns-then-byte-eq45-clause-reaches
returns-then-byte-eq45-clause-reaches c = subst (λ b. ReachesPlace (Item c.args.part) (b ∷ []) c.after_sign.result) (sym c.if-byte-eq45.true) (rw c.after_sign.ensures (reaches_sign c.args.part))

pub returns-in_default-clause-reaches : goal.returns-in_default-clause-reaches
returns-in_default-clause-reaches c = reaches_digit c.args.part c.args.byte c.in_number.result c.in_default.not-End c.in_number.ensures.reaches
