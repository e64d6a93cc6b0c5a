use Rattle.std.proofs.Common.{◌≡◌, ◌≢◌, ◌≤◌, ◌⊎◌, ℕ, inl, inr, [], ◌∷◌, Some, subst, sym, arith}
use Rattle.sat_hints.specs.inner.Prefixes.{limit_of, LeadsToPlace, ReachesPlace}
use Rattle.sat_base.specs.text.NumberWords.{NoNumberContinues}
use Rattle.sat_hints.specs.declared.prefixes.Place.TheVariants.{Digits, Item}
use Rattle.sat_hints.proofs.lemmas.Prefixes.{number_ends, number_goes, number_stops}
use Rattle.sat_hints.proofs.lemmas.Reaching.{reaches_end, reaches_more}
use Rattle.sat_hints.proofs.prefixes.in_number.Goals as goal

at_zero : (b number : ℕ) → ((b ≡ 32) × (number ≤ 0)) ⊎ (b ≢ 32) → b ≡ 32 → number ≡ 0
at_zero b number (inl h) e = omega arith
at_zero b number (inr h) e = absurd (h e)

pub returns-then-number-gt0-clause-leads : goal.returns-then-number-gt0-clause-leads
returns-then-number-gt0-clause-leads c = subst (λ b. LeadsToPlace (Digits c.args.part c.args.number) (b ∷ []) (Some (Item c.next.result))) (sym c.if-byte-eq32.true)
    (rw c.next.ensures (number_ends c.args.part c.args.number (omega arith) (omega arith)))

pub returns-in_err-more-clause-leads : goal.returns-in_err-more-clause-leads
returns-in_err-more-clause-leads c =
    let none : NoNumberContinues (limit_of c.args.part) c.args.number c.args.byte = subst (λ limit. NoNumberContinues limit c.args.number c.args.byte) c.limit.ensures.is c.in_err-more.ensures in
    rw c.from_residual.ensures (number_stops c.args.part c.args.number c.args.byte (omega arith) (at_zero c.args.byte c.args.number c.else-byte-eq32.either) none)

pub returns-clause-leads : goal.returns-clause-leads
returns-clause-leads c = number_goes c.args.part c.args.number c.args.byte _ (rw c.limit.ensures.is at c.in_ok-more.ensures.0) c.in_ok-more.ensures.1

pub returns-then-number-gt0-clause-reaches : goal.returns-then-number-gt0-clause-reaches
returns-then-number-gt0-clause-reaches c = subst (λ b. ReachesPlace (Digits c.args.part c.args.number) (b ∷ []) (Some (Item c.next.result))) (sym c.if-byte-eq32.true)
    (rw c.next.ensures (reaches_end c.args.part c.args.number (omega arith)))

pub returns-clause-reaches : goal.returns-clause-reaches
returns-clause-reaches c = reaches_more c.args.part c.args.number c.args.byte _ (rw c.limit.ensures.is at c.in_ok-more.ensures.0) c.in_ok-more.ensures.1
