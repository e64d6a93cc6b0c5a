use Rattle.std.proofs.Common.{◌≡◌, ◌+◌, ◌∷◌, map, true, ◌∙◌, refl, ap, sym, subst, arith}
use Rattle.std.specs.Option.{IfSome}
use Rattle.sat_checker.specs.LiteralSets.{is_among}
use Rattle.sat_checker.specs.Looks.{total_length}
use Rattle.sat_checker.specs.inner.PairView.{first_of, places_after, places_at_or_after}
use Rattle.sat_checker.specs.inner.SlotView.{literals_at, places_of, found_among}
use Rattle.sat_checker.proofs.lemmas.propagation.Walking.{looks_more, looks_ended}
use Rattle.sat_checker.proofs.lemmas.store.Filing.{first_ok, from_first, increasing_places, left_step, next_among}
use Rattle.sat_checker.proofs.lemmas.store.Finding.{bucket_literals, place_inside, found_here, found_later}
use Rattle.std.proofs.lemmas.Grind.{common_steps}
use Rattle.sat_checker.proofs.store.clauses.Clauses.find.Goals as goal

pub loop-next-init : goal.loop-next-init
loop-next-init c = grind (arith, common_steps, first_ok, from_first, increasing_places, bucket_literals)

pub is_same-requires : goal.is_same-requires
is_same-requires c =
    place_inside c.args.hash c.args.self.now c.in-Some.place (subst (λ o. IfSome o (λ p. is_among (places_of c.args.hash c.args.self.now) p ≡ true)) c.in-Some.is c.loop-next.invariant.among)

pub returns-then-is_same-clause-found : goal.returns-then-is_same-clause-found
returns-then-is_same-clause-found c =
    let ps = places_of c.args.hash c.args.self.now in
    let more = places_at_or_after (first_of (places_after c.in-Some.place ps)) ps in
    let left = left_step c.args.hash c.args.self.now c.loop-next.next c.in-Some.place c.in-Some.is c.loop-next.invariant.among (first_of (places_after c.in-Some.place ps)) refl in
    sym (c.loop-next.invariant.found ∙ ap (found_among c.args.self.now c.args.literals.now) left
    ∙ found_here c.args.self.now c.args.literals.now (c.in-Some.place ∷ more) 0 (omega arith) (sym c.is_same.ensures.same ∙ c.if-is_same.true))

pub returns-then-is_same-clause-looks : goal.returns-then-is_same-clause-looks
returns-then-is_same-clause-looks c = record {
  rise = grind (arith, common_steps);
  most =
      let ps = places_of c.args.hash c.args.self.now in
      let more = places_at_or_after (first_of (places_after c.in-Some.place ps)) ps in
      let left = left_step c.args.hash c.args.self.now c.loop-next.next c.in-Some.place c.in-Some.is c.loop-next.invariant.among (first_of (places_after c.in-Some.place ps)) refl in
      looks_ended (literals_at c.args.self.now) (c.in-Some.place ∷ more) 0 (omega arith) _ c.loop-next.looks c.is_same.new.looks
      (ap (λ qs. c.loop-next.looks + total_length (map (literals_at c.args.self.now) qs)) (sym left) ∙ c.loop-next.invariant.looks) c.is_same.ensures.looks;
}

pub loop-next-smaller : goal.loop-next-smaller
loop-next-smaller c = grind (arith, common_steps, left_step)

pub loop-next-preserved : goal.loop-next-preserved
loop-next-preserved c =
    let ps = places_of c.args.hash c.args.self.now in
    let more = places_at_or_after c.next-next.result ps in
    let left = left_step c.args.hash c.args.self.now c.loop-next.next c.in-Some.place c.in-Some.is c.loop-next.invariant.among c.next-next.result c.next-next.ensures in
    record {
      among = next_among c.in-Some.place ps c.next-next.result c.next-next.ensures;
      found = c.loop-next.invariant.found ∙ ap (found_among c.args.self.now c.args.literals.now) left
          ∙ found_later c.args.self.now c.args.literals.now (c.in-Some.place ∷ more) 0 (omega arith) (sym c.is_same.ensures.same ∙ c.if-is_same.false);
      looks = looks_more (literals_at c.args.self.now) (c.in-Some.place ∷ more) 0 (omega arith) _ c.loop-next.looks c.is_same.new.looks
          (ap (λ qs. c.loop-next.looks + total_length (map (literals_at c.args.self.now) qs)) (sym left) ∙ c.loop-next.invariant.looks) c.is_same.ensures.looks;
      rise = omega (arith, c.loop-next.invariant.rise, c.is_same.ensures.looks);
    }
