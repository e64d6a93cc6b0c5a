use Rattle.std.proofs.lemmas.Grind.{common_steps}
use Rattle.std.proofs.Common.{ℕ, ◌-◌, ◌<◌, ◌≡◌, ◌∙◌, false, cond, eqb, length, get_or, reverse, Option, Some, None, sym, ap, subst, arith}
use Rattle.std.proofs.lemmas.Grind.{get_or_default_zero}
use Rattle.std.proofs.lemmas.List.{length-reverse}
use Rattle.sat_checker.specs.LiteralSets.{is_among}
use Rattle.sat_checker.proofs.lemmas.sets.Order.{among-reverse}
use Rattle.sat_checker.proofs.lemmas.sets.Trails.{place_has_room, valid, stands_at, placed_without}
use Rattle.sat_checker.proofs.units.take_out.Goals as goal

pub returns : goal.returns
returns c =
    let trail = reverse c.args.assigned.now.literals in
    let there = stands_at c.args.places.now trail c.args.lit c.in-Some.place c.requires.placed (among-reverse c.args.assigned.now.literals c.args.lit ∙ c.requires.assumed) (sym c.get.ensures ∙ c.in-Some.is) in
    let lent = c.literals-trail.ensures.lent in
    let long = ap length lent in
    let newest : c.index-trail-trail.result ≡ get_or trail (length trail - 1) 0 =
    c.index-trail-trail.is ∙ get_or_default_zero c.literals-trail.result.now (length c.literals-trail.result.now - 1) c.index-trail-trail.result (omega (arith, there.0, long)) ∙ ap (λ xs. get_or xs (length xs - 1) 0) lent in
    record {
      assumed = λ l. c.forget_at.ensures.forgotten l ∙ ap (λ x. cond (eqb l x) false (is_among c.args.assigned.now.literals l)) there.1;
      placed = placed_without c.args.places.now c.put.new.self trail (reverse c.forget_at.new.self.literals) c.in-Some.place c.index-trail-trail.result c.requires.placed c.forget_at.ensures.moved newest c.put.ensures;
      room = c.forget_at.ensures.room;
    }

pub put-requires-clause-room : goal.put-requires-clause-room
put-requires-clause-room c = grind (arith, common_steps, get_or_default_zero, among-reverse, place_has_room, stands_at)

pub forget_at-requires : goal.forget_at-requires
forget_at-requires c =
    let there = stands_at c.args.places.now (reverse c.args.assigned.now.literals) c.args.lit c.in-Some.place c.requires.placed (among-reverse c.args.assigned.now.literals c.args.lit ∙ c.requires.assumed) (sym c.get.ensures ∙ c.in-Some.is) in
    subst (λ n. c.in-Some.place < n) (length-reverse c.args.assigned.now.literals) there.0

-- what is assumed has a place
pub returns-in_default-clause-assumed : goal.returns-in_default-clause-assumed
returns-in_default-clause-assumed c =
    let there = valid c.args.places.now (reverse c.args.assigned.now.literals) c.args.lit c.requires.placed (among-reverse c.args.assigned.now.literals c.args.lit ∙ c.requires.assumed) in
    absurd (let e : ◌≡◌ {A = Option ℕ} (Some there.place) None = sym there.noted ∙ sym c.get.ensures ∙ c.in_default.is in cc)
