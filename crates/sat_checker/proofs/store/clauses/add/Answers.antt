use Rattle.std.proofs.lemmas.Grind.{common_steps}
use Rattle.std.proofs.Common.{◌≡◌, ◌+◌, ◌-◌, ◌<◌, ◌^◌, [], ◌∷◌, ◌++◌, length, ap, ◌∙◌, arith}
use Rattle.sat_checker.specs.inner.PairView.{Indexed}
use Rattle.sat_checker.specs.inner.SlotView.{removed_slot}
use Rattle.sat_checker.proofs.lemmas.store.Counting.{few_more, last_place}
use Rattle.sat_checker.proofs.lemmas.store.Kept.{kept_stored}
use Rattle.sat_checker.proofs.lemmas.store.Places.{stored_last}
use Rattle.sat_checker.proofs.store.clauses.add.Goals as goal

pub add-requires-clause-few : goal.add-requires-clause-few
add-requires-clause-few c =
    let n = last_place c.args.slots.now c.push.new.self _ c.len-count.result c.len-count.ensures.count c.in_ok-push.ensures.ok in
    let places = ap (λ (x : Indexed). x.places) c.in_ok-push-2.ensures.ok in
    let few : c.len-count.result < 2 ^ 32 = omega (arith, n, c.requires.kept.files.places, places, c.places-places.ensures.few) in
    λ l. few_more l _ c.len-count.result c.args.slots.now c.push.new.self _ c.args.literals.now (c.in_ok-make_room.ensures.same l ∙ c.requires.kept.counted l) c.in_ok-push.ensures.ok c.len-count.ensures.increasing c.requires.increasing c.len-count.ensures.count few

pub returns-clause-kept : goal.returns-clause-kept
returns-clause-kept c =
    let n = last_place c.args.slots.now c.push.new.self _ c.len-count.result c.len-count.ensures.count c.in_ok-push.ensures.ok in
    let place : c.len-count.result - 1 ≡ length c.args.slots.now = omega (arith, n) in
    let pushed = c.in_ok-push.ensures.ok ∙ ap (λ h. c.args.slots.now ++ removed_slot c.args.id h c.args.literals.now ∷ []) c.new.ensures in
    kept_stored c.args.slots.now c.push.new.self c.add_count.new.self c.args.index.now c.push-2.new.self c.args.occurrences.now c.make_room.new.self c.add.new.self c.args.redundant c.args.id c.args.hash (c.len-count.result - 1) c.args.literals.now
    c.requires.kept c.in_ok-make_room.ensures.same place
    (c.in_ok-push-2.ensures.ok ∙ ap (λ h. record { pairs = c.args.index.now.pairs ++ (record { hash = h; place = c.args.index.now.places }) ∷ []; places = c.args.index.now.places + 1 }) c.mixed.ensures) pushed c.add_count.ensures c.add.ensures

pub returns-clause-slots : goal.returns-clause-slots
returns-clause-slots c = grind (arith, common_steps, last_place, stored_last)
