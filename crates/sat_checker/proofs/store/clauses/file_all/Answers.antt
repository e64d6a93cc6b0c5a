use Rattle.std.proofs.Common.{ℕ, suc, ◌∷◌, ◌+◌, ◌-◌, ◌<◌, ◌≡◌, drop, length, sym, ap, subst, ◌∙◌, arith}
use Rattle.std.specs.List.{AllByRecursion}
use Rattle.sat_checker.specs.HasherView.{solver_name_of, width_of}
use Rattle.sat_checker.specs.Stored.{clause_hash_by}
use Rattle.sat_checker.specs.inner.PairView.{Indexed, mixed}
use Rattle.sat_checker.specs.inner.SlotView.{Slot, all_hashed_by, is_removed, live_literal_count}
use Rattle.sat_checker.proofs.lemmas.store.Filing.{pairs_above, files_all}
use Rattle.sat_checker.proofs.lemmas.store.Kept.{count_hashed}
use Rattle.sat_checker.proofs.lemmas.store.Rehashing.{hashed_from, filed_from, hashed_next, hashed_skip, slot_same, filed_next, filed_skip, left_gone, left_there}
use Rattle.sat_checker.proofs.store.clauses.file_all.Goals as goal

pub loop-done-preserved-then-is_removed : goal.loop-done-preserved-then-is_removed
loop-done-preserved-then-is_removed c =
    let ss = c.args.slots.now in
    let names = solver_name_of c.args.hasher.now in
    let width = width_of c.args.hasher.now in
    let i : ℕ = c.len-count.result - 1 - c.loop-done.done in
    let inside : i < length ss = omega (arith, c.loop-done-test.true, c.len-count.ensures.count) in
    let next : c.len-count.result - c.loop-done.done ≡ suc i = omega (arith, c.loop-done-test.true) in
    let from : i + 1 ≡ c.len-count.result - c.loop-done.done = omega (arith, c.loop-done-test.true) in
    let to : c.len-count.result - (c.loop-done.done + 1) ≡ i = omega (arith, c.loop-done-test.true) in
    let same = slot_same names width ss c.loop-done.slots (c.len-count.result - c.loop-done.done) i inside next c.loop-done.invariant.hashed in
    let now_gone = sym c.is_removed.ensures ∙ c.if-is_removed.true in
    let gone = ap is_removed (sym same) ∙ now_gone in
    record {
      hashed = hashed_skip names width ss c.loop-done.slots (c.len-count.result - c.loop-done.done) i inside next c.loop-done.invariant.hashed now_gone ∙ ap (λ k. hashed_from names width k ss) (sym to);
      filed = c.loop-done.invariant.filed ∙ ap (λ k. filed_from names width k ss) (sym from) ∙ filed_skip names width ss i inside gone ∙ ap (λ k. filed_from names width k ss) (sym to);
      places = c.loop-done.invariant.places;
      looks = c.loop-done.invariant.looks ∙ ap (λ k. c.args.looks.now + live_literal_count (drop k ss)) (sym from) ∙ ap (λ n. c.args.looks.now + n) (sym (left_gone ss i inside gone)) ∙ ap (λ k. c.args.looks.now + live_literal_count (drop k ss)) (sym to);
    }

pub file_before-requires-clause-above : goal.file_before-requires-clause-above
file_before-requires-clause-above c =
    let names = solver_name_of c.args.hasher.now in
    let i : ℕ = c.len-count.result - 1 - c.loop-done.done in
    let from : i + 1 ≡ c.len-count.result - c.loop-done.done = omega (arith, c.loop-done-test.true) in
    subst (AllByRecursion (λ q. i < q.place)) (sym (c.loop-done.invariant.filed ∙ ap (λ k. filed_from names (width_of c.args.hasher.now) k c.args.slots.now) (sym from))) (pairs_above i (i + 1) (all_hashed_by names (width_of c.args.hasher.now) (drop (i + 1) c.args.slots.now)) (omega arith))

pub loop-done-preserved : goal.loop-done-preserved
loop-done-preserved c =
    let ss = c.args.slots.now in
    let names = solver_name_of c.args.hasher.now in
    let width = width_of c.args.hasher.now in
    let i : ℕ = c.len-count.result - 1 - c.loop-done.done in
    let inside : i < length ss = omega (arith, c.loop-done-test.true, c.len-count.ensures.count) in
    let next : c.len-count.result - c.loop-done.done ≡ suc i = omega (arith, c.loop-done-test.true) in
    let from : i + 1 ≡ c.len-count.result - c.loop-done.done = omega (arith, c.loop-done-test.true) in
    let to : c.len-count.result - (c.loop-done.done + 1) ≡ i = omega (arith, c.loop-done-test.true) in
    let same = slot_same names width ss c.loop-done.slots (c.len-count.result - c.loop-done.done) i inside next c.loop-done.invariant.hashed in
    let now_there = sym c.is_removed.ensures ∙ c.if-is_removed.false in
    let there = ap is_removed (sym same) ∙ now_there in
    let literals = ap (λ (s : Slot). s.clause.literals) same in
    let hash_is = c.clause_hash-hash.ensures ∙ ap (clause_hash_by names width) c.literals.ensures.lent in
    let pairs = ap (λ (x : Indexed). x.pairs) c.file_before.ensures in
    let places = ap (λ (x : Indexed). x.places) c.file_before.ensures in
    let left = left_there ss i inside there in
    let looked : c.literals.new.looks ≡ c.args.looks.now + live_literal_count (drop i ss) =
    omega (arith, c.literals.ensures.looks, ap length literals, left, c.loop-done.invariant.looks, ap (λ k. live_literal_count (drop k ss)) from) in
    record {
      hashed = hashed_next names width ss c.loop-done.slots (c.len-count.result - c.loop-done.done) i inside next c.loop-done.invariant.hashed c.set_hash.new.self c.clause_hash-hash.result now_there hash_is c.set_hash.ensures
          ∙ ap (λ k. hashed_from names width k ss) (sym to);
      filed = pairs ∙ ap (λ ps. (record { hash = c.mixed.result; place = i }) ∷ ps) (c.loop-done.invariant.filed ∙ ap (λ k. filed_from names width k ss) (sym from))
          ∙ filed_next names width ss i c.mixed.result inside there (c.mixed.ensures ∙ ap mixed (hash_is ∙ ap (clause_hash_by names width) literals)) ∙ ap (λ k. filed_from names width k ss) (sym to);
      places = places ∙ c.loop-done.invariant.places;
      looks = looked ∙ ap (λ k. c.args.looks.now + live_literal_count (drop k ss)) (sym to);
    }

pub returns-clause-filed : goal.returns-clause-filed
returns-clause-filed c =
    let names = solver_name_of c.args.hasher.now in
    let width = width_of c.args.hasher.now in
    let none : c.len-count.result - c.loop-done.done ≡ 0 = omega (arith, c.loop-done-test.false) in
    let pairs = c.loop-done.invariant.filed ∙ ap (λ k. filed_from names width k c.args.slots.now) none in
    let places = c.loop-done.invariant.places ∙ c.requires.places ∙ sym (count_hashed names width c.args.slots.now) in
    files_all (all_hashed_by names width c.args.slots.now) c.loop-done.index
    (ap (λ ps. record { pairs = ps; places = c.loop-done.index.places }) pairs ∙ ap (λ n. record { pairs = filed_from names width 0 c.args.slots.now; places = n }) places)
