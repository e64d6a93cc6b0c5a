use Rattle.std.proofs.lemmas.Grind.{common_steps}
use Rattle.std.proofs.Common.{ℕ, List, false, ◌∷◌, ◌+◌, ◌-◌, ◌<◌, ◌≡◌, take, drop, length, sym, ap, subst, ◌∙◌, arith}
use Rattle.std.specs.List.{AllByRecursion}
use Rattle.sat_checker.specs.inner.IndexView.{slot_pairs_from}
use Rattle.sat_checker.specs.inner.PairView.{Indexed, mixed}
use Rattle.sat_checker.specs.inner.SlotView.{Slot, is_removed, slot_at, slots_not_removed}
use Rattle.sat_checker.proofs.lemmas.store.Filing.{pairs_above}
use Rattle.sat_checker.proofs.lemmas.store.Dropping.{filed_kept, hash_filed, kept_next, kept_skip}
use Rattle.sat_checker.proofs.store.clauses.file_live.Goals as goal
use Rattle.sat_checker.proofs.store.clauses.file_live.Goals.{After-is_removed}

-- the place of this iteration
module _ (c : After-is_removed) where
  abbrev ss : List Slot
  ss = c.args.slots.now

  abbrev i : ℕ
  i = c.len-count.result - 1 - c.loop-done.done

  inside : i < length ss
  inside = omega (arith, c.loop-done-test.true, c.len-count.ensures.count)

  from : i + 1 ≡ c.len-count.result - c.loop-done.done
  from = omega (arith, c.loop-done-test.true)

  to : c.len-count.result - (c.loop-done.done + 1) ≡ i
  to = omega (arith, c.loop-done-test.true)

  have : c.loop-done.to ≡ length (slots_not_removed (take (i + 1) ss))
  have = c.loop-done.invariant.to ∙ ap (λ k. length (slots_not_removed (take k ss))) (sym from)

  -- one place less is left if a clause is there
  fewer : is_removed (slot_at ss i) ≡ false → c.loop-done.to ≡ length (slots_not_removed (take i ss)) + 1
  fewer there = have ∙ (kept_next ss i inside there).0

pub loop-done-preserved-then-is_removed : goal.loop-done-preserved-then-is_removed
loop-done-preserved-then-is_removed c = grind (arith, common_steps, kept_skip)

pub file_before-requires-clause-above : goal.file_before-requires-clause-above
file_before-requires-clause-above c =
    let less = fewer (goal.at.file_before-requires-clause-above c).After-is_removed (sym c.is_removed.ensures ∙ c.if-is_removed.false) in
    subst (AllByRecursion (λ q. c.loop-done.to - 1 < q.place)) (sym c.loop-done.invariant.filed) (pairs_above (c.loop-done.to - 1) c.loop-done.to (slots_not_removed (drop (c.len-count.result - c.loop-done.done) c.args.slots.now)) (omega (arith, less)))

pub loop-done-preserved : goal.loop-done-preserved
loop-done-preserved c =
    let x = (goal.at.loop-done-preserved c).After-is_removed in
    let there = sym c.is_removed.ensures ∙ c.if-is_removed.false in
    let less = fewer x there in
    let hash = c.hash.ensures (mixed (slot_at (ss x) (i x)).hash) (hash_filed (ss x) c.args.index.now (i x) c.requires.filed (inside x) there) in
    let left : c.loop-done.to - 1 ≡ length (slots_not_removed (take (i x) (ss x))) = omega (arith, less) in
    let down : (c.loop-done.to - 1) + 1 ≡ c.loop-done.to = omega (arith, less) in
    let pairs = ap (λ (x : Indexed). x.pairs) c.file_before.ensures in
    record {
      to = left ∙ ap (λ k. length (slots_not_removed (take k (ss x)))) (sym (to x));
      filed = pairs ∙ ap (λ ps. (record { hash = c.hash.result; place = c.loop-done.to - 1 }) ∷ ps) (c.loop-done.invariant.filed ∙ ap (λ k. slot_pairs_from c.loop-done.to (slots_not_removed (drop k (ss x)))) (sym (from x)))
          ∙ filed_kept (ss x) (i x) c.loop-done.to (c.loop-done.to - 1) c.hash.result (inside x) there hash down ∙ ap (λ k. slot_pairs_from (c.loop-done.to - 1) (slots_not_removed (drop k (ss x)))) (sym (to x));
      places = ap (λ (x : Indexed). x.places) c.file_before.ensures ∙ c.loop-done.invariant.places;
      room = omega (arith, less, c.loop-done.invariant.room, ap (λ (x : Indexed). x.places) c.file_before.ensures);
    }
