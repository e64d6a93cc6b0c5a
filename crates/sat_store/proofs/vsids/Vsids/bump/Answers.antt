use Rattle.std.proofs.Common.{◌≡◌, ◌+◌, ◌/◌, ◌<◌, ◌^◌, ◌∙◌, ℕ, List, length, get_or, set, map, refl, ap, sym, arith, subst}
use Rattle.std.proofs.lemmas.List.{get_or_read, length-map}
use Rattle.sat_store.specs.declared.vsids.heap.Entry.{Entry}
use Rattle.sat_store.specs.heap.Heap.{no_entry, PositionsMatch, IsHeap, PermutesEntries, activities_by_var, with_rescaled_key}
use Rattle.sat_store.specs.heap.Vsids.{Queue}
use Rattle.sat_store.proofs.lemmas.heap.FlagLemmas.{flags_count}
use Rattle.sat_store.proofs.lemmas.heap.QueueLemmas.{keyed, keyed_count, keyed_placed, keyed_heap, keyed_keys, key_there, written_key, place_read, below_limit, scaled_small, scaled_placed, scaled_keys, heap_again, bumped_small, bumped_large}
use Rattle.sat_store.proofs.vsids.Vsids.bump.Goals as goal
use Rattle.sat_store.proofs.vsids.Vsids.bump.Goals.{After-index-3, After-index_mut}

-- the variable's entry, and its key
module _ (c : After-index-3) where
  abbrev h : List Entry
  h = c.self.inside.heap.items

  abbrev p : List ℕ
  p = c.self.inside.positions.items

  abbrev at : ℕ
  at = c.index-2.result.now

  abbrev raised : ℕ
  raised = c.index-3.result.now.key + c.self.inside.bump

  within : c.args.var < length h
  within = omega (arith, c.requires, ap (λ (q : Queue). length q.available) (sym c.self.view_is) ∙ flags_count c.self.inside.available p, c.self.invariant.0.placed.count)

  is : get_or p c.args.var 0 ≡ at
  is = place_read p c.index.result c.args.var at (omega (arith, within, c.index.ensures.value, c.self.invariant.0.placed.count)) c.index.ensures.value c.index-2.ensures

  there : at < length h
  there = omega (arith, is, c.self.invariant.0.placed.placed c.args.var within)

  read : c.index-3.result.now.key ≡ (get_or h at no_entry).key
  read = ap (λ (e : Entry). e.key) (get_or_read h at c.index-3.result.now there c.index-3.ensures no_entry)

  key : c.index-3.result.now.key ≡ get_or (activities_by_var h p) c.args.var 0
  key = read ∙ key_there h p c.self.inside.available c.args.var at c.self.invariant.0 within is

  sum : raised ≡ get_or (activities_by_var h p) c.args.var 0 + c.self.inside.bump
  sum = ap (λ (k : ℕ). k + c.self.inside.bump) key

  new_keys : activities_by_var (keyed h at raised) p ≡ set (activities_by_var h p) c.args.var raised
  new_keys = keyed_keys h p c.args.var at raised c.self.invariant.0.placed within is

-- the entry with its key raised
module _ (c : After-index_mut) where
  abbrev s : After-index-3
  s = (goal.at.After-index_mut c).After-index-3

  written : set (h s) (at s) (record { key = raised s; var = c.index_mut.result.now.var }) ≡ keyed (h s) (at s) (raised s)
  written = written_key (h s) (at s) (raised s) c.index_mut.result.now (there s) c.index_mut.ensures.value

pub overflow_add-raised : goal.overflow_add-raised
overflow_add-raised c = let s = (goal.at.overflow_add-raised c).After-index-3 in omega (arith, key s, c.self.invariant.0.small c.args.var, c.self.invariant.2)

pub index_mut-requires : goal.index_mut-requires
index_mut-requires c = omega (arith, there (goal.at.index_mut-requires c).After-index-3, c.self.inside.heap.ok.0)

pub heapify-requires-clause-placed : goal.heapify-requires-clause-placed
heapify-requires-clause-placed c =
    let m = (goal.at.heapify-requires-clause-placed c).After-index_mut in
    let s = (goal.at.After-index_mut m).After-index-3 in
    rw c.rescale-self-inside.ensures.heap (subst (λ (l : List Entry). PositionsMatch (map with_rescaled_key l) (p s)) (sym (written m)) (scaled_placed (keyed (h s) (at s) (raised s)) (p s) (keyed_placed (h s) (p s) (at s) (raised s) c.self.invariant.0.placed (there s))))

pub invariant_of-self : goal.invariant_of-self
invariant_of-self c =
    let m = (goal.at.invariant_of-self c).After-index_mut in
    let s = (goal.at.After-index_mut m).After-index-3 in
    let x = keyed (h s) (at s) (raised s) in
    let scale = c.rescale-self-inside.ensures in
    let same : PermutesEntries c.self.inside.available (map with_rescaled_key x) (p s) c.heapify.new.heap.items c.heapify.new.positions.items = rw (written m) at (rw scale.heap at c.heapify.ensures.same) in
    let fits : (u : ℕ) → get_or (set (activities_by_var (h s) (p s)) c.args.var (raised s)) u 0 < 2 ^ 61 = λ u. below_limit (activities_by_var (h s) (p s)) c.args.var (raised s) u (2 ^ 61) (λ y. omega (arith, c.self.invariant.0.small y)) (omega (arith, key s, c.self.invariant.0.small c.args.var, c.self.invariant.2)) in
    let small : (u : ℕ) → get_or (activities_by_var (map with_rescaled_key x) (p s)) u 0 < 2 ^ 60 = λ u. rw (scaled_keys x (p s), new_keys s) (scaled_small (set (activities_by_var (h s) (p s)) c.args.var (raised s)) u fits) in (
      heap_again (h s) (map with_rescaled_key x) c.heapify.new.heap.items (p s) c.heapify.new.positions.items c.self.inside.available c.self.invariant.0 (length-map x with_rescaled_key ∙ keyed_count (h s) (at s) (raised s)) same small c.heapify.ensures.ordered,
      omega (arith, scale.bump),
      omega (arith, scale.bump, c.self.invariant.2),
      c.self.invariant.3,
      c.self.invariant.4,
    )

pub returns-then-raised-ge-LIMIT-clause-queue : goal.returns-then-raised-ge-LIMIT-clause-queue
returns-then-raised-ge-LIMIT-clause-queue c =
    let m = (goal.at.returns-then-raised-ge-LIMIT-clause-queue c).After-index_mut in
    let s = (goal.at.After-index_mut m).After-index-3 in
    let x = keyed (h s) (at s) (raised s) in
    let scale = c.rescale-self-inside.ensures in
    let same : PermutesEntries c.self.inside.available (map with_rescaled_key x) (p s) c.heapify.new.heap.items c.heapify.new.positions.items = rw (written m) at (rw scale.heap at c.heapify.ensures.same) in
    rw (← c.self.view_is) (bumped_large _ c.args.var (raised s) _ _ _ (sum s) c.if-raised-ge-LIMIT.true same.flags (same.keys ∙ scaled_keys x (p s) ∙ ap (map (λ y. y / 2 ^ 40)) (new_keys s)) scale.bump)

pub invariant_of-self-then-at-self : goal.invariant_of-self-then-at-self
invariant_of-self-then-at-self c =
    let m = (goal.at.invariant_of-self-then-at-self c).After-index_mut in
    let s = (goal.at.After-index_mut m).After-index-3 in
    let x = keyed (h s) (at s) (raised s) in
    let same : PermutesEntries c.self.inside.available x (p s) c.sift_up.new.heap.items c.sift_up.new.positions.items = rw (written m) at c.sift_up.ensures.same in
    let small : (u : ℕ) → get_or (activities_by_var x (p s)) u 0 < 2 ^ 60 = λ u. rw (new_keys s) (below_limit (activities_by_var (h s) (p s)) c.args.var (raised s) u (2 ^ 60) c.self.invariant.0.small (omega (arith, c.if-raised-ge-LIMIT.false))) in (
      heap_again (h s) x c.sift_up.new.heap.items (p s) c.sift_up.new.positions.items c.self.inside.available c.self.invariant.0 (keyed_count (h s) (at s) (raised s)) same small c.sift_up.ensures.ordered,
      c.self.invariant.1,
      c.self.invariant.2,
      c.self.invariant.3,
      c.self.invariant.4,
    )

pub invariant_of-self-else-at-self : goal.invariant_of-self-else-at-self
invariant_of-self-else-at-self c =
    let m = (goal.at.invariant_of-self-else-at-self c).After-index_mut in
    let s = (goal.at.After-index_mut m).After-index-3 in (
      subst (λ (l : List Entry). IsHeap l (p s) c.self.inside.available) (sym (written m)) (keyed_heap (h s) (p s) c.self.inside.available c.args.var (at s) (raised s) c.self.invariant.0 (within s) (is s) (omega (arith, c.if-at-self.false)) (omega (arith, c.if-raised-ge-LIMIT.false))),
      c.self.invariant.1,
      c.self.invariant.2,
      c.self.invariant.3,
      c.self.invariant.4,
    )

pub returns-then-at-self-clause-queue : goal.returns-then-at-self-clause-queue
returns-then-at-self-clause-queue c =
    let m = (goal.at.returns-then-at-self-clause-queue c).After-index_mut in
    let s = (goal.at.After-index_mut m).After-index-3 in
    let same : PermutesEntries c.self.inside.available (keyed (h s) (at s) (raised s)) (p s) c.sift_up.new.heap.items c.sift_up.new.positions.items = rw (written m) at c.sift_up.ensures.same in
    rw (← c.self.view_is) (bumped_small _ c.args.var (raised s) _ _ (sum s) (omega (arith, c.if-raised-ge-LIMIT.false)) same.flags (same.keys ∙ new_keys s))

pub returns-else-at-self-clause-queue : goal.returns-else-at-self-clause-queue
returns-else-at-self-clause-queue c =
    let m = (goal.at.returns-else-at-self-clause-queue c).After-index_mut in
    let s = (goal.at.After-index_mut m).After-index-3 in
    rw (← c.self.view_is) (bumped_small _ c.args.var (raised s) _ _ (sum s) (omega (arith, c.if-raised-ge-LIMIT.false)) refl (ap (λ (l : List Entry). activities_by_var l (p s)) (written m) ∙ new_keys s))
