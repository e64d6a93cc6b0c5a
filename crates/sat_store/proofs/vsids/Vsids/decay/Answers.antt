use Rattle.std.proofs.lemmas.Grind.{common_steps}
use Rattle.std.proofs.Common.{◌+◌, ◌-◌, ◌*◌, ◌/◌, ◌%◌, ◌<◌, ◌^◌, ◌∙◌, ℕ, get_or, map, arith}
use Rattle.std.proofs.lemmas.List.{length-map}
use Rattle.sat_store.specs.heap.Heap.{PermutesEntries, activities_by_var, with_rescaled_key}
use Rattle.sat_store.proofs.lemmas.heap.QueueLemmas.{heap_again, scaled_small, scaled_placed, scaled_keys, thousandfold, thousandfold_below, decayed_small, decayed_large}
use Rattle.sat_store.proofs.vsids.Vsids.decay.Goals as goal

pub heapify-requires-clause-placed : goal.heapify-requires-clause-placed
heapify-requires-clause-placed c = rw c.rescale-self-inside.ensures.heap (scaled_placed c.self.inside.heap.items c.self.inside.positions.items c.self.invariant.0.placed)

pub invariant_of-self : goal.invariant_of-self
invariant_of-self c =
    let h = c.self.inside.heap.items in
    let p = c.self.inside.positions.items in
    let m = c.self.inside.available in
    let heap = c.self.invariant.0 in
    let scale = c.rescale-self-inside.ensures in
    let b = c.self.inside.bump / c.self.inside.decay * 1000 + (c.self.inside.bump % c.self.inside.decay * 1000 + c.self.inside.decay - 1) / c.self.inside.decay in
    let small : (u : ℕ) → get_or (activities_by_var (map with_rescaled_key h) p) u 0 < 2 ^ 60 = λ u. rw (scaled_keys h p) (scaled_small (activities_by_var h p) u (λ w. omega (arith, heap.small w))) in
    let later : b < 2 ^ 62 = thousandfold_below c.self.inside.bump c.self.inside.decay c.self.invariant.2 c.self.invariant.3 in
    let same : PermutesEntries m (map with_rescaled_key h) p c.heapify.new.heap.items c.heapify.new.positions.items = rw scale.heap at c.heapify.ensures.same in (
      heap_again h (map with_rescaled_key h) c.heapify.new.heap.items p c.heapify.new.positions.items m heap (length-map h with_rescaled_key) same small c.heapify.ensures.ordered,
      omega (arith, scale.bump),
      omega (arith, scale.bump, later),
      c.self.invariant.3,
      c.self.invariant.4,
    )

pub returns-then-later-ge-LIMIT-clause-queue : goal.returns-then-later-ge-LIMIT-clause-queue
returns-then-later-ge-LIMIT-clause-queue c =
    let h = c.self.inside.heap.items in
    let p = c.self.inside.positions.items in
    let some : 0 < c.self.inside.decay = omega (arith, c.self.invariant.3) in
    let parts = thousandfold c.self.inside.bump c.self.inside.decay some in
    let same : PermutesEntries c.self.inside.available (map with_rescaled_key h) p c.heapify.new.heap.items c.heapify.new.positions.items = rw c.rescale-self-inside.ensures.heap at c.heapify.ensures.same in
    rw (← c.self.view_is) (decayed_large _ _ _ _ _ parts c.if-later-ge-LIMIT.true same.flags (same.keys ∙ scaled_keys h p) c.rescale-self-inside.ensures.bump)

pub returns-clause-queue : goal.returns-clause-queue
returns-clause-queue c = grind (arith, common_steps, thousandfold, decayed_small)
