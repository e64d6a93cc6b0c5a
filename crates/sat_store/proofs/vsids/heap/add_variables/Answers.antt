use Rattle.std.proofs.Common.{◌∷◌, ◌++◌, [], ℕ, ◌∙◌, subst, arith, length-append}
use Rattle.sat_store.specs.heap.Heap.{PositionsMatch, IsHeap}
use Rattle.sat_store.proofs.lemmas.heap.QueueLemmas.{newcomer, grown_heap, grown_placed, one_more_added}
use Rattle.sat_store.proofs.vsids.heap.add_variables.Goals as goal

pub loop-index-preserved : goal.loop-index-preserved
loop-index-preserved c =
    let before = c.loop-index.invariant in
    let i = c.loop-index.index in
    let h = c.loop-index.heap.items in
    let p = c.loop-index.positions.items in
    rw (c.push_reserved.ensures.items, c.push_reserved-in-loop-index.ensures.items) record {
      heap = λ m heap. subst (λ (x : ℕ). IsHeap (h ++ newcomer x ∷ []) (p ++ x ∷ []) m) before.count (grown_heap h p m (before.heap m heap) (omega (arith, before.count, c.requires.few)));
      placed = subst (λ (x : ℕ). PositionsMatch (h ++ newcomer x ∷ []) (p ++ x ∷ [])) before.count (grown_placed h p before.placed);
      adds = one_more_added c.args.heap.now.items h c.args.positions.now.items p i (omega (arith, c.loop-index.auto.index)) before.count before.placed before.adds;
      count = omega (arith, length-append h (newcomer i ∷ []), before.count);
      counts = omega (arith, length-append p (i ∷ []), before.counts);
      heap_room = c.push_reserved.ensures.capacity ∙ before.heap_room;
      positions_room = c.push_reserved-in-loop-index.ensures.capacity ∙ before.positions_room;
    }
