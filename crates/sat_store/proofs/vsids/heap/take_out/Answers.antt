use Rattle.std.proofs.Common.{◌≡◌, ◌<◌, ◌≤◌, ◌-◌, ◌∙◌, inl, inr, refl, sym, arith, subst, length}
use Rattle.std.proofs.lemmas.Bool.{cases_lt, false≢true}
use Rattle.std.proofs.lemmas.List.{get_or_read}
use Rattle.sat_store.specs.declared.vsids.heap.Entry.{Entry}
use Rattle.sat_store.specs.heap.Heap.{no_entry, rank, rank_at, parent}
use Rattle.sat_store.proofs.lemmas.heap.QueueLemmas.{taken_flags, taken_up, taken_down, one_fewer, heap_of}
use Rattle.sat_store.proofs.vsids.heap.take_out.Goals as goal

pub returns-then-at-last-clause-flags : goal.returns-then-at-last-clause-flags
returns-then-at-last-clause-flags c = taken_flags c.args.heap.now.items c.args.positions.now.items c.exchange.new.positions.items c.args.available c.args.at c.requires.heap.placed c.requires.at c.requires.heap.within c.exchange.ensures.places

pub sift_up-requires-clause-up : goal.sift_up-requires-clause-up
sift_up-requires-clause-up c =
    let h = c.args.heap.now.items in
    let new = c.exchange.new.heap.items in
    let at = c.args.at in
    let up = c.if-ranks_above_parent.ensures.0 refl in
    let within : at < length new = omega (arith, c.requires.at, c.requires.heap.within, c.exchange.ensures.count) in
    let is : c.index.result.now ≡ _ = get_or_read new at c.index.result.now within c.index.ensures no_entry in
    let above : rank_at new (parent at) < rank_at new at = subst (λ (x : Entry). rank_at new (parent at) < rank x) is (rw c.deref.ensures.value at up.1) in
    taken_up (rank_at h) (rank_at new) (c.args.available - 1) at up.0 (omega arith) c.exchange.ensures.ranks above (one_fewer (rank_at h) c.args.available (omega arith) c.requires.heap.ordered)

pub returns-then-ranks_above_parent-clause-flags : goal.returns-then-ranks_above_parent-clause-flags
returns-then-ranks_above_parent-clause-flags c = c.sift_up.ensures.same.flags ∙ taken_flags c.args.heap.now.items c.args.positions.now.items c.exchange.new.positions.items c.args.available c.args.at c.requires.heap.placed c.requires.at c.requires.heap.within c.exchange.ensures.places

pub returns-clause-heap : goal.returns-clause-heap
returns-clause-heap c =
    let h = c.args.heap.now.items in
    let new = c.exchange.new.heap.items in
    let at = c.args.at in
    let within : at < length new = omega (arith, c.requires.at, c.requires.heap.within, c.exchange.ensures.count) in
    let is : c.index.result.now ≡ _ = get_or_read new at c.index.result.now within c.index.ensures no_entry in
    let fits : 0 < at → rank_at new at ≤ rank_at new (parent at) = λ some. elim (cases_lt (rank_at new (parent at)) (rank_at new at)) [
      | inl above ↦ absurd (false≢true (c.if-ranks_above_parent.ensures.1 (some, rw c.deref.ensures.value (subst (λ (x : Entry). rank_at new (parent at) < rank x) (sym is) above))))
      | inr below ↦ below
    ] in
    let down = taken_down (rank_at h) (rank_at new) (c.args.available - 1) at (omega arith) c.exchange.ensures.ranks fits (one_fewer (rank_at h) c.args.available (omega arith) c.requires.heap.ordered) in
    heap_of _ _ _ _ _ _ _ _ _ _ c.requires.heap c.exchange.ensures c.sift_down.ensures.same (omega (arith, c.requires.heap.within)) (c.sift_down.ensures.ordered 0 (omega arith) down)

pub returns-clause-flags : goal.returns-clause-flags
returns-clause-flags c = c.sift_down.ensures.same.flags ∙ taken_flags c.args.heap.now.items c.args.positions.now.items c.exchange.new.positions.items c.args.available c.args.at c.requires.heap.placed c.requires.at c.requires.heap.within c.exchange.ensures.places
