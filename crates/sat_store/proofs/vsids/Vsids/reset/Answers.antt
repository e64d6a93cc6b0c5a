use Rattle.std.proofs.lemmas.Grind.{common_steps}
use Rattle.std.proofs.Common.{◌≡◌, ◌<◌, ◌≤◌, ◌∙◌, List, false, length, get_or, set, ap, sym, arith, subst}
use Rattle.sat_store.specs.declared.vsids.heap.Entry.{Entry}
use Rattle.sat_store.specs.heap.Heap.{IsHeap, available_by_var}
use Rattle.sat_store.specs.heap.Vsids.{Queue, is_available}
use Rattle.sat_store.proofs.lemmas.heap.FlagLemmas.{flags_count}
use Rattle.sat_store.proofs.lemmas.heap.QueueLemmas.{keyed, keyed_heap, keyed_keys, after_those, written_key, place_read}
use Rattle.sat_store.proofs.vsids.Vsids.reset.Goals as goal

pub invariant_of-self : goal.invariant_of-self
invariant_of-self c =
    let h = c.self.inside.heap.items in
    let p = c.self.inside.positions.items in
    let m = c.self.inside.available in
    let v = c.args.var in
    let at = c.index-2.result.now in
    let heap = c.self.invariant.0 in
    let n : length c.args.self.now.available ≡ length p = ap (λ (q : Queue). length q.available) (sym c.self.view_is) ∙ flags_count m p in
    let within : v < length h = omega (arith, c.requires.within, n, heap.placed.count) in
    let is : get_or p v 0 ≡ at = place_read p c.index.result v at (omega (arith, within, c.index.ensures.value, heap.placed.count)) c.index.ensures.value c.index-2.ensures in
    let there : at < length h = omega (arith, is, heap.placed.placed v within) in
    let written : set h at (record { key = 0; var = c.index_mut.result.now.var }) ≡ keyed h at 0 = written_key h at 0 c.index_mut.result.now there c.index_mut.ensures.value in
    let flag : get_or (available_by_var m p) v false ≡ false = ap (λ (q : Queue). is_available q v) c.self.view_is ∙ c.requires.unavailable in
    let following : m ≤ get_or p v 0 = after_those p m v (omega (arith, within, heap.placed.count)) flag in (
      subst (λ (x : List Entry). IsHeap x p m) (sym written) (keyed_heap h p m v at 0 heap within is (omega (arith, is, following)) (omega arith)),
      c.self.invariant.1,
      c.self.invariant.2,
      c.self.invariant.3,
      c.self.invariant.4,
    )

pub returns : goal.returns
returns c = grind (arith, common_steps, flags_count, keyed, keyed_keys, written_key, place_read)
