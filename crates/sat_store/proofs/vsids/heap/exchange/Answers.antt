use Rattle.std.proofs.lemmas.List.{get_or_read}
use Rattle.sat_store.specs.heap.Heap.{no_entry}
use Rattle.sat_store.proofs.lemmas.heap.MoveLemmas.{exchanged_by_writing}
use Rattle.sat_store.proofs.vsids.heap.exchange.Goals as goal

pub returns : goal.returns
returns c =
    let h = c.args.heap.now.items in
    let a = c.index-first.result.now in
    let b = c.index-second.result.now in
    rw (c.put-2.ensures.heap, c.put-2.ensures.positions, c.put.ensures.heap, c.put.ensures.positions)
    (exchanged_by_writing h c.args.positions.now.items a b c.args.i c.args.j c.requires.placed c.requires.first c.requires.second
    (get_or_read h c.args.i a c.requires.first c.index-first.ensures no_entry)
    (get_or_read h c.args.j b c.requires.second c.index-second.ensures no_entry))
