use Rattle.std.proofs.Common.{◌≡◌, ◌≢◌, ◌<◌, ◌∙◌, length, get_or, set, refl, sym, arith, subst}
use Rattle.std.proofs.lemmas.List.{get_or_read, length-set}
use Rattle.sat_store.specs.declared.vsids.heap.Entry.{Entry}
use Rattle.sat_store.specs.heap.Heap.{no_entry, rank_at, FirstChildRanksAbove, SwapsEntries}
use Rattle.sat_store.proofs.lemmas.heap.OrderLemmas.{down_step}
use Rattle.sat_store.proofs.lemmas.heap.MoveLemmas.{full_again, not_moved, written_listed, child_is_above, child_is_first, exchanged_by_moving, one_more_exchanged}
use Rattle.sat_store.proofs.vsids.heap.sift_down.Goals as goal

pub loop-child-init : goal.loop-child-init
loop-child-init c =
    let h = c.args.heap.now.items in
    let p = c.args.positions.now.items in
    let at = c.args.at in
    let e = c.index-entry.result.now in
    let within : at < length h = omega (arith, c.requires.at, c.requires.within) in
    let is : e ≡ _ = get_or_read h at e within c.index-entry.ensures no_entry in
    record {
      within = c.requires.at;
      following = omega arith;
      count = refl;
      counts = sym c.requires.placed.count;
      var = subst (λ (x : Entry). x.var < length h) (sym is) (c.requires.placed.listed at within);
      listed = c.requires.placed.listed;
      same = not_moved c.args.available at h p e within is c.requires.placed;
      down = λ low below down. rw (full_again h at e is) down;
    }

pub loop-child-preserved : goal.loop-child-preserved
loop-child-preserved c =
    let before = c.loop-child.invariant in
    let h = c.loop-child.heap.items in
    let p = c.loop-child.positions.items in
    let hole = c.loop-child.hole in
    let child = c.in-Some.child.at in
    let m = c.args.available in
    let e = c.index-entry.result.now in
    let b = c.in-Some.child.entry in
    let within : hole < length h = omega (arith, before.within, before.count, c.requires.within) in
    let above = rw c.deref.ensures.value at c.in-Some.ensures in
    let f : FirstChildRanksAbove h m e hole child = above.0 in
    let differ : hole ≢ child = omega (arith, f.some) in
    let in_child : child < length h = omega (arith, f.within, before.count, c.requires.within) in
    let is : b ≡ get_or h child no_entry = above.1.1 in
    let ex : SwapsEntries (set h hole e) (set p e.var hole) (set (set h hole b) child e) (set (set p b.var hole) e.var child) hole child =
    exchanged_by_moving h p e b hole child before.same.placed within in_child differ is in
    let b_var : b.var < length h = subst (λ (x : Entry). x.var < length h) (sym is) (before.listed child in_child) in
    rw (c.put.ensures.heap, c.put.ensures.positions) record {
      within = f.within;
      following = omega (arith, before.following, f.some);
      count = length-set h hole b ∙ before.count;
      counts = length-set p b.var hole ∙ before.counts;
      var = omega (arith, length-set h hole b, before.var);
      listed = λ k there. omega (arith, length-set h hole b, written_listed h hole (length h) b before.listed b_var within k there);
      same = one_more_exchanged m hole child c.args.heap.now.items (set h hole e) (set (set h hole b) child e) c.args.positions.now.items (set p e.var hole) (set (set p b.var hole) e.var child) before.within f.within ex before.same;
      down = λ low below down. down_step (rank_at (set h hole e)) (rank_at (set (set h hole b) child e)) m low hole child f.under f.some f.within ex.ranks (child_is_above h m hole child e within f) (child_is_first h m hole child e f) (omega (arith, before.following)) (before.down low below down);
    }
