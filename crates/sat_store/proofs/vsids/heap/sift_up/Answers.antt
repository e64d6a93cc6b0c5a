use Rattle.std.proofs.Common.{◌≡◌, ◌≢◌, ◌<◌, ◌≤◌, ◌∙◌, inl, inr, length, set, refl, sym, arith, subst}
use Rattle.std.proofs.lemmas.Bool.{cases_lt, false≢true}
use Rattle.std.proofs.lemmas.List.{get_or_read, length-set}
use Rattle.sat_store.specs.declared.vsids.heap.Entry.{Entry}
use Rattle.sat_store.specs.heap.Heap.{no_entry, rank, rank_at, parent, SwapsEntries}
use Rattle.sat_store.proofs.lemmas.heap.OrderLemmas.{up_step, up_done}
use Rattle.sat_store.proofs.lemmas.heap.MoveLemmas.{full_again, not_moved, written_listed, rank_there, rank_elsewhere, exchanged_by_moving, one_more_exchanged}
use Rattle.sat_store.proofs.vsids.heap.sift_up.Goals as goal

pub loop-above-init : goal.loop-above-init
loop-above-init c =
    let h = c.args.heap.now.items in
    let p = c.args.positions.now.items in
    let at = c.args.at in
    let e = c.index-entry.result.now in
    let within : at < length h = omega (arith, c.requires.at, c.requires.within) in
    let is : e ≡ _ = get_or_read h at e within c.index-entry.ensures no_entry in
    record {
      within = c.requires.at;
      count = refl;
      counts = sym c.requires.placed.count;
      var = subst (λ (x : Entry). x.var < length h) (sym is) (c.requires.placed.listed at within);
      listed = c.requires.placed.listed;
      same = not_moved c.args.available at h p e within is c.requires.placed;
      up = rw (full_again h at e is) c.requires.up;
    }

pub loop-above-preserved : goal.loop-above-preserved
loop-above-preserved c =
    let before = c.loop-above.invariant in
    let h = c.loop-above.heap.items in
    let p = c.loop-above.positions.items in
    let hole = c.loop-above.hole in
    let m = c.args.available in
    let e = c.index-entry.result.now in
    let b = c.index-other.result.now in
    let goes : (0 < hole) × (rank_at h (parent hole) < rank e) = rw c.deref.ensures.value at (c.loop-above-test.ensures.0 refl) in
    let within : hole < length h = omega (arith, before.within, before.count, c.requires.within) in
    let small : parent hole < m = omega (arith, before.within, goes.0) in
    let in_above : parent hole < length h = omega (arith, within) in
    let differ : hole ≢ parent hole = omega (arith, goes.0) in
    let is : b ≡ _ = get_or_read h (parent hole) b in_above c.index-other.ensures no_entry in
    let ex : SwapsEntries (set h hole e) (set p e.var hole) (set (set h hole b) (parent hole) e) (set (set p b.var hole) e.var (parent hole)) hole (parent hole) =
    exchanged_by_moving h p e b hole (parent hole) before.same.placed within in_above differ is in
    let b_var : b.var < length h = subst (λ (x : Entry). x.var < length h) (sym is) (before.listed (parent hole) in_above) in
    let above : rank_at (set h hole e) (parent hole) < rank_at (set h hole e) hole = omega (arith, rank_there h hole e within, rank_elsewhere h hole (parent hole) e (λ s. differ (sym s)), goes.1) in
    rw (c.put.ensures.heap, c.put.ensures.positions) record {
      within = small;
      count = length-set h hole b ∙ before.count;
      counts = length-set p b.var hole ∙ before.counts;
      var = omega (arith, length-set h hole b, before.var);
      listed = λ k there. omega (arith, length-set h hole b, written_listed h hole (length h) b before.listed b_var within k there);
      same = one_more_exchanged m hole (parent hole) c.args.heap.now.items (set h hole e) (set (set h hole b) (parent hole) e) c.args.positions.now.items (set p e.var hole) (set (set p b.var hole) e.var (parent hole)) before.within small ex before.same;
      up = up_step (rank_at (set h hole e)) (rank_at (set (set h hole b) (parent hole) e)) m hole goes.0 before.within ex.ranks above before.up;
    }

pub returns-clause-ordered : goal.returns-clause-ordered
returns-clause-ordered c =
    let before = c.loop-above.invariant in
    let h = c.loop-above.heap.items in
    let hole = c.loop-above.hole in
    let e = c.index-entry.result.now in
    let within : hole < length h = omega (arith, before.within, before.count, c.requires.within) in
    let fits : 0 < hole → rank_at (set h hole e) hole ≤ rank_at (set h hole e) (parent hole) = λ some. elim (cases_lt (rank_at h (parent hole)) (rank e)) [
      | inl above ↦ absurd (false≢true (c.loop-above-test.ensures.1 (some, rw c.deref.ensures.value above)))
      | inr below ↦ omega (arith, rank_there h hole e within, rank_elsewhere h hole (parent hole) e (omega arith))
    ] in
    rw c.put-2.ensures.heap (up_done (rank_at (set h hole e)) c.args.available hole fits before.up)
