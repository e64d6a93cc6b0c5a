use Rattle.std.proofs.Common.{ℕ, List, subst, arith}
use Rattle.sat_base.specs.values.Flat.{AreEndsOfPieces}
use Rattle.sat_base.proofs.lemmas.values.FlatLemmas.{AreEnds-le}
use Rattle.sat_base.proofs.flat_lists.iter.FlatListsIterIterator.next.Goals as goal

pub offset_bounds-self-inside-self-inside : goal.offset_bounds-self-inside-self-inside
offset_bounds-self-inside-self-inside g c =
    let s = c.self.inside in
    let h = subst (λ (es : List ℕ). AreEndsOfPieces s.start es s.items.now) c.in_ok-end.ensures.cases.0 c.self.invariant in
    let e = AreEnds-le c.in_ok-end.end.now c.in_ok-end.ends.now s.items.now h.1 in
    omega (arith, h.0, e)

pub slice_bounds-list-end : goal.slice_bounds-list-end
slice_bounds-list-end g c =
    let s = c.self.inside in
    let h = subst (λ (es : List ℕ). AreEndsOfPieces s.start es s.items.now) c.in_ok-end.ensures.cases.0 c.self.invariant in
    let e = AreEnds-le c.in_ok-end.end.now c.in_ok-end.ends.now s.items.now h.1 in
    omega (arith, h.0, e)
