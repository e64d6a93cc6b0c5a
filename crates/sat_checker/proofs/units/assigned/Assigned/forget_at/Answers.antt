use Rattle.std.proofs.lemmas.Grind.{common_steps}
use Rattle.std.proofs.Common.{ℕ, ◌<◌, ◌≡◌, ◌∙◌, true, false, cond, eqb, length, reverse, sym, ap, subst, arith}
use Rattle.std.proofs.lemmas.Bool.{eqb-true}
use Rattle.std.proofs.lemmas.Grind.{get_or_default_zero}
use Rattle.std.proofs.lemmas.List.{length-reverse, reverse-reverse}
use Rattle.sat_checker.specs.LiteralSets.{is_among}
use Rattle.sat_checker.specs.inner.Marks.{CountsRoom}
use Rattle.sat_checker.specs.inner.AssumedRoom.{LiteralsAndRoom}
use Rattle.sat_checker.proofs.lemmas.sets.Distinct.{once_reversed}
use Rattle.sat_checker.proofs.lemmas.sets.Order.{among-reverse}
use Rattle.sat_checker.proofs.lemmas.sets.Rooms.{has_place}
use Rattle.sat_checker.proofs.lemmas.sets.Unmarking.{among_at, marks_without}
use Rattle.sat_checker.proofs.lemmas.sets.Trails.{once_without, among_without, once_trail, lost}
use Rattle.sat_checker.proofs.units.assigned.Assigned.forget_at.Goals as goal

pub unmark-requires : goal.unmark-requires
unmark-requires c = grind (arith, common_steps, length-reverse, among-reverse, has_place, among_at)

pub invariant_of-self : goal.invariant_of-self
invariant_of-self c =
    let trail = c.self.inside.trail.items in
    let rest = c.swap_remove-lit.new.self.items in
    let x = c.swap_remove-lit.result in
    let inside : c.args.place < length trail = let n = ap (λ (t : LiteralsAndRoom). length t.literals) c.self.view_is in let m = length-reverse trail in omega (arith, c.requires, n, m) in
    let once = once_trail trail c.self.invariant.0.once in
    let without : (l : ℕ) → is_among (reverse rest) l ≡ cond (eqb l x) false (is_among (reverse trail) l) =
    λ l. among-reverse rest l ∙ among_without trail rest c.args.place x inside c.swap_remove-lit.ensures.value c.swap_remove-lit.ensures.items once l ∙ ap (cond (eqb l x) false) (sym (among-reverse trail l)) in
    let there : (l : ℕ) → eqb l x ≡ true → is_among (reverse trail) l ≡ true =
    λ l e. among-reverse trail l ∙ ap (is_among trail) (eqb-true l x e) ∙ among_at trail c.args.place x inside c.swap_remove-lit.ensures.value in (
      marks_without c.self.inside.marks c.unmark.new.marks (reverse trail) (reverse rest) c.self.inside.room.literals (λ l. eqb l x) c.unmark.ensures.set without there
          (once_reversed rest (once_without trail rest c.args.place x inside c.swap_remove-lit.ensures.value c.swap_remove-lit.ensures.items once)) c.self.invariant.0,
      subst (λ n. CountsRoom c.self.inside.count n c.self.inside.room.literals) (sym c.swap_remove-lit.ensures.capacity) c.self.invariant.1,
    )

pub returns-clause-forgotten : goal.returns-clause-forgotten
returns-clause-forgotten c = grind (arith, common_steps, get_or_default_zero, length-reverse, reverse-reverse, among-reverse, among_without, once_trail)

pub returns-clause-moved : goal.returns-clause-moved
returns-clause-moved c = grind (arith, common_steps, reverse-reverse, lost)
