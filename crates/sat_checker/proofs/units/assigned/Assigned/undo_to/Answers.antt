use Rattle.std.proofs.Common.{arith}
use Rattle.std.proofs.lemmas.Grind.{common_steps}
use Rattle.std.proofs.Common.{ℕ, ◌≡◌, ◌∙◌, cond, drop, reverse, ap, sym, subst}
use Rattle.std.proofs.lemmas.List.{take_rest}
use Rattle.sat_checker.specs.LiteralSets.{is_among}
use Rattle.sat_checker.specs.inner.Marks.{AreMarks, CountsRoom, mark_at}
use Rattle.sat_checker.specs.declared.units.assigned.Mark.TheVariants as mark
use Rattle.sat_checker.proofs.lemmas.sets.Rooms.{has_place}
use Rattle.sat_checker.proofs.lemmas.sets.Unmarking.{among_after, marks_left, undone}
use Rattle.sat_checker.proofs.units.assigned.Assigned.undo_to.Goals as goal

pub unmark_all-requires : goal.unmark_all-requires
unmark_all-requires c = grind (arith, common_steps, take_rest, has_place, among_after)

pub invariant_of-self : goal.invariant_of-self
invariant_of-self c =
    let t = c.self.inside.trail.items in
    let room = c.self.inside.room.literals in
    let unmarked : (l : ℕ) → mark_at c.unmark_all.new.marks l ≡ cond (is_among (drop c.args.left t) l) mark.Room (mark_at c.self.inside.marks l) =
    λ l. c.unmark_all.ensures l ∙ ap (λ xs. cond (is_among xs l) mark.Room (mark_at c.self.inside.marks l)) (take_rest c.deref.result.now c.args.left ∙ ap (drop c.args.left) c.deref.ensures.value) in
    (subst (λ xs. AreMarks c.unmark_all.new.marks (reverse xs) room) (sym c.truncate.ensures.items) (marks_left t c.args.left c.self.inside.marks c.unmark_all.new.marks room c.self.invariant.0 unmarked), subst (λ n. CountsRoom c.self.inside.count n room) (sym c.truncate.ensures.capacity) c.self.invariant.1)

pub returns : goal.returns
returns c =
    let room = c.self.inside.room.literals in
    ap (λ ls. record { literals = reverse ls; room = room }) c.truncate.ensures.items ∙ undone c.self.inside.trail.items room c.args.left c.args.self.now c.self.view_is c.requires
