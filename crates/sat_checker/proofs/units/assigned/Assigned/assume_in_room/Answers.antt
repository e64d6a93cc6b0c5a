use Rattle.std.proofs.Common.{◌≤◌, ◌≡◌, ◌∙◌, true, false, [], ◌∷◌, length, reverse, refl, sym, ap, subst, arith}
use Rattle.std.proofs.lemmas.List.{reverse-append, length-reverse}
use Rattle.sat_base.proofs.lemmas.values.TableLemmas.{value_set}
use Rattle.sat_checker.specs.LiteralSets.{is_among}
use Rattle.sat_checker.specs.inner.Marks.{AreMarks, CountsRoom}
use Rattle.sat_checker.specs.inner.AssumedRoom.{LiteralsAndRoom}
use Rattle.sat_checker.specs.declared.units.assigned.Mark.{Mark}
use Rattle.sat_checker.specs.declared.units.assigned.Mark.TheVariants as mark
use Rattle.sat_checker.proofs.lemmas.sets.Rooms.{few, within_more, newly_assumed}
use Rattle.sat_checker.proofs.units.assigned.Assigned.assume_in_room.Goals as goal

pub push_reserved-requires : goal.push_reserved-requires
push_reserved-requires c =
    let ls = reverse c.self.inside.trail.items in
    let room = c.self.inside.room.literals in
    let are = c.self.invariant.0 in
    let fresh = subst (λ (t : LiteralsAndRoom). is_among t.literals c.args.lit ≡ false) (sym c.self.view_is) c.requires.new in
    let there = subst (λ (t : LiteralsAndRoom). is_among t.room c.args.lit ≡ true) (sym c.self.view_is) c.requires.room in
    let most : length (c.args.lit ∷ ls) ≤ length room = few (c.args.lit ∷ ls) room (fresh, are.once) (within_more ls room c.args.lit are.within there) in
    omega (arith, most, length-reverse c.self.inside.trail.items, c.self.inside.trail.ok.0, c.self.invariant.1.exact, c.self.invariant.1.enough)

pub invariant_of-self : goal.invariant_of-self
invariant_of-self c =
    let ls = reverse c.self.inside.trail.items in
    let room = c.self.inside.room.literals in
    let fresh = subst (λ (t : LiteralsAndRoom). is_among t.literals c.args.lit ≡ false) (sym c.self.view_is) c.requires.new in
    let there = subst (λ (t : LiteralsAndRoom). is_among t.room c.args.lit ≡ true) (sym c.self.view_is) c.requires.room in
    let set = value_set (λ (m : Mark). m) c.self.inside.marks c.put.new.self mark.NoRoom mark.NoRoom mark.Assumed c.code.result c.args.lit refl c.code.ensures.value (c.put.ensures.set mark.NoRoom) in
    let are = newly_assumed c.self.inside.marks c.put.new.self ls room c.args.lit set fresh there c.self.invariant.0 in (
      subst (λ xs. AreMarks c.put.new.self xs room) (sym (ap reverse c.push_reserved.ensures.items ∙ reverse-append c.self.inside.trail.items (c.args.lit ∷ []))) are,
      subst (λ n. CountsRoom c.self.inside.count n room) (sym c.push_reserved.ensures.capacity) c.self.invariant.1,
    )
