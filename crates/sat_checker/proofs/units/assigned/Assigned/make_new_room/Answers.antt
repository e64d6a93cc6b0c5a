use Rattle.std.proofs.lemmas.Grind.{common_steps}
use Rattle.std.proofs.Common.{ℕ, ◌+◌, ◌≡◌, ◌∙◌, false, cond, eqb, ◌∷◌, reverse, vec_capacity, refl, sym, ap, subst, arith}
use Rattle.std.proofs.lemmas.Bool.{ne_eqb, or_from}
use Rattle.std.proofs.lemmas.List.{length-reverse}
use Rattle.sat_base.specs.values.Literals.{negated}
use Rattle.sat_base.proofs.lemmas.values.TableLemmas.{value_set}
use Rattle.sat_checker.specs.LiteralSets.{is_among}
use Rattle.sat_checker.specs.inner.Marks.{mark_at, AreMarks, CountsRoom}
use Rattle.sat_checker.specs.inner.AssumedRoom.{LiteralsAndRoom}
use Rattle.sat_checker.specs.declared.units.assigned.Mark.{Mark}
use Rattle.sat_checker.specs.declared.units.assigned.Mark.TheVariants as mark
use Rattle.sat_checker.proofs.lemmas.sets.Rooms.{few, newly_roomy, paired_more}
use Rattle.sat_checker.proofs.units.assigned.Assigned.make_new_room.Goals as goal

pub overflow_sub-self-inside : goal.overflow_sub-self-inside
overflow_sub-self-inside c = grind (arith, common_steps, length-reverse, few)

-- no literal is its own negation
other : (l : ℕ) → negated l ≡ l → ⊥
other l e = omega (arith, e)

pub invariant_of-self-2 : goal.invariant_of-self-2
invariant_of-self-2 c =
    let room = c.self.inside.room.literals in
    let ls = reverse c.self.inside.trail.items in
    let l = c.args.lit in
    let are = c.self.invariant.0 in
    let fresh : is_among room l ≡ false = subst (λ (t : LiteralsAndRoom). is_among t.room l ≡ false) (sym c.self.view_is) c.requires in
    let is : c.code-3.result ≡ negated l = c.code-3.ensures.value ∙ c.not-other.ensures in
    let first : (k : ℕ) → mark_at c.put.new.self k ≡ cond (eqb k (negated l)) mark.Room (mark_at c.self.inside.marks k) = λ k.
    value_set (λ (m : Mark). m) c.make_room-2.new.self c.put.new.self mark.NoRoom mark.NoRoom mark.Room c.code-3.result (negated l) refl is (c.put.ensures.set mark.NoRoom) k
    ∙ ap (cond (eqb k (negated l)) mark.Room) (c.make_room-2.ensures.same k ∙ c.make_room.ensures.same k) in
    let second : (k : ℕ) → mark_at c.put-2.new.self k ≡ cond (eqb k l) mark.Room (mark_at c.put.new.self k) =
    value_set (λ (m : Mark). m) c.put.new.self c.put-2.new.self mark.NoRoom mark.NoRoom mark.Room c.code-4.result l refl c.code-4.ensures.value (c.put-2.ensures.set mark.NoRoom) in
    let one = newly_roomy c.self.inside.marks c.put.new.self ls room (negated l) first (sym (c.self.invariant.1.paired l) ∙ fresh) are in
    let two = newly_roomy c.put.new.self c.put-2.new.self ls (negated l ∷ room) l second (or_from (eqb (negated l) l) (is_among room l) (ne_eqb (negated l) l (other l)) fresh) one in
    let whole : l ∷ negated l ∷ room ≡ c.and-self-inside.result.literals =
    sym (c.and-self-inside.ensures ∙ ap (λ x. x ∷ c.and-room.result.literals) c.code-6.ensures.value ∙ ap (λ xs. l ∷ xs) (c.and-room.ensures ∙ ap (λ x. x ∷ room) (c.code-5.ensures.value ∙ c.not-other.ensures))) in
    let counted : CountsRoom (c.self.inside.count + 2) (vec_capacity c.reserve.new.self) (l ∷ negated l ∷ room) = record {
      exact = omega (arith, c.self.invariant.1.exact);
      enough = omega (arith, c.in_ok-reserve.ensures.ok, c.in_ok-reserve.ensures.len, c.len.ensures);
      paired = paired_more l room c.self.invariant.1.paired;
    } in (
      subst (λ xs. AreMarks c.put-2.new.self xs c.and-self-inside.result.literals) (ap reverse (sym c.reserve.ensures.items)) (subst (AreMarks c.put-2.new.self ls) whole two),
      subst (CountsRoom (c.self.inside.count + 2) (vec_capacity c.reserve.new.self)) whole counted,
    )
