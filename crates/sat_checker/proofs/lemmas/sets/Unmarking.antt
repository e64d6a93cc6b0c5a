-- Removing the marks of the newest literals.
use Rattle.std.proofs.Common.{ℕ, ◌+◌, ◌-◌, ◌<◌, ◌≤◌, ◌≡◌, Bool, true, false, ◌||◌, cond, eqb, List, [], ◌∷◌, ◌++◌, length, take, drop, get_or, reverse, refl, sym, ◌∙◌, ap, subst, arith, length-drop, inl, inr}
use Rattle.std.proofs.Math.Seq.{drop-append_seam}
use Rattle.std.proofs.lemmas.Bool.{or_parts, or_cases, or_left, eqb-true, true≢false}
use Rattle.std.proofs.lemmas.List.{drop_more, drop_all, take-append-drop, reverse-append, length-reverse}
use Rattle.sat_base.specs.declared.table.Table.{Table}
use Rattle.sat_checker.specs.LiteralSets.{is_among}
use Rattle.sat_checker.specs.inner.Marks.{AreMarks, NoRepeats, mark_at, mark_for}
use Rattle.sat_checker.specs.inner.AssumedRoom.{LiteralsAndRoom}
use Rattle.sat_checker.specs.declared.units.assigned.Mark.{Mark}
use Rattle.sat_checker.specs.declared.units.assigned.Mark.TheVariants as mark
use Rattle.sat_checker.proofs.lemmas.sets.Canonical.{among_from_contains}
use Rattle.sat_checker.proofs.lemmas.sets.Order.{among-append, among-reverse}
use Rattle.sat_checker.proofs.lemmas.store.Places.{eqb_comm}

-- unmarking the next literal
pub unmarked_next : (ls : List ℕ) (i x : ℕ) → i < length ls → x ≡ get_or ls i x → (old new : Table Mark) → ((l : ℕ) → mark_at new l ≡ cond (eqb l x) mark.Room (mark_at old l)) → (k : ℕ)
    → cond (is_among (drop (i + 1) ls) k) mark.Room (mark_at new k) ≡ cond (is_among (drop i ls) k) mark.Room (mark_at old k)
unmarked_next ls i x inside e old new m k =
    ap (λ b. cond (is_among (drop (i + 1) ls) k) mark.Room b) (m k) ∙ go (eqb k x) (is_among (drop (i + 1) ls) k)
    ∙ ap (λ b. cond (b || is_among (drop (i + 1) ls) k) mark.Room (mark_at old k)) (eqb_comm k x)
    ∙ sym (ap (λ xs. cond (is_among xs k) mark.Room (mark_at old k)) (drop_more ls i x inside ∙ ap (λ y. y ∷ drop (i + 1) ls) (sym e)))
  where
    go : (b d : Bool) → cond d mark.Room (cond b mark.Room (mark_at old k)) ≡ cond (b || d) mark.Room (mark_at old k)
    go true true = refl
    go true false = refl
    go false true = refl
    go false false = refl

pub unmarked_all : (ls : List ℕ) (i : ℕ) → length ls ≤ i → (marks : Table Mark) (k : ℕ) → mark_at marks k ≡ cond (is_among (drop i ls) k) mark.Room (mark_at marks k)
unmarked_all ls i over marks k = ap (λ xs. cond (is_among xs k) mark.Room (mark_at marks k)) (sym (drop_all i ls over))

-- the item at a place is a member
pub among_at : (ls : List ℕ) (i x : ℕ) → i < length ls → x ≡ get_or ls i x → is_among ls x ≡ true
among_at ls i x inside e = among_from_contains ls x (i, inside, sym e)

-- literals that are no longer assumed are marked as `Room`
pub marks_without : (old new : Table Mark) (ls left room : List ℕ) (gone : ℕ → Bool) → ((l : ℕ) → mark_at new l ≡ cond (gone l) mark.Room (mark_at old l))
    → ((l : ℕ) → is_among left l ≡ cond (gone l) false (is_among ls l)) → ((l : ℕ) → gone l ≡ true → is_among ls l ≡ true) → NoRepeats left → AreMarks old ls room → AreMarks new left room
marks_without old new ls left room gone set rest there once are = record {
  each = λ l. set l ∙ ap (cond (gone l) mark.Room) (are.each l) ∙ go l (gone l) refl ∙ sym (ap (λ b. mark_for b (is_among room l)) (rest l));
  once = once;
  within = λ l h. among l (gone l) (sym (rest l) ∙ h);
}
  where
    go : (l : ℕ) (b : Bool) → gone l ≡ b → cond b mark.Room (mark_for (is_among ls l) (is_among room l)) ≡ mark_for (cond b false (is_among ls l)) (is_among room l)
    go l true e = sym (ap (mark_for false) (are.within l (there l e)))
    go l false e = refl

    among : (l : ℕ) (b : Bool) → cond b false (is_among ls l) ≡ true → is_among room l ≡ true
    among l true h = absurd (true≢false (sym h))
    among l false h = are.within l h

-- if a concatenation has no repeats, its parts share no literal
apart : (xs ys : List ℕ) → NoRepeats (xs ++ ys) → (l : ℕ) → is_among xs l ≡ true → is_among ys l ≡ false
apart [] ys h l e = absurd (true≢false (sym e))
apart (x ∷ xs) ys h l e =
    elim (or_cases (eqb x l) (is_among xs l) e) [
      | inl a ↦ subst (λ m. is_among ys m ≡ false) (eqb-true x l a) ((or_parts (is_among xs x) (is_among ys x) (sym (among-append xs ys x) ∙ h.0)).1)
      | inr b ↦ apart xs ys h.1 l b
    ]

following : (xs ys : List ℕ) → NoRepeats (xs ++ ys) → NoRepeats ys
following [] ys h = h
following (x ∷ xs) ys h = following xs ys h.1

-- the oldest `left` literals of a trail, the newest first
module _ (trail : List ℕ) (left : ℕ) where
  split : reverse (drop left trail) ++ reverse (take left trail) ≡ reverse trail
  split = sym (reverse-append (take left trail) (drop left trail)) ∙ ap reverse (take-append-drop left trail)

  either : (l : ℕ) → is_among (reverse trail) l ≡ (is_among (drop left trail) l || is_among (reverse (take left trail)) l)
  either l =
      ap (λ xs. is_among xs l) (sym split) ∙ among-append (reverse (drop left trail)) (reverse (take left trail)) l
      ∙ ap (λ b. b || is_among (reverse (take left trail)) l) (among-reverse (drop left trail) l)

  pub among_after : (l : ℕ) → is_among (drop left trail) l ≡ true → is_among (reverse trail) l ≡ true
  among_after l h = either l ∙ or_left (is_among (drop left trail) l) (is_among (reverse (take left trail)) l) h

  pub marks_left : (old new : Table Mark) (room : List ℕ) → AreMarks old (reverse trail) room → ((l : ℕ) → mark_at new l ≡ cond (is_among (drop left trail) l) mark.Room (mark_at old l)) → AreMarks new (reverse (take left trail)) room
  marks_left old new room are set =
      marks_without old new (reverse trail) (reverse (take left trail)) room (is_among (drop left trail)) set (λ l. go l (is_among (drop left trail) l) refl) among_after (following (reverse (drop left trail)) (reverse (take left trail)) parts) are
    where
      parts : NoRepeats (reverse (drop left trail) ++ reverse (take left trail))
      parts = subst NoRepeats (sym split) are.once

      go : (l : ℕ) (b : Bool) → is_among (drop left trail) l ≡ b → is_among (reverse (take left trail)) l ≡ cond b false (is_among (reverse trail) l)
      go l true e = apart (reverse (drop left trail)) (reverse (take left trail)) parts l (among-reverse (drop left trail) l ∙ e)
      go l false e = sym (either l ∙ ap (λ b. b || is_among (reverse (take left trail)) l) e)

  trail_left : (value : List ℕ) → reverse trail ≡ value → left ≤ length value → reverse (take left trail) ≡ drop (length value - left) value
  trail_left value is l =
      let long : length value ≡ length trail = ap length (sym is) ∙ length-reverse trail in
      let gone : length (reverse (drop left trail)) ≡ length trail - left = length-reverse (drop left trail) ∙ length-drop left trail in
      let n : length value - left ≡ length (reverse (drop left trail)) = omega (arith, long, gone) in
      sym (ap (λ k. drop k value) n ∙ ap (drop (length (reverse (drop left trail)))) (sym is ∙ sym split) ∙ drop-append_seam (reverse (drop left trail)) (reverse (take left trail)))

-- the literals after the newest are forgotten
pub undone : (trail room : List ℕ) (left : ℕ) (t : LiteralsAndRoom) → ◌≡◌ {A = LiteralsAndRoom} (record { literals = reverse trail; room = room }) t → left ≤ length t.literals
    → ◌≡◌ {A = LiteralsAndRoom} (record { literals = reverse (take left trail); room = room }) (record { literals = drop (length t.literals - left) t.literals; room = t.room })
undone trail room left t is l =
    ap (λ ls. record { literals = ls; room = room }) (trail_left trail left t.literals (ap (λ (u : LiteralsAndRoom). u.literals) is) l)
    ∙ ap (λ r. record { literals = drop (length t.literals - left) t.literals; room = r }) (ap (λ (u : LiteralsAndRoom). u.room) is)
