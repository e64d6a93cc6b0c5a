-- Marks of literals that have room, and the largest number of assumed literals.
use Rattle.std.proofs.Common.{ℕ, suc, ◌≤◌, ◌≡◌, ◌≢◌, ◌∙◌, Bool, true, false, cond, ◌||◌, eqb, List, [], ◌∷◌, length, refl, sym, ap, subst, arith, inl, inr}
use Rattle.std.proofs.lemmas.Bool.{or_cases, or_left, or_right, eqb-true, eq-eqb, true≢false, both_ways}
use Rattle.sat_base.specs.declared.table.Table.{Table}
use Rattle.sat_base.specs.values.Tables.{HasPlaceFor}
use Rattle.sat_base.specs.values.Literals.{negated}
use Rattle.sat_base.proofs.lemmas.values.TableLemmas.{has_room}
use Rattle.sat_checker.specs.LiteralSets.{is_among}
use Rattle.sat_checker.specs.SortedSets.{NoRepeats}
use Rattle.sat_checker.specs.inner.Marks.{mark_at, mark_for, AreMarks}
use Rattle.sat_checker.specs.inner.AssumedRoom.{with_room, RoomIsKept}
use Rattle.sat_checker.specs.declared.units.assigned.Mark.{Mark}
use Rattle.sat_checker.specs.declared.units.assigned.Mark.TheVariants as mark
use Rattle.sat_checker.proofs.lemmas.propagation.Soundness.{negated-negated}
use Rattle.sat_checker.proofs.lemmas.sets.Trails.{same_tests}
use Rattle.sat_checker.proofs.lemmas.store.Places.{eqb_comm}

-- the list without the first occurrence of a number
taken : ℕ → List ℕ → List ℕ
taken x [] = []
taken x (y ∷ ys) = cond (eqb y x) ys (y ∷ taken x ys)

shorter : (x : ℕ) (ys : List ℕ) → is_among ys x ≡ true → suc (length (taken x ys)) ≡ length ys
unfolding taken
shorter x [] h = absurd (true≢false (sym h))
shorter x (y ∷ ys) h = go (eqb y x) h (shorter x ys)
  where
    go : (b : Bool) → (b || is_among ys x) ≡ true → (is_among ys x ≡ true → suc (length (taken x ys)) ≡ length ys) → suc (length (cond b ys (y ∷ taken x ys))) ≡ suc (length ys)
    go true k ih = refl
    go false k ih = ap suc (ih k)

left : (x l : ℕ) (ys : List ℕ) → eqb x l ≡ false → is_among ys l ≡ true → is_among (taken x ys) l ≡ true
unfolding taken
left x l [] n h = h
left x l (y ∷ ys) n h = go (eqb y x) refl (left x l ys n)
  where
    go : (b : Bool) → eqb y x ≡ b → (is_among ys l ≡ true → is_among (taken x ys) l ≡ true) → is_among (cond b ys (y ∷ taken x ys)) l ≡ true
    go true e ih = elim (or_cases (eqb y l) (is_among ys l) h) [ inl s ↦ absurd (both_ways (eqb x l) n (subst (λ z. eqb z l ≡ true) (eqb-true y x e) s)) | inr k ↦ k ]
    go false e ih = elim (or_cases (eqb y l) (is_among ys l) h) [ inl s ↦ or_left (eqb y l) (is_among (taken x ys) l) s | inr k ↦ or_right (eqb y l) (is_among (taken x ys) l) (ih k) ]

-- a list without repeats is at most as long as a list with all its members
pub few : (xs ys : List ℕ) → NoRepeats xs → ((l : ℕ) → is_among xs l ≡ true → is_among ys l ≡ true) → length xs ≤ length ys
few [] ys n h = omega arith
few (x ∷ xs) ys n h =
    let one : suc (length (taken x ys)) ≡ length ys = shorter x ys (h x (or_left (eqb x x) (is_among xs x) (eq-eqb x x refl))) in
    let rest : length xs ≤ length (taken x ys) = few xs (taken x ys) n.1 (λ l m. left x l ys (other l m (eqb x l) refl) (h l (or_right (eqb x l) (is_among xs l) m))) in
    omega arith
  where
    other : (l : ℕ) → is_among xs l ≡ true → (b : Bool) → eqb x l ≡ b → b ≡ false
    other l m false e = refl
    other l m true e = absurd (both_ways (is_among xs l) (subst (λ z. is_among xs z ≡ false) (eqb-true x l e) n.0) m)

-- a mark as a number
code : Mark → ℕ
code mark.NoRoom = 0
code mark.Room = 1
code mark.Assumed = 2

not_closed : (b : Bool) → mark_for b true ≢ mark.NoRoom
unfolding code
not_closed true e = let k = ap code e in absurd cc
not_closed false e = let k = ap code e in absurd cc

-- a literal that has room can be marked
pub has_place : (marks : Table Mark) (ls room : List ℕ) (l : ℕ) → AreMarks marks ls room → is_among room l ≡ true → HasPlaceFor marks l
has_place marks ls room l are h = has_room mark.NoRoom marks l (λ e. not_closed (is_among ls l) (sym (are.each l ∙ ap (mark_for (is_among ls l)) h) ∙ e))

-- the assumed literals still have room after one more that has room is assumed
pub within_more : (ls room : List ℕ) (l : ℕ) → ((k : ℕ) → is_among ls k ≡ true → is_among room k ≡ true) → is_among room l ≡ true → (k : ℕ) → is_among (l ∷ ls) k ≡ true → is_among room k ≡ true
within_more ls room l within there k h = elim (or_cases (eqb l k) (is_among ls k) h) [ inl e ↦ subst (λ x. is_among room x ≡ true) (eqb-true l k e) there | inr a ↦ within k a ]

-- the marks after one more literal is assumed
pub newly_assumed : (old new : Table Mark) (ls room : List ℕ) (l : ℕ) → ((k : ℕ) → mark_at new k ≡ cond (eqb k l) mark.Assumed (mark_at old k)) → is_among ls l ≡ false → is_among room l ≡ true
    → AreMarks old ls room → AreMarks new (l ∷ ls) room
newly_assumed old new ls room l set fresh there are = record {
  each = λ k. set k ∙ ap (cond (eqb k l) mark.Assumed) (are.each k) ∙ either (eqb k l) (is_among ls k) (is_among room k) ∙ ap (λ b. mark_for (b || is_among ls k) (is_among room k)) (eqb_comm k l);
  once = (fresh, are.once);
  within = within_more ls room l are.within there;
}
  where
    either : (b d r : Bool) → cond b mark.Assumed (mark_for d r) ≡ mark_for (b || d) r
    either true d r = refl
    either false d r = refl

-- the marks after one more literal gets room
pub newly_roomy : (old new : Table Mark) (ls room : List ℕ) (l : ℕ) → ((k : ℕ) → mark_at new k ≡ cond (eqb k l) mark.Room (mark_at old k)) → is_among room l ≡ false → AreMarks old ls room → AreMarks new ls (l ∷ room)
newly_roomy old new ls room l set fresh are = record {
  each = λ k. set k ∙ ap (cond (eqb k l) mark.Room) (are.each k) ∙ go k (eqb k l) refl;
  once = are.once;
  within = λ k h. or_right (eqb l k) (is_among room k) (are.within k h);
}
  where
    none : (b : Bool) → is_among ls l ≡ b → b ≡ false
    none false e = refl
    none true e = absurd (both_ways (is_among room l) fresh (are.within l e))

    go : (k : ℕ) (b : Bool) → eqb k l ≡ b → cond b mark.Room (mark_for (is_among ls k) (is_among room k)) ≡ mark_for (is_among ls k) (eqb l k || is_among room k)
    go k true e =
        let same = eqb-true k l e in
        sym (ap (λ x. mark_for (is_among ls x) (eqb l x || is_among room x)) same ∙ ap (λ b. mark_for b (eqb l l || is_among room l)) (none (is_among ls l) refl) ∙ ap (λ b. mark_for false (b || is_among room l)) (eq-eqb l l refl))
    go k false e = ap (λ b. mark_for (is_among ls k) (b || is_among room k)) (sym (eqb_comm l k ∙ e))

pub room_there : (l : ℕ) (room : List ℕ) → is_among (with_room l room) l ≡ true
room_there l room = go (is_among room l) refl
  where
    go : (b : Bool) → is_among room l ≡ b → is_among (cond b room (l ∷ negated l ∷ room)) l ≡ true
    go true e = e
    go false e = or_left (eqb l l) (eqb (negated l) l || is_among room l) (eq-eqb l l refl)

pub room_stays : (l : ℕ) (room : List ℕ) → RoomIsKept room (with_room l room)
room_stays l room k h = go (is_among room l)
  where
    go : (b : Bool) → is_among (cond b room (l ∷ negated l ∷ room)) k ≡ true
    go true = h
    go false = or_right (eqb l k) (eqb (negated l) k || is_among room k) (or_right (eqb (negated l) k) (is_among room k) h)

pub stays_further : (xs ys zs : List ℕ) → RoomIsKept xs ys → RoomIsKept ys zs → RoomIsKept xs zs
stays_further xs ys zs h k l m = k l (h l m)

-- the negation of `x` is `y` exactly if `x` is the negation of `y`
turned : (x y : ℕ) → eqb (negated x) y ≡ eqb x (negated y)
turned x y = same_tests _ _
    (λ h. eq-eqb x (negated y) (sym (negated-negated x) ∙ ap negated (eqb-true (negated x) y h)))
    (λ h. eq-eqb (negated x) y (ap negated (eqb-true x (negated y) h) ∙ negated-negated y))

-- after a literal and its negation get room, literals still have room exactly if their negations do
pub paired_more : (l : ℕ) (room : List ℕ) → ((k : ℕ) → is_among room k ≡ is_among room (negated k)) → (k : ℕ) → is_among (l ∷ negated l ∷ room) k ≡ is_among (l ∷ negated l ∷ room) (negated k)
paired_more l room p k =
    ap (λ b. eqb l k || (eqb (negated l) k || b)) (p k) ∙ swapped (eqb l k) (eqb (negated l) k) (is_among room (negated k))
    ∙ ap (λ b. b || (eqb l k || is_among room (negated k))) (turned l k) ∙ ap (λ b. eqb l (negated k) || (b || is_among room (negated k))) (sym (turned l (negated k) ∙ ap (eqb l) (negated-negated k)))
  where
    swapped : (a b d : Bool) → (a || (b || d)) ≡ (b || (a || d))
    swapped true true d = refl
    swapped true false d = refl
    swapped false true d = refl
    swapped false false d = refl
