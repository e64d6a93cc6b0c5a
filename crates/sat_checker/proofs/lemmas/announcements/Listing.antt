-- How the ids that a conflict needs are listed.
use Rattle.std.proofs.Common.{ℕ, ◌+◌, ◌<◌, ◌≤◌, ◌≡◌, Bool, true, false, not, ◌&&◌, ◌||◌, cond, eqb, List, [], ◌∷◌, ◌++◌, length, drop, get_or, map, filter, reverse, refl, sym, ◌∙◌, ap, subst, arith, Option, Some, None, Result, Ok, Err, IfOk, inl, inr}
use Rattle.std.proofs.lemmas.Bool.{or_cases, or_left, or_right, and_parts, both_ways, eqb-true, eq-eqb, true≢false, false_from_ne_true}
use Rattle.std.proofs.lemmas.List.{drop_more, append_assoc, append-nil, reverse-reverse}
use Rattle.std.proofs.lemmas.List.Sorted.{Contains-permutation, IsPermutation-sym}
use Rattle.std.specs.List.{AllByRecursion, list_any}
use Rattle.std.specs.List.Sorted.{IsPermutation, IsSorted}
use Rattle.std.specs.Ordering.{nat_cmp}
use Rattle.sat_base.specs.values.Literals.{negated}
use Rattle.sat_checker.specs.LiteralSets.{is_among, is_tautology}
use Rattle.sat_checker.specs.Stored.{StoredUnit}
use Rattle.sat_checker.specs.Storing.{unit_id}
use Rattle.sat_checker.specs.inner.Marks.{NoRepeats, IsIncreasing}
use Rattle.sat_checker.specs.inner.WalkNotes.{WalkNotes}
use Rattle.sat_checker.specs.inner.Reasons.{clauses_by_hashes, ExplainsConflict}
use Rattle.sat_checker.specs.inner.SlotView.{Slot}
use Rattle.sat_checker.specs.announcements.Needed.{ConflictCauses, conflict_causes, needed_units, conflict_ids, or_else, satisfying_unit}
use Rattle.sat_checker.specs.announcements.Promises.{IsOneOf}
use Rattle.sat_checker.proofs.lemmas.sets.Canonical.{same_increasing, among_from_contains, contains_from_among}
use Rattle.sat_checker.proofs.lemmas.sets.Distinct.{sorted_increasing}
use Rattle.sat_checker.proofs.lemmas.sets.Merging.{nothing_left}
use Rattle.sat_checker.proofs.lemmas.sets.Order.{among-append, among-reverse}
use Rattle.sat_checker.proofs.lemmas.propagation.Members.{same_any}
use Rattle.sat_checker.proofs.lemmas.sets.Trails.{same_tests}
use Rattle.sat_checker.proofs.lemmas.announcements.Sorted.{few_increasing}
use Rattle.sat_checker.proofs.lemmas.announcements.Rests.{unit_found, not_both, both_from}
use Rattle.sat_checker.proofs.lemmas.announcements.Exact.{one_among}
use Rattle.sat_checker.proofs.lemmas.announcements.Marking.{or_none}
use Rattle.sat_checker.proofs.lemmas.announcements.Noting.{ground_same}

-- the notes explain the same for the units in any order
pub explained_units : {E : Type 0} (r : Result Bool E) (ss : List Slot) (passed : WalkNotes) (value : List StoredUnit) (assigned clause hashes : List ℕ) → ((l : ℕ) → is_among assigned l ≡ is_among (map (λ u. u.literal) value) l)
    → IfOk r (λ b. b ≡ true → list_any (is_among assigned) clause ≡ false → is_tautology clause ≡ false → ExplainsConflict ss passed (conflict_causes (map negated clause ++ assigned) (clauses_by_hashes hashes ss)))
    → IfOk r (λ b. b ≡ true → list_any (is_among (map (λ u. u.literal) value)) clause ≡ false → is_tautology clause ≡ false → ExplainsConflict ss passed (conflict_causes (map negated clause ++ map (λ u. u.literal) value) (clauses_by_hashes hashes ss)))
explained_units (Err e) ss passed value assigned clause hashes same h = tt
explained_units (Ok b) ss passed value assigned clause hashes same h = λ t n s.
    let units : List ℕ = map (λ u. u.literal) value in
    let front : (l : ℕ) → is_among (map negated clause ++ assigned) l ≡ is_among (map negated clause ++ units) l = λ l.
    among-append (map negated clause) assigned l ∙ ap (λ d. is_among (map negated clause) l || d) (same l) ∙ sym (among-append (map negated clause) units l) in
    subst (ExplainsConflict ss passed) (ground_same (clauses_by_hashes hashes ss) (map negated clause ++ assigned) (map negated clause ++ units) front) (h t (same_any assigned units clause same ∙ n) s)

-- the ids with the id of one literal added, unless the literal is denied or has none
abbrev pub unless_denied : Bool → Option ℕ → List ℕ → List ℕ
unless_denied true id ids = ids
unless_denied false None ids = ids
unless_denied false (Some id) ids = id ∷ ids

-- the ids of the literals that are units and are not denied
abbrev pub unit_ids_of : List ℕ → List StoredUnit → List ℕ → List ℕ
unit_ids_of denied units [] = []
unit_ids_of denied units (l ∷ ls) = unless_denied (is_among denied l) (unit_id l units) (unit_ids_of denied units ls)

-- the ids after one more literal is visited
module _ (denied : List ℕ) (units : List StoredUnit) (ls : List ℕ) (i : ℕ) (inside : i < length ls) (ids all : List ℕ) (left : ids ++ unit_ids_of denied units (drop i ls) ≡ all) where
  next : ids ++ unless_denied (is_among denied (get_or ls i 0)) (unit_id (get_or ls i 0) units) (unit_ids_of denied units (drop (i + 1) ls)) ≡ all
  next = ap (λ xs. ids ++ unit_ids_of denied units xs) (sym (drop_more ls i 0 inside)) ∙ left

  pub id_denied : is_among denied (get_or ls i 0) ≡ true → ids ++ unit_ids_of denied units (drop (i + 1) ls) ≡ all
  id_denied e = ap (λ b. ids ++ unless_denied b (unit_id (get_or ls i 0) units) (unit_ids_of denied units (drop (i + 1) ls))) (sym e) ∙ next

  pub id_of_none : is_among denied (get_or ls i 0) ≡ false → unit_id (get_or ls i 0) units ≡ None → ids ++ unit_ids_of denied units (drop (i + 1) ls) ≡ all
  id_of_none e n =
      ap (λ o. ids ++ unless_denied false o (unit_ids_of denied units (drop (i + 1) ls))) (sym n) ∙ ap (λ b. ids ++ unless_denied b (unit_id (get_or ls i 0) units) (unit_ids_of denied units (drop (i + 1) ls))) (sym e) ∙ next

  pub id_taken : (id : ℕ) (new : List ℕ) → is_among denied (get_or ls i 0) ≡ false → unit_id (get_or ls i 0) units ≡ Some id → new ≡ ids ++ id ∷ [] → new ++ unit_ids_of denied units (drop (i + 1) ls) ≡ all
  id_taken id new e s n =
      let rest : List ℕ = unit_ids_of denied units (drop (i + 1) ls) in
      ap (λ xs. xs ++ rest) n ∙ append_assoc ids (id ∷ []) rest ∙ ap (λ o. ids ++ unless_denied false o rest) (sym s) ∙ ap (λ b. ids ++ unless_denied b (unit_id (get_or ls i 0) units) rest) (sym e) ∙ next

pub ruleset listing = (id_denied, id_of_none, id_taken)

pub all_taken : (denied : List ℕ) (units : List StoredUnit) (ls : List ℕ) (i : ℕ) (ids all : List ℕ) → length ls ≤ i → ids ++ unit_ids_of denied units (drop i ls) ≡ all → ids ≡ all
all_taken denied units ls i ids all l h = sym (append-nil ids) ∙ ap (λ xs. ids ++ unit_ids_of denied units xs) (sym (nothing_left ls i l)) ∙ h

-- the id of the first literal that is a unit
module _ (units : List StoredUnit) (ls : List ℕ) (i : ℕ) (inside : i < length ls) where
  pub true_here : (id : ℕ) → unit_id (get_or ls i 0) units ≡ Some id → satisfying_unit (drop i ls) units ≡ Some id
  true_here id e = ap (λ xs. satisfying_unit xs units) (drop_more ls i 0 inside) ∙ ap (λ o. or_else o (satisfying_unit (drop (i + 1) ls) units)) e

  pub true_later : unit_id (get_or ls i 0) units ≡ None → satisfying_unit (drop i ls) units ≡ satisfying_unit (drop (i + 1) ls) units
  true_later e = ap (λ xs. satisfying_unit xs units) (drop_more ls i 0 inside) ∙ ap (λ o. or_else o (satisfying_unit (drop (i + 1) ls) units)) e

pub ruleset finding_true = (true_here, true_later)

-- a literal of the list that is not denied and whose unit has this id
pub record Giver (denied : List ℕ) (units : List StoredUnit) (ls : List ℕ) (id : ℕ) : Type 0 where
  pub literal : ℕ
  pub within : is_among ls literal ≡ true
  pub allowed : is_among denied literal ≡ false
  pub is : unit_id literal units ≡ Some id

module _ (denied : List ℕ) (units : List StoredUnit) where
  giver : (ls : List ℕ) (id : ℕ) → is_among (unit_ids_of denied units ls) id ≡ true → Giver denied units ls id
  giver [] id e = absurd (true≢false (sym e))
  giver (l ∷ ls) id e = go (giver ls id) (is_among denied l) refl (unit_id l units) refl e
    where
      later : Giver denied units ls id → Giver denied units (l ∷ ls) id
      later g = record { literal = g.literal; within = or_right (eqb l g.literal) (is_among ls g.literal) g.within; allowed = g.allowed; is = g.is }

      go : (is_among (unit_ids_of denied units ls) id ≡ true → Giver denied units ls id) → (b : Bool) → is_among denied l ≡ b → (o : Option ℕ) → unit_id l units ≡ o → is_among (unless_denied b o (unit_ids_of denied units ls)) id ≡ true → Giver denied units (l ∷ ls) id
      go ih true d o s k = later (ih k)
      go ih false d None s k = later (ih k)
      go ih false d (Some i) s k =
          elim (or_cases (eqb i id) (is_among (unit_ids_of denied units ls) id) k) [
            | inl q ↦ record { literal = l; within = or_left (eqb l l) (is_among ls l) (eq-eqb l l refl); allowed = d; is = s ∙ ap Some (eqb-true i id q) }
            | inr r ↦ later (ih r)
          ]

  given : (ls : List ℕ) (l id : ℕ) → is_among ls l ≡ true → is_among denied l ≡ false → unit_id l units ≡ Some id → is_among (unit_ids_of denied units ls) id ≡ true
  given [] l id m d s = absurd (true≢false (sym m))
  given (x ∷ xs) l id m d s = elim (or_cases (eqb x l) (is_among xs l) m) [
    | inl q ↦
        let same : l ≡ x = sym (eqb-true x l q) in
        ap (λ b. is_among (unless_denied b (unit_id x units) (unit_ids_of denied units xs)) id) (ap (is_among denied) (sym same) ∙ d)
        ∙ ap (λ o. is_among (unless_denied false o (unit_ids_of denied units xs)) id) (ap (λ y. unit_id y units) (sym same) ∙ s) ∙ or_left (eqb id id) (is_among (unit_ids_of denied units xs) id) (eq-eqb id id refl)
    | inr r ↦ still (is_among denied x) (unit_id x units) (given xs l id r d s)
  ]
    where
      still : (b : Bool) (o : Option ℕ) → is_among (unit_ids_of denied units xs) id ≡ true → is_among (unless_denied b o (unit_ids_of denied units xs)) id ≡ true
      still true o k = k
      still false None k = k
      still false (Some i) k = or_right (eqb i id) (is_among (unit_ids_of denied units xs) id) k

-- a unit with this id that passes the filter
pub record Left (p : StoredUnit → Bool) (us : List StoredUnit) (id : ℕ) : Type 0 where
  pub unit : StoredUnit
  pub stored : IsOneOf unit us
  pub passes : p unit ≡ true
  pub id_is : unit.id ≡ id

left_by : (p : StoredUnit → Bool) (us : List StoredUnit) (id : ℕ) → is_among (map (λ u. u.id) (filter p us)) id ≡ true → Left p us id
left_by p [] id e = absurd (true≢false (sym e))
left_by p (u ∷ us) id e = go (left_by p us id) (p u) refl e
  where
    later : Left p us id → Left p (u ∷ us) id
    later k = record { unit = k.unit; stored = inr k.stored; passes = k.passes; id_is = k.id_is }

    go : (is_among (map (λ w. w.id) (filter p us)) id ≡ true → Left p us id) → (b : Bool) → p u ≡ b → is_among (map (λ w. w.id) (cond b (u ∷ filter p us) (filter p us))) id ≡ true → Left p (u ∷ us) id
    go ih true t k =
        elim (or_cases (eqb u.id id) (is_among (map (λ w. w.id) (filter p us)) id) k) [ inl q ↦ record { unit = u; stored = inl refl; passes = t; id_is = eqb-true u.id id q } | inr r ↦ later (ih r) ]
    go ih false t k = later (ih k)

is_left : (p : StoredUnit → Bool) (us : List StoredUnit) (u : StoredUnit) → IsOneOf u us → p u ≡ true → is_among (map (λ w. w.id) (filter p us)) u.id ≡ true
is_left p [] u h t = absurd h
is_left p (w ∷ ws) u h t = elim h [
  | inl e ↦
      ap (λ b. is_among (map (λ x. x.id) (cond b (w ∷ filter p ws) (filter p ws))) u.id) (ap p (sym e) ∙ t)
      ∙ or_left (eqb w.id u.id) (is_among (map (λ x. x.id) (filter p ws)) u.id) (eq-eqb w.id u.id (ap (λ (x : StoredUnit). x.id) (sym e)))
  | inr k ↦ still (p w) (is_left p ws u k t)
]
  where
    still : (b : Bool) → is_among (map (λ x. x.id) (filter p ws)) u.id ≡ true → is_among (map (λ x. x.id) (cond b (w ∷ filter p ws) (filter p ws))) u.id ≡ true
    still true k = or_right (eqb w.id u.id) (is_among (map (λ x. x.id) (filter p ws)) u.id) k
    still false k = k

-- different units have different literals and different ids
id_of_stored : (us : List StoredUnit) (u : StoredUnit) → NoRepeats (map (λ w. w.literal) us) → IsOneOf u us → unit_id u.literal us ≡ Some u.id
id_of_stored [] u n h = absurd h
id_of_stored (w ∷ ws) u n h = elim h [
  | inl e ↦
      ap (λ b. cond b (Some w.id) (unit_id u.literal ws)) (eq-eqb w.literal u.literal (ap (λ (x : StoredUnit). x.literal) (sym e))) ∙ ap (λ (x : StoredUnit). Some x.id) (sym e)
  | inr k ↦ go (eqb w.literal u.literal) refl (id_of_stored ws u n.1 k) k
]
  where
    go : (b : Bool) → eqb w.literal u.literal ≡ b → unit_id u.literal ws ≡ Some u.id → IsOneOf u ws → cond b (Some w.id) (unit_id u.literal ws) ≡ Some u.id
    go true e ih k = absurd (both_ways (is_among (map (λ x. x.literal) ws) w.literal) n.0 (ap (is_among (map (λ x. x.literal) ws)) (eqb-true w.literal u.literal e) ∙ one_among u ws k))
    go false e ih k = ih

above : (id : ℕ) (us : List StoredUnit) (u : StoredUnit) → AllByRecursion (λ i. id < i) (map (λ w. w.id) us) → IsOneOf u us → id < u.id
above id [] u h k = absurd k
above id (w ∷ ws) u h k = elim k [ inl e ↦ subst (λ (x : StoredUnit). id < x.id) (sym e) h.0 | inr t ↦ above id ws u h.1 t ]

same_unit : (us : List StoredUnit) (u w : StoredUnit) → IsIncreasing (map (λ x. x.id) us) → IsOneOf u us → IsOneOf w us → u.id ≡ w.id → u.literal ≡ w.literal
same_unit [] u w i h k e = absurd h
same_unit (x ∷ xs) u w i h k e = elim h [
  | inl a ↦ elim k [
    | inl b ↦ ap (λ (y : StoredUnit). y.literal) a ∙ ap (λ (y : StoredUnit). y.literal) (sym b)
    | inr b ↦ let l : x.id < w.id = above x.id xs w i.0 b in let s : u.id ≡ x.id = ap (λ (y : StoredUnit). y.id) a in absurd (omega arith)
  ]
  | inr a ↦ elim k [
    | inl b ↦ let l : x.id < u.id = above x.id xs u i.0 a in let s : w.id ≡ x.id = ap (λ (y : StoredUnit). y.id) b in absurd (omega arith)
    | inr b ↦ same_unit xs u w i.1 a b e
  ]
]

-- different literals have different ids
ids_once : (denied : List ℕ) (units : List StoredUnit) (ls : List ℕ) → IsIncreasing (map (λ u. u.id) units) → NoRepeats ls → NoRepeats (unit_ids_of denied units ls)
ids_once denied units [] i n = tt
ids_once denied units (l ∷ ls) i n = go (is_among denied l) (unit_id l units) refl (ids_once denied units ls i n.1)
  where
    go : (b : Bool) (o : Option ℕ) → unit_id l units ≡ o → NoRepeats (unit_ids_of denied units ls) → NoRepeats (unless_denied b o (unit_ids_of denied units ls))
    go true o s ih = ih
    go false None s ih = ih
    go false (Some id) s ih = (false_from_ne_true (is_among (unit_ids_of denied units ls) id) (λ t. other id s (giver denied units ls id t)), ih)
      where
        other : (id : ℕ) → unit_id l units ≡ Some id → Giver denied units ls id → ⊥
        other id s g =
            let a = unit_found l id units s in
            let b = unit_found g.literal id units g.is in
            let same : l ≡ g.literal = sym a.literal_is ∙ same_unit units a.unit b.unit i a.stored b.stored (a.id_is ∙ sym b.id_is) ∙ b.literal_is in
            both_ways (is_among ls l) n.0 (ap (is_among ls) same ∙ g.within)

-- The sorted ids of the marked literals that are units and not denied are those of the needed units.
pub units_listed : (denied marked : List ℕ) (units : List StoredUnit) (ls ids sorted : List ℕ) → ls ≡ reverse marked → NoRepeats ls → NoRepeats (map (λ u. u.literal) units) → ids ≡ unit_ids_of denied units ls → IsPermutation ids sorted → IsSorted nat_cmp sorted
    → (g : ConflictCauses) → ((m : ℕ) → is_among marked m ≡ is_among g.literals m) → IsIncreasing (map (λ u. u.id) units) → sorted ≡ map (λ u. u.id) (needed_units denied g units)
units_listed denied marked units ls ids sorted r n u e p s g same i =
    same_increasing sorted (map (λ w. w.id) (needed_units denied g units)) (sorted_increasing ids sorted (subst NoRepeats (sym e) (ids_once denied units ls i n)) p s) (few_increasing test units i) (λ m. same_tests _ _ (forth m) (back m))
  where
    test : StoredUnit → Bool
    test w = is_among g.literals w.literal && not (is_among denied w.literal)

    marked_in : (m : ℕ) → is_among ls m ≡ is_among g.literals m
    marked_in m = ap (λ xs. is_among xs m) r ∙ among-reverse marked m ∙ same m

    forth : (m : ℕ) → is_among sorted m ≡ true → is_among (map (λ w. w.id) (filter test units)) m ≡ true
    forth m k =
        let c = among_from_contains ids m (Contains-permutation sorted ids m (IsPermutation-sym ids sorted p) (contains_from_among sorted m k)) in
        let v = giver denied units ls m (ap (λ xs. is_among xs m) (sym e) ∙ c) in
        let w = unit_found v.literal m units v.is in
        ap (is_among (map (λ x. x.id) (filter test units))) (sym w.id_is)
        ∙ is_left test units w.unit w.stored (both_from (is_among g.literals w.unit.literal) (is_among denied w.unit.literal) (ap (is_among g.literals) w.literal_is ∙ sym (marked_in v.literal) ∙ v.within) (ap (is_among denied) w.literal_is ∙ v.allowed))

    back : (m : ℕ) → is_among (map (λ w. w.id) (filter test units)) m ≡ true → is_among sorted m ≡ true
    back m k =
        let w = left_by test units m k in
        let parts = and_parts (is_among g.literals w.unit.literal) (not (is_among denied w.unit.literal)) w.passes in
        let d : is_among denied w.unit.literal ≡ false = not_both (is_among g.literals w.unit.literal) (is_among denied w.unit.literal) w.passes in
        let c = given denied units ls w.unit.literal m (marked_in w.unit.literal ∙ parts.0) d (id_of_stored units w.unit u w.stored ∙ ap Some w.id_is) in
        among_from_contains sorted m (Contains-permutation ids sorted m p (contains_from_among ids m (ap (λ xs. is_among xs m) e ∙ c)))

-- filters that agree everywhere give the same units; the order of denied literals does not matter
few_same : (p q : StoredUnit → Bool) (us : List StoredUnit) → ((u : StoredUnit) → p u ≡ q u) → filter p us ≡ filter q us
few_same p q [] h = refl
few_same p q (u ∷ us) h = ap (λ b. cond b (u ∷ filter p us) (filter p us)) (h u) ∙ ap (λ xs. cond (q u) (u ∷ xs) xs) (few_same p q us h)

pub denied_same : (xs ys : List ℕ) (g : ConflictCauses) (units : List StoredUnit) → ((m : ℕ) → is_among xs m ≡ is_among ys m) → conflict_ids xs g units ≡ conflict_ids ys g units
denied_same xs ys g units same =
    ap (λ us. map (λ (u : StoredUnit). u.id) us ++ map (λ c. c.id) g.clauses)
    (few_same (λ u. is_among g.literals u.literal && not (is_among xs u.literal)) (λ u. is_among g.literals u.literal && not (is_among ys u.literal)) units (λ u. ap (λ b. is_among g.literals u.literal && not b) (same u.literal)))

pub marked_anew : (marked new xs : List ℕ) → marked ≡ [] → ((m : ℕ) → is_among new m ≡ (is_among xs m || is_among marked m)) → (m : ℕ) → is_among new m ≡ is_among xs m
marked_anew marked new xs e h m = h m ∙ ap (λ ys. is_among xs m || is_among ys m) e ∙ or_none (is_among xs m)

-- the remaining literals while the marked literals are visited one by one
pub all_left : (marked items : List ℕ) (m : ℕ) → items ≡ reverse marked → is_among marked m ≡ true → is_among items m ≡ true
all_left marked items m e t = ap (λ xs. is_among xs m) e ∙ among-reverse marked m ∙ t

pub still_left : (units items : List ℕ) (i m : ℕ) → i < length items → is_among units (get_or items i 0) ≡ false → is_among units m ≡ true → is_among (drop i items) m ≡ true → is_among (drop (i + 1) items) m ≡ true
still_left units items i m l n u h = elim (or_cases (eqb (get_or items i 0) m) (is_among (drop (i + 1) items) m) (ap (λ xs. is_among xs m) (sym (drop_more items i 0 l)) ∙ h)) [
  | inl e ↦ absurd (true≢false (sym u ∙ ap (is_among units) (sym (eqb-true (get_or items i 0) m e)) ∙ n))
  | inr r ↦ r
]

pub none_left_over : (units items : List ℕ) (i m : ℕ) → length items ≤ i → (is_among units m ≡ true → is_among (drop i items) m ≡ true) → is_among units m ≡ false
none_left_over units items i m l h = go (is_among units m) refl
  where
    go : (b : Bool) → is_among units m ≡ b → b ≡ false
    go true e = absurd (true≢false (sym (h e) ∙ ap (λ xs. is_among xs m) (nothing_left items i l)))
    go false e = refl

-- no unit is needed if no needed literal is a unit
no_units : (denied literals : List ℕ) (us : List StoredUnit) → ((l : ℕ) → is_among literals l ≡ true → is_among (map (λ u. u.literal) us) l ≡ false) → filter (λ u. is_among literals u.literal && not (is_among denied u.literal)) us ≡ []
no_units denied literals [] h = refl
no_units denied literals (u ∷ us) h = go (no_units denied literals us) (is_among literals u.literal) refl
  where
    later : (a b : Bool) → (a || b) ≡ false → b ≡ false
    later true b e = absurd (true≢false e)
    later false b e = e

    go : (((l : ℕ) → is_among literals l ≡ true → is_among (map (λ v. v.literal) us) l ≡ false) → filter (λ v. is_among literals v.literal && not (is_among denied v.literal)) us ≡ []) → (b : Bool) → is_among literals u.literal ≡ b
        → cond (b && not (is_among denied u.literal)) (u ∷ filter (λ v. is_among literals v.literal && not (is_among denied v.literal)) us) (filter (λ v. is_among literals v.literal && not (is_among denied v.literal)) us) ≡ []
    go ih true e = absurd (true≢false (sym (or_left (eqb u.literal u.literal) (is_among (map (λ v. v.literal) us) u.literal) (eq-eqb u.literal u.literal refl)) ∙ h u.literal e))
    go ih false e = ih (λ l k. later (eqb u.literal l) (is_among (map (λ v. v.literal) us) l) (h l k))

pub clauses_alone : (denied marked ids listed : List ℕ) (g : ConflictCauses) (us : List StoredUnit) → ((m : ℕ) → is_among marked m ≡ is_among g.literals m) → ((l : ℕ) → is_among marked l ≡ true → is_among (map (λ u. u.literal) us) l ≡ false)
    → ids ≡ reverse (map (λ c. c.id) g.clauses) → listed ≡ [] ++ reverse ids → listed ≡ conflict_ids denied g us
clauses_alone denied marked ids listed g us same none i e =
    e ∙ ap reverse i ∙ reverse-reverse (map (λ c. c.id) g.clauses) ∙ ap (λ xs. map (λ (u : StoredUnit). u.id) xs ++ map (λ c. c.id) g.clauses) (sym (no_units denied g.literals us (λ l k. none l (same l ∙ k))))
