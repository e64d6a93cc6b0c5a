-- Units, as they are added and looked up.
use Rattle.std.proofs.Common.{ℕ, ◌≡◌, Bool, true, false, ◌||◌, cond, eqb, List, [], ◌∷◌, ◌++◌, length, map, reverse, Some, None, refl, sym, ◌∙◌, ap, subst, Result, Ok, Err, IfOk, ◌↔◌}
use Rattle.std.proofs.lemmas.Bool.{eq-eqb, ne_eqb, eqb-true, eqb-false, or_parts, or_from}
use Rattle.std.proofs.lemmas.List.{reverse-append, length-reverse, map-append}
use Rattle.std.specs.List.{list_any}
use Rattle.std.specs.Result.{OnErr}
use Rattle.sat_base.specs.values.Literals.{negated}
use Rattle.sat_checker.specs.LiteralSets.{is_among}
use Rattle.sat_checker.specs.Propagation.{PassesCheck}
use Rattle.sat_checker.specs.Stored.{Stored, StoredUnit, unit_literals, bucket}
use Rattle.sat_checker.specs.Accepts.{PassesByHashes}
use Rattle.sat_checker.specs.inner.StoreView.{RepresentsClauses}
use Rattle.sat_checker.specs.declared.store.Store.{Store}
use Rattle.sat_checker.proofs.lemmas.propagation.Members.{same_passes}
use Rattle.sat_checker.proofs.lemmas.propagation.Soundness.{negated-negated}
use Rattle.sat_checker.specs.Storing.{unit_id}
use Rattle.sat_checker.proofs.lemmas.sets.Order.{among-append, among-reverse}
use Rattle.sat_checker.proofs.lemmas.sets.Subsets.{any_true, some_of}
use Rattle.sat_checker.specs.inner.AssumedRoom.{HasStoredRoom}
use Rattle.sat_checker.specs.inner.LitNumbers.{number_at, place_at, AreTrailPlaces}
use Rattle.sat_checker.specs.inner.Marks.{NoRepeats}
use Rattle.sat_checker.specs.inner.UnitView.{UnitsInvariant}
use Rattle.sat_checker.specs.declared.units.lit_numbers.LitNumbers.{LitNumbers}
use Rattle.sat_checker.specs.declared.units.lit_numbers.LitPlaces.{LitPlaces}
use Rattle.sat_checker.proofs.lemmas.sets.Trails.{same_tests, placed_more}

pub among_units : (us value : List StoredUnit) (ids : LitNumbers) (places : LitPlaces) (assigned : List ℕ) → us ≡ value → UnitsInvariant us ids places assigned → (l : ℕ) → is_among assigned l ≡ is_among (map (λ u. u.literal) value) l
among_units us value ids places assigned is u l = u.assumed l ∙ ap (λ v. is_among (map (λ (w : StoredUnit). w.literal) v) l) is

eqb_turned : (x y : ℕ) → eqb x y ≡ eqb y x
eqb_turned x y = go (eqb x y) refl
  where
    go : (b : Bool) → eqb x y ≡ b → b ≡ eqb y x
    go true e = sym (eq-eqb y x (sym (eqb-true x y e)))
    go false e = sym (ne_eqb y x (λ s. eqb-false x y e (sym s)))

-- after a unit is added
more_numbered : (us : List StoredUnit) (u : StoredUnit) (l : ℕ) → is_among (map (λ w. w.literal) us) u.literal ≡ false → unit_id l (us ++ u ∷ []) ≡ cond (eqb l u.literal) (Some u.id) (unit_id l us)
more_numbered [] u l n = ap (λ b. cond b (Some u.id) None) (eqb_turned u.literal l)
more_numbered (w ∷ ws) u l n = let parts = or_parts (eqb w.literal u.literal) (is_among (map (λ x. x.literal) ws) u.literal) n in go (eqb w.literal l) refl parts.0 (more_numbered ws u l parts.1)
  where
    go : (b : Bool) → eqb w.literal l ≡ b → eqb w.literal u.literal ≡ false → unit_id l (ws ++ u ∷ []) ≡ cond (eqb l u.literal) (Some u.id) (unit_id l ws)
        → cond b (Some w.id) (unit_id l (ws ++ u ∷ [])) ≡ cond (eqb l u.literal) (Some u.id) (cond b (Some w.id) (unit_id l ws))
    go true e d ih = ap (λ b. cond b (Some u.id) (Some w.id)) (sym (ap (λ x. eqb x u.literal) (sym (eqb-true w.literal l e)) ∙ d))
    go false e d ih = ih

once_more : (ls : List ℕ) (l : ℕ) → NoRepeats ls → is_among ls l ≡ false → NoRepeats (ls ++ l ∷ [])
once_more [] l once n = (refl, tt)
once_more (m ∷ ms) l once n =
    let parts = or_parts (eqb m l) (is_among ms l) n in
    (among-append ms (l ∷ []) m ∙ or_from (is_among ms m) (eqb l m || false) once.0 (or_from (eqb l m) false (eqb_turned l m ∙ parts.0) refl), once_more ms l once.1 parts.1)

pub units_more : (us : List StoredUnit) (u : StoredUnit) (ids mid ids_new : LitNumbers) (places between places_new : LitPlaces) (assigned all : List ℕ) (place : ℕ) → UnitsInvariant us ids places assigned → is_among assigned u.literal ≡ false
    → ((l : ℕ) → number_at mid l ≡ number_at ids l) → ((l : ℕ) → number_at ids_new l ≡ cond (eqb l u.literal) (Some u.id) (number_at mid l)) → ((l : ℕ) → place_at between l ≡ place_at places l)
    → ((l : ℕ) → place_at places_new l ≡ cond (eqb l u.literal) (Some place) (place_at between l)) → all ≡ u.literal ∷ assigned → place ≡ length assigned → UnitsInvariant (us ++ u ∷ []) ids_new places_new all
units_more us u ids mid ids_new places between places_new assigned all place k n m p b q a e = record {
  assumed = λ l.
      ap (λ ls. is_among ls l) a ∙ ap (λ x. eqb u.literal l || x) (k.assumed l) ∙ turned (eqb u.literal l) (is_among literals l)
      ∙ sym (among-append literals (u.literal ∷ []) l) ∙ ap (λ ls. is_among ls l) (sym (map-append (λ (w : StoredUnit). w.literal) us (u ∷ [])));
  once = subst NoRepeats (sym (map-append (λ (w : StoredUnit). w.literal) us (u ∷ []))) (once_more literals u.literal k.once fresh);
  numbered = λ l. p l ∙ ap (cond (eqb l u.literal) (Some u.id)) (m l ∙ k.numbered l) ∙ sym (more_numbered us u l fresh);
  placed = subst (AreTrailPlaces places_new) (sym (reverse-append (u.literal ∷ []) assigned) ∙ ap reverse (sym a))
      (placed_more places places_new (reverse assigned) u.literal place k.placed (among-reverse assigned u.literal ∙ n) (e ∙ sym (length-reverse assigned))
      (λ l. q l ∙ ap (cond (eqb l u.literal) (Some place)) (b l)));
}
  where
    literals : List ℕ
    literals = map (λ w. w.literal) us

    fresh : is_among literals u.literal ≡ false
    fresh = sym (k.assumed u.literal) ∙ n

    turned : (c d : Bool) → (c || d) ≡ (d || (c || false))
    turned true true = refl
    turned true false = refl
    turned false true = refl
    turned false false = refl

-- a list contradicts a unit exactly if a unit contradicts a literal of the list
any_at : (test : ℕ → Bool) (us : List StoredUnit) → list_any (λ u. test u.literal) us ≡ list_any test (map (λ u. u.literal) us)
any_at test [] = refl
any_at test (u ∷ us) = ap (λ b. test u.literal || b) (any_at test us)

abbrev negated_in : List ℕ → ℕ → Bool
negated_in ls l = is_among ls (negated l)

pub contradicted_same : (us : List StoredUnit) (ls : List ℕ) → list_any (λ l. is_among (map (λ u. u.literal) us) (negated l)) ls ≡ list_any (λ u. is_among ls (negated u.literal)) us
contradicted_same us ls = same_tests _ _
    (λ h. let s = some_of (negated_in (map (λ u. u.literal) us)) ls h in
    any_at (negated_in ls) us ∙ any_true (negated_in ls) (map (λ u. u.literal) us) (negated s.literal) s.passes (ap (is_among ls) (negated-negated s.literal) ∙ s.within))
    (λ h. let s = some_of (negated_in ls) (map (λ u. u.literal) us) (sym (any_at (negated_in ls) us) ∙ h) in
    any_true (negated_in (map (λ u. u.literal) us)) ls (negated s.literal) s.passes (ap (is_among (map (λ u. u.literal) us)) (negated-negated s.literal) ∙ s.within))

-- results of the check hold for the stored units, assumed in any order
pub short_units : {E : Type 0} (r : Result Bool E) (store : Store) (room roomy : List ℕ) → roomy ≡ room → OnErr r ((f : Stored) → RepresentsClauses store f → HasStoredRoom roomy f.clauses → ⊥) → OnErr r ((f : Stored) → RepresentsClauses store f → HasStoredRoom room f.clauses → ⊥)
short_units (Ok b) store room roomy w h = tt
short_units (Err e) store room roomy w h = λ f k there. h f k (subst (λ r. HasStoredRoom r f.clauses) (sym w) there)

pub checked_units : {E : Type 0} (r : Result Bool E) (store : Store) (value : List StoredUnit) (room roomy assigned clause hashes : List ℕ) → ((l : ℕ) → is_among assigned l ≡ is_among (map (λ u. u.literal) value) l) → roomy ≡ room
    → IfOk r (λ b. (f : Stored) → RepresentsClauses store f → HasStoredRoom roomy f.clauses → (b ≡ true) ↔ PassesCheck assigned clause (map (bucket f) hashes))
    → IfOk r (λ b. (f : Stored) → RepresentsClauses store f → value ≡ f.units → HasStoredRoom room f.clauses → (b ≡ true) ↔ PassesByHashes f clause hashes)
checked_units (Err e) store value room roomy assigned clause hashes same w h = tt
checked_units (Ok b) store value room roomy assigned clause hashes same w h = λ f k e there.
    let exact = h f k (subst (λ r. HasStoredRoom r f.clauses) (sym w) there) in
    let is : (l : ℕ) → is_among assigned l ≡ is_among (unit_literals f) l = λ l. same l ∙ ap (λ v. is_among (map (λ (u : StoredUnit). u.literal) v) l) e in (
      (λ t. same_passes assigned (unit_literals f) clause (map (bucket f) hashes) is (exact.0 t)),
      (λ p. exact.1 (same_passes (unit_literals f) assigned clause (map (bucket f) hashes) (λ l. sym (is l)) p)),
    )
