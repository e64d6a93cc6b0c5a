-- The clauses of a bucket, by their places.
use Rattle.std.proofs.Common.{ℕ, suc, ◌+◌, ◌<◌, ◌≡◌, ◌≢◌, Bool, true, false, cond, List, [], ◌∷◌, length, drop, get_or, map, filter, None, Some, refl, sym, ◌∙◌, ap, subst, arith, eqb, inl, inr}
use Rattle.std.proofs.lemmas.Bool.{or_cases, eqb-true, true≢false}
use Rattle.sat_checker.specs.LiteralSets.{is_among}
use Rattle.sat_checker.specs.inner.PairView.{first_of}
use Rattle.std.specs.List.{AllByRecursion}
use Rattle.sat_checker.specs.inner.SlotView.{Slot, slot_at, literals_at, is_filed, all_lits, bucket_in, places_from, places_of, is_same_at, found_among}
use Rattle.sat_checker.proofs.lemmas.store.Places.{places_below}
use Rattle.sat_checker.proofs.lemmas.propagation.Walking.{find_next, sum_next}

places_literals : (all ss : List Slot) (k h : ℕ) → ((j : ℕ) → slot_at all (k + j) ≡ slot_at ss j) → map (literals_at all) (places_from k h ss) ≡ bucket_in h ss
places_literals all [] k h same = refl
places_literals all (s ∷ ss) k h same = go (is_filed h s) (places_literals all ss (k + 1) h (λ j. let e : k + 1 + j ≡ k + suc j = omega arith in ap (slot_at all) e ∙ same (suc j)))
  where
    first : literals_at all k ≡ s.clause.literals
    first = let e : k ≡ k + 0 = omega arith in ap (literals_at all) e ∙ ap (λ (x : Slot). x.clause.literals) (same 0)

    go : (b : Bool) → map (literals_at all) (places_from (k + 1) h ss) ≡ bucket_in h ss → map (literals_at all) (cond b (k ∷ places_from (k + 1) h ss) (places_from (k + 1) h ss)) ≡ all_lits (cond b (s ∷ filter (is_filed h) ss) (filter (is_filed h) ss))
    go true ih = ap (λ l. l ∷ map (literals_at all) (places_from (k + 1) h ss)) first ∙ ap (λ ls. s.clause.literals ∷ ls) ih
    go false ih = ih

pub bucket_literals : (h : ℕ) (ss : List Slot) → map (literals_at ss) (places_of h ss) ≡ bucket_in h ss
bucket_literals h ss = places_literals ss ss 0 h (λ j. let z : 0 + j ≡ j = omega arith in ap (slot_at ss) z)

-- a place of a hash exists
pub place_inside : (h : ℕ) (ss : List Slot) (p : ℕ) → is_among (places_of h ss) p ≡ true → p < length ss
place_inside h ss p m = go (places_of h ss) (places_below 0 (length ss) h ss (omega arith)) m
  where
    go : (qs : List ℕ) → AllByRecursion (λ q. q < length ss) qs → is_among qs p ≡ true → p < length ss
    go [] b e = absurd (true≢false (sym e))
    go (q ∷ qs) b e = elim (or_cases (eqb q p) (is_among qs p) e) [ inl s ↦ subst (λ x. x < length ss) (eqb-true q p s) b.0 | inr r ↦ go qs b.1 r ]

-- a bucket is empty exactly if its hash has no first place
pub is_full : (h : ℕ) (ss : List Slot) (p : ℕ) → Some p ≡ first_of (places_of h ss) → bucket_in h ss ≢ []
is_full h ss p e z = go (places_of h ss) e (bucket_literals h ss ∙ z)
  where
    go : (ps : List ℕ) → Some p ≡ first_of ps → map (literals_at ss) ps ≡ [] → ⊥
    go [] k y = cc
    go (q ∷ qs) k y = cc

pub is_empty : (h : ℕ) (ss : List Slot) → None ≡ first_of (places_of h ss) → bucket_in h ss ≡ []
is_empty h ss e = sym (bucket_literals h ss) ∙ go (places_of h ss) e
  where
    go : (ps : List ℕ) → None ≡ first_of ps → map (literals_at ss) ps ≡ []
    go [] k = refl
    go (q ∷ qs) k = absurd cc

module _ (ss : List Slot) (literals : List ℕ) where
  pub found_here : (ps : List ℕ) (i : ℕ) → i < length ps → is_same_at ss literals (get_or ps i 0) ≡ true → found_among ss literals (drop i ps) ≡ Some (get_or ps i 0)
  found_here ps i l e = find_next (literals_at ss) ps i l (is_same_at ss literals) ∙ ap (λ b. cond b (Some (get_or ps i 0)) (found_among ss literals (drop (i + 1) ps))) e

  pub found_later : (ps : List ℕ) (i : ℕ) → i < length ps → is_same_at ss literals (get_or ps i 0) ≡ false → found_among ss literals (drop i ps) ≡ found_among ss literals (drop (i + 1) ps)
  found_later ps i l e = find_next (literals_at ss) ps i l (is_same_at ss literals) ∙ ap (λ b. cond b (Some (get_or ps i 0)) (found_among ss literals (drop (i + 1) ps))) e

pub ruleset finding = (found_here, found_later, sum_next)
