-- A clause without its false literals is derived from a long one only, which is then deleted.
use Rattle.std.proofs.Common.{ℕ, zero, suc, ◌+◌, ◌<◌, ◌≡◌, true, false, cond, List, [], ◌∷◌, map, length, get_or, refl, sym, ◌∙◌, ap, subst, arith, ◌⊎◌, inl, inr, Some, None}
use Rattle.std.proofs.lemmas.Bool.{or_left, or_right, cases_lt, true≢false, false_from_ne_true}
use Rattle.std.specs.List.{AllByRecursion}
use Rattle.sat_base.specs.values.Literals.{negated}
use Rattle.sat_base.specs.values.Hashes.{hash_of}
use Rattle.sat_base.specs.steps.Steps.{AtClause}
use Rattle.sat_checker.specs.LiteralSets.{is_among, is_subset_of, is_tautology, canonical}
use Rattle.sat_checker.proofs.lemmas.sets.Canonical.{canonical_among, canonical_tautology}
use Rattle.sat_checker.proofs.lemmas.sets.Subsets.{all_true}
use Rattle.sat_solver.specs.session.Session.{Session, last_long, after, IsLive, CanDerive, by_clauses, CanDeleteSimplified, rup_assumptions}
use Rattle.sat_solver.specs.session.LiveClauses.{with_var}
use Rattle.sat_solver.proofs.lemmas.session.Mapped.{negated_mapped, among_mapped}
use Rattle.sat_solver.specs.session.TrailUnits.{IsUsable}
use Rattle.sat_solver.specs.session.Listed.{HasNoTautology}
use Rattle.sat_solver.proofs.lemmas.fits.MayLemmas.{whole}
use Rattle.sat_solver.proofs.lemmas.fits.SetLemmas.{part_has}

all_of_map : (P : ℕ → Type 0) (f : ℕ → ℕ) (ls : List ℕ) → ((k : ℕ) → k < length ls → P (f (get_or ls k 0))) → AllByRecursion P (map f ls)
all_of_map P f [] h = tt
all_of_map P f (l ∷ ls) h = (h zero (omega arith), all_of_map P f ls (λ k n. h (suc k) (omega arith)))

-- a part may be derived from a live clause if the other literals are false by units
pub may_shorten : (s : Session) (global : ℕ → ℕ) (c part : List ℕ) (hash : ℕ) → s.width ≡ 64 → IsUsable s global c → hash ≡ hash_of c →
    ((k : ℕ) → k < length c → (is_among part (get_or c k 0) ≡ true) ⊎ (s.units (with_var global (negated (get_or c k 0))) ≡ true)) → CanDerive s (map (with_var global) part) (hash ∷ [])
may_shorten s global c part hash width u e each =
    let ks : List ℕ = map (with_var global) part in
    by_clauses (map (with_var global) c ∷ []) (u.live, e ∙ whole s (hash_of c) width ∙ u.hash, tt)
    (all_of_map (λ l. rup_assumptions s ks (negated l) ≡ true) (with_var global) c (λ k lt.
    let l : ℕ = get_or c k 0 in
    let w : ℕ = with_var global (get_or c k 0) in
    elim (each k lt) [
      | inl t ↦ or_left (is_among (map negated ks) (negated w)) (s.units (negated w)) (among_mapped negated ks w (among_mapped (with_var global) part l t))
      | inr x ↦ or_right (is_among (map negated ks) (negated w)) (s.units (negated w)) (subst (λ z. s.units z ≡ true) (negated_mapped global l) x)
    ]))

long_some : (set : List ℕ) → 1 < length set → last_long false set ≡ Some set
long_some [] n = absurd (omega arith)
long_some (l ∷ []) n = absurd (omega arith)
long_some (l ∷ m ∷ ls) n = refl

-- then the part may replace the clause if it lacks one of its literals
pub may_replace : (s : Session) (ks ms hashes : List ℕ) (w : ℕ) → 1 < length (canonical ks) → is_tautology ks ≡ false → is_subset_of ks ms ≡ true → is_among ms w ≡ true → is_among ks w ≡ false → CanDeleteSimplified (after (AtClause false ks hashes) s) ms
may_replace s ks ms hashes w two plain within there missing = record {
  part = canonical ks;
  last = ap (λ b. cond b None (last_long false (canonical ks))) plain ∙ long_some (canonical ks) two;
  within = all_true (is_among ms) (canonical ks) (λ m t. part_has ks ms m within (sym (canonical_among ks m) ∙ t));
  strict = false_from_ne_true (is_subset_of ms (canonical ks)) (λ t. true≢false (sym (part_has ms (canonical ks) w t there) ∙ canonical_among ks w ∙ missing));
}

-- a live clause is no tautology
pub live_plain : (s : Session) (c : List ℕ) → HasNoTautology s → IsLive s c → is_tautology c ≡ false
live_plain s c plain h =
    let set : List ℕ = canonical c in
    sym (canonical_tautology c) ∙ elim (cases_lt 0 (s.live false set)) [
      | inl lt ↦ plain false set lt
      | inr ge ↦ plain true set (let n : 0 < s.live false (canonical c) + s.live true (canonical c) = h.counted in omega arith)
    ]
