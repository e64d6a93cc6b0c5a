-- Literals in another order, as sets, and over proof variables.
use Rattle.std.proofs.Common.{ℕ, ◌<◌, ◌≡◌, Bool, true, false, eqb, List, [], ◌∷◌, map, length, refl, sym, ◌∙◌, ap, subst, arith, inl, inr}
use Rattle.std.proofs.lemmas.Bool.{or_cases, and_parts, eqb-true, true≢false}
use Rattle.sat_base.specs.values.Literals.{negated}
use Rattle.sat_checker.specs.LiteralSets.{is_among, is_tautology, is_subset_of, canonical}
use Rattle.sat_checker.specs.SortedSets.{NoRepeats}
use Rattle.sat_checker.proofs.lemmas.sets.Canonical.{canonical_among, canonical_increasing, same_increasing, same_tautology, tautology_from, both_signs}
use Rattle.sat_checker.proofs.lemmas.sets.Subsets.{all_true}
use Rattle.sat_parts.specs.clause.Orders.{AreDistinct, IsReordering}
use Rattle.sat_solver.specs.session.Session.{Session}
use Rattle.sat_solver.proofs.lemmas.session.Changes.{with_live_clause, with_sorted, with_live, session_if}
use Rattle.sat_solver.specs.session.LiveClauses.{with_var}
use Rattle.sat_solver.proofs.lemmas.session.Mapped.{negated_mapped, among_mapped}
use Rattle.sat_solver.proofs.lemmas.fits.UsableLemmas.{among_place, once_distinct}
use Rattle.sat_solver.proofs.lemmas.fits.FitLemmas.{among_at, among_back}

both_true : (a b : Bool) → (a ≡ true → b ≡ true) → (b ≡ true → a ≡ true) → a ≡ b
both_true true b f g = sym (f refl)
both_true false true f g = absurd (true≢false (sym (g refl)))
both_true false false f g = refl

-- reordering a clause does not change its literals
pub same_shuffled : (ls ms : List ℕ) → IsReordering ls ms → (m : ℕ) → is_among ls m ≡ is_among ms m
same_shuffled ls ms h m = both_true (is_among ls m) (is_among ms m)
    (λ t.
    let p = among_place ls m t in let j = h.forth p.0 p.1.0 in
    subst (λ z. is_among ms z ≡ true) (j.1.1 ∙ p.1.1) (among_at ms j.0 (omega (arith, j.1.0, h.size))))
    (λ t.
    let p = among_place ms m t in let j = h.back p.0 (omega (arith, p.1.0, h.size)) in
    subst (λ z. is_among ls z ≡ true) (j.1.1 ∙ p.1.1) (among_at ls j.0 j.1.0))

among_forth : (f : ℕ → ℕ) (ls ms : List ℕ) → ((m : ℕ) → is_among ls m ≡ is_among ms m) → (y : ℕ) → is_among (map f ls) y ≡ true → is_among (map f ms) y ≡ true
among_forth f ls ms same y t =
    let p = among_back f ls y t in
    subst (λ z. is_among (map f ms) z ≡ true) p.1.1 (among_mapped f ms p.0 (sym (same p.0) ∙ p.1.0))

pub same_mapped : (f : ℕ → ℕ) (ls ms : List ℕ) → ((m : ℕ) → is_among ls m ≡ is_among ms m) → (y : ℕ) → is_among (map f ls) y ≡ is_among (map f ms) y
same_mapped f ls ms same y = both_true (is_among (map f ls) y) (is_among (map f ms) y) (among_forth f ls ms same y) (among_forth f ms ls (λ m. sym (same m)) y)

pub set_same : (xs ys : List ℕ) → ((m : ℕ) → is_among xs m ≡ is_among ys m) → canonical xs ≡ canonical ys
set_same xs ys same =
    same_increasing (canonical xs) (canonical ys) (canonical_increasing xs) (canonical_increasing ys)
    (λ m. canonical_among xs m ∙ same m ∙ sym (canonical_among ys m))

-- the sorted set over proof variables does not depend on the order
pub set_shuffled : (f : ℕ → ℕ) (ls ms : List ℕ) → IsReordering ls ms → canonical (map f ls) ≡ canonical (map f ms)
set_shuffled f ls ms h = set_same (map f ls) (map f ms) (same_mapped f ls ms (same_shuffled ls ms h))

pub taut_shuffled : (f : ℕ → ℕ) (ls ms : List ℕ) → IsReordering ls ms → is_tautology (map f ls) ≡ is_tautology (map f ms)
taut_shuffled f ls ms h = same_tautology (map f ls) (map f ms) (same_mapped f ls ms (same_shuffled ls ms h))

pub once_shuffled : (ls ms : List ℕ) → IsReordering ls ms → AreDistinct ls → NoRepeats ms
once_shuffled ls ms h d = once_distinct ms (h.apart d)

-- a tautology is still one over proof variables
pub taut_carried : (global : ℕ → ℕ) (ls : List ℕ) → is_tautology ls ≡ true → is_tautology (map (with_var global) ls) ≡ true
taut_carried global ls t =
    let b = both_signs ls t in
    tautology_from (map (with_var global) ls) (with_var global b.literal) (among_mapped (with_var global) ls b.literal b.within)
    (subst (λ z. is_among (map (with_var global) ls) z ≡ true) (negated_mapped global b.literal) (among_mapped (with_var global) ls (negated b.literal) b.negation))

-- every literal of a part is in the clause
pub part_has : (xs ys : List ℕ) (l : ℕ) → is_subset_of xs ys ≡ true → is_among xs l ≡ true → is_among ys l ≡ true
part_has [] ys l h t = absurd (true≢false (sym t))
part_has (x ∷ xs) ys l h t =
    let p = and_parts (is_among ys x) (is_subset_of xs ys) h in
    elim (or_cases (eqb x l) (is_among xs l) t) [
      | inl e ↦ subst (λ z. is_among ys z ≡ true) (eqb-true x l e) p.0
      | inr k ↦ part_has xs ys l p.1 k
    ]

pub part_mapped : (f : ℕ → ℕ) (xs ys : List ℕ) → is_subset_of xs ys ≡ true → is_subset_of (map f xs) (map f ys) ≡ true
part_mapped f xs ys h = all_true (is_among (map f ys)) (map f xs) (λ y t.
    let p = among_back f xs y t in
    subst (λ z. is_among (map f ys) z ≡ true) p.1.1 (among_mapped f ys p.0 (part_has xs ys p.0 h p.1.0)))

-- adding a clause of two or more literals, by its sorted set
pub clause_of_set : (r : Bool) (c set : List ℕ) (s : Session) → canonical c ≡ set → 1 < length set → is_tautology c ≡ false → with_live_clause r c s ≡ with_live r set s
clause_of_set r c set s e n t = ap (λ b. session_if b s (with_sorted r (canonical c) s)) t ∙ ap (λ x. with_sorted r x s) e ∙ long set n
  where
    long : (set : List ℕ) → 1 < length set → with_sorted r set s ≡ with_live r set s
    long [] n = absurd (omega arith)
    long (l ∷ []) n = absurd (omega arith)
    long (l ∷ m ∷ ls) n = refl
