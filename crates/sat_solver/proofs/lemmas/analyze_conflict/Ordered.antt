-- The parts of a derivation, sorted by depth, form a derivation in trail order.
use Rattle.std.proofs.Common.{ℕ, ◌≡◌, ◌+◌, ◌<◌, ◌≤◌, inl, inr, List, length, get_or, sym, ap, ◌∙◌, subst, arith}
use Rattle.std.proofs.lemmas.Bool.{cases_eq}
use Rattle.std.specs.List.{swap}
use Rattle.std.specs.List.Sorted.{IsPermutation, IsNonDecreasingBy}
use Rattle.std.proofs.lemmas.List.Edits.{swap_is}
use Rattle.std.proofs.lemmas.List.Sorted.{IsPermutation-keeps}
use Rattle.sat_parts.specs.clause.Orders.{AreDistinct}
use Rattle.sat_parts.specs.prop.State.{PropagationState, lit_at, StateIsConsistent}
use Rattle.sat_parts.proofs.lemmas.clause.ListLemmas.{place_in}
use Rattle.sat_parts.proofs.lemmas.clause.OrderLemmas.{shuffled_swapped}
use Rattle.sat_solver.specs.analyze_conflict.Marks.{IsReasoned, depth}
use Rattle.sat_solver.specs.analyze_conflict.Derivation.{IsUnorderedDerivation, IsDerivation}
use Rattle.sat_solver.specs.analyze_conflict.Minimization.{depth_in}
use Rattle.sat_solver.proofs.lemmas.analyze_conflict.Ends.{grounds_permuted}

swap_distinct : (xs : List ℕ) (i j : ℕ) → i < length xs → j < length xs → AreDistinct xs → AreDistinct (swap xs i j)
swap_distinct xs i j p q d = subst (λ (ys : List ℕ). AreDistinct ys) (swap_is xs i j 0 p q) ((shuffled_swapped xs i j p q).apart d)

pub distinct_permuted : (xs ys : List ℕ) → IsPermutation xs ys → AreDistinct xs → AreDistinct ys
distinct_permuted xs ys p d = IsPermutation-keeps xs AreDistinct d swap_distinct ys p

-- literals of the same depth that have clauses as reasons are equal
same_depth : (s : PropagationState) (l m : ℕ) → StateIsConsistent s → IsReasoned s 0 l → IsReasoned s 0 m → depth s l ≡ depth s m → l ≡ m
same_depth s l m a x y e =
    let p : x.place + 1 ≡ depth s l = sym (a.depths x.place x.within) ∙ ap (λ z. depth s z) x.there in
    let q : y.place + 1 ≡ depth s m = sym (a.depths y.place y.within) ∙ ap (λ z. depth s z) y.there in
    let r : x.place ≡ y.place = omega arith in
    sym x.there ∙ ap (λ z. lit_at s z) r ∙ y.there

pub ordered : (words : List ℕ) (s : PropagationState) (conflict learned used used' : List ℕ) → StateIsConsistent s → IsUnorderedDerivation words s conflict learned used → IsPermutation used used' → IsNonDecreasingBy (depth_in s.nodes) used' →
    IsDerivation words s conflict learned used'
ordered words s conflict learned used used' a g p up =
    let d : AreDistinct used' = distinct_permuted used used' p g.distinct in
    let h : IsUnorderedDerivation words s conflict learned used' = grounds_permuted words s conflict learned used used' p d g in
    record {
      grounds = h;
      rising = λ j k lt b. elim (cases_eq (depth s (get_or used' j 0)) (depth s (get_or used' k 0))) [
        | inl e ↦
            let same : j ≡ k = d j k (omega arith) b (same_depth s (get_or used' j 0) (get_or used' k 0) a (h.reasons (get_or used' j 0) (place_in used' j (omega arith))) (h.reasons (get_or used' k 0) (place_in used' k b)) e) in
            absurd (omega arith)
        | inr n ↦
            let le : depth s (get_or used' j 0) ≤ depth s (get_or used' k 0) = up j k 0 (omega arith) b in
            omega arith
      ];
    }
