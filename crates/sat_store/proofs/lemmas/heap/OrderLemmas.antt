-- The order of heaps, by the rank at each position.
use Rattle.std.proofs.Common.{◌≡◌, ℕ, zero, suc, ◌<◌, ◌≤◌, inl, inr, sym, ap, ◌∙◌, arith, subst}
use Rattle.std.proofs.lemmas.Bool.{cases_eq}
use Rattle.sat_store.specs.heap.Heap.{parent, IsHeapOrdered, OrderedExceptAt, OrderedExceptBelow, SwapsRanks}

-- one step up

-- one iteration of sifting up: an entry that ranks above its parent was swapped with it
pub up_step : (r s : ℕ → ℕ) (m hole : ℕ) → 0 < hole → hole < m → SwapsRanks r s hole (parent hole) → r (parent hole) < r hole → OrderedExceptAt r m hole → OrderedExceptAt s m (parent hole)
up_step r s m hole some within ex above up =
    let p : ℕ = parent hole in
    let s_hole : s hole ≡ r (parent hole) = ex.first in
    let s_p : s (parent hole) ≡ r hole = ex.second in
    record {
      others = λ k pos small differ. elim (cases_eq k hole) [
        | inl same ↦ subst (λ (x : ℕ). s x ≤ s (parent x)) (sym same) (omega arith)
        | inr other ↦
            let s_k : s k ≡ r k = ex.others k other differ in
            elim (cases_eq (parent k) hole) [
              | inl child ↦ subst (λ (x : ℕ). s k ≤ s x) (sym child) (omega (arith, up.across some k pos small child))
              | inr far ↦ elim (cases_eq (parent k) (parent hole)) [
                | inl beside ↦
                    let at_p : r (parent k) ≡ r (parent hole) = ap r beside in
                    subst (λ (x : ℕ). s k ≤ s x) (sym beside) (omega (arith, up.others k pos small other))
                | inr apart ↦
                    let s_parent : s (parent k) ≡ r (parent k) = ex.others (parent k) far apart in
                    omega (arith, up.others k pos small other)
              ]
            ]
      ];
      across = λ p_some k pos small child.
          let lower : parent (parent hole) < parent hole = omega arith in
          let s_top : s (parent (parent hole)) ≡ r (parent (parent hole)) = ex.others (parent (parent hole)) (omega arith) (omega arith) in
          let p_top : r (parent hole) ≤ r (parent (parent hole)) = up.others (parent hole) p_some (omega arith) (omega arith) in
          elim (cases_eq k hole) [
            | inl same ↦ subst (λ (x : ℕ). s x ≤ s (parent (parent hole))) (sym same) (omega arith)
            | inr other ↦
                let s_k : s k ≡ r k = ex.others k other (omega arith) in
                let at_p : r (parent k) ≡ r (parent hole) = ap r child in
                omega (arith, up.others k pos small other)
          ];
    }

-- one step down

-- one iteration of sifting down: an entry was swapped with its highest child
pub down_step : (r s : ℕ → ℕ) (m low hole big : ℕ) → parent big ≡ hole → 0 < big → big < m → SwapsRanks r s hole big → r hole < r big → ((k : ℕ) → 0 < k → k < m → parent k ≡ hole → r k ≤ r big) → low ≤ hole → OrderedExceptBelow r m low hole → OrderedExceptBelow s m low big
down_step r s m low hole big child some within ex below largest_child from down =
    let s_hole : s hole ≡ r big = ex.first in
    let s_big : s big ≡ r hole = ex.second in
    record {
      others = λ k pos small low_parent differ. elim (cases_eq (parent k) hole) [
        | inl under ↦ elim (cases_eq k big) [
          | inl same ↦ subst (λ (x : ℕ). s k ≤ s x) (sym under) (let e : s k ≡ r hole = ap s same ∙ s_big in omega arith)
          | inr other ↦
              let s_k : s k ≡ r k = ex.others k (omega arith) other in
              subst (λ (x : ℕ). s k ≤ s x) (sym under) (omega (arith, largest_child k pos small under))
        ]
        | inr far ↦
            let s_parent : s (parent k) ≡ r (parent k) = ex.others (parent k) far differ in
            elim (cases_eq k hole) [
              | inl same ↦
                  let e : s k ≡ r big = ap s same ∙ s_hole in
                  let at_parent : r (parent k) ≡ r (parent hole) = ap (λ (x : ℕ). r (parent x)) same in
                  omega (arith, down.across (omega arith) (subst (λ (x : ℕ). low ≤ parent x) same low_parent) big some within child)
              | inr other ↦
                  let s_k : s k ≡ r k = ex.others k other (λ e. far (ap parent e ∙ child)) in
                  omega (arith, down.others k pos small low_parent far)
            ]
      ];
      across = λ big_some low_parent k pos small under.
          let s_k : s k ≡ r k = ex.others k (omega arith) (omega arith) in
          let at_big : r (parent k) ≡ r big = ap r under in
          let s_parent : s (parent big) ≡ r big = ap s child ∙ s_hole in
          let ordered : r k ≤ r (parent k) = down.others k pos small (omega arith) (omega arith) in
          omega arith;
    }

-- the entry at the hole is in order

-- sifting up ends where the entry does not rank above its parent
pub up_done : (r : ℕ → ℕ) (m hole : ℕ) → (0 < hole → r hole ≤ r (parent hole)) → OrderedExceptAt r m hole → IsHeapOrdered r m 0
up_done r m hole fits up k pos small low = elim (cases_eq k hole) [
  | inl same ↦ subst (λ (x : ℕ). r x ≤ r (parent x)) (sym same) (fits (omega arith))
  | inr differ ↦ up.others k pos small differ
]

-- the first entry ranks highest

top_within : (r : ℕ → ℕ) (m n k : ℕ) → k < n → k < m → IsHeapOrdered r m 0 → r k ≤ r 0
top_within r m zero k less small ordered = absurd (omega arith)
top_within r m (suc n) zero less small ordered = omega arith
top_within r m (suc n) (suc k) less small ordered =
    let up : r (suc k) ≤ r (parent (suc k)) = ordered (suc k) (omega arith) small (omega arith) in
    let rest : r (parent (suc k)) ≤ r 0 = top_within r m n (parent (suc k)) (omega arith) (omega arith) ordered in
    omega arith

pub top_greatest : (r : ℕ → ℕ) (m k : ℕ) → k < m → IsHeapOrdered r m 0 → r k ≤ r 0
top_greatest r m k small ordered = top_within r m (suc k) k (omega arith) small ordered
