-- Which variables are among the first m, after two entries were swapped.
use Rattle.std.proofs.Common.{◌≡◌, ◌≢◌, ℕ, suc, ◌<◌, ◌≤◌, inl, inr, nat_lt, true, false, List, length, get_or, set, sym, ap, ◌∙◌, arith}
use Rattle.std.proofs.lemmas.Bool.{cases_eq, cases_lt}
use Rattle.std.proofs.lemmas.Bool.Decides.{nat_tests}
use Rattle.std.proofs.lemmas.List.{get_or-map, length-map, ext_get_or, get_or-set_same, get_or-set_other, length-set}
use Rattle.sat_store.specs.heap.Heap.{SwapsPositions, available_by_var}

below_test : (a b : ℕ) → a < b → nat_lt a b ≡ true
below_test a b e = grind (arith, nat_tests)

from_test : (a b : ℕ) → b ≤ a → nat_lt a b ≡ false
from_test a b d = grind (arith, nat_tests)

pub flag_at : (m : ℕ) (positions : List ℕ) (v : ℕ) → v < length positions → get_or (available_by_var m positions) v false ≡ nat_lt (get_or positions v 0) m
flag_at m positions v within = get_or-map (λ p. nat_lt p m) positions v 0 false within

pub flags_count : (m : ℕ) (positions : List ℕ) → length (available_by_var m positions) ≡ length positions
flags_count m positions = length-map positions (λ p. nat_lt p m)

pub flags_same : (m i j : ℕ) (old new : List ℕ) → i < m → j < m → SwapsPositions old new i j → available_by_var m new ≡ available_by_var m old
flags_same m i j old new a b t =
    let count : length (available_by_var m new) ≡ length (available_by_var m old) = flags_count m new ∙ t.count ∙ sym (flags_count m old) in
    ext_get_or false (available_by_var m new) (available_by_var m old) count (λ v h.
    let within : v < length old = omega (arith, flags_count m new, t.count) in
    let tests : nat_lt (get_or new v 0) m ≡ nat_lt (get_or old v 0) m = elim (cases_eq (get_or old v 0) i) [
      | inl at_i ↦ below_test (get_or new v 0) m (omega (arith, t.first v within at_i)) ∙ sym (below_test (get_or old v 0) m (omega arith))
      | inr not_i ↦ elim (cases_eq (get_or old v 0) j) [
        | inl at_j ↦ below_test (get_or new v 0) m (omega (arith, t.second v within at_j)) ∙ sym (below_test (get_or old v 0) m (omega arith))
        | inr not_j ↦ ap (λ (p : ℕ). nat_lt p m) (t.others v within not_i not_j)
      ]
    ] in
    flag_at m new v (omega (arith, t.count)) ∙ tests ∙ sym (flag_at m old v within))

-- the variable at i leaves the first n + 1 entries, swapped with the last of them
pub flags_taken : (n i u : ℕ) (old new : List ℕ) → i < suc n → u < length old → get_or old u 0 ≡ i → ((v w : ℕ) → v < length old → w < length old → get_or old v 0 ≡ get_or old w 0 → v ≡ w) → SwapsPositions old new i n → available_by_var n new ≡ set (available_by_var (suc n) old) u false
flags_taken n i u old new a within_u at_u once t =
    let count : length (available_by_var n new) ≡ length (set (available_by_var (suc n) old) u false) = flags_count n new ∙ t.count ∙ sym (flags_count (suc n) old) ∙ sym (length-set (available_by_var (suc n) old) u false) in
    ext_get_or false (available_by_var n new) (set (available_by_var (suc n) old) u false) count (λ v h.
    let within : v < length old = omega (arith, flags_count n new, t.count) in
    let left : get_or (available_by_var n new) v false ≡ nat_lt (get_or new v 0) n = flag_at n new v (omega (arith, t.count)) in
    elim (cases_eq v u) [
      | inl same ↦
          let old_is : get_or old v 0 ≡ i = ap (λ (x : ℕ). get_or old x 0) same ∙ at_u in
          left ∙ from_test (get_or new v 0) n (omega (arith, t.first v within old_is)) ∙ sym (ap (λ (x : ℕ). get_or (set (available_by_var (suc n) old) u false) x false) same ∙ get_or-set_same (available_by_var (suc n) old) u false false (omega (arith, flags_count (suc n) old)))
      | inr differ ↦
          let not_i : get_or old v 0 ≢ i = λ e. differ (once v u within within_u (e ∙ sym at_u)) in
          let tests : nat_lt (get_or new v 0) n ≡ nat_lt (get_or old v 0) (suc n) = elim (cases_eq (get_or old v 0) n) [
            | inl last ↦
                let i_less : i < n = omega arith in
                below_test (get_or new v 0) n (omega (arith, t.second v within last)) ∙ sym (below_test (get_or old v 0) (suc n) (omega arith))
            | inr not_last ↦
                let kept : get_or new v 0 ≡ get_or old v 0 = t.others v within not_i not_last in
                elim (cases_lt (get_or old v 0) n) [
                  | inl less ↦ below_test (get_or new v 0) n (omega arith) ∙ sym (below_test (get_or old v 0) (suc n) (omega arith))
                  | inr more ↦ from_test (get_or new v 0) n (omega arith) ∙ sym (from_test (get_or old v 0) (suc n) (omega arith))
                ]
          ] in
          left ∙ tests ∙ sym (flag_at (suc n) old v within) ∙ sym (get_or-set_other (available_by_var (suc n) old) u v false false differ)
    ])

-- the variable at i joins the first n entries, at position n
pub flags_given : (n i u : ℕ) (old new : List ℕ) → n ≤ i → u < length old → get_or old u 0 ≡ i → ((v w : ℕ) → v < length old → w < length old → get_or old v 0 ≡ get_or old w 0 → v ≡ w) → SwapsPositions old new i n → available_by_var (suc n) new ≡ set (available_by_var n old) u true
flags_given n i u old new a within_u at_u once t =
    let count : length (available_by_var (suc n) new) ≡ length (set (available_by_var n old) u true) = flags_count (suc n) new ∙ t.count ∙ sym (flags_count n old) ∙ sym (length-set (available_by_var n old) u true) in
    ext_get_or false (available_by_var (suc n) new) (set (available_by_var n old) u true) count (λ v h.
    let within : v < length old = omega (arith, flags_count (suc n) new, t.count) in
    let left : get_or (available_by_var (suc n) new) v false ≡ nat_lt (get_or new v 0) (suc n) = flag_at (suc n) new v (omega (arith, t.count)) in
    elim (cases_eq v u) [
      | inl same ↦
          let old_is : get_or old v 0 ≡ i = ap (λ (x : ℕ). get_or old x 0) same ∙ at_u in
          left ∙ below_test (get_or new v 0) (suc n) (omega (arith, t.first v within old_is)) ∙ sym (ap (λ (x : ℕ). get_or (set (available_by_var n old) u true) x false) same ∙ get_or-set_same (available_by_var n old) u true false (omega (arith, flags_count n old)))
      | inr differ ↦
          let not_i : get_or old v 0 ≢ i = λ e. differ (once v u within within_u (e ∙ sym at_u)) in
          let tests : nat_lt (get_or new v 0) (suc n) ≡ nat_lt (get_or old v 0) n = elim (cases_eq (get_or old v 0) n) [
            | inl last ↦ from_test (get_or new v 0) (suc n) (omega (arith, t.second v within last)) ∙ sym (from_test (get_or old v 0) n (omega arith))
            | inr not_last ↦
                let kept : get_or new v 0 ≡ get_or old v 0 = t.others v within not_i not_last in
                elim (cases_lt (get_or old v 0) n) [
                  | inl less ↦ below_test (get_or new v 0) (suc n) (omega arith) ∙ sym (below_test (get_or old v 0) n (omega arith))
                  | inr more ↦ from_test (get_or new v 0) (suc n) (omega arith) ∙ sym (from_test (get_or old v 0) n (omega arith))
                ]
          ] in
          left ∙ tests ∙ sym (flag_at n old v within) ∙ sym (get_or-set_other (available_by_var n old) u v true false differ)
    ])
