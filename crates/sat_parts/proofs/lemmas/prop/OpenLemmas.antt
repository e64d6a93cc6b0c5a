-- Lists that are replaced one after another, with the number of what is left in them.
use Rattle.std.proofs.Common.{ℕ, ◌≡◌, ◌+◌, ◌-◌, ◌^◌, ◌<◌, ◌≤◌, inl, inr, List, [], length, get_or, set, take, min, sym, ap, ◌∙◌, arith, length-set, get_or-set_same, get_or-set_other}
use Rattle.std.proofs.lemmas.Bool.{cases_eq}
use Rattle.std.proofs.lemmas.List.{take-set}
use Rattle.std.proofs.lemmas.List.Sums.{sum_by_more}
use Rattle.std.specs.List.{sum_by}

-- `ReplacedSoFar f before now at left` holds if the first lists were replaced by what `f` makes of them, and `left` is
-- how many elements these have (it saturates).
pub record ReplacedSoFar (f : ℕ → List ℕ → List ℕ) (before now : List (List ℕ)) (at left : ℕ) : Type 0 where
  pub done : (k : ℕ) → k < at → get_or now k [] ≡ f k (get_or before k [])
  pub rest : (k : ℕ) → at ≤ k → get_or now k [] ≡ get_or before k []
  pub counted : left ≡ min (sum_by (λ (ls : List ℕ). length ls) (take at now)) (2 ^ 64 - 1)

-- one more list is replaced
pub replaced_more : (f : ℕ → List ℕ → List ℕ) (before now next : List (List ℕ)) (at left more all : ℕ) → at < length now →
    ((k : ℕ) → k < at → get_or now k [] ≡ f k (get_or before k [])) → ((k : ℕ) → at ≤ k → get_or now k [] ≡ get_or before k []) →
    left ≡ min (sum_by (λ (ls : List ℕ). length ls) (take at now)) (2 ^ 64 - 1) →
    next ≡ set now at (f at (get_or now at [])) → more ≡ length (get_or next at []) → all ≡ min (left + more) (2 ^ 64 - 1) →
    ReplacedSoFar f before next (at + 1) all
replaced_more f before now next at left more all lt done rest counted is count sum =
    let n : length next ≡ length now = ap (λ (xs : List (List ℕ)). length xs) is ∙ length-set now at (f at (get_or now at [])) in
    let there : get_or next at [] ≡ f at (get_or now at []) = ap (λ (xs : List (List ℕ)). get_or xs at []) is ∙ get_or-set_same now at (f at (get_or now at [])) [] lt in
    let front : sum_by (λ (ls : List ℕ). length ls) (take at next) ≡ sum_by (λ (ls : List ℕ). length ls) (take at now) =
    ap (λ (xs : List (List ℕ)). sum_by (λ (ls : List ℕ). length ls) (take at xs)) is
    ∙ ap (λ (xs : List (List ℕ)). sum_by (λ (ls : List ℕ). length ls) xs) (take-set now at (f at (get_or now at []))) in
    let whole : sum_by (λ (ls : List ℕ). length ls) (take (at + 1) next) ≡ sum_by (λ (ls : List ℕ). length ls) (take at next) + length (get_or next at []) =
    sum_by_more (λ (ls : List ℕ). length ls) next at [] (omega arith) in
    record {
      done = λ k small. elim (cases_eq k at) [
        | inl e ↦ ap (λ (j : ℕ). get_or next j []) e ∙ there ∙ ap (λ (xs : List ℕ). f at xs) (rest at (omega arith)) ∙ ap (λ (j : ℕ). f j (get_or before j [])) (sym e)
        | inr other ↦ ap (λ (xs : List (List ℕ)). get_or xs k []) is ∙ get_or-set_other now at k (f at (get_or now at [])) [] other ∙ done k (omega arith)
      ];
      rest = λ k above. ap (λ (xs : List (List ℕ)). get_or xs k []) is ∙ get_or-set_other now at k (f at (get_or now at [])) [] (omega arith) ∙ rest k (omega arith);
      counted = omega arith;
    }
