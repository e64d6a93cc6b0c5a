-- Literals that clash with later ones, and marks for their keys.
use Rattle.std.proofs.Common.{ℕ, zero, suc, ◌+◌, ◌*◌, ◌/◌, ◌%◌, ◌^◌, ◌<◌, ◌≡◌, ◌⊎◌, inl, inr, Bool, true, false, not, ◌||◌, eqb, List, [], ◌∷◌, length, drop, get_or, set, refl, sym, ◌∙◌, ap, arith, MatchBool}
use Rattle.std.proofs.lemmas.Bool.{or_cases, or_left, or_right, or_from, or_parts, both_ways, cases_eq, eq-eqb, ne_eqb}
use Rattle.std.proofs.lemmas.List.{get_or_read, get_or-set_other}
use Rattle.std.proofs.lemmas.Grind.{get_or-set_at}
use Rattle.std.proofs.lemmas.Nat.Bits.{bit_at_set_same, bit_at_set_other}
use Rattle.std.specs.Int.{bit_at, w64}
use Rattle.std.specs.Int.RustNames.{bit_or}
use Rattle.sat_base.specs.values.Literals.{negated, variable}
use Rattle.sat_checker.specs.Accepts.{VariablesDistinct}
use Rattle.sat_checker.specs.LiteralSets.{mentions}
use Rattle.sat_checker.specs.inner.Clashes.{has_clash, has_key, key_of, clashes_with, is_marked, KeysBelow, NoClash}

clash_at_suc : (r : Bool) (ls : List ℕ) (k : ℕ) → k < length ls → clashes_with r (drop (suc k) ls) (get_or ls k 0) ≡ true → has_clash r ls ≡ true
clash_at_suc r [] k l h = absurd (omega arith)
clash_at_suc r (x ∷ xs) zero l h = or_left (clashes_with r xs x) (has_clash r xs) h
clash_at_suc r (x ∷ xs) (suc k) l h = or_right (clashes_with r xs x) (has_clash r xs) (clash_at_suc r xs k (omega arith) h)

no_clash_suc : (r : Bool) (ls : List ℕ) → ((k : ℕ) → k < length ls → clashes_with r (drop (suc k) ls) (get_or ls k 0) ≡ false) → has_clash r ls ≡ false
no_clash_suc r [] h = refl
no_clash_suc r (x ∷ xs) h = or_from (clashes_with r xs x) (has_clash r xs) (h 0 (omega arith)) (no_clash_suc r xs (λ k l. h (suc k) (omega arith)))

add_one : (k : ℕ) → k + 1 ≡ suc k
add_one k = omega arith

-- a literal that clashes with a later one
pub found_clash : (r : Bool) (ls : List ℕ) (i p l key : ℕ) → i + 1 ≡ p → i < length ls → l ≡ get_or ls i l → key ≡ key_of r (negated l) → has_key r (drop p ls) key ≡ true → has_clash r ls ≡ true
found_clash r ls i p l key e inside read is_key has =
    clash_at_suc r ls i inside (
    ap (λ n. clashes_with r (drop n ls) (get_or ls i 0)) (sym (add_one i) ∙ e) ∙ ap (clashes_with r (drop p ls)) (sym (get_or_read ls i l inside read 0)) ∙ ap (has_key r (drop p ls)) (sym is_key) ∙ has)

-- no window is left
pub no_clash : (r : Bool) (low : ℕ) (ls : List ℕ) → NoClash r 0 0 low ls → KeysBelow r low ls → has_clash r ls ≡ false
no_clash r low ls h b = no_clash_suc r ls (λ k l. ap (λ n. clashes_with r (drop n ls) (get_or ls k 0)) (sym (add_one k)) ∙ h.each k (omega arith) l (omega arith) (b.each k l))

-- one more mark
pub more_marked : (marks : List ℕ) (p : ℕ) → p < 64 * length marks → (k : ℕ) → is_marked (set marks (p / 64) (bit_or (get_or marks (p / 64) 0) (1 * 2 ^ (p % 64) % 2 ^ 64))) k ≡ (eqb p k || is_marked marks k)
more_marked marks p inside k = go (cases_eq (k / 64) (p / 64)) (cases_eq (k % 64) (p % 64))
  where
    old : ℕ
    old = get_or marks (p / 64) 0

    new : ℕ
    new = bit_or old (1 * 2 ^ (p % 64) % 2 ^ 64)

    same_word : k / 64 ≡ p / 64 → is_marked (set marks (p / 64) new) k ≡ eqb (bit_at new (k % 64)) 1
    same_word s = ap (λ n. eqb (bit_at n (k % 64)) 1) (get_or-set_at marks (p / 64) (k / 64) new 0 s (omega arith))

    same_place : p ≡ k → true ≡ (eqb p k || is_marked marks k)
    same_place e = sym (ap (λ b. b || is_marked marks k) (eq-eqb p k e))

    other_place : (p ≡ k → ⊥) → is_marked marks k ≡ (eqb p k || is_marked marks k)
    other_place n = sym (ap (λ b. b || is_marked marks k) (ne_eqb p k n))

    go : (k / 64 ≡ p / 64) ⊎ (k / 64 ≡ p / 64 → ⊥) → (k % 64 ≡ p % 64) ⊎ (k % 64 ≡ p % 64 → ⊥) → is_marked (set marks (p / 64) new) k ≡ (eqb p k || is_marked marks k)
    go (inl s) (inl t) = same_word s ∙ ap (λ i. eqb (bit_at new i) 1) t ∙ ap (λ b. eqb b 1) (bit_at_set_same w64 old (p % 64) (omega arith)) ∙ same_place (omega arith)
    go (inl s) (inr n) =
        same_word s ∙ ap (λ b. eqb b 1) (bit_at_set_other w64 old (p % 64) (omega arith) (k % 64) n) ∙ ap (λ i. eqb (bit_at (get_or marks i 0) (k % 64)) 1) (sym s)
        ∙ other_place (λ e. n (ap (λ x. x % 64) (sym e)))
    go (inr n) _ = ap (λ x. eqb (bit_at x (k % 64)) 1) (get_or-set_other marks (p / 64) (k / 64) new 0 n) ∙ other_place (λ e. n (ap (λ x. x / 64) (sym e)))

-- the keys are the variables, if repeats count
mentions_key : (ls : List ℕ) (v : ℕ) → has_key true ls v ≡ mentions ls v
mentions_key [] v = refl
mentions_key (x ∷ xs) v = ap (λ b. eqb (variable x) v || b) (mentions_key xs v)

mentions_variable : (ls : List ℕ) (l : ℕ) → clashes_with true ls l ≡ mentions ls (variable l)
mentions_variable ls l = let e : variable (negated l) ≡ variable l = omega arith in ap (has_key true ls) e ∙ mentions_key ls (variable l)

apart : (ls : List ℕ) → has_clash true ls ≡ false → VariablesDistinct ls
apart [] h = tt
apart (l ∷ ls) h = let p = or_parts (clashes_with true ls l) (has_clash true ls) h in (sym (mentions_variable ls l) ∙ p.0, apart ls p.1)

not_apart : (ls : List ℕ) → has_clash true ls ≡ true → VariablesDistinct ls → ⊥
not_apart [] h d = absurd cc
not_apart (l ∷ ls) h d = elim (or_cases (clashes_with true ls l) (has_clash true ls) h) [
  | inl c ↦ both_ways (mentions ls (variable l)) d.0 (sym (mentions_variable ls l) ∙ c)
  | inr c ↦ not_apart ls c d.1
]

pub apart_clash : (b : Bool) (ls : List ℕ) → b ≡ has_clash true ls → MatchBool (not b) (VariablesDistinct ls) (VariablesDistinct ls → ⊥)
apart_clash true ls e = not_apart ls (sym e)
apart_clash false ls e = apart ls (sym e)
