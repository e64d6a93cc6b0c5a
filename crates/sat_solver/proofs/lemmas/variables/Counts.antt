-- The number of numbers below a bound that pass a test.
use Rattle.std.proofs.Common.{ℕ, zero, suc, ◌+◌, ◌-◌, ◌<◌, ◌≤◌, ◌≡◌, ◌≢◌, max, Bool, true, false, not, cond, eqb, List, length, Option, Some, None, is_some, refl, sym, ◌∙◌, ap, arith, inl, inr}
use Rattle.std.proofs.lemmas.Bool.{eqb-true, eq-eqb, ne_eqb, cases_eq, cases_lt, true≢false}
use Rattle.std.proofs.lemmas.List.{get_or_past}
use Rattle.sat_store.specs.variables.Maps.{MapAndInverse, AreInverse, target, SetsTarget, Links, Unlinks}
use Rattle.sat_solver.proofs.lemmas.variables.MapLemmas.{some_within}
use Rattle.sat_solver.specs.variables.Counting.{count_to, mapped_count, HasEqualCounts}

pub count_zero : (f : ℕ → Bool) → count_to 0 f ≡ 0
unfolding count_to
count_zero f = refl

pub count_suc : (n : ℕ) (f : ℕ → Bool) → count_to (suc n) f ≡ count_to n f + cond (f n) 1 0
unfolding count_to
count_suc n f = refl

pub count_same : (n : ℕ) (f g : ℕ → Bool) → ((k : ℕ) → k < n → f k ≡ g k) → count_to n f ≡ count_to n g
count_same zero f g h = count_zero f ∙ sym (count_zero g)
count_same (suc n) f g h = count_suc n f ∙ ap (λ b. count_to n f + cond b 1 0) (h n (omega arith)) ∙ ap (λ m. m + cond (g n) 1 0) (count_same n f g (λ k lt. h k (omega arith))) ∙ sym (count_suc n g)

-- numbers that fail the test add nothing
pub count_past : (k n : ℕ) (f : ℕ → Bool) → ((m : ℕ) → n ≤ m → f m ≡ false) → count_to (n + k) f ≡ count_to n f
count_past zero n f h = ap (λ m. count_to m f) (let e : n + 0 ≡ n = omega arith in e)
count_past (suc k) n f h = ap (λ m. count_to m f) (let e : n + suc k ≡ suc (n + k) = omega arith in e) ∙ count_suc (n + k) f ∙ ap (λ b. count_to (n + k) f + cond b 1 0) (h (n + k) (omega arith)) ∙ (let ih = count_past k n f h in omega arith)

pub count_reach : (n m : ℕ) (f : ℕ → Bool) → n ≤ m → ((k : ℕ) → n ≤ k → f k ≡ false) → count_to m f ≡ count_to n f
count_reach n m f le h = ap (λ k. count_to k f) (let e : m ≡ n + (m - n) = omega arith in e) ∙ count_past (m - n) n f h

-- a higher bound does not lower the count
pub count_longer : (n m : ℕ) (f : ℕ → Bool) → n ≤ m → count_to n f ≤ count_to m f
count_longer n zero f le = (let e : count_to n f ≡ count_to 0 f = ap (λ k. count_to k f) (let z : n ≡ 0 = omega arith in z) in omega arith)
count_longer n (suc m) f le = elim (cases_lt n (suc m)) [
  | inl lt ↦ (let ih = count_longer n m f (omega arith) in let e = count_suc m f in omega arith)
  | inr ge ↦ (let e : count_to n f ≡ count_to (suc m) f = ap (λ k. count_to k f) (let z : n ≡ suc m = omega arith in z) in omega arith)
]

-- one more number passes
pub count_more : (n i : ℕ) (f g : ℕ → Bool) → i < n → f i ≡ false → g i ≡ true → ((k : ℕ) → k ≢ i → g k ≡ f k) → count_to n g ≡ count_to n f + 1
count_more zero i f g lt a b h = absurd (omega arith)
count_more (suc n) i f g lt a b h = elim (cases_eq n i) [
  | inl e ↦
      (let x : count_to n g ≡ count_to n f = count_same n g f (λ k m. h k (λ q. omega arith)) in
      let y : f n ≡ false = ap f e ∙ a in
      let z : g n ≡ true = ap g e ∙ b in
      let p : count_to (suc n) g ≡ count_to n g + 1 = count_suc n g ∙ ap (λ t. count_to n g + cond t 1 0) z in
      let q : count_to (suc n) f ≡ count_to n f + 0 = count_suc n f ∙ ap (λ t. count_to n f + cond t 1 0) y in
      omega arith)
  | inr ne ↦
      (let ih : count_to n g ≡ count_to n f + 1 = count_more n i f g (omega arith) a b h in
      let p : count_to (suc n) g ≡ count_to n g + cond (f n) 1 0 = count_suc n g ∙ ap (λ t. count_to n g + cond t 1 0) (h n ne) in
      let q : count_to (suc n) f ≡ count_to n f + cond (f n) 1 0 = count_suc n f in
      omega arith)
]

pub count_le : (n : ℕ) (f : ℕ → Bool) → count_to n f ≤ n
count_le zero f = let e = count_zero f in omega arith
count_le (suc n) f = let ih = count_le n f in let b = at (f n) in let e = count_suc n f in omega arith
  where
    at : (b : Bool) → cond b 1 0 ≤ 1
    at true = omega arith
    at false = omega arith

pub count_full : (n : ℕ) (f : ℕ → Bool) → ((k : ℕ) → k < n → f k ≡ true) → count_to n f ≡ n
count_full zero f h = count_zero f
count_full (suc n) f h = count_suc n f ∙ ap (λ t. count_to n f + cond t 1 0) (h n (omega arith)) ∙ (let ih = count_full n f (λ k lt. h k (omega arith)) in let e : suc n ≡ n + 1 = omega arith in omega arith)

-- if every number that passes f passes g, the count for g isn't lower
pub count_part : (n : ℕ) (f g : ℕ → Bool) → ((k : ℕ) → f k ≡ true → g k ≡ true) → count_to n f ≤ count_to n g
count_part zero f g h = let e = count_zero f in let d = count_zero g in omega arith
count_part (suc n) f g h = let ih = count_part n f g h in let a = count_suc n f in let b = count_suc n g in let c = at (f n) (g n) (h n) in omega arith
  where
    at : (a b : Bool) → (a ≡ true → b ≡ true) → cond a 1 0 ≤ cond b 1 0
    at true true x = omega arith
    at false true x = omega arith
    at false false x = omega arith
    at true false x = absurd (true≢false (sym (x refl)))

-- the count for g is higher if one more number passes it
pub count_fewer : (n i : ℕ) (f g : ℕ → Bool) → i < n → ((k : ℕ) → f k ≡ true → g k ≡ true) → f i ≡ false → g i ≡ true → count_to n f < count_to n g
count_fewer zero i f g lt h a b = absurd (omega arith)
count_fewer (suc n) i f g lt h a b = elim (cases_eq n i) [
  | inl e ↦
      (let ih = count_part n f g h in
      let y : f n ≡ false = ap f e ∙ a in
      let z : g n ≡ true = ap g e ∙ b in
      let p : count_to (suc n) g ≡ count_to n g + 1 = count_suc n g ∙ ap (λ t. count_to n g + cond t 1 0) z in
      let q : count_to (suc n) f ≡ count_to n f + 0 = count_suc n f ∙ ap (λ t. count_to n f + cond t 1 0) y in
      omega arith)
  | inr ne ↦
      (let ih = count_fewer n i f g (omega arith) h a b in
      let p = count_suc n f in
      let q = count_suc n g in
      let c = at (f n) (g n) (h n) in
      omega arith)
]
  where
    at : (a b : Bool) → (a ≡ true → b ≡ true) → cond a 1 0 ≤ cond b 1 0
    at true true x = omega arith
    at false true x = omega arith
    at false false x = omega arith
    at true false x = absurd (true≢false (sym (x refl)))

-- only one number changes its result
pub count_changed : (n i : ℕ) (f g : ℕ → Bool) → i < n → ((k : ℕ) → k ≢ i → g k ≡ f k) → count_to n g + cond (f i) 1 0 ≡ count_to n f + cond (g i) 1 0
count_changed n i f g lt h = go (f i) refl (g i) refl
  where
    alike : f i ≡ g i → count_to n g ≡ count_to n f
    alike e = count_same n g f (λ k m. elim (cases_eq k i) [ inl q ↦ ap g q ∙ sym e ∙ ap f (sym q) | inr ne ↦ h k ne ])

    go : (a : Bool) → f i ≡ a → (b : Bool) → g i ≡ b → count_to n g + cond a 1 0 ≡ count_to n f + cond b 1 0
    go true x true y = ap (λ c. c + 1) (alike (x ∙ sym y))
    go false x false y = ap (λ c. c + 0) (alike (x ∙ sym y))
    go false x true y = let e = count_more n i f g lt x y h in omega arith
    go true x false y = let e = count_more n i g f lt y x (λ k ne. sym (h k ne)) in omega arith

-- if a number passes, the count is positive
pub count_some : (n i : ℕ) (f : ℕ → Bool) → i < n → f i ≡ true → 0 < count_to n f
count_some n i f lt e = let l = count_fewer n i (λ k. false) f lt (λ k x. absurd (true≢false (sym x))) refl e in omega arith

-- every number passes or fails
pub count_not : (n : ℕ) (f : ℕ → Bool) → count_to n f + count_to n (λ k. not (f k)) ≡ n
count_not zero f = let a = count_zero f in let b = count_zero (λ k. not (f k)) in omega arith
count_not (suc n) f = let ih = count_not n f in let a = count_suc n f in let b = count_suc n (λ k. not (f k)) in let c = at (f n) in omega arith
  where
    at : (b : Bool) → cond b 1 0 + cond (not b) 1 0 ≡ 1
    at true = refl
    at false = refl

-- MAPS

past_none : (map : List (Option ℕ)) (k : ℕ) → length map ≤ k → is_some (target map k) ≡ false
past_none map k le = ap is_some (get_or_past map k None le)

pub count_mapped : (map : List (Option ℕ)) (n : ℕ) → length map ≤ n → count_to n (λ v. is_some (target map v)) ≡ mapped_count map
count_mapped map n le = count_reach (length map) n (λ v. is_some (target map v)) le (past_none map)

-- one more key is mapped
pub mapped_more : (old new : List (Option ℕ)) (i u : ℕ) → target old i ≡ None → SetsTarget old new i (Some u) → length new ≡ max (length old) (i + 1) → mapped_count new ≡ mapped_count old + 1
mapped_more old new i u none put size =
    count_more (length new) i (λ v. is_some (target old v)) (λ v. is_some (target new v)) (omega arith) (ap is_some none) (ap is_some (put i ∙ ap (λ b. cond b (Some u) (target old i)) (eq-eqb i i refl))) (λ k ne. ap is_some (put k ∙ ap (λ b. cond b (Some u) (target old k)) (ne_eqb k i ne)))
    ∙ ap (λ m. m + 1) (count_mapped old (length new) (omega arith))

pub mapped_fewer : (old new : List (Option ℕ)) (i u : ℕ) → target old i ≡ Some u → SetsTarget old new i None → length new ≡ length old → i < length old → mapped_count new + 1 ≡ mapped_count old
mapped_fewer old new i u some put size lt =
    ap (λ m. m + 1) (sym (count_mapped new (length old) (omega arith)))
    ∙ sym (count_more (length old) i (λ v. is_some (target new v)) (λ v. is_some (target old v)) lt (ap is_some (put i ∙ ap (λ b. cond b None (target old i)) (eq-eqb i i refl))) (ap is_some some) (λ k ne. ap is_some (sym (put k ∙ ap (λ b. cond b None (target old k)) (ne_eqb k i ne)))))

pub links_even : (old new : MapAndInverse) (from into : ℕ) → target old.fwd from ≡ None → target old.bwd into ≡ None → Links old new from into → HasEqualCounts old → HasEqualCounts new
links_even old new from into a b l even = let x = mapped_more old.fwd new.fwd from into a l.fwd l.fwd_watermark in let y = mapped_more old.bwd new.bwd into from b l.bwd l.bwd_watermark in omega arith

pub unlinks_even : (old new : MapAndInverse) (from into : ℕ) → target old.fwd from ≡ Some into → target old.bwd into ≡ Some from → from < length old.fwd → into < length old.bwd → Unlinks old new from into → HasEqualCounts old → HasEqualCounts new
unlinks_even old new from into a b lt lu l even = let x = mapped_fewer old.fwd new.fwd from into a l.fwd l.fwd_watermark lt in let y = mapped_fewer old.bwd new.bwd into from b l.bwd l.bwd_watermark lu in omega arith

pub unlinks_inverse : (old new : MapAndInverse) (from into : ℕ) → AreInverse old → target old.fwd from ≡ Some into → Unlinks old new from into → HasEqualCounts old → HasEqualCounts new
unlinks_inverse old new from into inverse e l even = let back = inverse.back from into e in unlinks_even old new from into e back (some_within old.fwd from into e) (some_within old.bwd into from back) l even

-- the same for lists of any lengths
pub mapped_one_more : (old new : List (Option ℕ)) (i u : ℕ) → target old i ≡ None → SetsTarget old new i (Some u) → mapped_count new ≡ mapped_count old + 1
mapped_one_more old new i u none put =
    sym (count_mapped new (length old + length new + (i + 1)) (omega arith))
    ∙ count_more (length old + length new + (i + 1)) i (λ v. is_some (target old v)) (λ v. is_some (target new v)) (omega arith) (ap is_some none) (ap is_some (put i ∙ ap (λ b. cond b (Some u) (target old i)) (eq-eqb i i refl))) (λ k ne. ap is_some (put k ∙ ap (λ b. cond b (Some u) (target old k)) (ne_eqb k i ne)))
    ∙ ap (λ m. m + 1) (count_mapped old (length old + length new + (i + 1)) (omega arith))

pub mapped_one_fewer : (old new : List (Option ℕ)) (i u : ℕ) → target old i ≡ Some u → SetsTarget old new i None → mapped_count old ≡ mapped_count new + 1
mapped_one_fewer old new i u some put = mapped_one_more new old i u (put i ∙ ap (λ b. cond b None (target old i)) (eq-eqb i i refl)) (λ k. go k (eqb k i) refl)
  where
    go : (k : ℕ) (b : Bool) → eqb k i ≡ b → target old k ≡ cond (eqb k i) (Some u) (target new k)
    go k true t = ap (target old) (eqb-true k i t) ∙ some ∙ sym (ap (λ b. cond b (Some u) (target new k)) t)
    go k false t = sym (put k ∙ ap (λ b. cond b None (target old k)) t) ∙ sym (ap (λ b. cond b (Some u) (target new k)) t)
