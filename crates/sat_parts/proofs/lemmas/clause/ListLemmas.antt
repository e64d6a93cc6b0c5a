-- Lists of references: sums, counts and filters when one item changes.
use Rattle.std.proofs.Common.{ℕ, ◌≡◌, ◌≢◌, ◌+◌, ◌<◌, ◌≤◌, inl, inr, List, [], ◌∷◌, ◌++◌, suc, zero, length, get_or, refl, sym, ap, ◌∙◌, subst, arith, Bool, true, false, not, ◌&&◌, cond, eqb}
use Rattle.std.proofs.lemmas.Bool.{cases_eq, cases_lt, ne_eqb, eq-eqb}
use Rattle.std.proofs.lemmas.List.{get_or_default, length_push, get_or_append_left, get_or_push}
use Rattle.std.proofs.lemmas.List.Sums.{sum_by-cons, count_by-le-length}
use Rattle.std.specs.List.{Contains, filter, sum_by, count_by}
use Rattle.sat_parts.specs.clause.Db.{AreStrictlyIncreasing, without_ref}

pub in_tail : (x : ℕ) (xs : List ℕ) (p : ℕ) → Contains xs p → Contains (x ∷ xs) p
in_tail x xs p h = (suc h.0, omega (arith, h.1), h.2)

pub in_head : (x : ℕ) (xs : List ℕ) → Contains (x ∷ xs) x
in_head x xs = (0, omega arith, refl)

-- the item at an index of the list
pub at_place : (xs : List ℕ) (p : ℕ) (h : Contains xs p) → get_or xs h.0 0 ≡ p
at_place xs p h = get_or_default xs h.0 0 p h.1 ∙ h.2

pub place_in : (xs : List ℕ) (k : ℕ) → k < length xs → Contains xs (get_or xs k 0)
place_in xs k lt = (k, lt, get_or_default xs k (get_or xs k 0) 0 lt)

pub rising_tail : (x : ℕ) (xs : List ℕ) → AreStrictlyIncreasing (x ∷ xs) → AreStrictlyIncreasing xs
rising_tail x xs h j k a b = h (suc j) (suc k) (omega arith) (omega arith)

pub rising_above : (x : ℕ) (xs : List ℕ) (p : ℕ) → AreStrictlyIncreasing (x ∷ xs) → Contains xs p → x < p
rising_above x xs p h c =
    let lt : x < get_or xs c.0 0 = h 0 (suc c.0) (omega arith) (omega (arith, c.1)) in
    omega (arith, at_place xs p c)

-- appending a greater number to a rising list
pub rising_push : (xs : List ℕ) (x : ℕ) → AreStrictlyIncreasing xs → ((p : ℕ) → Contains xs p → p < x) → AreStrictlyIncreasing (xs ++ x ∷ [])
rising_push xs x h above j k a b =
    let n : length (xs ++ x ∷ []) ≡ length xs + 1 = length_push xs x in
    let j_is : get_or (xs ++ x ∷ []) j 0 ≡ get_or xs j 0 = get_or_append_left xs (x ∷ []) 0 j (omega arith) in
    elim (cases_eq k (length xs)) [
      | inl e ↦
          let k_is : get_or (xs ++ x ∷ []) k 0 ≡ x = get_or_push xs x 0 k (sym e) in
          omega (arith, above (get_or xs j 0) (place_in xs j (omega arith)))
      | inr d ↦
          let k_is : get_or (xs ++ x ∷ []) k 0 ≡ get_or xs k 0 = get_or_append_left xs (x ∷ []) 0 k (omega arith) in
          omega (arith, h j k a (omega arith))
    ]

-- a rising list has no item twice
pub rising_distinct : (xs : List ℕ) (j k : ℕ) → AreStrictlyIncreasing xs → j < length xs → k < length xs → get_or xs j 0 ≡ get_or xs k 0 → j ≡ k
rising_distinct xs j k h a b e = elim (cases_eq j k) [
  | inl q ↦ q
  | inr n ↦ elim (cases_lt j k) [
    | inl lt ↦ absurd (omega (arith, h j k lt b))
    | inr le ↦ absurd (omega (arith, h k j (omega arith) a))
  ]
]

-- an item other than x is in the rest of the list
pub there : (x : ℕ) (xs : List ℕ) (o : ℕ) → x ≢ o → Contains (x ∷ xs) o → Contains xs o
there x xs o n (zero, lt, e) = absurd (n e)
there x xs o n (suc k, lt, e) = (k, omega arith, e)

pub one_at_most : (b : Bool) → cond b 1 0 ≤ 1
one_at_most true = omega arith
one_at_most false = omega arith

pub sum_same : (f g : ℕ → ℕ) (xs : List ℕ) → ((p : ℕ) → Contains xs p → g p ≡ f p) → sum_by g xs ≡ sum_by f xs
sum_same f g [] h = refl
sum_same f g (x ∷ xs) h =
    let a : g x ≡ f x = h x (in_head x xs) in
    let b : sum_by g xs ≡ sum_by f xs = sum_same f g xs (λ p c. h p (in_tail x xs p c)) in
    omega (arith, sum_by-cons g x xs, sum_by-cons f x xs)

-- a sum when the value of one item changes
pub sum_changed : (f g : ℕ → ℕ) (xs : List ℕ) (o : ℕ) → AreStrictlyIncreasing xs → Contains xs o → ((p : ℕ) → Contains xs p → p ≢ o → g p ≡ f p) → sum_by g xs + f o ≡ sum_by f xs + g o
sum_changed f g [] o rising c h = absurd (omega (arith, c.1))
sum_changed f g (x ∷ xs) o rising c h = elim (cases_eq x o) [
  | inl e ↦
      let b : sum_by g xs ≡ sum_by f xs = sum_same f g xs (λ p d. h p (in_tail x xs p d) (λ q. omega (arith, rising_above x xs p rising d))) in
      omega (arith, sum_by-cons g x xs, sum_by-cons f x xs, ap (λ z. f z) e, ap (λ z. g z) e)
  | inr n ↦
      let a : g x ≡ f x = h x (in_head x xs) n in
      let d : Contains xs o = there x xs o n c in
      let b : sum_by g xs + f o ≡ sum_by f xs + g o = sum_changed f g xs o (rising_tail x xs rising) d (λ p q m. h p (in_tail x xs p q) m) in
      omega (arith, sum_by-cons g x xs, sum_by-cons f x xs)
]

-- if one item fails the test, the count is less than the length
pub count_less : (p : ℕ → Bool) (xs : List ℕ) (o : ℕ) → Contains xs o → p o ≡ false → count_by p xs < length xs
count_less p [] o c e = absurd (omega (arith, c.1))
count_less p (x ∷ xs) o c e = elim (cases_eq x o) [
  | inl q ↦
      let none : cond {A = ℕ} (p x) 1 0 ≡ 0 = ap (λ (b : Bool). cond {A = ℕ} b 1 0) (ap (λ z. p z) q ∙ e) in
      omega (arith, none, sum_by-cons (λ z. cond {A = ℕ} (p z) 1 0) x xs, count_by-le-length p xs)
  | inr n ↦
      let d : count_by p xs < length xs = count_less p xs o (there x xs o n c) e in
      omega (arith, sum_by-cons (λ z. cond (p z) 1 0) x xs, one_at_most (p x))
]

-- if one item passes the test, the count is not 0
pub counted_some : (p : ℕ → Bool) (xs : List ℕ) (o : ℕ) → Contains xs o → p o ≡ true → 0 < count_by p xs
counted_some p [] o c e = absurd (omega (arith, c.1))
counted_some p (x ∷ xs) o c e = elim (cases_eq x o) [
  | inl q ↦
      let one : cond {A = ℕ} (p x) 1 0 ≡ 1 = ap (λ (b : Bool). cond {A = ℕ} b 1 0) (ap (λ z. p z) q ∙ e) in
      omega (arith, one, sum_by-cons (λ z. cond {A = ℕ} (p z) 1 0) x xs)
  | inr n ↦
      let d : 0 < count_by p xs = counted_some p xs o (there x xs o n c) e in
      omega (arith, sum_by-cons (λ z. cond {A = ℕ} (p z) 1 0) x xs)
]

-- dropping o from a list whose first item may be left out drops it from the rest
pub one_dropped : (b : Bool) (o x : ℕ) (xs : List ℕ) → cond (b && not (eqb x o)) (x ∷ without_ref o xs) (without_ref o xs) ≡ without_ref o (cond b (x ∷ xs) xs)
one_dropped true o x xs = refl
one_dropped false o x xs = refl

-- a filter that drops one more item
pub filter_without : (p q : ℕ → Bool) (o : ℕ) (xs : List ℕ) → ((x : ℕ) → Contains xs x → q x ≡ (p x && not (eqb x o))) → filter q xs ≡ without_ref o (filter p xs)
filter_without p q o [] h = refl
filter_without p q o (x ∷ xs) h =
    let rest : filter q xs ≡ without_ref o (filter p xs) = filter_without p q o xs (λ z c. h z (in_tail x xs z c)) in
    ap (λ b. cond b (x ∷ filter q xs) (filter q xs)) (h x (in_head x xs)) ∙ ap (λ (zs : List ℕ). cond (p x && not (eqb x o)) (x ∷ zs) zs) rest ∙ one_dropped (p x) o x (filter p xs)

-- filters whose tests agree on the list
pub filter_same : (p q : ℕ → Bool) (xs : List ℕ) → ((x : ℕ) → Contains xs x → q x ≡ p x) → filter q xs ≡ filter p xs
filter_same p q [] h = refl
filter_same p q (x ∷ xs) h =
    let rest : filter q xs ≡ filter p xs = filter_same p q xs (λ z c. h z (in_tail x xs z c)) in
    ap (λ b. cond b (x ∷ filter q xs) (filter q xs)) (h x (in_head x xs)) ∙ ap (λ (zs : List ℕ). cond (p x) (x ∷ zs) zs) rest

-- what is in the list without o is in the list, and is not o
pub in_without : (o p : ℕ) (xs : List ℕ) → Contains (without_ref o xs) p → Contains xs p × (p ≢ o)
in_without o p [] c = absurd (omega (arith, c.1))
in_without o p (x ∷ xs) c = elim (cases_eq x o) [
  | inl e ↦
      let gone : without_ref o (x ∷ xs) ≡ without_ref o xs = ap (λ b. cond (not b) (x ∷ without_ref o xs) (without_ref o xs)) (eq-eqb x o e) in
      let r : Contains xs p × (p ≢ o) = in_without o p xs (subst (λ (zs : List ℕ). Contains zs p) gone c) in
      (in_tail x xs p r.0, r.1)
  | inr n ↦
      let stays : without_ref o (x ∷ xs) ≡ x ∷ without_ref o xs = ap (λ b. cond (not b) (x ∷ without_ref o xs) (without_ref o xs)) (ne_eqb x o n) in
      elim (cases_eq x p) [
        | inl q ↦ (subst (λ z. Contains (x ∷ xs) z) q (in_head x xs), λ m. n (q ∙ m))
        | inr m ↦
            let r : Contains xs p × (p ≢ o) = in_without o p xs (there x (without_ref o xs) p m (subst (λ (zs : List ℕ). Contains zs p) stays c)) in
            (in_tail x xs p r.0, r.1)
      ]
]
