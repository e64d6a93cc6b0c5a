-- Lists of lists in which the last ones, which are empty, are not stored.
use Rattle.std.proofs.Common.{ℕ, ◌≡◌, ◌+◌, ◌-◌, ◌<◌, ◌≤◌, List, [], ◌∷◌, ◌++◌, inl, inr, length, get_or, set, take, replicate, min, refl, sym, ap, ◌∙◌, arith, length-append, length-set}
use Rattle.std.proofs.lemmas.List.{ext_get_or, get_or_past, get_or_append_left, get_or-append_right, get_or-replicate, get_or-take, length-replicate, length-take, set-get_or, set-append_left, get_or_read}
use Rattle.std.proofs.lemmas.Bool.{cases_lt}

-- the lists of `count` literals
abbrev wide : {A : Type 0} → ℕ → List (List A) → List (List A)
wide count lists = lists ++ replicate (count - length lists) []

pub wide_at : {A : Type 0} (count : ℕ) (xs : List (List A)) (l : ℕ) → get_or (wide count xs) l [] ≡ get_or xs l []
wide_at {A} count xs l = elim (cases_lt l (length xs)) [
  | inl lt ↦ get_or_append_left xs (replicate (count - length xs) []) [] l lt
  | inr le ↦ elim (cases_lt (l - length xs) (count - length xs)) [
    | inl more ↦
        get_or-append_right xs (replicate (count - length xs) []) (length xs) l [] refl le
        ∙ get_or-replicate (count - length xs) (l - length xs) [] [] more ∙ sym (get_or_past xs l [] le)
    | inr past ↦
        let n : length (replicate {A = List A} (count - length xs) []) ≡ count - length xs = length-replicate (count - length xs) [] in
        get_or-append_right xs (replicate (count - length xs) []) (length xs) l [] refl le
        ∙ get_or_past (replicate (count - length xs) []) (l - length xs) [] (omega arith) ∙ sym (get_or_past xs l [] le)
  ]
]

pub wide_len : {A : Type 0} (count : ℕ) (xs : List (List A)) → length xs ≤ count → length (wide count xs) ≡ count
wide_len {A} count xs few =
    let n : length (replicate {A = List A} (count - length xs) []) ≡ count - length xs = length-replicate (count - length xs) [] in
    let m : length (wide count xs) ≡ length xs + length (replicate {A = List A} (count - length xs) []) = length-append xs (replicate (count - length xs) []) in
    omega (arith, m, n)

-- equal lists of lists, from equal lists at every index
pub wide_ext : {A : Type 0} (count : ℕ) (xs ys : List (List A)) → length xs ≤ count → length ys ≤ count → ((l : ℕ) → l < count → get_or xs l [] ≡ get_or ys l []) → wide count xs ≡ wide count ys
wide_ext {A} count xs ys few few' same =
    let n : length (wide count xs) ≡ count = wide_len count xs few in
    let m : length (wide count ys) ≡ count = wide_len count ys few' in
    ext_get_or [] (wide count xs) (wide count ys) (n ∙ sym m) (λ l lt. wide_at count xs l ∙ same l (omega (arith, n, lt)) ∙ sym (wide_at count ys l))

-- a stored list is replaced
pub wide_set : {A : Type 0} (count : ℕ) (xs : List (List A)) (l : ℕ) (v : List A) → length xs ≤ count → l < length xs → wide count (set xs l v) ≡ set (wide count xs) l v
wide_set {A} count xs l v few lt =
    ap (λ (k : ℕ). set xs l v ++ replicate (count - k) []) (length-set xs l v) ∙ sym (set-append_left xs (replicate (count - length xs) []) l v lt)

-- a list that is not stored is empty
pub wide_past : {A : Type 0} (count : ℕ) (xs : List (List A)) (l : ℕ) → length xs ≤ l → set (wide count xs) l [] ≡ wide count xs
wide_past {A} count xs l past =
    ap (λ (v : List A). set (wide count xs) l v) (sym (wide_at count xs l ∙ get_or_past xs l [] past)) ∙ set-get_or (wide count xs) l []

-- more or fewer lists
pub wide_more : {A : Type 0} (count more : ℕ) (xs : List (List A)) → length xs ≤ count → wide more (take more xs) ≡ take more (wide count xs) ++ replicate (more - length (wide count xs)) []
wide_more {A} count more xs few =
    let n : length (take more xs) ≡ min more (length xs) = length-take more xs in
    let m : length (take more (wide count xs)) ≡ min more (length (wide count xs)) = length-take more (wide count xs) in
    let rest : more - length (take more (wide count xs)) ≡ more - length (wide count xs) = omega (arith, m) in
    wide_ext more (take more xs) (take more (wide count xs)) (omega (arith, n)) (omega (arith, m))
    (λ l lt. get_or-take more xs l [] lt ∙ sym (wide_at count xs l) ∙ sym (get_or-take more (wide count xs) l [] lt))
    ∙ ap (λ (k : ℕ). take more (wide count xs) ++ replicate k []) rest

-- a stored list is changed
pub wide_map : {A : Type 0} (count : ℕ) (xs : List (List A)) (l : ℕ) (f : List A → List A) → length xs ≤ count → l < length xs →
    wide count (set xs l (f (get_or xs l []))) ≡ set (wide count xs) l (f (get_or (wide count xs) l []))
wide_map {A} count xs l f few lt = wide_set count xs l (f (get_or xs l [])) few lt ∙ ap (λ (v : List A). set (wide count xs) l (f v)) (sym (wide_at count xs l))

-- a list that was created is replaced by f of it, where x is what was read
pub wide_step : {A : Type 0} (count : ℕ) (old xs : List (List A)) (l code : ℕ) (f : List A → List A) (x v : List A) → length xs ≤ count → code < length xs → wide count xs ≡ wide count old → code ≡ l → x ≡ get_or xs code x → v ≡ f x →
    wide count (set xs code v) ≡ set (wide count old) l (f (get_or (wide count old) l []))
wide_step {A} count old xs l code f x v few lt same e read is =
    let v_is : v ≡ f (get_or xs code []) = is ∙ ap f (get_or_read xs code x lt read []) in
    ap (λ (w : List A). wide count (set xs code w)) v_is
    ∙ wide_map count xs code f few lt
    ∙ ap (λ (ys : List (List A)). set ys code (f (get_or ys code []))) same
    ∙ ap (λ (k : ℕ). set (wide count old) k (f (get_or (wide count old) k []))) e

pub nil_of : {A : Type 0} (xs : List A) → length xs ≡ 0 → xs ≡ []
nil_of [] e = refl
nil_of (x ∷ xs) e = absurd (omega arith)
