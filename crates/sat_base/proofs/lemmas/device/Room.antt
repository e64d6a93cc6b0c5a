-- Bytes put into a buffer, of which only the first few count.
use Rattle.std.proofs.Common.{ℕ, ◌≡◌, ◌∙◌, ◌+◌, ◌≤◌, List, [], ◌∷◌, ◌++◌, length, take, drop, get_or, set, append_assoc, ap, sym, arith}
use Rattle.std.proofs.lemmas.List.{length-set, length-take, take_more_set, take-append-drop, take-append-le}
use Rattle.std.proofs.Math.Seq.{take-append-add}

-- four bytes put after the first `n`
abbrev four_put : List ℕ → (n a b c d : ℕ) → List ℕ
four_put xs n a b c d = set (set (set (set xs n a) (n + 1) b) (n + 2) c) (n + 3) d

-- the first `n + 4` bytes then
four_first : (xs : List ℕ) (n a b c d : ℕ) → n + 4 ≤ length xs → take (n + 4) (four_put xs n a b c d) ≡ take n xs ++ (a ∷ b ∷ c ∷ d ∷ [])
four_first xs n a b c d h =
    let one = set xs n a in
    let two = set one (n + 1) b in
    let three = set two (n + 2) c in
    let l1 : length one ≡ length xs = length-set xs n a in
    let l2 : length two ≡ length one = length-set one (n + 1) b in
    let l3 : length three ≡ length two = length-set two (n + 2) c in
    let e1 : take (n + 1) one ≡ take n xs ++ (a ∷ []) = take_more_set xs n a (omega arith) in
    let e2 : take (n + 1 + 1) two ≡ take (n + 1) one ++ (b ∷ []) = take_more_set one (n + 1) b (omega arith) in
    let e3 : take (n + 2 + 1) three ≡ take (n + 2) two ++ (c ∷ []) = take_more_set two (n + 2) c (omega arith) in
    let e4 : take (n + 3 + 1) (set three (n + 3) d) ≡ take (n + 3) three ++ (d ∷ []) = take_more_set three (n + 3) d (omega arith) in
    let i2 : n + 1 + 1 ≡ n + 2 = omega arith in
    let i3 : n + 2 + 1 ≡ n + 3 = omega arith in
    let i4 : n + 3 + 1 ≡ n + 4 = omega arith in
    let f2 : take (n + 2) two ≡ take (n + 1) one ++ (b ∷ []) = ap (λ (k : ℕ). take k two) (sym i2) ∙ e2 in
    let f3 : take (n + 3) three ≡ take (n + 2) two ++ (c ∷ []) = ap (λ (k : ℕ). take k three) (sym i3) ∙ e3 in
    let f4 : take (n + 4) (four_put xs n a b c d) ≡ take (n + 3) three ++ (d ∷ []) = ap (λ (k : ℕ). take k (four_put xs n a b c d)) (sym i4) ∙ e4 in
    f4 ∙ simp (f3, f2, e1, append_assoc)

-- the first few of the four bytes follow the first `n`
some_of_four : (xs : List ℕ) (n count a b c d : ℕ) → count ≤ 4 → n + 4 ≤ length xs → take (n + count) (four_put xs n a b c d) ≡ take n xs ++ take count (a ∷ b ∷ c ∷ d ∷ [])
some_of_four xs n count a b c d h r =
    let ys = four_put xs n a b c d in
    let rest = drop (n + 4) ys in
    let m : length (take n xs) ≡ n = omega (arith, length-take n xs) in
    let whole : ys ≡ take n xs ++ ((a ∷ b ∷ c ∷ d ∷ []) ++ rest) = sym (take-append-drop (n + 4) ys) ∙ ap (λ (z : List ℕ). z ++ rest) (four_first xs n a b c d r) ∙ append_assoc (take n xs) (a ∷ b ∷ c ∷ d ∷ []) rest in
    ap (λ (z : List ℕ). take (n + count) z) whole
    ∙ ap (λ (k : ℕ). take (k + count) (take n xs ++ ((a ∷ b ∷ c ∷ d ∷ []) ++ rest))) (sym m)
    ∙ take-append-add (take n xs) ((a ∷ b ∷ c ∷ d ∷ []) ++ rest) count
    ∙ ap (λ (z : List ℕ). take n xs ++ z) (take-append-le count (a ∷ b ∷ c ∷ d ∷ []) rest (omega arith))

-- the first few of a list of four bytes follow the first `n`
pub some_put : (xs : List ℕ) (n count : ℕ) (bytes : List ℕ) → length bytes ≡ 4 → count ≤ 4 → n + 4 ≤ length xs
    → take (n + count) (set (set (set (set xs n (get_or bytes 0 0)) (n + 1) (get_or bytes 1 0)) (n + 2) (get_or bytes 2 0)) (n + 3) (get_or bytes 3 0)) ≡ take n xs ++ take count bytes
some_put xs n count [] e h r = absurd (omega arith)
some_put xs n count (a ∷ []) e h r = absurd (omega arith)
some_put xs n count (a ∷ b ∷ []) e h r = absurd (omega arith)
some_put xs n count (a ∷ b ∷ c ∷ []) e h r = absurd (omega arith)
some_put xs n count (a ∷ b ∷ c ∷ d ∷ []) e h r = some_of_four xs n count a b c d h r
some_put xs n count (a ∷ b ∷ c ∷ d ∷ x ∷ ys) e h r = absurd (omega arith)
