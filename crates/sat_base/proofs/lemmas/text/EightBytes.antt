-- Eight bytes as one number: their digits, and the value of their digits.
use Rattle.std.proofs.Common.{ℕ, zero, suc, ◌+◌, ◌-◌, ◌*◌, ◌/◌, ◌%◌, ◌^◌, ◌<◌, ◌≤◌, ◌≡◌, ◌∙◌, Bool, true, false, not, Some, List, [], ◌∷◌, ◌++◌, length, take, get_or, map, replicate, Fits, w8, w64, bit_and, refl, sym, ap, subst, inl, inr, arith}
use Rattle.std.specs.List.{AllByRecursion, prefix_len}
use Rattle.std.specs.Int.{from_le_bytes}
use Rattle.std.proofs.lemmas.Bool.{agree_below, agree_below_at, not-true, not-false, cases_eq}
use Rattle.std.proofs.lemmas.Bool.Decides.{nat_tests}
use Rattle.std.proofs.lemmas.Nat.{and_mask, and_block}
use Rattle.std.proofs.lemmas.List.{length-map}
use Rattle.std.proofs.lemmas.Simd.{map-map, mask_l-mod, length-chunk, trailing_mask_l, run_in_chunk_fails, run_in_chunk_stops, zip2_splat_left}
use lib.Lanes.{chunk, mask_l, top, zip2}
use lib.Count.{count_trailing_zeros}
use Rattle.sat_base.specs.text.Text.{is_digit, digits}
use Rattle.sat_base.specs.text.ShortNumbers.{little_endian_value, AreEightDigits, value_with_digits}

-- THE FIRST BYTE THAT IS NO DIGIT

module _ (bytes : List ℕ) (r : ℕ) (z : List ℕ) (room : 0 + 8 ≤ length bytes) (fits : (k : ℕ) → Fits w8 (get_or bytes k 0))
    (found : r ≡ count_trailing_zeros 64 (mask_l (map (top 7) z) % 2 ^ 64)) (f : ℕ → ℕ) (lanes : z ≡ map f (chunk 0 8 bytes)) where
  abbrev stops : ℕ → Bool
  stops x = top 7 (f x)

  long : length (chunk 0 8 bytes) ≡ 8
  long = length-chunk 0 8 bytes room

  mask : mask_l (map (top 7) z) % 2 ^ 64 ≡ mask_l (map stops (chunk 0 8 bytes))
  mask = ap (λ l. mask_l l % 2 ^ 64) (ap (map (top 7)) lanes ∙ map-map (top 7) f (chunk 0 8 bytes)) ∙ mask_l-mod (map stops (chunk 0 8 bytes)) 64 (omega (arith, length-map (chunk 0 8 bytes) stops, long))

  counted : r < 8 → r ≡ prefix_len (λ x. not (stops x)) (chunk 0 8 bytes)
  unfolding count_trailing_zeros
  counted small = elim (cases_eq (mask_l (map stops (chunk 0 8 bytes))) 0) [
    | inl none ↦ let n : r ≡ 64 = found ∙ ap (count_trailing_zeros 64) (mask ∙ none) in absurd (omega arith)
    | inr some ↦ found ∙ ap (count_trailing_zeros 64) mask ∙ trailing_mask_l stops 64 (chunk 0 8 bytes) (omega (arith, long)) (omega arith)
  ]

  pub digits_before : agree_below stops (λ x. not (is_digit x)) 256 ≡ true → (k : ℕ) → r < 8 → k < r → is_digit (get_or bytes k 0) ≡ true
  digits_before all k small h =
      not-false _ (sym (agree_below_at stops (λ x. not (is_digit x)) 256 (get_or bytes k 0) all (fits k).fits) ∙ run_in_chunk_fails stops bytes 0 8 r 0 room (counted small) k (omega arith) (omega arith))

  pub other_at : agree_below stops (λ x. not (is_digit x)) 256 ≡ true → r < 8 → is_digit (get_or bytes r 0) ≡ false
  other_at all small =
      let at : 0 + r ≡ r = omega arith in
      let stop : stops (get_or bytes r 0) ≡ true = subst (λ j. stops (get_or bytes j 0) ≡ true) at (run_in_chunk_stops stops bytes 0 8 r 0 room (counted small) small) in
      not-true _ (sym (agree_below_at stops (λ x. not (is_digit x)) 256 (get_or bytes r 0) all (fits r).fits) ∙ stop)

-- an operation of a number with each lane, after one on the lanes
pub lane_by_lane : (f : ℕ → ℕ → ℕ) (h : ℕ → ℕ) (v : List ℕ) (a : ℕ) {xs : List ℕ} → length v ≡ 8 → xs ≡ map h v → zip2 f (replicate 8 a) xs ≡ map (λ x. f a (h x)) v
lane_by_lane f h v a {xs} long e =
    ap (λ (z : List ℕ). zip2 f (replicate 8 a) z) e ∙ zip2_splat_left f a 8 (map h v) (length-map v h ∙ long) ∙ map-map (λ y. f a y) h v

-- THE VALUE OF EIGHT DIGITS

-- what is left of a number between its low and its high part
middle : (n low m high : ℕ) → n ≡ low + 256 * m + 18446744073709551616 * high → low < 256 → m < 72057594037927936 → n % 18446744073709551616 / 256 ≡ m
middle n low m high e h k = omega arith

middle_2 : (n low m high : ℕ) → n ≡ low + 65536 * m + 18446744073709551616 * high → low < 65536 → m < 281474976710656 → n % 18446744073709551616 / 65536 ≡ m
middle_2 n low m high e h k = omega arith

middle_4 : (n low m high : ℕ) → n ≡ low + 4294967296 * m + 18446744073709551616 * high → low < 4294967296 → m < 4294967296 → n % 18446744073709551616 / 4294967296 ≡ m
middle_4 n low m high e h k = omega arith

-- one of two bytes, and one of two pairs of bytes
first_byte_of : (p q n m : ℕ) → p < 256 → q < 256 → bit_and (n * 65536 + (q * 256 + p)) (m * 65536 + 255) ≡ bit_and n m * 65536 + p
first_byte_of p q n m h k = and_block 16 n m (q * 256 + p) 255 (omega arith) (omega arith) ∙ ap (λ z. bit_and n m * 65536 + z) (and_mask (q * 256 + p) 8 ∙ omega arith)

first_pair_of : (p q n m : ℕ) → p < 65536 → q < 65536 → bit_and (n * 4294967296 + (q * 65536 + p)) (m * 4294967296 + 65535) ≡ bit_and n m * 4294967296 + p
first_pair_of p q n m h k = and_block 32 n m (q * 65536 + p) 65535 (omega arith) (omega arith) ∙ ap (λ z. bit_and n m * 4294967296 + z) (and_mask (q * 65536 + p) 16 ∙ omega arith)

last_byte : (p : ℕ) → p < 256 → bit_and p 255 ≡ p
last_byte p h = and_mask p 8 ∙ omega arith

last_pair : (p : ℕ) → p < 65536 → bit_and p 65535 ≡ p
last_pair p h = and_mask p 16 ∙ omega arith

four_bytes : (y p0 q0 p2 q2 p4 q4 p6 : ℕ) → y ≡ ((p6 * 65536 + (q4 * 256 + p4)) * 65536 + (q2 * 256 + p2)) * 65536 + (q0 * 256 + p0) → p0 < 256 → q0 < 256 → p2 < 256 → q2 < 256 → p4 < 256 → q4 < 256 → p6 < 256
    → bit_and y 71777214294589695 ≡ ((p6 * 65536 + p4) * 65536 + p2) * 65536 + p0
four_bytes y p0 q0 p2 q2 p4 q4 p6 e h0 k0 h2 k2 h4 k4 h6 =
    ap (λ z. bit_and z 71777214294589695) e
    ∙ first_byte_of p0 q0 ((p6 * 65536 + (q4 * 256 + p4)) * 65536 + (q2 * 256 + p2)) 1095233372415 h0 k0
    ∙ ap (λ z. z * 65536 + p0) (first_byte_of p2 q2 (p6 * 65536 + (q4 * 256 + p4)) 16711935 h2 k2)
    ∙ ap (λ z. (z * 65536 + p2) * 65536 + p0) (first_byte_of p4 q4 p6 255 h4 k4)
    ∙ ap (λ z. ((z * 65536 + p4) * 65536 + p2) * 65536 + p0) (last_byte p6 h6)

two_pairs : (y p0 q0 p2 : ℕ) → y ≡ p2 * 4294967296 + (q0 * 65536 + p0) → p0 < 65536 → q0 < 65536 → p2 < 65536 → bit_and y 281470681808895 ≡ p2 * 4294967296 + p0
two_pairs y p0 q0 p2 e h0 k0 h2 =
    ap (λ z. bit_and z 281470681808895) e ∙ first_pair_of p0 q0 p2 65535 h0 k0 ∙ ap (λ z. z * 4294967296 + p0) (last_pair p2 h2)

eight_are : (a b c d e f g h x : ℕ) → a ≤ 9 → b ≤ 9 → c ≤ 9 → d ≤ 9 → e ≤ 9 → f ≤ 9 → g ≤ 9 → h ≤ 9 → x ≡ little_endian_value (a ∷ b ∷ c ∷ d ∷ e ∷ f ∷ g ∷ h ∷ [])
    → bit_and (bit_and (x * 2561 % 18446744073709551616 / 256) 71777214294589695 * 6553601 % 18446744073709551616 / 65536) 281470681808895 * 42949672960001 % 18446744073709551616 / 4294967296
    ≡ value_with_digits 0 (a ∷ b ∷ c ∷ d ∷ e ∷ f ∷ g ∷ h ∷ [])
eight_are a b c d e f g h x la lb lc ld le lf lg lh is =
    let p0 : ℕ = 10 * a + b in
    let p2 : ℕ = 10 * c + d in
    let p4 : ℕ = 10 * e + f in
    let p6 : ℕ = 10 * g + h in
    let y : ℕ = ((p6 * 65536 + ((10 * f + g) * 256 + p4)) * 65536 + ((10 * d + e) * 256 + p2)) * 65536 + ((10 * b + c) * 256 + p0) in
    let one : x * 2561 % 18446744073709551616 / 256 ≡ y = middle (x * 2561) a y (10 * h) (omega arith) (omega arith) (omega arith) in
    let two : bit_and y 71777214294589695 ≡ ((p6 * 65536 + p4) * 65536 + p2) * 65536 + p0 = four_bytes y p0 (10 * b + c) p2 (10 * d + e) p4 (10 * f + g) p6 refl (omega arith) (omega arith) (omega arith) (omega arith) (omega arith) (omega arith) (omega arith) in
    let w : ℕ = ((p6 * 65536 + p4) * 65536 + p2) * 65536 + p0 in
    let u : ℕ = (100 * p4 + p6) * 4294967296 + ((100 * p2 + p4) * 65536 + (100 * p0 + p2)) in
    let three : w * 6553601 % 18446744073709551616 / 65536 ≡ u = middle_2 (w * 6553601) p0 u (100 * p6) (omega arith) (omega arith) (omega arith) in
    let four : bit_and u 281470681808895 ≡ (100 * p4 + p6) * 4294967296 + (100 * p0 + p2) = two_pairs u (100 * p0 + p2) (100 * p2 + p4) (100 * p4 + p6) refl (omega arith) (omega arith) (omega arith) in
    let t : ℕ = (100 * p4 + p6) * 4294967296 + (100 * p0 + p2) in
    let s : ℕ = 10000 * (100 * p0 + p2) + (100 * p4 + p6) in
    let five : t * 42949672960001 % 18446744073709551616 / 4294967296 ≡ s = middle_4 (t * 42949672960001) (100 * p0 + p2) s (10000 * (100 * p4 + p6)) (omega arith) (omega arith) (omega arith) in
    let value : s ≡ value_with_digits 0 (a ∷ b ∷ c ∷ d ∷ e ∷ f ∷ g ∷ h ∷ []) = omega arith in
    ap (λ z. bit_and (bit_and z 71777214294589695 * 6553601 % 18446744073709551616 / 65536) 281470681808895 * 42949672960001 % 18446744073709551616 / 4294967296) one
    ∙ ap (λ z. bit_and (z * 6553601 % 18446744073709551616 / 65536) 281470681808895 * 42949672960001 % 18446744073709551616 / 4294967296) two
    ∙ ap (λ z. bit_and z 281470681808895 * 42949672960001 % 18446744073709551616 / 4294967296) three
    ∙ ap (λ z. z * 42949672960001 % 18446744073709551616 / 4294967296) four
    ∙ five ∙ value

pub eight_value : (ds : List ℕ) (x : ℕ) → AreEightDigits ds → x ≡ little_endian_value ds
    → bit_and (bit_and (x * 2561 % 18446744073709551616 / 256) 71777214294589695 * 6553601 % 18446744073709551616 / 65536) 281470681808895 * 42949672960001 % 18446744073709551616 / 4294967296
    ≡ value_with_digits 0 ds
eight_value ds x are is = go ds are.eight are.each is
  where
    go : (ds : List ℕ) → length ds ≡ 8 → AllByRecursion (λ d. d ≤ 9) ds → x ≡ little_endian_value ds → bit_and (bit_and (x * 2561 % 18446744073709551616 / 256) 71777214294589695 * 6553601 % 18446744073709551616 / 65536) 281470681808895 * 42949672960001 % 18446744073709551616 / 4294967296 ≡ value_with_digits 0 ds
    go [] n h is = absurd (omega arith)
    go (a ∷ []) n h is = absurd (omega arith)
    go (a ∷ b ∷ []) n h is = absurd (omega arith)
    go (a ∷ b ∷ c ∷ []) n h is = absurd (omega arith)
    go (a ∷ b ∷ c ∷ d ∷ []) n h is = absurd (omega arith)
    go (a ∷ b ∷ c ∷ d ∷ e ∷ []) n h is = absurd (omega arith)
    go (a ∷ b ∷ c ∷ d ∷ e ∷ f ∷ []) n h is = absurd (omega arith)
    go (a ∷ b ∷ c ∷ d ∷ e ∷ f ∷ g ∷ []) n h is = absurd (omega arith)
    go (a ∷ b ∷ c ∷ d ∷ e ∷ f ∷ g ∷ i ∷ []) n h is = eight_are a b c d e f g i x h.0 h.1.0 h.1.1.0 h.1.1.1.0 h.1.1.1.1.0 h.1.1.1.1.1.0 h.1.1.1.1.1.1.0 h.1.1.1.1.1.1.1.0 is
    go (a ∷ b ∷ c ∷ d ∷ e ∷ f ∷ g ∷ i ∷ j ∷ ds) n h is = absurd (omega arith)

-- THE DIGITS BEFORE THE FIRST OTHER BYTE

small : {b : ℕ} → is_digit b ≡ true → b < 256
small {b} e = grind (arith, nat_tests)

-- the low halves of bytes
halves : (bs : List ℕ) → AllByRecursion (λ b. b < 256) bs → bit_and (little_endian_value bs) (little_endian_value (map (λ (b : ℕ). 15) bs)) ≡ little_endian_value (map (λ b. b % 16) bs)
halves [] h = refl
halves (b ∷ bs) h =
    let n = little_endian_value bs in
    let m = little_endian_value (map (λ (b : ℕ). 15) bs) in
    let swap_n : b + 256 * n ≡ n * 256 + b = omega arith in
    let swap_m : 15 + 256 * m ≡ m * 256 + 15 = omega arith in
    let back : bit_and n m * 256 + b % 16 ≡ b % 16 + 256 * bit_and n m = omega arith in
    ap (λ z. bit_and z (15 + 256 * m)) swap_n ∙ ap (λ z. bit_and (n * 256 + b) z) swap_m
    ∙ and_block 8 n m b 15 h.0 (omega arith) ∙ ap (λ z. bit_and n m * 256 + z) (and_mask b 4) ∙ back ∙ ap (λ z. b % 16 + 256 * z) (halves bs h.1)

-- digits spell the value of their low halves
spell : (n : ℕ) (xs : List ℕ) → AllByRecursion (λ b. is_digit b ≡ true) xs → digits n xs ≡ Some (value_with_digits n (map (λ b. b % 16) xs))
unfolding digits
spell n [] h = refl
spell n (x ∷ xs) h =
    let e : is_digit x ≡ true = h.0 in
    let low : x - 48 ≡ x % 16 = grind (arith, nat_tests) in
    rw e (ap (λ d. digits (10 * n + d) xs) low ∙ spell (10 * n + x % 16) xs h.1)

-- leading zeros are digits, and do not change the value
zeros_first : (j : ℕ) (ds : List ℕ) → value_with_digits 0 (map (λ b. b % 16) (replicate j 0 ++ ds)) ≡ value_with_digits 0 (map (λ b. b % 16) ds)
zeros_first zero ds = refl
zeros_first (suc j) ds = zeros_first j ds

all_bytes : (j : ℕ) (xs : List ℕ) → AllByRecursion (λ b. is_digit b ≡ true) xs → AllByRecursion (λ b. b < 256) (replicate j 0 ++ xs)
all_bytes zero [] h = tt
all_bytes zero (x ∷ xs) h = (small h.0, all_bytes zero xs h.1)
all_bytes (suc j) xs h = (omega arith, all_bytes j xs h)

all_low : (j : ℕ) (xs : List ℕ) → AllByRecursion (λ b. is_digit b ≡ true) xs → AllByRecursion (λ d. d ≤ 9) (map (λ b. b % 16) (replicate j 0 ++ xs))
all_low zero [] h = tt
all_low zero (x ∷ xs) h = (let e : is_digit x ≡ true = h.0 in grind (arith, nat_tests), all_low zero xs h.1)
all_low (suc j) xs h = (omega arith, all_low j xs h)

fifteens : (bs : List ℕ) → length bs ≡ 8 → little_endian_value (map (λ (b : ℕ). 15) bs) ≡ 1085102592571150095
fifteens [] e = absurd (omega arith)
fifteens (a ∷ []) e = absurd (omega arith)
fifteens (a ∷ b ∷ []) e = absurd (omega arith)
fifteens (a ∷ b ∷ c ∷ []) e = absurd (omega arith)
fifteens (a ∷ b ∷ c ∷ d ∷ []) e = absurd (omega arith)
fifteens (a ∷ b ∷ c ∷ d ∷ f ∷ []) e = absurd (omega arith)
fifteens (a ∷ b ∷ c ∷ d ∷ f ∷ g ∷ []) e = absurd (omega arith)
fifteens (a ∷ b ∷ c ∷ d ∷ f ∷ g ∷ h ∷ []) e = absurd (omega arith)
fifteens (a ∷ b ∷ c ∷ d ∷ f ∷ g ∷ h ∷ i ∷ []) e = refl
fifteens (a ∷ b ∷ c ∷ d ∷ f ∷ g ∷ h ∷ i ∷ j ∷ bs) e = absurd (omega arith)

finish : (j : ℕ) (xs : List ℕ) (eight top v : ℕ) → length (replicate j 0 ++ xs) ≡ 8 → AllByRecursion (λ b. is_digit b ≡ true) xs → top ≡ little_endian_value (replicate j 0 ++ xs)
    → ((ds : List ℕ) → AreEightDigits ds → bit_and top 1085102592571150095 ≡ little_endian_value ds → v ≡ value_with_digits 0 ds) → digits 0 xs ≡ Some v
finish j xs eight top v long h is spec =
    let bs = replicate j 0 ++ xs in
    let ds = map (λ b. b % 16) bs in
    let low : bit_and top 1085102592571150095 ≡ little_endian_value ds = ap (λ z. bit_and z 1085102592571150095) is ∙ ap (λ m. bit_and (little_endian_value bs) m) (sym (fifteens bs long)) ∙ halves bs (all_bytes j xs h) in
    let are : AreEightDigits ds = record { eight = length-map bs (λ b. b % 16) ∙ long; each = all_low j xs h } in
    spell 0 xs h ∙ ap Some (sym (zeros_first j xs) ∙ sym (spec ds are low))

below_top : (n low high : ℕ) → n ≡ low + 18446744073709551616 * high → low < 18446744073709551616 → n % 18446744073709551616 ≡ low
below_top n low high e h = omega arith

by_count : (b0 b1 b2 b3 b4 b5 b6 b7 : ℕ) (rest : List ℕ) (count eight v : ℕ) → 0 < count → count ≤ 7 → ((k : ℕ) → k < count → is_digit (get_or (b0 ∷ b1 ∷ b2 ∷ b3 ∷ b4 ∷ b5 ∷ b6 ∷ b7 ∷ rest) k 0) ≡ true)
    → eight ≡ from_le_bytes w64 (b0 ∷ b1 ∷ b2 ∷ b3 ∷ b4 ∷ b5 ∷ b6 ∷ b7 ∷ [])
    → ((ds : List ℕ) → AreEightDigits ds → bit_and (eight * 2 ^ (64 - 8 * count) % 18446744073709551616) 1085102592571150095 ≡ little_endian_value ds → v ≡ value_with_digits 0 ds)
    → digits 0 (take count (b0 ∷ b1 ∷ b2 ∷ b3 ∷ b4 ∷ b5 ∷ b6 ∷ b7 ∷ rest)) ≡ Some v
by_count b0 b1 b2 b3 b4 b5 b6 b7 rest zero eight v some few d e spec = absurd (omega arith)
by_count b0 b1 b2 b3 b4 b5 b6 b7 rest (suc zero) eight v some few d e spec =
    let l0 : b0 < 256 = small (d 0 (omega arith)) in
    let shifted : eight * 72057594037927936 % 18446744073709551616 ≡ little_endian_value (0 ∷ 0 ∷ 0 ∷ 0 ∷ 0 ∷ 0 ∷ 0 ∷ b0 ∷ []) = below_top (eight * 72057594037927936) (little_endian_value (0 ∷ 0 ∷ 0 ∷ 0 ∷ 0 ∷ 0 ∷ 0 ∷ b0 ∷ [])) (b1 + 256 * (b2 + 256 * (b3 + 256 * (b4 + 256 * (b5 + 256 * (b6 + 256 * (b7))))))) (omega arith) (omega arith) in
    finish 7 (b0 ∷ []) eight (eight * 72057594037927936 % 18446744073709551616) v refl (d 0 (omega arith), tt) shifted spec
by_count b0 b1 b2 b3 b4 b5 b6 b7 rest (suc (suc zero)) eight v some few d e spec =
    let l0 : b0 < 256 = small (d 0 (omega arith)) in let l1 : b1 < 256 = small (d 1 (omega arith)) in
    let shifted : eight * 281474976710656 % 18446744073709551616 ≡ little_endian_value (0 ∷ 0 ∷ 0 ∷ 0 ∷ 0 ∷ 0 ∷ b0 ∷ b1 ∷ []) = below_top (eight * 281474976710656) (little_endian_value (0 ∷ 0 ∷ 0 ∷ 0 ∷ 0 ∷ 0 ∷ b0 ∷ b1 ∷ [])) (b2 + 256 * (b3 + 256 * (b4 + 256 * (b5 + 256 * (b6 + 256 * (b7)))))) (omega arith) (omega arith) in
    finish 6 (b0 ∷ b1 ∷ []) eight (eight * 281474976710656 % 18446744073709551616) v refl (d 0 (omega arith), (d 1 (omega arith), tt)) shifted spec
by_count b0 b1 b2 b3 b4 b5 b6 b7 rest (suc (suc (suc zero))) eight v some few d e spec =
    let l0 : b0 < 256 = small (d 0 (omega arith)) in let l1 : b1 < 256 = small (d 1 (omega arith)) in let l2 : b2 < 256 = small (d 2 (omega arith)) in
    let shifted : eight * 1099511627776 % 18446744073709551616 ≡ little_endian_value (0 ∷ 0 ∷ 0 ∷ 0 ∷ 0 ∷ b0 ∷ b1 ∷ b2 ∷ []) = below_top (eight * 1099511627776) (little_endian_value (0 ∷ 0 ∷ 0 ∷ 0 ∷ 0 ∷ b0 ∷ b1 ∷ b2 ∷ [])) (b3 + 256 * (b4 + 256 * (b5 + 256 * (b6 + 256 * (b7))))) (omega arith) (omega arith) in
    finish 5 (b0 ∷ b1 ∷ b2 ∷ []) eight (eight * 1099511627776 % 18446744073709551616) v refl (d 0 (omega arith), (d 1 (omega arith), (d 2 (omega arith), tt))) shifted spec
by_count b0 b1 b2 b3 b4 b5 b6 b7 rest (suc (suc (suc (suc zero)))) eight v some few d e spec =
    let l0 : b0 < 256 = small (d 0 (omega arith)) in let l1 : b1 < 256 = small (d 1 (omega arith)) in let l2 : b2 < 256 = small (d 2 (omega arith)) in let l3 : b3 < 256 = small (d 3 (omega arith)) in
    let shifted : eight * 4294967296 % 18446744073709551616 ≡ little_endian_value (0 ∷ 0 ∷ 0 ∷ 0 ∷ b0 ∷ b1 ∷ b2 ∷ b3 ∷ []) = below_top (eight * 4294967296) (little_endian_value (0 ∷ 0 ∷ 0 ∷ 0 ∷ b0 ∷ b1 ∷ b2 ∷ b3 ∷ [])) (b4 + 256 * (b5 + 256 * (b6 + 256 * (b7)))) (omega arith) (omega arith) in
    finish 4 (b0 ∷ b1 ∷ b2 ∷ b3 ∷ []) eight (eight * 4294967296 % 18446744073709551616) v refl (d 0 (omega arith), (d 1 (omega arith), (d 2 (omega arith), (d 3 (omega arith), tt)))) shifted spec
by_count b0 b1 b2 b3 b4 b5 b6 b7 rest (suc (suc (suc (suc (suc zero))))) eight v some few d e spec =
    let l0 : b0 < 256 = small (d 0 (omega arith)) in let l1 : b1 < 256 = small (d 1 (omega arith)) in let l2 : b2 < 256 = small (d 2 (omega arith)) in let l3 : b3 < 256 = small (d 3 (omega arith)) in let l4 : b4 < 256 = small (d 4 (omega arith)) in
    let shifted : eight * 16777216 % 18446744073709551616 ≡ little_endian_value (0 ∷ 0 ∷ 0 ∷ b0 ∷ b1 ∷ b2 ∷ b3 ∷ b4 ∷ []) = below_top (eight * 16777216) (little_endian_value (0 ∷ 0 ∷ 0 ∷ b0 ∷ b1 ∷ b2 ∷ b3 ∷ b4 ∷ [])) (b5 + 256 * (b6 + 256 * (b7))) (omega arith) (omega arith) in
    finish 3 (b0 ∷ b1 ∷ b2 ∷ b3 ∷ b4 ∷ []) eight (eight * 16777216 % 18446744073709551616) v refl (d 0 (omega arith), (d 1 (omega arith), (d 2 (omega arith), (d 3 (omega arith), (d 4 (omega arith), tt))))) shifted spec
by_count b0 b1 b2 b3 b4 b5 b6 b7 rest (suc (suc (suc (suc (suc (suc zero)))))) eight v some few d e spec =
    let l0 : b0 < 256 = small (d 0 (omega arith)) in let l1 : b1 < 256 = small (d 1 (omega arith)) in let l2 : b2 < 256 = small (d 2 (omega arith)) in let l3 : b3 < 256 = small (d 3 (omega arith)) in let l4 : b4 < 256 = small (d 4 (omega arith)) in let l5 : b5 < 256 = small (d 5 (omega arith)) in
    let shifted : eight * 65536 % 18446744073709551616 ≡ little_endian_value (0 ∷ 0 ∷ b0 ∷ b1 ∷ b2 ∷ b3 ∷ b4 ∷ b5 ∷ []) = below_top (eight * 65536) (little_endian_value (0 ∷ 0 ∷ b0 ∷ b1 ∷ b2 ∷ b3 ∷ b4 ∷ b5 ∷ [])) (b6 + 256 * (b7)) (omega arith) (omega arith) in
    finish 2 (b0 ∷ b1 ∷ b2 ∷ b3 ∷ b4 ∷ b5 ∷ []) eight (eight * 65536 % 18446744073709551616) v refl (d 0 (omega arith), (d 1 (omega arith), (d 2 (omega arith), (d 3 (omega arith), (d 4 (omega arith), (d 5 (omega arith), tt)))))) shifted spec
by_count b0 b1 b2 b3 b4 b5 b6 b7 rest (suc (suc (suc (suc (suc (suc (suc zero))))))) eight v some few d e spec =
    let l0 : b0 < 256 = small (d 0 (omega arith)) in let l1 : b1 < 256 = small (d 1 (omega arith)) in let l2 : b2 < 256 = small (d 2 (omega arith)) in let l3 : b3 < 256 = small (d 3 (omega arith)) in let l4 : b4 < 256 = small (d 4 (omega arith)) in let l5 : b5 < 256 = small (d 5 (omega arith)) in let l6 : b6 < 256 = small (d 6 (omega arith)) in
    let shifted : eight * 256 % 18446744073709551616 ≡ little_endian_value (0 ∷ b0 ∷ b1 ∷ b2 ∷ b3 ∷ b4 ∷ b5 ∷ b6 ∷ []) = below_top (eight * 256) (little_endian_value (0 ∷ b0 ∷ b1 ∷ b2 ∷ b3 ∷ b4 ∷ b5 ∷ b6 ∷ [])) (b7) (omega arith) (omega arith) in
    finish 1 (b0 ∷ b1 ∷ b2 ∷ b3 ∷ b4 ∷ b5 ∷ b6 ∷ []) eight (eight * 256 % 18446744073709551616) v refl (d 0 (omega arith), (d 1 (omega arith), (d 2 (omega arith), (d 3 (omega arith), (d 4 (omega arith), (d 5 (omega arith), (d 6 (omega arith), tt))))))) shifted spec
by_count b0 b1 b2 b3 b4 b5 b6 b7 rest (suc (suc (suc (suc (suc (suc (suc (suc n)))))))) eight v some few d e spec = absurd (omega arith)

pub short_value : (bytes : List ℕ) (count eight v : ℕ) → 8 ≤ length bytes → 0 < count → count ≤ 7 → ((k : ℕ) → k < count → is_digit (get_or bytes k 0) ≡ true)
    → eight ≡ from_le_bytes w64 (get_or bytes 0 0 ∷ get_or bytes 1 0 ∷ get_or bytes 2 0 ∷ get_or bytes 3 0 ∷ get_or bytes 4 0 ∷ get_or bytes 5 0 ∷ get_or bytes 6 0 ∷ get_or bytes 7 0 ∷ [])
    → ((ds : List ℕ) → AreEightDigits ds → bit_and (eight * 2 ^ (64 - 8 * count) % 18446744073709551616) 1085102592571150095 ≡ little_endian_value ds → v ≡ value_with_digits 0 ds)
    → digits 0 (take count bytes) ≡ Some v
short_value [] count eight v l = absurd (omega arith)
short_value (a ∷ []) count eight v l = absurd (omega arith)
short_value (a ∷ b ∷ []) count eight v l = absurd (omega arith)
short_value (a ∷ b ∷ c ∷ []) count eight v l = absurd (omega arith)
short_value (a ∷ b ∷ c ∷ d ∷ []) count eight v l = absurd (omega arith)
short_value (a ∷ b ∷ c ∷ d ∷ f ∷ []) count eight v l = absurd (omega arith)
short_value (a ∷ b ∷ c ∷ d ∷ f ∷ g ∷ []) count eight v l = absurd (omega arith)
short_value (a ∷ b ∷ c ∷ d ∷ f ∷ g ∷ h ∷ []) count eight v l = absurd (omega arith)
short_value (a ∷ b ∷ c ∷ d ∷ f ∷ g ∷ h ∷ i ∷ rest) count eight v l = by_count a b c d f g h i rest count eight v
