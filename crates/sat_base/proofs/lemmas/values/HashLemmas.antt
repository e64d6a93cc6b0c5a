-- Hashes of clauses, literal by literal.
use Rattle.std.proofs.Common.{◌≡◌, ◌⊎◌, inl, inr, ℕ, zero, ◌+◌, ◌<◌, length, drop, set, get_or, get_or-set_same, get_or-set_other, List, [], ◌∷◌, refl, sym, ap, ◌∙◌, suc, arith}
use Rattle.std.proofs.lemmas.Bool.{cases_eq}
use Rattle.std.proofs.lemmas.List.{length-set}
use Rattle.std.proofs.lemmas.List.Edits.{swap_is}
use Rattle.std.proofs.lemmas.List.Sorted.{IsPermutation-keeps}
use Rattle.std.proofs.lemmas.Nat.{xor_comm}
use Rattle.std.proofs.Math.Seq.{drop-cons}
use Rattle.std.specs.Int.Bits.{bit_xor, xor_assoc, xor_self, xor_zero_r}
use Rattle.std.specs.List.Sorted.{IsPermutation}
use Rattle.sat_base.specs.values.Hashes.{literal_hash, hash_of}

-- adding the hash of the next literal
pub hash_next : (ls : List ℕ) (i hash : ℕ) → i < length ls → bit_xor hash (hash_of (drop i ls)) ≡ bit_xor (bit_xor hash (literal_hash (get_or ls i 0))) (hash_of (drop (i + 1) ls))
hash_next ls i hash h = let e : i + 1 ≡ suc i = omega arith in rw (e, drop-cons ls i 0) (sym (xor_assoc hash (literal_hash (get_or ls i 0)) (hash_of (drop (suc i) ls))))

-- a second exclusive or with the same number undoes the first
xor_back : (a b : ℕ) → bit_xor (bit_xor a b) b ≡ a
xor_back a b = xor_assoc a b b ∙ ap (λ (z : ℕ). bit_xor a z) (xor_self b) ∙ xor_zero_r a

-- replacing one literal by another
first_set : (x v h : ℕ) → bit_xor v h ≡ bit_xor (bit_xor (bit_xor x h) x) v
first_set x v h = xor_comm v h ∙ ap (λ (z : ℕ). bit_xor z v) (sym (xor_back h x)) ∙ ap (λ (z : ℕ). bit_xor (bit_xor z x) v) (xor_comm h x)

later_set : (x h a v : ℕ) → bit_xor x (bit_xor (bit_xor h a) v) ≡ bit_xor (bit_xor (bit_xor x h) a) v
later_set x h a v = sym (xor_assoc x (bit_xor h a) v) ∙ ap (λ (z : ℕ). bit_xor z v) (sym (xor_assoc x h a))

hash_set : (ls : List ℕ) (i v : ℕ) → i < length ls → hash_of (set ls i v) ≡ bit_xor (bit_xor (hash_of ls) (literal_hash (get_or ls i 0))) (literal_hash v)
hash_set [] i v h = absurd (omega arith)
hash_set (x ∷ xs) zero v h = first_set (literal_hash x) (literal_hash v) (hash_of xs)
hash_set (x ∷ xs) (suc i) v h = ap (λ (z : ℕ). bit_xor (literal_hash x) z) (hash_set xs i v (omega arith)) ∙ later_set (literal_hash x) (hash_of xs) (literal_hash (get_or xs i 0)) (literal_hash v)

-- swapping two literals
xor_twice : (h a b : ℕ) → bit_xor (bit_xor (bit_xor (bit_xor h a) b) b) a ≡ h
xor_twice h a b = ap (λ (z : ℕ). bit_xor z a) (xor_back (bit_xor h a) b) ∙ xor_back h a

by_place : (ls : List ℕ) (i j : ℕ) → i < length ls → (j ≡ i) ⊎ (j ≡ i → ⊥) → get_or (set ls i (get_or ls j 0)) j 0 ≡ get_or ls j 0
by_place ls i j h (inl e) = ap (λ (n : ℕ). get_or (set ls i (get_or ls j 0)) n 0) e ∙ get_or-set_same ls i (get_or ls j 0) 0 h
by_place ls i j h (inr n) = get_or-set_other ls i j (get_or ls j 0) 0 n

other_there : (ls : List ℕ) (i j : ℕ) → i < length ls → get_or (set ls i (get_or ls j 0)) j 0 ≡ get_or ls j 0
other_there ls i j h = by_place ls i j h (cases_eq j i)

swapped : (ls : List ℕ) (i j : ℕ) → i < length ls → j < length ls → hash_of (set (set ls i (get_or ls j 0)) j (get_or ls i 0)) ≡ hash_of ls
swapped ls i j h k =
    let a = literal_hash (get_or ls i 0) in
    let b = literal_hash (get_or ls j 0) in
    let long = length-set ls i (get_or ls j 0) in
    hash_set (set ls i (get_or ls j 0)) j (get_or ls i 0) (omega arith) ∙ ap (λ (z : ℕ). bit_xor (bit_xor (hash_of (set ls i (get_or ls j 0))) (literal_hash z)) a) (other_there ls i j h)
    ∙ ap (λ (z : ℕ). bit_xor (bit_xor z b) a) (hash_set ls i (get_or ls j 0) h) ∙ xor_twice (hash_of ls) a b

-- the hash does not depend on the order of the literals
pub hash_permuted : (ls ms : List ℕ) → IsPermutation ls ms → hash_of ls ≡ hash_of ms
hash_permuted ls ms p =
    sym (IsPermutation-keeps ls (λ (xs : List ℕ). hash_of xs ≡ hash_of ls) refl (λ xs i j h k e. ap hash_of (sym (swap_is xs i j 0 h k)) ∙ swapped xs i j h k ∙ e) ms p)
