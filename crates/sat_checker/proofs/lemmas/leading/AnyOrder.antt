-- The hash of literals doesn't depend on their order.
use Rattle.std.proofs.Common.{ℕ, ◌-◌, ◌/◌, ◌^◌, ◌≡◌, Bool, true, false, ◌||◌, cond, eqb, ltb, List, [], ◌∷◌, map, bit_xor, refl, sym, ◌∙◌, ap}
use Rattle.std.proofs.lemmas.Bool.{both_ways, eqb-true, eq-eqb, true≢false}
use Rattle.std.proofs.lemmas.Nat.{xor_comm}
use Rattle.std.specs.Int.Bits.{xor_assoc}
use Rattle.sat_base.specs.values.Hashes.{literal_hash, hash_of}
use Rattle.sat_checker.specs.LiteralSets.{is_among, with_literal, canonical}
use Rattle.sat_checker.specs.SortedSets.{NoRepeats}
use Rattle.sat_checker.specs.Stored.{solver_literal}
use Rattle.sat_checker.specs.ConflictPropagation.{HashIgnoresOrder}
use Rattle.sat_checker.proofs.lemmas.sets.Canonical.{canonical_among}

swap_hashes : (a b c : ℕ) → bit_xor a (bit_xor b c) ≡ bit_xor b (bit_xor a c)
swap_hashes a b c = sym (xor_assoc a b c) ∙ ap (λ x. bit_xor x c) (xor_comm a b) ∙ xor_assoc b a c

hash_put : (g : ℕ → ℕ) (l : ℕ) (ls : List ℕ) → is_among ls l ≡ false → hash_of (map g (with_literal l ls)) ≡ bit_xor (literal_hash (g l)) (hash_of (map g ls))
hash_put g l [] n = refl
hash_put g l (m ∷ ms) n = go (ltb l m) (eqb l m) refl (eqb m l) refl n (hash_put g l ms)
  where
    go : (b d : Bool) → eqb l m ≡ d → (e : Bool) → eqb m l ≡ e → e || is_among ms l ≡ false → (is_among ms l ≡ false → hash_of (map g (with_literal l ms)) ≡ bit_xor (literal_hash (g l)) (hash_of (map g ms)))
        → hash_of (map g (cond b (l ∷ m ∷ ms) (cond d (m ∷ ms) (m ∷ with_literal l ms)))) ≡ bit_xor (literal_hash (g l)) (hash_of (map g (m ∷ ms)))
    go true d x e y k ih = refl
    go false d x true y k ih = absurd (true≢false k)
    go false true x false y k ih = absurd (both_ways (eqb m l) y (eq-eqb m l (sym (eqb-true l m x))))
    go false false x false y k ih = ap (bit_xor (literal_hash (g m))) (ih k) ∙ swap_hashes (literal_hash (g m)) (literal_hash (g l)) (hash_of (map g ms))

-- the hash of a clause without repeats is that of its sorted set
hash_sorted : (g : ℕ → ℕ) (ls : List ℕ) → NoRepeats ls → hash_of (map g (canonical ls)) ≡ hash_of (map g ls)
hash_sorted g [] h = refl
hash_sorted g (l ∷ ls) h = hash_put g l (canonical ls) (canonical_among ls l ∙ h.0) ∙ ap (bit_xor (literal_hash (g l))) (hash_sorted g ls h.1)

pub hash_any_order : HashIgnoresOrder
hash_any_order names width ls h = ap (λ n. n / 2 ^ (64 - width)) (hash_sorted (solver_literal names) ls h)
