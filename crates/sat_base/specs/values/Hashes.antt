-- The hashes by which a proof step names clauses.
use Rattle.std.specs.Prelude.{ℕ, ◌+◌, ◌*◌, ◌%◌, ◌^◌, List, [], ◌∷◌, bit_xor}

-- the hash of one literal: one more than its code, times a constant, modulo 2^64
abbrev pub literal_hash : ℕ → ℕ
literal_hash l = (l + 1) * 0x9E3779B97F4A7C15 % 2 ^ 64

-- the hash of a clause: the exclusive or of its literals' 64-bit hashes, 0 for the empty clause; the order does not
-- matter
abbrev pub hash_of : List ℕ → ℕ
hash_of [] = 0
hash_of (l ∷ ls) = bit_xor (literal_hash l) (hash_of ls)
