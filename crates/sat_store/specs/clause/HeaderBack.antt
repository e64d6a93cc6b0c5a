-- The flags of a header determine the word that they were read from.
use Rattle.std.specs.Prelude.{◌≡◌, ℕ, ◌+◌, ◌*◌, ◌/◌, ◌%◌, ◌^◌, ◌<◌, ◌==◌}
use Rattle.std.proofs.Common.{ap, arith}
use Rattle.std.proofs.lemmas.Bool.Decides.{nat_tests}
use Rattle.sat_store.specs.clause.Header.{header_of, flags_of, tier_index, tier_of, bit}
use Rattle.sat_store.specs.declared.clause.header.ClauseHeader.TheInside.{Inside}

bit_back : (n : ℕ) → n < 2 → bit (n == 1) ≡ n
bit_back n small = grind (arith, nat_tests)

index_back : (n : ℕ) → n < 4 → tier_index (tier_of n) ≡ n
index_back n small = grind (arith, nat_tests)

flags_whole : (f : ℕ) → f < 2 ^ 11 → tier_index (tier_of (f % 4)) + 4 * bit (f / 4 % 2 == 1) + 8 * bit (f / 8 % 2 == 1) + 16 * (f / 16 % 64) + 1024 * bit (f / 1024 % 2 == 1) ≡ f
flags_whole f small =
    let a : tier_index (tier_of (f % 4)) ≡ f % 4 = index_back (f % 4) (omega arith) in
    let b : bit (f / 4 % 2 == 1) ≡ f / 4 % 2 = bit_back (f / 4 % 2) (omega arith) in
    let d : bit (f / 8 % 2 == 1) ≡ f / 8 % 2 = bit_back (f / 8 % 2) (omega arith) in
    let e : bit (f / 1024 % 2 == 1) ≡ f / 1024 % 2 = bit_back (f / 1024 % 2) (omega arith) in
    rw (a, b, d, e) (omega arith)

-- the header words that are rebuilt from the header that they hold are the same words, if the flags word is below 2^11
pub inverse_flags : (h : Inside) → h.flags < 2 ^ 11 → record { activity = h.activity; flags = flags_of (header_of h.activity h.flags h.len); len = h.len } ≡ h
inverse_flags h small = ap (λ (f : ℕ). record { activity = h.activity; flags = f; len = h.len }) (flags_whole h.flags small)
