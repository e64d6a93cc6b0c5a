-- The header after one of its flags was written.
use Rattle.std.proofs.Common.{◌≡◌, ℕ, ◌+◌, ◌*◌, ◌/◌, ◌%◌, ◌<◌, nat_eq, Bool, true, false, refl, arith}
use Rattle.std.specs.Int.{from_bool}
use Rattle.sat_store.specs.clause.Header.{header_of, tier_index, tier_of}
use Rattle.sat_store.specs.declared.clause.tier.Tier.{Tier}
use Rattle.sat_store.specs.declared.clause.tier.Tier.TheVariants.{Irred}

bit_test : (flag : Bool) → nat_eq (from_bool flag) 1 ≡ flag
bit_test true = refl
bit_test false = refl

bit_small : (flag : Bool) → from_bool flag < 2
bit_small true = omega arith
bit_small false = omega arith

tier_back : (tier : Tier) → tier_of (tier_index tier) ≡ tier
tier_back Irred = refl
tier_back e = refl

index_small : (tier : Tier) → tier_index tier < 4
index_small Irred = omega arith
index_small e = omega arith

pub deleted_set : (a f l : ℕ) (flag : Bool) → header_of a (f / 8 * 8 + from_bool flag * 4 + f % 4) l ≡ record (header_of a f l) { deleted = flag }
deleted_set a f l flag =
    let small : from_bool flag < 2 = bit_small flag in
    let g : ℕ = f / 8 * 8 + from_bool flag * 4 + f % 4 in
    let t : g % 4 ≡ f % 4 = omega arith in
    let d : g / 4 % 2 ≡ from_bool flag = omega arith in
    let m : g / 8 % 2 ≡ f / 8 % 2 = omega arith in
    let u : g / 16 % 64 ≡ f / 16 % 64 = omega arith in
    let s : g / 1024 % 2 ≡ f / 1024 % 2 = omega arith in
    rw (t, d, m, u, s, bit_test flag) refl

pub mark_set : (a f l : ℕ) (flag : Bool) → header_of a (f / 16 * 16 + from_bool flag * 8 + f % 8) l ≡ record (header_of a f l) { mark = flag }
mark_set a f l flag =
    let small : from_bool flag < 2 = bit_small flag in
    let g : ℕ = f / 16 * 16 + from_bool flag * 8 + f % 8 in
    let t : g % 4 ≡ f % 4 = omega arith in
    let d : g / 4 % 2 ≡ f / 4 % 2 = omega arith in
    let m : g / 8 % 2 ≡ from_bool flag = omega arith in
    let u : g / 16 % 64 ≡ f / 16 % 64 = omega arith in
    let s : g / 1024 % 2 ≡ f / 1024 % 2 = omega arith in
    rw (t, d, m, u, s, bit_test flag) refl

pub tier_set : (a f l : ℕ) (tier : Tier) → header_of a (f / 4 * 4 + tier_index tier) l ≡ record (header_of a f l) { tier = tier }
tier_set a f l tier =
    let small : tier_index tier < 4 = index_small tier in
    let g : ℕ = f / 4 * 4 + tier_index tier in
    let t : g % 4 ≡ tier_index tier = omega arith in
    let d : g / 4 % 2 ≡ f / 4 % 2 = omega arith in
    let m : g / 8 % 2 ≡ f / 8 % 2 = omega arith in
    let u : g / 16 % 64 ≡ f / 16 % 64 = omega arith in
    let s : g / 1024 % 2 ≡ f / 1024 % 2 = omega arith in
    rw (t, d, m, u, s, tier_back tier) refl
