-- Optional variables as numbers.
use Rattle.std.specs.Prelude.{ℕ, zero, suc, ◌≡◌, Option, None, Some, refl}

-- the number of an optional variable: 0 if there is none, otherwise one more than the index
abbrev pub packed : Option ℕ → ℕ
packed None = 0
packed (Some v) = suc v

-- the optional variable that a number stores: `None` for 0, otherwise the index one lower
abbrev pub unpacked : ℕ → Option ℕ
unpacked zero = None
unpacked (suc v) = Some v

-- the number of an unpacked variable is the number that it was unpacked from
pub packed_unpacked : (n : ℕ) → packed (unpacked n) ≡ n
packed_unpacked zero = refl
packed_unpacked (suc v) = refl
