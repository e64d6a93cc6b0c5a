-- Numbers without leading zeros, with a space after them.
use Rattle.std.specs.Prelude.{ℕ, zero, suc, ◌<◌, ◌≤◌, ◌≡◌, ◌⊎◌, List, [], ◌∷◌, ◌++◌, decimal}
use Rattle.sat_base.specs.text.Text.{space}

-- `IsNumberUpTo limit n` holds if the number `n` is between 1 and the limit.
abbrev pub IsNumberUpTo : ℕ → ℕ → Type 0
IsNumberUpTo limit n = (1 ≤ n) × (n ≤ limit)

-- the digits of an unfinished number; none if its value so far is 0
abbrev pub digits_so_far : ℕ → List ℕ
digits_so_far zero = []
digits_so_far (suc n) = decimal (suc n)

-- `NoNumberContinues limit number byte` holds if no number up to the limit begins with the digits of `number` and this
-- byte.
abbrev pub NoNumberContinues : ℕ → ℕ → ℕ → Type 0
NoNumberContinues limit number byte = (n : ℕ) (more : List ℕ) → IsNumberUpTo limit n → decimal n ≡ digits_so_far number ++ (byte ∷ more) → ⊥

-- `EndsNoNumber number byte limit` holds if the byte does not end a number within the limit: it is not a space, or the
-- number before it is 0 or above the limit.
abbrev pub EndsNoNumber : ℕ → ℕ → ℕ → Type 0
EndsNoNumber number byte limit = byte ≡ space → (number ≡ 0) ⊎ (limit < number)

-- `BeginsWithNoWord word P bytes` holds if the bytes do not begin with the word of a value for which `P` holds, and a
-- space.
abbrev pub BeginsWithNoWord : (ℕ → List ℕ) → (ℕ → Type 0) → List ℕ → Type 0
BeginsWithNoWord word P bytes = (x : ℕ) (tail : List ℕ) → P x → bytes ≡ word x ++ (space ∷ tail) → ⊥

-- `BeginsWithWord word P bytes x rest` holds if the bytes are the word of `x`, for which `P` holds, a space, and
-- `rest`.
abbrev pub BeginsWithWord : (ℕ → List ℕ) → (ℕ → Type 0) → List ℕ → ℕ → List ℕ → Type 0
BeginsWithWord word P bytes x rest = P x × (bytes ≡ word x ++ (space ∷ rest))
