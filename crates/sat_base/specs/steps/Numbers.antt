-- Numbers in groups of seven bits (LEB128), low group first.
use Rattle.std.specs.Prelude.{◌≡◌, ℕ, ◌+◌, ◌*◌, ◌<◌, ◌≤◌, List, [], ◌∷◌}
use Rattle.sat_base.specs.steps.Formats.{Format}

-- `SpellsNumber n bytes` holds if the bytes spell the number `n`. A byte below 128 is the last, and is the value
-- itself. A byte of 128 or more has the low seven bits, and the bytes after it spell the rest, which is not 0. So every
-- number has exactly one spelling.
abbrev pub SpellsNumber : ℕ → List ℕ → Type 0
SpellsNumber n [] = ⊥
SpellsNumber n (b ∷ []) = (b < 128) × (n ≡ b)
SpellsNumber n (b ∷ c ∷ bs) = (128 ≤ b) × (b < 256)
    × (high : ℕ) × (0 < high) × (n + 128 ≡ b + 128 * high) × SpellsNumber high (c ∷ bs)

-- `SpellsNumberBelow limit n bytes` holds if the bytes are the LEB128 text of the number `n`, which is below `limit`.
abbrev pub SpellsNumberBelow : ℕ → Format ℕ
SpellsNumberBelow limit n bytes = SpellsNumber n bytes × (n < limit)
