-- The Luby sequence: 1 1 2 1 1 2 4 and so on.
use Rattle.std.specs.Prelude.{◌≡◌, ℕ, zero, suc, ◌+◌, ◌-◌, ◌^◌, ◌==◌, [], ◌∷◌, if◌then◌else◌, nat_lt, refl}

-- term `t` of the Luby sequence (counting from 1), for `t` below 2^k: 2^(k - 1) if `t` is 2^k - 1, otherwise the term
-- at `t`, or at `t` - 2^(k - 1) + 1 if `t` is 2^(k - 1) or more
unfoldable pub luby_below : ℕ → ℕ → ℕ
luby_below zero t = 0
luby_below (suc k) t =
    if t == 2 ^ suc k - 1 then 2 ^ k else (if nat_lt t (2 ^ k) then luby_below k t else luby_below k (t - 2 ^ k + 1))

-- term `t` of the Luby sequence 1, 1, 2, 1, 1, 2, 4, ..., counting from 1
unfoldable pub luby : ℕ → ℕ
luby t = luby_below t t

-- the term number `t` as a 64-bit counter holds it: 0 instead of 2^64 - 1, after which the sequence starts again
abbrev pub wrapped_term_number : ℕ → ℕ
wrapped_term_number t = if t == 2 ^ 64 - 1 then 0 else t

first_fifteen : luby 1 ∷ luby 2 ∷ luby 3 ∷ luby 4 ∷ luby 5 ∷ luby 6 ∷ luby 7 ∷ luby 8 ∷ luby 9 ∷ luby 10 ∷ luby 11 ∷ luby 12 ∷ luby 13 ∷ luby 14 ∷ luby 15 ∷ [] ≡ 1 ∷ 1 ∷ 2 ∷ 1 ∷ 1 ∷ 2 ∷ 4 ∷ 1 ∷ 1 ∷ 2 ∷ 1 ∷ 1 ∷ 2 ∷ 4 ∷ 8 ∷ []
unfolding luby luby_below
first_fifteen = refl
