-- Texts that can continue without a wrong word.
use Rattle.std.specs.Prelude.{◌≡◌, ℕ, List, [], ◌∷◌}
use Rattle.std.specs.List.{AllByRecursion}
use Rattle.sat_base.specs.text.Text.{Token, Wrong, Scan}

-- `HaveNoWrongWord ts` holds if none of these tokens is `Wrong`.
abbrev pub HaveNoWrongWord : List (ℕ × Token) → Type 0
HaveNoWrongWord ts = AllByRecursion (λ t. t.1 ≡ Wrong → ⊥) ts

-- `HasNoValidContinuation left_of` holds if the next token is `Wrong`, on the line of the last byte, whatever bytes
-- follow. `left_of` gives what is still to be read, for any bytes to come.
abbrev pub HasNoValidContinuation : (List ℕ → Scan) → Type 0
HasNoValidContinuation left_of = (rest : List ℕ) → (more : List (ℕ × Token)) × ((left_of rest).tokens ≡ ((left_of []).last, Wrong) ∷ more)

-- `HasValidContinuation left_of` holds if for some bytes to come, what is still to be read has no wrong word.
abbrev pub HasValidContinuation : (List ℕ → Scan) → Type 0
HasValidContinuation left_of = (rest : List ℕ) × HaveNoWrongWord (left_of rest).tokens
