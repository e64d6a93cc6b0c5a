-- Texts that are received in chunks.
use Rattle.std.specs.Prelude.{◌≡◌, ℕ, List, [], ◌++◌}

-- `LeadsByBytes Means old bytes new` holds if receiving `bytes` leads from the state `old` to `new`. `Means s f` says
-- that from state `s`, any bytes r to come yield `f r`. Whatever `bytes` followed by r yields from `old`, r yields from
-- `new`.
abbrev pub LeadsByBytes : {S R : Type 0} → (S → (List ℕ → R) → Type 0) → S → List ℕ → S → Type 0
LeadsByBytes {S} {R} Means old bytes new = (before : List ℕ → R) → Means old before
    → (after : List ℕ → R) × Means new after × ((rest : List ℕ) → before (bytes ++ rest) ≡ after rest)

-- `IgnoresRest left_of` holds if `left_of`, which gives what is still to be read for the bytes to come, gives the same
-- for all bytes to come.
abbrev pub IgnoresRest : {R : Type 0} → (List ℕ → R) → Type 0
IgnoresRest left_of = (rest : List ℕ) → left_of rest ≡ left_of []
