-- Pending bytes: to be written, or to be consumed.
use Rattle.std.specs.Prelude.{List, ℕ, ◌≡◌, ◌+◌, ◌≤◌, length, take, drop}
use Rattle.sat_base.specs.declared.device.ahead.Ahead.{Ahead}
use Rattle.sat_base.specs.declared.device.pending.Pending.{Pending}

-- the bytes put and not yet written
abbrev pub waiting_in : {N : ℕ} → Pending N → List ℕ
waiting_in p = take p.len p.bytes

-- the bytes read and not yet consumed
abbrev pub waiting : Ahead → List ℕ
waiting a = drop a.at (take a.end a.piece)

-- `HasByteRoom count waiting size p` holds if the buffer `p` has room for `count` more pending bytes. `waiting` gives
-- its pending bytes, and `size` its size.
abbrev pub HasByteRoom : {P : Type 0} → ℕ → (P → List ℕ) → (P → ℕ) → P → Type 0
HasByteRoom count waiting size p = length (waiting p) + count ≤ size p

-- `UsesRoom count waiting size old new` holds if at most `count` more bytes are pending, in a buffer of the same size.
abbrev pub UsesRoom : {P : Type 0} → ℕ → (P → List ℕ) → (P → ℕ) → P → P → Type 0
UsesRoom count waiting size old new = (length (waiting new) ≤ length (waiting old) + count) × (size new ≡ size old)
