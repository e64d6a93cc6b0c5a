-- Values consumed from the pending bytes.
use Rattle.std.specs.Prelude.{◌≡◌, ◌≤◌, ℕ, List, ◌++◌, length, drop, take}
use Rattle.sat_base.specs.declared.device.ahead.Ahead.{Ahead}
use Rattle.sat_base.specs.device.Waiting.{waiting}
use Rattle.sat_base.specs.steps.Formats.{Format, Items}
use Rattle.sat_base.specs.steps.Numbers.{SpellsNumberBelow}

-- `ConsumesNumber limit n old new` holds if the text of the number `n`, which is below `limit`, was consumed from the
-- buffered bytes, without a read.
abbrev pub ConsumesNumber : ℕ → ℕ → Ahead → Ahead → Type 0
ConsumesNumber limit n old new = (text : List ℕ) × SpellsNumberBelow limit n text × (waiting old ≡ text ++ waiting new) × (new.reads ≡ old.reads)

-- the bytes that were read ahead, from position `at` of the buffer on
abbrev pub buffered_from : ℕ → Ahead → List ℕ
buffered_from at a = drop at (take a.end a.piece)

-- `IsEncodedBetween limit n at following a` holds if the text of the number `n`, which is below `limit`, is between the
-- positions `at` and `following` of the buffered bytes.
abbrev pub IsEncodedBetween : ℕ → ℕ → ℕ → ℕ → Ahead → Type 0
IsEncodedBetween limit n at following a = (text : List ℕ) × SpellsNumberBelow limit n text × (buffered_from at a ≡ text ++ buffered_from following a)

-- `ConsumesItems F most n before now old new` holds if `n` items, at most `most`, were consumed from the buffered
-- bytes, without a read. `now` is the list `before` with these items appended.
abbrev pub ConsumesItems : Format ℕ → ℕ → ℕ → List ℕ → List ℕ → Ahead → Ahead → Type 0
ConsumesItems F most n before now old new =
    (n ≤ most) × (xs : List ℕ) × (text : List ℕ) × (length xs ≡ n) × (now ≡ before ++ xs) × Items F xs text × (waiting old ≡ text ++ waiting new) × (new.reads ≡ old.reads)
