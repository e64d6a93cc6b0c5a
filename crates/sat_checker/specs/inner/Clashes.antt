-- Variables that occur twice in a list of literals.
use Rattle.std.specs.Prelude.{ℕ, ◌≡◌, ◌<◌, ◌≤◌, ◌+◌, ◌-◌, ◌*◌, ◌/◌, ◌%◌, ◌==◌, Bool, false, ◌||◌, List, [], ◌∷◌, length, get_or, drop, if◌then◌else◌}
use Rattle.std.specs.Int.{bit_at}
use Rattle.sat_base.specs.values.Literals.{negated, variable}

-- The key of a literal: its variable if `repeats` is true, and its code otherwise. A literal clashes with the literals
-- that have the key of its negation.
abbrev pub key_of : Bool → ℕ → ℕ
key_of repeats l = if repeats then variable l else l

-- `has_key repeats ls key` is true if a literal of the list has the key.
abbrev pub has_key : Bool → List ℕ → ℕ → Bool
has_key repeats [] key = false
has_key repeats (l ∷ ls) key = key_of repeats l == key || has_key repeats ls key

-- `clashes_with repeats ls l` is true if the list has the negation of `l` or, if `repeats` is true, `l` itself.
abbrev pub clashes_with : Bool → List ℕ → ℕ → Bool
clashes_with repeats ls l = has_key repeats ls (key_of repeats (negated l))

-- `has_clash repeats ls` is true if a literal of the list has its negation or, if `repeats` is true, itself further on
-- in the list.
abbrev pub has_clash : Bool → List ℕ → Bool
has_clash repeats [] = false
has_clash repeats (l ∷ ls) = clashes_with repeats ls l || has_clash repeats ls

-- `NoClash repeats place low high ls` holds if no literal at `place` or later, with a key from `low` to below `high`,
-- has its negation or, if `repeats` is true, itself further on in `ls`.
pub record NoClash (repeats : Bool) (place low high : ℕ) (ls : List ℕ) : Type 0 where
  pub each : (k : ℕ) → place ≤ k → k < length ls → low ≤ key_of repeats (get_or ls k 0) → key_of repeats (get_or ls k 0) < high → clashes_with repeats (drop (k + 1) ls) (get_or ls k 0) ≡ false

-- `NoKeyBetween repeats low high ls` holds if no key in `ls` is from `low` to below `high`.
pub record NoKeyBetween (repeats : Bool) (low high : ℕ) (ls : List ℕ) : Type 0 where
  pub each : (k : ℕ) → k < length ls → key_of repeats (get_or ls k 0) < high → key_of repeats (get_or ls k 0) < low

-- `KeysBelow repeats low ls` holds if all keys in `ls` are below `low`.
pub record KeysBelow (repeats : Bool) (low : ℕ) (ls : List ℕ) : Type 0 where
  pub each : (k : ℕ) → k < length ls → key_of repeats (get_or ls k 0) < low

-- `is_marked marks place` is true if the bit for `place` is set in a list of words of 64 bits.
abbrev pub is_marked : List ℕ → ℕ → Bool
is_marked marks place = bit_at (get_or marks (place / 64) 0) (place % 64) == 1

-- `MarksKeys repeats start marks ls` holds if `marks` has, for as many keys as it has bits, beginning with `start`,
-- whether a literal of `ls` has the key.
pub record MarksKeys (repeats : Bool) (start : ℕ) (marks : List ℕ) (ls : List ℕ) : Type 0 where
  pub each : (key : ℕ) → start ≤ key → key < start + 64 * length marks → is_marked marks (key - start) ≡ has_key repeats ls key
