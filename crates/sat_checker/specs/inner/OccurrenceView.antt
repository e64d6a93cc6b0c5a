-- How often literals occur in clauses, and how that is stored.
use Rattle.std.specs.Prelude.{ℕ, ◌≡◌, ◌+◌, ◌==◌, List, [], ◌∷◌, if◌then◌else◌}
use Rattle.sat_base.specs.values.Tables.{value_at}
use Rattle.sat_checker.specs.inner.IndexView.{IndexesSlots}
use Rattle.sat_checker.specs.inner.PairView.{Indexed}
use Rattle.sat_checker.specs.inner.SlotView.{Slot, is_removed}
use Rattle.sat_checker.specs.declared.store.occurrences.Occurrences.{Occurrences}

-- How often a literal occurs in a clause.
abbrev pub times_in : ℕ → List ℕ → ℕ
times_in l [] = 0
times_in l (x ∷ xs) = (if x == l then 1 else 0) + times_in l xs

-- How often a literal occurs in the clauses that are not removed.
abbrev pub times_stored : ℕ → List Slot → ℕ
times_stored l [] = 0
times_stored l (s ∷ ss) = (if is_removed s then 0 else times_in l s.clause.literals) + times_stored l ss

-- The stored count of a literal, or 0 if there is none.
abbrev pub count_at : Occurrences → ℕ → ℕ
count_at kept l = value_at 0 kept.counts l

-- `SlotsInvariant slots index kept` holds if the index finds the clauses that are not removed by their hashes, and
-- `kept` counts every literal as often as they contain it.
pub record SlotsInvariant (slots : List Slot) (index : Indexed) (kept : Occurrences) : Type 0 where
  pub files : IndexesSlots index slots
  pub counted : (l : ℕ) → count_at kept l ≡ times_stored l slots
