-- The clauses that are not removed, place by place.
use Rattle.std.proofs.Common.{ℕ, zero, suc, ◌<◌, List, [], ◌∷◌, length, arith}
use Rattle.std.specs.List.{AllByRecursion}
use Rattle.sat_checker.specs.inner.Marks.{IsIncreasing}
use Rattle.sat_checker.specs.inner.SlotView.{Slot, literals_at, all_lits}

-- the literals at a place are increasing
pub at_place : (ss : List Slot) (i : ℕ) → AllByRecursion IsIncreasing (all_lits ss) → i < length ss → IsIncreasing (literals_at ss i)
at_place [] i h l = absurd (omega arith)
at_place (s ∷ ss) zero h l = h.0
at_place (s ∷ ss) (suc i) h l = at_place ss i h.1 (omega arith)
