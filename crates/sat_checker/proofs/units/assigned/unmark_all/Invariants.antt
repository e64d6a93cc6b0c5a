use Rattle.std.proofs.Common.{ℕ, ◌≡◌, drop, if◌then◌else◌}
use Rattle.sat_base.specs.values.Tables.{KeepsRoom}
use Rattle.sat_checker.specs.LiteralSets.{is_among}
use Rattle.sat_checker.specs.inner.Marks.{mark_at}
use Rattle.sat_checker.specs.declared.units.assigned.Mark.TheVariants as mark
use Rattle.sat_checker.proofs.units.assigned.unmark_all.Given as goal

-- unmarking the remaining literals gives the final marks
abbrev pub invariant-loop-lit : goal.invariant-loop-lit
invariant-loop-lit l = record {
  places : KeepsRoom l.fn.marks l.marks;
  set : (k : ℕ) → (if is_among (drop l.lit-index l.literals) k then mark.Room else mark_at l.marks k) ≡ (if is_among l.literals k then mark.Room else mark_at l.fn.marks k);
}
