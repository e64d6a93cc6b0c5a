-- How often literals are counted in clauses of two or more literals.
use Rattle.std.specs.Prelude.{ℕ, Bool, true, false}
use Rattle.sat_checker.specs.inner.OccurrenceView.{count_at}
use Rattle.sat_hints.specs.declared.uses.Uses.{Uses}

-- the number `n` if the flag, which says that counting has begun, is true, otherwise 0
abbrev pub count_if_counting : Bool → ℕ → ℕ
count_if_counting true n = n
count_if_counting false n = 0

-- the recorded count of the literal `l` in clauses of two or more literals, or 0 if there is none
abbrev pub uses_at : Uses → ℕ → ℕ
uses_at u l = count_at u.counts l
