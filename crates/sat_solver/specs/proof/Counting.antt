-- The number of hash bits that are written. It depends on the number of clauses with two or more literals, so that
-- few of them share a hash.
use Rattle.std.specs.Prelude.{ℕ, zero, suc, ◌+◌, ◌-◌, ◌*◌, ◌/◌, ◌^◌, ◌&&◌, Bool, true, false, List, [], ◌∷◌, ◌++◌, min, nat_lt, nat_eq, if◌then◌else◌}
use Rattle.sat_base.specs.steps.Steps.{Step, AddClause, AtClause, DeleteClause, ChangeHashBits}
use Rattle.sat_solver.specs.proof.Widths.{narrowed, KeepsWidth}
use Rattle.sat_solver.specs.declared.proof.hash_bits.Counting.{Counting}

-- the counts when nothing was counted: no clause, hashes of 64 bits, and no ask has begun
abbrev pub nothing_counted : Counting
nothing_counted = record { clauses = 0; bits = 64; solving = false }

-- `with_clause_counted clause n` is one more than `n` for a clause with two or more literals, and otherwise `n`; the
-- count is at most 2^64-1
abbrev pub with_clause_counted : List ℕ → ℕ → ℕ
with_clause_counted [] n = n
with_clause_counted (l ∷ []) n = n
with_clause_counted (l ∷ m ∷ ls) n = min (n + 1) (2 ^ 64 - 1)

-- `with_clause_uncounted clause n` is one less than `n` for a clause with two or more literals, and otherwise `n`; the
-- count is at least 0
abbrev pub with_clause_uncounted : List ℕ → ℕ → ℕ
with_clause_uncounted [] n = n
with_clause_uncounted (l ∷ []) n = n
with_clause_uncounted (l ∷ m ∷ ls) n = n - 1

-- the number of stored clauses with two or more literals after a step, if it was `n` before
abbrev pub count_after : Step → ℕ → ℕ
count_after (AddClause clause) n = with_clause_counted clause n
count_after (AtClause redundant clause hashes) n = with_clause_counted clause n
count_after (DeleteClause clause proof) n = with_clause_uncounted clause n
count_after step n = n

-- `too_short n bits` is true if the width is below 64, and `n` is above the square root of the number of different
-- hashes, 2^bits
abbrev pub too_short : ℕ → ℕ → Bool
too_short n bits = nat_lt bits 64 && nat_lt (2 ^ (bits / 2)) n

-- `too_long n bits` is true if the width is above 6, and 4n is below the square root of the number of different hashes,
-- 2^bits
abbrev pub too_long : ℕ → ℕ → Bool
too_long n bits = nat_lt 6 bits && nat_lt (4 * n) (2 ^ (bits / 2))

-- `widened_bits k n bits` is the width reached from `bits` by adding 2 (at most 64) while it is too short for `n`
-- clauses, up to `k` times; 32 times are enough for any two widths
unfoldable pub widened_bits : ℕ → ℕ → ℕ → ℕ
widened_bits zero n bits = bits
widened_bits (suc k) n bits = if too_short n bits then widened_bits k n (min (bits + 2) 64) else bits

-- `narrowed_bits k n bits` is the width reached from `bits` by subtracting 2 while it is too long for `n` clauses, up
-- to `k` times
unfoldable pub narrowed_bits : ℕ → ℕ → ℕ → ℕ
narrowed_bits zero n bits = bits
narrowed_bits (suc k) n bits = if too_long n bits then narrowed_bits k n (bits - 2) else bits

-- `fitting_bits solving n bits` is the width for `n` clauses if it was `bits` before: widened if too short, and
-- narrowed if too long, but only once an ask has begun (`solving`)
abbrev pub fitting_bits : Bool → ℕ → ℕ → ℕ
fitting_bits false n bits = widened_bits 32 n bits
fitting_bits true n bits = narrowed_bits 32 n (widened_bits 32 n bits)

-- the counts after a step: the step is counted first, and the resulting width is the one at which it is written
abbrev pub counting_after : Step → Counting → Counting
counting_after step c = let n : ℕ = count_after step c.clauses in record c { clauses = n; bits = fitting_bits c.solving n c.bits }

-- `width_change before now` is the step that sets the width to `now`, or no step if it was `now` before
abbrev pub width_change : ℕ → ℕ → List Step
width_change before now = if nat_eq before now then [] else ChangeHashBits now ∷ []

-- `written_for before now step` is what is written for `step`, newest first: a change of width if `before` differs from
-- `now`, then the step with hashes of `now` bits
abbrev pub written_for : ℕ → ℕ → Step → List Step
written_for before now step = narrowed now step ∷ width_change before now

-- `TruncatesHashes c made written d` holds if `written` is what is written for the steps `made` in the format
-- `Varisat`, with hashes cut to the width at each step, and the counts changed from `c` to `d`. Lists have the newest
-- step first.
pub data TruncatesHashes : Counting → List Step → List Step → Counting → Type 0 where
  none_made : {c : Counting} → TruncatesHashes c [] [] c
  ask_begun : {c d : Counting} {made written : List Step} → TruncatesHashes c made written d → TruncatesHashes c made written (record d { solving = true })
  one_made : {c d : Counting} {made written : List Step} (step : Step) → KeepsWidth step → TruncatesHashes c made written d → TruncatesHashes c (step ∷ made) (written_for d.bits (counting_after step d).bits step ++ written) (counting_after step d)

-- `CountsSteps c made d` holds if making the steps `made` (newest first) changes the counts from `c` to `d`; none of
-- them changes the width itself, and an ask may begin in between
pub record CountsSteps (c : Counting) (made : List Step) (d : Counting) : Type 0 where
  pub written : List Step
  pub cuts : TruncatesHashes c made written d
