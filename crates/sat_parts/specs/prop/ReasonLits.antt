-- The literals of reasons and conflicts.
use Rattle.std.specs.Prelude.{ℕ, List, [], ◌∷◌, drop, slice_index_or as get_or}
use Rattle.sat_store.specs.clause.Buffer.{lits_at}
use Rattle.sat_parts.specs.declared.prop.graph.Reason.{Reason}
use Rattle.sat_parts.specs.declared.prop.graph.Reason.TheVariants.{Unit as NoCause, Binary, Long}
use Rattle.sat_parts.specs.declared.prop.graph.Conflict.{Conflict}
use Rattle.sat_parts.specs.declared.prop.graph.Conflict.TheVariants as conflicts

-- the literals other than the implied one in a reason's clause: none if it is not a clause, the other literal of a
-- binary clause, all but the first literal of a long clause (in the buffer `words`)
abbrev pub reason_lits : List ℕ → Reason → List ℕ
reason_lits words NoCause = []
reason_lits words (Binary ls) = get_or ls 0 0 ∷ []
reason_lits words (Long o) = drop 1 (lits_at words o)

-- the literals of the falsified clause that a conflict names: both of a binary clause, or those of a long clause in the
-- buffer `words`
abbrev pub conflict_lits : List ℕ → Conflict → List ℕ
conflict_lits words (conflicts.Binary ls) = get_or ls 0 0 ∷ get_or ls 1 0 ∷ []
conflict_lits words (conflicts.Long o) = lits_at words o
