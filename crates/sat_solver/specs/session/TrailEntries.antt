-- The clause of the parts that implies a literal of the trail.
use Rattle.std.specs.Prelude.{ℕ, List, [], ◌∷◌, slice_index_or as get_or}
use Rattle.sat_store.specs.clause.Buffer.{lits_at}
use Rattle.sat_parts.specs.declared.prop.graph.Reason.{Reason}
use Rattle.sat_parts.specs.declared.prop.graph.Reason.TheVariants.{Unit as NoCause, Binary, Long}

-- the clause that implies the literal `l` by its reason, with all its literals; empty if the reason is not a clause
abbrev pub reason_clause : List ℕ → ℕ → Reason → List ℕ
reason_clause words l NoCause = []
reason_clause words l (Binary ls) = l ∷ get_or ls 0 0 ∷ []
reason_clause words l (Long o) = lits_at words o
