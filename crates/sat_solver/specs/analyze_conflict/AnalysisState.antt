-- The working state of conflict analysis, and the functions that change it.
use Rattle.std.specs.Prelude.{ℕ, ◌+◌, ◌-◌, ◌^◌, ◌==◌, nat_lt, min, length, Bool, true, false, List, [], ◌∷◌, ◌++◌, slice_index_or as get_or, slice_set as set, if◌then◌else◌}
use Rattle.std.specs.List.{swap}
use Rattle.sat_base.specs.values.Literals.{variable}
use Rattle.sat_parts.specs.declared.prop.graph.ImplNode.{ImplNode}
use Rattle.sat_parts.specs.declared.prop.graph.Reason.{Reason}
use Rattle.sat_parts.specs.declared.prop.graph.Reason.TheVariants.{Unit as NoCause, Binary, Long}
use Rattle.sat_parts.specs.declared.prop.graph.Conflict.{Conflict}
use Rattle.sat_parts.specs.declared.prop.graph.Conflict.TheVariants as conflicts
use Rattle.sat_parts.specs.prop.Graphs.{node_of}

-- the state of an analysis: the false literals of lower levels (`clause`), the true literals whose reasons were used,
-- the variables seen, the long clauses that took part (`antecedents`), the assumptions of a core, a flag per variable,
-- and the number of flagged literals still to be resolved (`pending`)
pub record AnalysisState : Type 0 where
  pub clause : List ℕ
  pub used : List ℕ
  pub seen : List ℕ
  pub antecedents : List ℕ
  pub core : List ℕ
  pub flags : List Bool
  pub pending : ℕ

-- the state of an analysis with these fields, in the order of the parameters
abbrev pub analysis_state : (clause used seen antecedents core : List ℕ) (flags : List Bool) (pending : ℕ) → AnalysisState
analysis_state clause used seen antecedents core flags pending = record { clause = clause; used = used; seen = seen; antecedents = antecedents; core = core; flags = flags; pending = pending }

-- `with_seen_literal nodes top r w` is the state after the false literal `r` is seen. Nothing changes if the literal
-- is of level 0 or flagged. Otherwise its variable is flagged and listed as seen. If its level is `top` or above, it
-- is counted as pending; otherwise it is added to the clause.
abbrev pub with_seen_literal : (nodes : List ImplNode) (top r : ℕ) → AnalysisState → AnalysisState
with_seen_literal nodes top r w =
    if (node_of nodes (variable r)).level == 0 then w
    else (if get_or w.flags (variable r) false then w
    else (if nat_lt (node_of nodes (variable r)).level top
    then record w { flags = set w.flags (variable r) true; seen = w.seen ++ variable r ∷ []; clause = w.clause ++ r ∷ [] }
    else record w { flags = set w.flags (variable r) true; seen = w.seen ++ variable r ∷ []; pending = min (w.pending + 1) (2 ^ 64 - 1) }))

-- the state after the literals of the list are seen one after another, as `with_seen_literal` says, for the level `top`
abbrev pub with_seen_literals : (nodes : List ImplNode) (top : ℕ) → List ℕ → AnalysisState → AnalysisState
with_seen_literals nodes top [] w = w
with_seen_literals nodes top (r ∷ rs) w = with_seen_literals nodes top rs (with_seen_literal nodes top r w)

-- the state after the variable of the literal `l` is unflagged, and the pending count is one less (0 stays 0)
abbrev pub unflagged : ℕ → AnalysisState → AnalysisState
unflagged l w = record w { flags = set w.flags (variable l) false; pending = w.pending - 1 }

-- the position in the buffer of the long clause that is this reason, as a list of one, or the empty list
abbrev pub long_of : Reason → List ℕ
long_of NoCause = []
long_of (Binary ls) = []
long_of (Long o) = o ∷ []

-- the position in the buffer of the long clause that was falsified, as a list of one, or the empty list if the conflict
-- is a binary clause
abbrev pub long_falsified : Conflict → List ℕ
long_falsified (conflicts.Binary ls) = []
long_falsified (conflicts.Long o) = o ∷ []

-- `with_reason_used r l w` is the state after the literal `l`, which is no longer pending, was resolved with its
-- reason `r`: it is listed as used, and a long reason as an antecedent
abbrev pub with_reason_used : (r : Reason) (l : ℕ) → AnalysisState → AnalysisState
with_reason_used r l w = record (unflagged l w) { used = w.used ++ l ∷ []; antecedents = w.antecedents ++ long_of r }

-- the state after the literal `l` was added to the core, its variable unflagged, and the pending count one less
abbrev pub with_core_literal : ℕ → AnalysisState → AnalysisState
with_core_literal l w = record (unflagged l w) { core = w.core ++ l ∷ [] }

-- the state when the analysis of the conflict `e` begins: all lists are empty, except that a long falsified clause is
-- an antecedent; flags are unchanged
abbrev pub begun_analysis : Conflict → AnalysisState → AnalysisState
begun_analysis e w = record w { clause = []; used = []; seen = []; antecedents = long_falsified e; core = []; pending = 0 }

-- the state when the analysis of the failed assumption `l` begins: `l` is the core, all other lists are empty, and
-- flags are unchanged
abbrev pub begun_core : ℕ → AnalysisState → AnalysisState
begun_core l w = record w { clause = []; used = []; seen = []; antecedents = []; core = l ∷ []; pending = 0 }

-- the state after the literal `r` was added to the clause and swapped with its first literal, so that it is first
abbrev pub with_first : ℕ → AnalysisState → AnalysisState
with_first r w = record w { clause = swap (w.clause ++ r ∷ []) 0 (length w.clause) }
