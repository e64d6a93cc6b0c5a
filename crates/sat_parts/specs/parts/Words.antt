-- Words of trails since an ask began, as a measure of progress: the letters of the units that were taken off the
-- trail, then those of the literals on it.
use Rattle.std.specs.Prelude.{ℕ, ◌≡◌, ◌<◌, ◌⊎◌, None, true, false, List, ◌++◌, length, replicate, slice_index_or as get_or}
use Rattle.std.specs.List.{Contains}
use Rattle.sat_base.specs.values.Literals.{variable}
use Rattle.sat_store.specs.heap.Vsids.{Queue, is_available}
use Rattle.sat_parts.specs.clause.Orders.{AreDistinct}
use Rattle.sat_parts.specs.prop.Values.{value_of}
use Rattle.sat_parts.specs.prop.Trails.{TrailState}
use Rattle.sat_parts.specs.prop.State.{PropagationState, IsRemovedUnit}
use Rattle.sat_parts.specs.prop.TrailWord.{Letter, P, letters, IsLowerWord}
use Rattle.sat_parts.specs.declared.parts.SearchState.{SearchState}
use Rattle.sat_parts.specs.parts.Whole.{state}

-- `IsPrefixWord u v` holds if the word `u` is a prefix of `v`.
abbrev pub IsPrefixWord : List Letter → List Letter → Type 0
IsPrefixWord u v = (w : List Letter) × (v ≡ u ++ w)

-- one letter for each literal on the trail, in order of assignment: D if it begins a level, otherwise P
abbrev pub trail_letters : TrailState → List Letter
trail_letters t = letters t.starts t.lits 0

-- `IsIdle assumed s q v` holds if the variable `v` is unassigned, may not be picked, and is not assumed.
abbrev pub IsIdle : List ℕ → PropagationState → Queue → ℕ → Type 0
IsIdle assumed s q v = (value_of s.values v ≡ None) × (is_available q v ≡ false) × (Contains assumed v → ⊥)

-- `IsPickableOrAssumed assumed q v` holds if the variable `v` may be picked, or is assumed.
abbrev pub IsPickableOrAssumed : List ℕ → Queue → ℕ → Type 0
IsPickableOrAssumed assumed q v = (is_available q v ≡ true) ⊎ Contains assumed v

-- `IsRemovedOrIdle assumed s q v` holds if `v` is the variable of a unit that was taken off the trail, or is idle
-- (`IsIdle`).
abbrev pub IsRemovedOrIdle : List ℕ → PropagationState → Queue → ℕ → Type 0
IsRemovedOrIdle assumed s q v = (v < length s.values) × (((l : ℕ) × ((variable l ≡ v) × IsRemovedUnit s l)) ⊎ IsIdle assumed s q v)

-- `KeepsRemovedAndIdle assumed s q s' q'` holds if every variable that was removed or idle (`IsRemovedOrIdle`) still
-- is, every idle one is still idle, and the number of variables is unchanged.
pub record KeepsRemovedAndIdle (assumed : List ℕ) (s : PropagationState) (q : Queue) (s' : PropagationState) (q' : Queue) : Type 0 where
  pub size : length s'.values ≡ length s.values
  pub gone : (v : ℕ) → IsRemovedOrIdle assumed s q v → IsRemovedOrIdle assumed s' q' v
  pub idle : (v : ℕ) → IsIdle assumed s q v → IsIdle assumed s' q' v

-- `IsWordSinceAsk assumed s q w` holds if `w` is a word of the trail since an ask with these assumed variables began.
-- It has a P for each of some variables that are removed or idle (`IsRemovedOrIdle`), and then the letters of the
-- trail.
pub record IsWordSinceAsk (assumed : List ℕ) (s : PropagationState) (q : Queue) (w : List Letter) : Type 0 where
  pub gone : List ℕ
  pub distinct : AreDistinct gone
  pub each : (k : ℕ) → k < length gone → IsRemovedOrIdle assumed s q (get_or gone k 0)
  pub is : w ≡ replicate (length gone) P ++ trail_letters s.trail

-- `WordExtends assumed s q s' q'` holds if every word of `s` (`IsWordSinceAsk`) is a prefix of a word of `s'`, and
-- removed or idle variables stay so.
abbrev pub WordExtends : (assumed : List ℕ) (s : PropagationState) (q : Queue) (s' : PropagationState) (q' : Queue) → Type 0
WordExtends assumed s q s' q' =
    KeepsRemovedAndIdle assumed s q s' q' × ((w : List Letter) → IsWordSinceAsk assumed s q w → (v : List Letter) × (IsWordSinceAsk assumed s' q' v × IsPrefixWord w v))

-- `WordIncreases assumed s q s' q'` holds if every word of `s` (`IsWordSinceAsk`) is lower in the lexical order, with D
-- lower than P, than some word of `s'`, and removed or idle variables stay so.
abbrev pub WordIncreases : (assumed : List ℕ) (s : PropagationState) (q : Queue) (s' : PropagationState) (q' : Queue) → Type 0
WordIncreases assumed s q s' q' =
    KeepsRemovedAndIdle assumed s q s' q' × ((w : List Letter) → IsWordSinceAsk assumed s q w → (v : List Letter) × (IsWordSinceAsk assumed s' q' v × IsLowerWord w v))

-- `IsTrailWordSinceAsk assumed p w` holds if `w` is one P for each of some removed or idle variables of `p`, and then a
-- letter for each literal on its trail: D if it begins a level, otherwise P (`IsWordSinceAsk`).
abbrev pub IsTrailWordSinceAsk : List ℕ → SearchState → List Letter → Type 0
IsTrailWordSinceAsk assumed p w = IsWordSinceAsk assumed (state p) p.vsids w

-- `TrailWordExtendsFor assumed p p'` holds if, for these assumed variables, every word of the trail of `p`
-- (`IsWordSinceAsk`) is a prefix of one of `p'`, and removed or idle variables stay so.
abbrev pub TrailWordExtendsFor : List ℕ → SearchState → SearchState → Type 0
TrailWordExtendsFor assumed p p' = WordExtends assumed (state p) p.vsids (state p') p'.vsids

-- `KeepsRemovedAndIdleForAll p p'` holds if, whatever variables are assumed, removed and idle variables of `p` (units
-- taken off the trail; unassigned and neither pickable nor assumed) stay so in `p'`.
abbrev pub KeepsRemovedAndIdleForAll : SearchState → SearchState → Type 0
KeepsRemovedAndIdleForAll p p' = (assumed : List ℕ) → KeepsRemovedAndIdle assumed (state p) p.vsids (state p') p'.vsids

-- `TrailWordExtends p p'` holds if, whatever variables are assumed, every word of the trail of `p` (`IsWordSinceAsk`)
-- is a prefix of one of `p'`, and removed or idle variables stay so.
abbrev pub TrailWordExtends : SearchState → SearchState → Type 0
TrailWordExtends p p' = (assumed : List ℕ) → TrailWordExtendsFor assumed p p'

-- `TrailWordIncreasesFor assumed p p'` holds if, for these assumed variables, every word of the trail of `p`
-- (`IsWordSinceAsk`) is lower in the lexical order, with D lower than P, than one of `p'`, and removed or idle
-- variables stay so.
abbrev pub TrailWordIncreasesFor : List ℕ → SearchState → SearchState → Type 0
TrailWordIncreasesFor assumed p p' = WordIncreases assumed (state p) p.vsids (state p') p'.vsids

-- `TrailWordIncreases p p'` holds if, whatever variables are assumed, every word of the trail of `p` (`IsWordSinceAsk`)
-- is lower in the lexical order, with D lower than P, than one of `p'`, and removed or idle variables stay so.
abbrev pub TrailWordIncreases : SearchState → SearchState → Type 0
TrailWordIncreases p p' = (assumed : List ℕ) → TrailWordIncreasesFor assumed p p'
