-- The word of a trail: a letter for every literal, which says whether it is a decision.
use Rattle.std.specs.Prelude.{ℕ, ◌≡◌, ◌≢◌, ◌<◌, ◌≤◌, ◌+◌, ◌==◌, ◌||◌, Bool, true, false, List, [], ◌∷◌, ◌++◌, length, replicate, slice_index_or as get_or, if◌then◌else◌}
use Rattle.sat_base.specs.values.Literals.{variable}
use Rattle.sat_parts.specs.declared.prop.graph.ImplNode.{ImplNode}
use Rattle.sat_parts.specs.declared.prop.graph.Reason.{Reason}
use Rattle.sat_parts.specs.declared.prop.graph.Reason.TheVariants.{Unit as NoCause}
use Rattle.sat_parts.specs.prop.Graphs.{has_no_clause}
use Rattle.sat_parts.specs.prop.Values.{Values, IsUnassignedLit}
use Rattle.sat_parts.specs.prop.Trails.{TrailState, with_lit, with_level, without_levels_above}
use Rattle.sat_parts.specs.prop.State.{PropagationState, node, lit_at, StateIsConsistent, enqueued}
use Rattle.sat_parts.specs.prop.Reasons.{PropagationEffect}
use Rattle.sat_parts.specs.prop.Undone.{with_levels_undone}
use Rattle.sat_parts.specs.prop.Ready.{state_of}

-- a letter of a trail word: D for a literal that begins a level (a decision or an assumption), P for any other literal
pub data Letter : Type 0 where
  D : Letter
  P : Letter

-- `begins_level starts i` is true if a level above 0 begins with the literal at position `i` of the trail; `starts` are
-- the positions where levels begin.
abbrev pub begins_level : List ℕ → ℕ → Bool
begins_level [] i = false
begins_level (k ∷ ks) i = (k == i) || begins_level ks i

-- the letter of the literal at position `i` of the trail: D if a level begins there, otherwise P; `starts` are the
-- positions where levels begin
abbrev pub trail_letter : List ℕ → ℕ → Letter
trail_letter starts i = if begins_level starts i then D else P

-- one letter (D or P) for each of the literals `lits`, the first of which is at position `at` of the trail; `starts`
-- are the positions where levels begin
abbrev pub letters : (starts lits : List ℕ) (at : ℕ) → List Letter
letters starts [] at = []
letters starts (l ∷ ls) at = trail_letter starts at ∷ letters starts ls (at + 1)

-- the word of a trail: a P for every unit that was taken off the trail, then for each literal on the trail, in order of
-- assignment, D if it begins a level and P otherwise
abbrev pub trail_word : TrailState → List Letter
trail_word t = replicate t.cleared P ++ letters t.starts t.lits 0

-- `IsLowerWord u v` holds if the word `u` is lower than `v` in the lexical order: D is lower than P, and a word is
-- lower than its extensions.
abbrev pub IsLowerWord : List Letter → List Letter → Type 0
IsLowerWord [] [] = ⊥
IsLowerWord [] (y ∷ v) = Unit {0}
IsLowerWord (x ∷ u) [] = ⊥
IsLowerWord (D ∷ u) (P ∷ v) = Unit {0}
IsLowerWord (P ∷ u) (D ∷ v) = ⊥
IsLowerWord (D ∷ u) (D ∷ v) = IsLowerWord u v
IsLowerWord (P ∷ u) (P ∷ v) = IsLowerWord u v

-- `BeginsNoLevel starts i` holds if no level begins at position `i`.
abbrev pub BeginsNoLevel : List ℕ → ℕ → Type 0
BeginsNoLevel starts i = (k : ℕ) → k < length starts → get_or starts k 0 ≢ i

-- `LevelsBeginWithDecisions s` holds if every level begins with a literal, after the literal that begins the level
-- before; the literal that begins a level has no clause as its reason, and every other literal above level 0 has a
-- clause as its reason.
pub record LevelsBeginWithDecisions (s : PropagationState) : Type 0 where
  pub strict : (j k : ℕ) → j < k → k < length s.trail.starts → get_or s.trail.starts j 0 < get_or s.trail.starts k 0
  pub begun : (k : ℕ) → k < length s.trail.starts → get_or s.trail.starts k 0 < length s.trail.lits
  pub decided : (k : ℕ) → k < length s.trail.starts → has_no_clause (node s (lit_at s (get_or s.trail.starts k 0))).reason ≡ true
  pub caused : (i k : ℕ) → k < length s.trail.starts → get_or s.trail.starts k 0 ≤ i → i < length s.trail.lits → BeginsNoLevel s.trail.starts i →
      has_no_clause (node s (lit_at s i)).reason ≡ false

-- the state after an unassigned literal was decided at a new level
abbrev pub decided_on : ℕ → PropagationState → PropagationState
decided_on l s = enqueued l NoCause (record s { trail = with_level s.trail })

-- `LevelsArePreserved` holds if `LevelsBeginWithDecisions` holds whenever there are no levels above 0, and is preserved
-- in consistent states when a literal is decided or assigned with a clause as its reason, by propagation, and when
-- levels are undone.
pub record LevelsArePreserved : Type 0 where
  pub none : (s : PropagationState) → s.trail.starts ≡ [] → LevelsBeginWithDecisions s
  pub decides : (s : PropagationState) (l : ℕ) → StateIsConsistent s → IsUnassignedLit s.values l → variable l < length s.values → LevelsBeginWithDecisions s → LevelsBeginWithDecisions (decided_on l s)
  pub caused : (s : PropagationState) (l : ℕ) (r : Reason) → StateIsConsistent s → IsUnassignedLit s.values l → variable l < length s.values → has_no_clause r ≡ false → LevelsBeginWithDecisions s → LevelsBeginWithDecisions (enqueued l r s)
  pub moves : (words live words' : List ℕ) (implied : List (List ℕ)) (s s' : PropagationState) → StateIsConsistent s → PropagationEffect live implied words s words' s' → LevelsBeginWithDecisions s → LevelsBeginWithDecisions s'
  pub undone : (a : Values) (nodes : List ImplNode) (t : TrailState) (level : ℕ) → StateIsConsistent (state_of a nodes t) → level < length t.starts →
      LevelsBeginWithDecisions (state_of a nodes t) → LevelsBeginWithDecisions (state_of (with_levels_undone level t a) nodes (without_levels_above level t))

-- `TrailWordsIncrease` holds if, when `LevelsBeginWithDecisions` holds, deciding a literal appends D to the
-- `trail_word` and assigning one without a new level appends P. Backjumping and then assigning a literal without a new
-- level gives a higher word (`IsLowerWord`).
pub record TrailWordsIncrease : Type 0 where
  pub decided : (s : PropagationState) (l : ℕ) → LevelsBeginWithDecisions s → trail_word (with_lit l (with_level s.trail)) ≡ trail_word s.trail ++ D ∷ []
  pub caused : (s : PropagationState) (l : ℕ) → LevelsBeginWithDecisions s → trail_word (with_lit l s.trail) ≡ trail_word s.trail ++ P ∷ []
  pub rises : (s : PropagationState) (l level : ℕ) → LevelsBeginWithDecisions s → level < length s.trail.starts → IsLowerWord (trail_word s.trail) (trail_word (with_lit l (without_levels_above level s.trail)))
