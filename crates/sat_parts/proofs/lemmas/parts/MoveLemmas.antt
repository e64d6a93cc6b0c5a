-- Propagation preserves the invariant of the parts.
use Rattle.std.proofs.Common.{ℕ, ◌≡◌, ◌+◌, ◌<◌, inl, inr, List, length, get_or, sym, ap, ◌∙◌, subst, arith, None, Result, Ok, Err}
use Rattle.std.specs.Prelude.{MatchResult}
use Rattle.std.proofs.lemmas.Bool.{cases_lt}
use Rattle.std.specs.List.{Contains}
use Rattle.sat_base.specs.values.Literals.{variable}
use Rattle.sat_store.specs.heap.Vsids.{Queue}
use Rattle.sat_parts.specs.declared.prop.graph.ImplNode.{ImplNode}
use Rattle.sat_parts.specs.declared.prop.graph.Conflict.{Conflict}
use Rattle.sat_parts.specs.clause.Orders.{SameUpToOrder}
use Rattle.sat_parts.specs.clause.Db.{Db, DbMatchesBuffer, live_refs}
use Rattle.sat_parts.specs.prop.Binaries.{Binaries}
use Rattle.sat_parts.specs.prop.Values.{Values, value_of}
use Rattle.sat_parts.specs.prop.Trails.{TrailState, IsAtLevel}
use Rattle.sat_parts.specs.prop.WatchLists.{WatchState}
use Rattle.sat_parts.specs.prop.State.{PropagationState, node, level, lit_at, StateIsConsistent, TrailGrows}
use Rattle.sat_parts.specs.prop.Reasons.{ReasonsAreUnit, PropagationEffect}
use Rattle.sat_parts.specs.prop.Ready.{state_of, IsConflict}
use Rattle.sat_parts.specs.prop.Propagation.{PropagationInvariant, PropagationResult}
use Rattle.sat_parts.proofs.lemmas.prop.BuildLemmas.{live_in}
use Rattle.sat_parts.proofs.lemmas.prop.WordLemmas.{levels_stay}
use Rattle.sat_parts.proofs.lemmas.clause.HeldLemmas.{held_reordered}
use Rattle.sat_parts.specs.parts.Round.{UnassignedArePickable, UnitsHaveNoReason, LevelZeroInvariant, PartsInvariantBelow}
use Rattle.sat_parts.proofs.lemmas.parts.ValueLemmas.{open_or_true, not_true}

-- a variable that is unassigned after propagation was unassigned before
pub open_back : (s s' : PropagationState) (v : ℕ) → TrailGrows s s' → value_of s'.values v ≡ None → value_of s.values v ≡ None
open_back s s' v g none = elim (open_or_true s.values v) [
  | inl e ↦ e
  | inr x ↦ absurd (not_true s'.values v x.0 none x.1.0 (g.kept x.0 x.1.1))
]

ready_moved : (words words' refs : List ℕ) (implied : List (List ℕ)) (s s' : PropagationState) (q : Queue) → PropagationEffect (live_refs words refs) implied words s words' s' → SameUpToOrder words words' refs →
    live_refs words' refs ≡ live_refs words refs → UnassignedArePickable words (live_refs words refs) implied s.values q → UnassignedArePickable words' (live_refs words' refs) implied s'.values q
ready_moved words words' refs implied s s' q m kept e h v b none = elim (h v (omega (arith, m.grows.size)) (open_back s s' v m.grows none)) [
  | inl p ↦ inl p
  | inr u ↦ inr (record {
    long = λ o k c lt same.
        let d : Contains (live_refs words refs) o = subst (λ (xs : List ℕ). Contains xs o) e c in
        let x = kept.lits o (live_in words refs o d) in
        let j = x.back k (omega (arith, x.size)) in
        u.long o j.0 d j.1.0 (ap (λ l. variable l) j.1.1 ∙ same);
    binary = u.binary;
  })
]

-- propagation preserves the invariant of all parts
pub sound_moved : (words words' : List ℕ) (db : Db) (w w' : WatchState) (b : Binaries) (a a' : Values) (g g' : List ImplNode) (t t' : TrailState) (q : Queue) (top top' : ℕ) →
    PartsInvariantBelow words db w b a g t q top → DbMatchesBuffer words' db → PropagationEffect (live_refs words db.refs) b.implied words (state_of a g t) words' (state_of a' g' t') →
    live_refs words' db.refs ≡ live_refs words db.refs → PropagationInvariant words' db.refs w' b.implied (state_of a' g' t') top' →
    PartsInvariantBelow words' db w' b a' g' t' q top'
sound_moved words words' db w w' b a a' g g' t t' q top top' h held m e asks =
    let s : PropagationState = state_of a g t in
    let s' : PropagationState = state_of a' g' t' in
    record {
      db_matches = held;
      propagation = asks;
      reasons = subst (λ (xs : List ℕ). ReasonsAreUnit words' xs b.implied s' 0) (sym e) (m.reasons 0 (omega arith) h.reasons);
      levelled = levels_stay.moves words (live_refs words db.refs) words' b.implied s s' h.propagation.agrees m h.levelled;
      queue = h.queue ∙ sym m.grows.size;
      ready = ready_moved words words' db.refs b.implied s s' q m (m.reorders.all db.refs (λ o c. live_in words db.refs o c) h.propagation.holds_clauses) e h.ready;
    }

-- the result of propagation: the invariant, or after a conflict the invariant below the current level
pub sound_propagated : (words words' : List ℕ) (db : Db) (w w' : WatchState) (b : Binaries) (a a' : Values) (g g' : List ImplNode) (t t' : TrailState) (q : Queue) (r : Result (Unit {0}) Conflict) →
    PartsInvariantBelow words db w b a g t q (length t.starts + 1) → PropagationResult db.refs b.implied words (state_of a g t) words' (state_of a' g' t') w' r →
    MatchResult r (λ _. PartsInvariantBelow words' db w' b a' g' t' q (length t'.starts + 1))
    (λ e. PartsInvariantBelow words' db w' b a' g' t' q (length t'.starts) × IsConflict words' (live_refs words' db.refs) b.implied a'.current e)
sound_propagated words words' db w w' b a a' g g' t t' q (Ok x) h given =
    sound_moved words words' db w w' b a a' g g' t t' q (length t.starts + 1) (length t'.starts + 1) h (held_reordered words words' db h.db_matches given.moves.reorders) given.moves given.live given.outcome.0
sound_propagated words words' db w w' b a a' g g' t t' q (Err x) h given = (
  sound_moved words words' db w w' b a a' g g' t t' q (length t.starts + 1) (length t'.starts) h (held_reordered words words' db h.db_matches given.moves.reorders) given.moves given.live given.outcome.0,
  given.outcome.1,
)

pub agrees_given : (words words' refs : List ℕ) (implied : List (List ℕ)) (s s' : PropagationState) (w' : WatchState) (r : Result (Unit {0}) Conflict) → PropagationResult refs implied words s words' s' w' r → StateIsConsistent s'
agrees_given words words' refs implied s s' w' (Ok x) given = given.outcome.0.agrees
agrees_given words words' refs implied s s' w' (Err x) given = given.outcome.0.agrees

-- above level 0, the trail still has no literals of level 0
pub base_given : (words words' refs : List ℕ) (implied : List (List ℕ)) (a a' : Values) (g g' : List ImplNode) (t t' : TrailState) (w' : WatchState) (r : Result (Unit {0}) Conflict) →
    PropagationResult refs implied words (state_of a g t) words' (state_of a' g' t') w' r → 0 < length t.starts → LevelZeroInvariant t → LevelZeroInvariant t'
base_given words words' refs implied a a' g g' t t' w' r given some h =
    let n : length t'.starts ≡ length t.starts = ap (λ (xs : List ℕ). length xs) given.moves.grows.starts in
    record {
      above = λ z. ap (λ (xs : List ℕ). get_or xs 0 0) given.moves.grows.starts ∙ h.above some;
      bottom = λ e. absurd (omega arith);
    }

-- above level 0, literals of level 0 still have no clause as their reason
pub units_moved : (live : List ℕ) (implied : List (List ℕ)) (words words' : List ℕ) (s s' : PropagationState) → StateIsConsistent s → StateIsConsistent s' → PropagationEffect live implied words s words' s' → 0 < length s.trail.starts → UnitsHaveNoReason s → UnitsHaveNoReason s'
units_moved live implied words words' s s' h h' m some x i b e = elim (cases_lt i (length s.trail.lits)) [
  | inl lt ↦
      let same : node s' (lit_at s' i) ≡ node s (lit_at s i) = ap (λ l. node s' l) (m.grows.front i lt) ∙ m.grows.nodes (lit_at s i) (h.holds i lt) in
      ap (λ (z : ImplNode). z.reason) same ∙ x i lt (sym (ap (λ (z : ImplNode). z.level) same) ∙ e)
  | inr le ↦
      let l : IsAtLevel s'.trail.starts i (level s' (lit_at s' i)) = h'.levels i b in
      let n : length s'.trail.starts ≡ length s.trail.starts = ap (λ (xs : List ℕ). length xs) m.grows.starts in
      let zero_there : get_or s'.trail.starts 0 0 ≡ get_or s.trail.starts 0 0 = ap (λ (xs : List ℕ). get_or xs 0 0) m.grows.starts in
      absurd (omega (arith, l.not_begun 0 (omega arith) (omega arith), h.trail.levels.within 0 some))
]
