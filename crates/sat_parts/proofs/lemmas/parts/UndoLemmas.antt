-- Undoing levels preserves the invariant between rounds.
use Rattle.std.proofs.Common.{ℕ, ◌≡◌, ◌+◌, ◌-◌, ◌<◌, ◌≤◌, inl, inr, List, take, drop, length, length-drop, get_or, sym, ap, ◌∙◌, subst, arith, true}
use Rattle.std.proofs.lemmas.Bool.{cases_lt}
use Rattle.std.proofs.lemmas.List.{get_or-drop, get_or-take, length-take-le}
use Rattle.sat_base.specs.values.Literals.{variable, negated}
use Rattle.sat_store.specs.heap.Vsids.{Queue, is_available}
use Rattle.sat_parts.specs.declared.prop.graph.ImplNode.{ImplNode}
use Rattle.sat_parts.specs.clause.Db.{Db}
use Rattle.sat_parts.specs.prop.Binaries.{Binaries}
use Rattle.sat_parts.specs.prop.Graphs.{node_of}
use Rattle.sat_parts.specs.prop.Values.{Values, value_of, IsTrueLit, IsFalseLit}
use Rattle.sat_parts.specs.prop.Trails.{TrailState, IsAtLevel, without_levels_above}
use Rattle.sat_parts.specs.prop.Undone.{with_levels_undone, lits_above_level, with_all_available}
use Rattle.sat_parts.specs.prop.WatchLists.{WatchState}
use Rattle.sat_parts.specs.prop.State.{PropagationState, node, level, lit_at, StateIsConsistent}
use Rattle.sat_parts.specs.prop.Ready.{state_of}
use Rattle.sat_parts.specs.prop.Backtracked.{BacktrackEffect}
use Rattle.sat_parts.proofs.lemmas.prop.BacktrackLemmas.{asks_after, turns_after, keeps_low, undone_length}
use Rattle.sat_parts.proofs.lemmas.prop.StateLemmas.{true_from_false, false_from_true, negated_variable, negated_twice}
use Rattle.sat_parts.proofs.lemmas.prop.RoomLemmas.{below_from_value}
use Rattle.sat_parts.proofs.lemmas.prop.WordLemmas.{levels_stay}
use Rattle.sat_parts.specs.parts.Round.{UnitsHaveNoReason, LevelZeroInvariant, PartsInvariantBelow}
use Rattle.sat_parts.specs.parts.Learned.{IsAnalyzedClause, IsUnitAfterBacktracking}
use Rattle.sat_parts.proofs.lemmas.parts.ValueLemmas.{open_or_true, not_true, available_kept, available_length, available_there}

-- the variable of an undone literal may be picked
pub undone_available : (v : ℕ) (a : Values) (g : List ImplNode) (t : TrailState) (q : Queue) (l : ℕ) → StateIsConsistent (state_of a g t) → v < length t.starts → length q.available ≡ length a.current →
    IsTrueLit a.current l → v < level (state_of a g t) l → is_available (with_all_available (lits_above_level v t) q) (variable l) ≡ true
undone_available v a g t q l h lt size holds high =
    let s : PropagationState = state_of a g t in
    elim (h.known l holds) [
      | inl x ↦
          let at : level s (lit_at s x.place) ≡ level s l = ap (λ m. level s m) x.there in
          let i : IsAtLevel t.starts x.place (level s (lit_at s x.place)) = h.levels x.place x.within in
          let cut : get_or t.starts v 0 ≤ x.place = i.begun v (omega arith) in
          let n : length (drop (get_or t.starts v 0) t.lits) ≡ length t.lits - get_or t.starts v 0 = length-drop (get_or t.starts v 0) t.lits in
          let p : get_or t.starts v 0 + (x.place - get_or t.starts v 0) ≡ x.place = omega arith in
          let e : get_or (drop (get_or t.starts v 0) t.lits) (x.place - get_or t.starts v 0) 0 ≡ l =
          get_or-drop (get_or t.starts v 0) t.lits (x.place - get_or t.starts v 0) 0 ∙ ap (λ k. lit_at s k) p ∙ x.there in
          let there : variable l < length a.current = below_from_value a.current (variable l) _ holds in
          subst (λ m. is_available (with_all_available (lits_above_level v t) q) (variable m) ≡ true) e
          (available_there (lits_above_level v t) q (x.place - get_or t.starts v 0) (omega (arith, x.within)) (omega (arith, ap (λ m. variable m) e)))
      | inr x ↦ absurd (omega (arith, x.bottom))
    ]

-- undoing levels restores the invariant of all parts for literals of all levels
pub sound_undone : (words : List ℕ) (db : Db) (w : WatchState) (b : Binaries) (a : Values) (g : List ImplNode) (t : TrailState) (q : Queue) (top v : ℕ) →
    PartsInvariantBelow words db w b a g t q top → v < length t.starts → v < top →
    PartsInvariantBelow words db w b (with_levels_undone v t a) g (without_levels_above v t) (with_all_available (lits_above_level v t) q) (length (without_levels_above v t).starts + 1)
sound_undone words db w b a g t q top v h lt below =
    let s : PropagationState = state_of a g t in
    let k : BacktrackEffect v (state_of a g t) (state_of (with_levels_undone v t a) g (without_levels_above v t)) = keeps_low v a g t h.propagation.agrees lt in
    record {
      db_matches = h.db_matches;
      propagation = asks_after words db.refs w b.implied v a g t top h.propagation lt below;
      reasons = turns_after words _ b.implied v a g t 0 h.propagation.agrees lt h.reasons;
      levelled = levels_stay.undone a g t v h.propagation.agrees lt h.levelled;
      queue = available_length (lits_above_level v t) q ∙ h.queue ∙ sym (undone_length (lits_above_level v t) a);
      ready = λ u in_range none. elim (open_or_true a.current u) [
        | inl e ↦ elim (h.ready u (omega (arith, undone_length (lits_above_level v t) a)) e) [ inl p ↦ inl (available_kept (lits_above_level v t) q u p) | inr x ↦ inr x ]
        | inr x ↦ elim (cases_lt v (level s x.0)) [
          | inl high ↦ inl (subst (λ m. is_available (with_all_available (lits_above_level v t) q) m ≡ true) x.1.0 (undone_available v a g t q x.0 h.propagation.agrees lt h.queue x.1.1 high))
          | inr low ↦ absurd (not_true (with_levels_undone v t a).current u x.0 none x.1.0 (k.low_kept x.0 x.1.1 low))
        ]
      ];
    }

pub units_undone : (a : Values) (g : List ImplNode) (t : TrailState) (v : ℕ) → StateIsConsistent (state_of a g t) → v < length t.starts → UnitsHaveNoReason (state_of a g t) → UnitsHaveNoReason (state_of (with_levels_undone v t a) g (without_levels_above v t))
units_undone a g t v h lt x i b e =
    let s : PropagationState = state_of a g t in
    let k : BacktrackEffect v (state_of a g t) (state_of (with_levels_undone v t a) g (without_levels_above v t)) = keeps_low v a g t h lt in
    let same : lit_at (state_of (with_levels_undone v t a) g (without_levels_above v t)) i ≡ lit_at s i = k.places i b in
    ap (λ l. (node s l).reason) same ∙ x i (omega (arith, k.shorter)) (ap (λ l. level s l) (sym same) ∙ e)

-- undoing levels preserves `LevelZeroInvariant`
pub based_undone : (t : TrailState) (v : ℕ) → v < length t.starts → LevelZeroInvariant t → LevelZeroInvariant (without_levels_above v t)
based_undone t v lt h =
    let size : length (take v t.starts) ≡ v = length-take-le v t.starts (omega arith) in
    record {
      above = λ some. get_or-take v t.starts 0 0 (omega arith) ∙ h.above (omega arith);
      bottom = λ e. (let z : v ≡ 0 = omega arith in ap (λ k. get_or t.starts k 0) z ∙ h.above (omega arith));
    }

level_negated : (s : PropagationState) (m : ℕ) → level s (negated m) ≡ level s m
level_negated s m = ap (λ u. (node_of s.nodes u).level) (negated_variable m)

-- a learned clause after backtracking
pub pending_undone : (a : Values) (g : List ImplNode) (t : TrailState) (q : Queue) (ls : List ℕ) (v : ℕ) → StateIsConsistent (state_of a g t) → length q.available ≡ length a.current → IsAnalyzedClause (state_of a g t) ls v →
    IsUnitAfterBacktracking (state_of (with_levels_undone v t a) g (without_levels_above v t)) (with_all_available (lits_above_level v t) q) ls
pending_undone a g t q ls v h size x =
    let s : PropagationState = state_of a g t in
    let s' : PropagationState = state_of (with_levels_undone v t a) g (without_levels_above v t) in
    let k : BacktrackEffect v (state_of a g t) (state_of (with_levels_undone v t a) g (without_levels_above v t)) = keeps_low v a g t h x.below in
    let first : IsTrueLit a.current (negated (get_or ls 0 0)) = true_from_false a.current (get_or ls 0 0) (x.falsified 0 (omega (arith, x.some))) in
    let high : v < level s (negated (get_or ls 0 0)) = omega (arith, x.below, x.first, level_negated s (get_or ls 0 0)) in
    let fewer : length (take v t.starts) ≡ v = length-take-le v t.starts (omega (arith, x.below)) in
    let in_range : variable (get_or ls 0 0) < length a.current = below_from_value a.current (variable (get_or ls 0 0)) _ (x.falsified 0 (omega (arith, x.some))) in
    record {
      some = x.some;
      fits = x.fits;
      distinct = x.distinct;
      there = omega (arith, in_range, undone_length (lits_above_level v t) a);
      open_first = ap (λ u. value_of (with_levels_undone v t a).current u) (sym (negated_variable (get_or ls 0 0))) ∙ k.opened (negated (get_or ls 0 0)) first high;
      ready = subst (λ u. is_available (with_all_available (lits_above_level v t) q) u ≡ true) (negated_variable (get_or ls 0 0)) (undone_available v a g t q (negated (get_or ls 0 0)) h x.below size first high);
      rest = λ i some b.
          let m : ℕ = get_or ls i 0 in
          let holds : IsTrueLit (with_levels_undone v t a).current (negated (get_or ls i 0)) =
          k.low_kept (negated (get_or ls i 0)) (true_from_false a.current (get_or ls i 0) (x.falsified i b)) (omega (arith, x.others i some b, level_negated s (get_or ls i 0))) in
          subst (λ l. IsFalseLit (with_levels_undone v t a).current l) (negated_twice (get_or ls i 0)) (false_from_true (with_levels_undone v t a).current (negated (get_or ls i 0)) holds);
      second = λ b. x.second b ∙ sym fewer;
      above = λ b. omega (arith, x.second b, x.above 1 b, fewer);
      unit = λ one. ap (λ n. take n t.starts) (x.unit one);
    }
