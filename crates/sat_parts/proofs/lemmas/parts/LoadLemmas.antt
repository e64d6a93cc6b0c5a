-- Clauses that are loaded at level 0, and variables that are freed.
use Rattle.std.proofs.Common.{ℕ, ◌≡◌, ◌≢◌, ◌+◌, ◌*◌, ◌<◌, ◌≤◌, inl, inr, List, [], length, get_or, set, length-set, get_or-set_same, get_or-set_other, sym, ap, ◌∙◌, subst, arith, false, None}
use Rattle.std.proofs.lemmas.Bool.{cases_Bool, cases_eq, true≢false}
use Rattle.sat_base.specs.values.Literals.{variable, negated}
use Rattle.sat_store.specs.clause.Buffer.{lits_at}
use Rattle.sat_store.specs.clause.Header.{Header}
use Rattle.sat_store.specs.heap.Vsids.{Queue, is_available, with_available}
use Rattle.sat_parts.specs.declared.prop.graph.ImplNode.{ImplNode}
use Rattle.sat_parts.specs.declared.prop.graph.Reason.TheVariants.{Unit as NoCause}
use Rattle.sat_parts.specs.clause.Db.{Db, live_refs, AddsLongClause}
use Rattle.sat_parts.specs.clause.Stored.{AreLongClauses, lit_of}
use Rattle.sat_parts.specs.prop.Binaries.{Binaries, implied_by, with_binary}
use Rattle.sat_parts.specs.prop.Values.{Values, value_of, with_value, IsTrueLit}
use Rattle.sat_parts.specs.prop.Trails.{TrailState}
use Rattle.sat_parts.specs.prop.WatchLists.{WatchState, with_first_two_watched}
use Rattle.sat_parts.specs.prop.State.{PropagationState, level, HasLeftQueue, StateIsConsistent, IsSatisfied}
use Rattle.sat_parts.specs.prop.Ready.{state_of, AreWatched, AreImpliedLists}
use Rattle.sat_parts.proofs.lemmas.prop.CallLemmas.{asks_added, asks_of_unit}
use Rattle.sat_parts.proofs.lemmas.prop.WordLemmas.{levels_stay}
use Rattle.sat_parts.specs.parts.Round.{IsInNoClause, PartsInvariantBelow, RoundInvariant}
use Rattle.sat_parts.specs.parts.Loadable.{IsLoadable}
use Rattle.sat_parts.proofs.lemmas.parts.ValueLemmas.{some_none}
use Rattle.sat_parts.proofs.lemmas.parts.LearnLemmas.{turns_added, unused_added}
use Rattle.sat_parts.proofs.lemmas.parts.BinaryLemmas.{asks_binary_added, turns_binary, unused_binary}

-- an unassigned variable that may not be picked is not in a loadable clause
not_in : (s : PropagationState) (q : Queue) (ls : List ℕ) (u : ℕ) → IsLoadable s q ls → value_of s.values u ≡ None → is_available q u ≡ false → (k : ℕ) → k < length ls → variable (get_or ls k 0) ≢ u
not_in s q ls u x none not k b e =
    true≢false (sym (x.ready k b (ap (λ v. value_of s.values v) e ∙ none)) ∙ ap (λ v. is_available q v) e ∙ not)

pub sound_loaded_long : (words words' : List ℕ) (db db' : Db) (w : WatchState) (b : Binaries) (a : Values) (g : List ImplNode) (t : TrailState) (q : Queue) (ls : List ℕ) (o : ℕ) (header : Header) →
    RoundInvariant words db w b a g t q → IsLoadable (state_of a g t) q ls → 3 ≤ length ls → AddsLongClause words db words' db' o header ls →
    RoundInvariant words' db' (with_first_two_watched o ls w) b a g t q
sound_loaded_long words words' db db' w b a g t q ls o header h x three added =
    let s : PropagationState = state_of a g t in
    let y : PartsInvariantBelow words db w b a g t q (length t.starts + 1) = h.below in
    record {
      below = record {
        db_matches = added.holds;
        propagation = asks_of_unit words' db'.refs (with_first_two_watched o ls w) b.implied s (length t.starts + 1) 0
            (asks_added words words' db db' o header ls w b.implied s (length t.starts + 1) 0 NoCause y.propagation added x.distinct three x.below (λ i hi left d. absurd (x.fresh i hi left)));
        reasons = turns_added words words' db db' o header ls b.implied s y.db_matches added y.reasons;
        levelled = y.levelled;
        queue = y.queue;
        ready = λ u lt none. elim (cases_Bool (is_available q u)) [
          | inl p ↦ inl p
          | inr not ↦ elim (y.ready u lt none) [ inl p ↦ inl p | inr v ↦ inr (unused_added words words' db db' o header ls b.implied u y.db_matches added (not_in s q ls u x none not) v) ]
        ];
      };
      units = h.units;
      base = h.base;
    }

pub sound_loaded_binary : (words : List ℕ) (db : Db) (w : WatchState) (x : Binaries) (a : Values) (g : List ImplNode) (t : TrailState) (q : Queue) (ls : List ℕ) →
    RoundInvariant words db w x a g t q → IsLoadable (state_of a g t) q ls → length ls ≡ 2 →
    RoundInvariant words db w (with_binary (get_or ls 0 0) (get_or ls 1 0) x) a g t q
sound_loaded_binary words db w x a g t q ls h p two =
    let s : PropagationState = state_of a g t in
    let y : PartsInvariantBelow words db w x a g t q (length t.starts + 1) = h.below in
    let c : ℕ = get_or ls 0 0 in
    let d : ℕ = get_or ls 1 0 in
    let small_c : get_or ls 0 0 < 2 * length a.current = p.below 0 (omega arith) in
    let small_d : get_or ls 1 0 < 2 * length a.current = p.below 1 (omega arith) in
    let first : negated (get_or ls 0 0) < length x.implied = omega (arith, y.propagation.ranges.room) in
    let second : negated (get_or ls 1 0) < length x.implied = omega (arith, y.propagation.ranges.room) in
    record {
      below = record {
        db_matches = y.db_matches;
        propagation = asks_of_unit words db.refs w (with_binary c d x).implied s (length t.starts + 1) 0
            (asks_binary_added words db.refs w x s (length t.starts + 1) 0 (get_or ls 0 0) (get_or ls 1 0) NoCause y.propagation small_c small_d
            (λ left due. absurd (p.fresh 0 (omega arith) left)) (λ left due. absurd (p.fresh 1 (omega arith) left)));
        reasons = turns_binary words (live_refs words db.refs) x s (get_or ls 0 0) (get_or ls 1 0) first second y.reasons;
        levelled = y.levelled;
        queue = y.queue;
        ready = λ u lt none. elim (cases_Bool (is_available q u)) [
          | inl e ↦ inl e
          | inr not ↦ elim (y.ready u lt none) [
            | inl e ↦ inl e
            | inr v ↦ inr (unused_binary words (live_refs words db.refs) x (get_or ls 0 0) (get_or ls 1 0) u first second (not_in s q ls u p none not 0 (omega arith)) (not_in s q ls u p none not 1 (omega arith)) v)
          ]
        ];
      };
      units = h.units;
      base = h.base;
    }

-- the state in which a variable has no value
abbrev lost_value : ℕ → PropagationState → PropagationState
lost_value v s = record s { values = set s.values v None }

lost_true : (s : PropagationState) (v m : ℕ) → v < length s.values → IsTrueLit (lost_value v s).values m → (variable m ≢ v) × IsTrueLit s.values m
lost_true s v m below h = elim (cases_eq (variable m) v) [
  | inl e ↦ absurd (some_none h (ap (λ u. value_of (set s.values v None) u) e ∙ get_or-set_same s.values v None None below))
  | inr n ↦ (n, sym (get_or-set_other s.values v (variable m) None None n) ∙ h)
]

-- a variable in no clause is freed while the trail is empty
pub sound_freed : (words : List ℕ) (db : Db) (w : WatchState) (b : Binaries) (a : Values) (g : List ImplNode) (t : TrailState) (q : Queue) (v : ℕ) →
    RoundInvariant words db w b a g t q → t.starts ≡ [] → t.lits ≡ [] → v < length a.current → IsInNoClause words (live_refs words db.refs) b.implied v →
    RoundInvariant words db w b (with_value v None a) g t (with_available v false q)
sound_freed words db w b a g t q v h bottom empty below unused =
    let s : PropagationState = state_of a g t in
    let s' : PropagationState = lost_value v (state_of a g t) in
    let y : PartsInvariantBelow words db w b a g t q (length t.starts + 1) = h.below in
    let old : StateIsConsistent (state_of a g t) = y.propagation.agrees in
    let none : length t.lits ≡ 0 = ap (λ (xs : List ℕ). length xs) empty in
    let size : length (set a.current v None) ≡ length a.current = length-set a.current v None in
    let kept : (m : ℕ) → variable m ≢ v → IsTrueLit a.current m → IsTrueLit (lost_value v (state_of a g t)).values m = λ m n holds. get_or-set_other a.current v (variable m) None None n ∙ holds in
    let agrees : StateIsConsistent (lost_value v (state_of a g t)) = record {
      trail = old.trail;
      nodes = old.nodes ∙ sym size;
      room = omega (arith, old.room);
      holds = λ i lt. absurd (omega arith);
      depths = λ i lt. absurd (omega arith);
      levels = λ i lt. absurd (omega arith);
      known = λ m holds. elim (old.known m (lost_true s v m below holds).1) [
        | inl x ↦ absurd (omega (arith, x.within))
        | inr x ↦ inr (record { holds = holds; depth = x.depth; bottom = x.bottom })
      ];
    } in
    let left : (m : ℕ) → HasLeftQueue (lost_value v (state_of a g t)) m → HasLeftQueue s m = λ m x. elim x [
      | inl z ↦ absurd (omega (arith, z.within))
      | inr z ↦ inr (record { holds = (lost_true s v m below z.holds).1; depth = z.depth; bottom = z.bottom })
    ] in
    record {
      below = record {
        db_matches = y.db_matches;
        propagation = record {
          holds_clauses = y.propagation.holds_clauses;
          clauses = subst (λ (k : ℕ). AreLongClauses words (live_refs words db.refs) k) (sym size) y.propagation.clauses;
          room = y.propagation.room ∙ ap (λ k. 2 * k) (sym size);
          watches = λ on. subst (λ (k : ℕ). AreWatched words (live_refs words db.refs) w.lists k) (sym size) (y.propagation.watches on);
          agrees = agrees;
          queue = λ i le lt. absurd (omega arith);
          firsts = λ i o lt e. absurd (omega arith);
          settled = λ o i c hi x d.
              let z : IsSatisfied s (lits_at words o) (level s (negated (lit_of words o i))) = y.propagation.settled o i c hi (left (negated (lit_of words o i)) x) d in
              record { place = z.place; within = z.within; holds = kept (get_or (lits_at words o) z.place 0) (unused.long o z.place c z.within) z.holds; low = z.low };
          ranges = subst (λ (k : ℕ). AreImpliedLists b.implied k) (sym size) y.propagation.ranges;
          binary = λ l k x d lt.
              let z = y.propagation.binary l k (left l x) d lt in
              (kept (get_or (implied_by b.implied l) k 0) (unused.binary l k lt).1 z.0, z.1);
        };
        reasons = λ i le lt. absurd (omega arith);
        levelled = levels_stay.none s' bottom;
        queue = length-set q.available v false ∙ y.queue ∙ sym size;
        ready = λ u lt open_u. elim (cases_eq u v) [
          | inl e ↦ inr (subst (λ z. IsInNoClause words (live_refs words db.refs) b.implied z) (sym e) unused)
          | inr n ↦ elim (y.ready u (omega arith) (sym (get_or-set_other a.current v u None None n) ∙ open_u)) [
            | inl p ↦ inl (get_or-set_other q.available v u false false n ∙ p)
            | inr z ↦ inr z
          ]
        ];
      };
      units = λ i lt. absurd (omega arith);
      base = h.base;
    }
