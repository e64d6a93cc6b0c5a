-- Adding a learned clause and enqueueing its first literal preserves the invariant between rounds.
use Rattle.std.proofs.Common.{ℕ, ◌≡◌, ◌≢◌, ◌+◌, ◌*◌, ◌<◌, ◌≤◌, ◌⊎◌, inl, inr, List, [], ◌∷◌, length, get_or, length-set, refl, sym, ap, ◌∙◌, subst, arith, Some, None}
use Rattle.std.proofs.lemmas.Bool.{cases_eq}
use Rattle.std.proofs.lemmas.List.Elements.{Contains-append_left, Contains-push, Contains-push_cases}
use Rattle.std.specs.List.{Contains}
use Rattle.sat_base.specs.values.Literals.{variable, is_positive, negated}
use Rattle.sat_store.specs.clause.Buffer.{lits_at}
use Rattle.sat_store.specs.clause.Header.{Header}
use Rattle.sat_store.specs.heap.Vsids.{Queue}
use Rattle.sat_parts.specs.declared.prop.graph.ImplNode.{ImplNode}
use Rattle.sat_parts.specs.declared.prop.graph.Reason.TheVariants.{Unit as NoCause, Long}
use Rattle.sat_parts.specs.clause.Db.{Db, DbMatchesBuffer, live_refs, AddsLongClause}
use Rattle.sat_parts.specs.clause.Stored.{lit_of}
use Rattle.sat_parts.specs.prop.Binaries.{Binaries}
use Rattle.sat_parts.specs.prop.Values.{Values, value_of, with_true_lit, IsFalseLit, IsUnassignedLit}
use Rattle.sat_parts.specs.prop.Trails.{TrailState, with_lit}
use Rattle.sat_parts.specs.prop.Graphs.{with_node, enqueued_node, node_of}
use Rattle.sat_parts.specs.prop.WatchLists.{WatchState, with_first_two_watched}
use Rattle.sat_parts.specs.prop.State.{PropagationState, level, current_level, HasLeftQueue, StateIsConsistent, TrailGrows, IsSatisfied, enqueued}
use Rattle.sat_parts.specs.prop.Reasons.{IsFalseBefore, ReasonImplies, ReasonsAreUnit}
use Rattle.sat_parts.specs.prop.Ready.{state_of}
use Rattle.sat_parts.specs.prop.Propagation.{IsLongReason}
use Rattle.sat_parts.proofs.lemmas.prop.StateLemmas.{grows_enqueued, true_from_false, negated_variable, left_true, lit_last}
use Rattle.sat_parts.proofs.lemmas.prop.ReasonLemmas.{false_before_forth}
use Rattle.sat_parts.proofs.lemmas.prop.BuildLemmas.{live_in}
use Rattle.sat_parts.proofs.lemmas.prop.RoomLemmas.{room_for, below_from_value}
use Rattle.sat_parts.proofs.lemmas.prop.StepLemmas.{asks_for_reason, asks_enqueued}
use Rattle.sat_parts.proofs.lemmas.prop.CallLemmas.{asks_added}
use Rattle.sat_parts.proofs.lemmas.prop.WalkLemmas.{at_two}
use Rattle.sat_parts.proofs.lemmas.prop.WordLemmas.{levels_stay}
use Rattle.sat_parts.specs.parts.Round.{IsInNoClause, PartsInvariantBelow, RoundInvariant}
use Rattle.sat_parts.specs.parts.Learned.{IsUnitAfterBacktracking}
use Rattle.sat_parts.proofs.lemmas.parts.ValueLemmas.{some_none, not_false}
use Rattle.sat_parts.proofs.lemmas.parts.TurnLemmas.{turns_by, turns_enqueued, units_enqueued}
use Rattle.sat_parts.proofs.lemmas.parts.DecideLemmas.{ready_enqueued, still_open, no_long}

long_place : (o p : ℕ) → Long o ≡ Long p → o ≡ p
long_place o p e = cc

-- a false literal is false before the end of the trail
pub false_at_end : (s : PropagationState) (m : ℕ) → StateIsConsistent s → IsFalseLit s.values m → IsFalseBefore s (length s.trail.lits) m
false_at_end s m h f = h.known (negated m) (true_from_false s.values m f)

pub level_same : (s : PropagationState) (m : ℕ) → level s (negated m) ≡ level s m
level_same s m = ap (λ u. (node_of s.nodes u).level) (negated_variable m)

-- the negation of an unassigned literal has not left the queue
pub open_not_left : (s : PropagationState) (m : ℕ) → StateIsConsistent s → IsUnassignedLit s.values m → HasLeftQueue s (negated m) → ⊥
open_not_left s m h n x = some_none (left_true s (negated m) h x) (ap (λ u. value_of s.values u) (negated_variable m) ∙ n)

-- the literals of a learned clause are in range
pub pending_below : (s : PropagationState) (q : Queue) (ls : List ℕ) → IsUnitAfterBacktracking s q ls → (k : ℕ) → k < length ls → get_or ls k 0 < 2 * length s.values
pending_below s q ls x k b = elim (cases_eq k 0) [
  | inl e ↦ (let f : get_or ls k 0 ≡ get_or ls 0 0 = ap (λ i. get_or ls i 0) e in omega (arith, x.there))
  | inr n ↦ (let v : variable (get_or ls k 0) < length s.values = below_from_value s.values (variable (get_or ls k 0)) _ (x.rest k (omega arith) b) in omega arith)
]

-- adding a long clause keeps reasons unit in the order of the trail
pub turns_added : (words words' : List ℕ) (db db' : Db) (o : ℕ) (header : Header) (lits : List ℕ) (implied : List (List ℕ)) (s : PropagationState) → DbMatchesBuffer words db → AddsLongClause words db words' db' o header lits →
    ReasonsAreUnit words (live_refs words db.refs) implied s 0 → ReasonsAreUnit words' (live_refs words' db'.refs) implied s 0
turns_added words words' db db' o header lits implied s held x h =
    turns_by words words' (live_refs words db.refs) (live_refs words' db'.refs) implied implied s
    (λ i p b e c. (
      subst (λ (xs : List ℕ). Contains xs p) (sym x.live) (Contains-append_left (live_refs words db.refs) (o ∷ []) p c),
      (x.added.others p (held.holds_clauses.clauses p (live_in words db.refs p c))).lits,
    ))
    (λ i ls b e c. c) h

-- a variable in no clause stays unused if the new clause does not have it
pub unused_added : (words words' : List ℕ) (db db' : Db) (o : ℕ) (header : Header) (lits : List ℕ) (implied : List (List ℕ)) (v : ℕ) → DbMatchesBuffer words db → AddsLongClause words db words' db' o header lits →
    ((k : ℕ) → k < length lits → variable (get_or lits k 0) ≢ v) → IsInNoClause words (live_refs words db.refs) implied v → IsInNoClause words' (live_refs words' db'.refs) implied v
unused_added words words' db db' o header lits implied v held x apart u = record {
  long = λ p k c b e. elim (Contains-push_cases (live_refs words db.refs) o p (subst (λ (xs : List ℕ). Contains xs p) x.live c)) [
    | inl old ↦
        let same : lits_at words' p ≡ lits_at words p = (x.added.others p (held.holds_clauses.clauses p (live_in words db.refs p old))).lits in
        u.long p k old (subst (λ (ls : List ℕ). k < length ls) same b) (ap (λ (ls : List ℕ). variable (get_or ls k 0)) (sym same) ∙ e)
    | inr new ↦
        let there : lits_at words' p ≡ lits = ap (λ z. lits_at words' z) (sym new) ∙ x.added.lits_there in
        apart k (subst (λ (ls : List ℕ). k < length ls) there b) (ap (λ (ls : List ℕ). variable (get_or ls k 0)) (sym there) ∙ e)
  ];
  binary = u.binary;
}

-- a pending clause has no unassigned variable besides that of its first literal
pending_apart : (s : PropagationState) (q : Queue) (ls : List ℕ) (u : ℕ) → IsUnitAfterBacktracking s q ls → u ≢ variable (get_or ls 0 0) → value_of s.values u ≡ None → (k : ℕ) → k < length ls → variable (get_or ls k 0) ≢ u
pending_apart s q ls u x n none k b e = elim (cases_eq k 0) [
  | inl z ↦ n (sym e ∙ ap (λ i. variable (get_or ls i 0)) z)
  | inr d ↦ not_false s.values u (get_or ls k 0) none e (x.rest k (omega arith) b)
]

long_reason : (words words' : List ℕ) (db db' : Db) (o : ℕ) (header : Header) (ls : List ℕ) (implied : List (List ℕ)) (s : PropagationState) (q : Queue) → StateIsConsistent s → IsUnitAfterBacktracking s q ls →
    AddsLongClause words db words' db' o header ls →
    ReasonImplies words' (live_refs words' db'.refs) implied (enqueued (get_or ls 0 0) (Long o) s) (length s.trail.lits) (Long o)
long_reason words words' db db' o header ls implied s q h x added =
    let l : ℕ = get_or ls 0 0 in
    let t : PropagationState = enqueued (get_or ls 0 0) (Long o) s in
    let g : TrailGrows s (enqueued (get_or ls 0 0) (Long o) s) = grows_enqueued s (get_or ls 0 0) (Long o) h x.open_first x.there (room_for s (get_or ls 0 0) (Long o) h x.open_first x.there) in
    let there : lits_at words' o ≡ ls = added.added.lits_there in (
      subst (λ (xs : List ℕ). Contains xs o) (sym added.live) (Contains-push (live_refs words db.refs) o),
      ap (λ (ms : List ℕ). get_or ms 0 0) there ∙ sym (lit_last s (get_or ls 0 0) (Long o)),
      λ k some b.
          subst (λ m. IsFalseBefore t (length s.trail.lits) m) (ap (λ (ms : List ℕ). get_or ms k 0) (sym there))
          (false_before_forth s t (length s.trail.lits) (get_or ls k 0) g (false_at_end s (get_or ls k 0) h (x.rest k some (subst (λ (ms : List ℕ). k < length ms) there b)))),
    )

-- a learned long clause
pub sound_long : (words words' : List ℕ) (db db' : Db) (w : WatchState) (b : Binaries) (a : Values) (g : List ImplNode) (t : TrailState) (q : Queue) (ls : List ℕ) (o : ℕ) (header : Header) →
    RoundInvariant words db w b a g t q → IsUnitAfterBacktracking (state_of a g t) q ls → 3 ≤ length ls → AddsLongClause words db words' db' o header ls →
    RoundInvariant words' db' (with_first_two_watched o ls w) b (with_true_lit (get_or ls 0 0) a) (with_node (variable (get_or ls 0 0)) (enqueued_node t (Long o)) g) (with_lit (get_or ls 0 0) t) q
sound_long words words' db db' w b a g t q ls o header h x three added =
    let l : ℕ = get_or ls 0 0 in
    let s : PropagationState = state_of a g t in
    let y : PartsInvariantBelow words db w b a g t q (length t.starts + 1) = h.below in
    let agrees : StateIsConsistent (state_of a g t) = y.propagation.agrees in
    let own : (i : ℕ) → i < 2 → HasLeftQueue s (negated (get_or ls i 0)) → level s (negated (get_or ls i 0)) < length t.starts + 1 →
    IsSatisfied s ls (level s (negated (get_or ls i 0))) ⊎ (IsLongReason (Long o) o × (current_level s ≤ level s (negated (get_or ls i 0)))) =
    at_two (λ i. HasLeftQueue s (negated (get_or ls i 0)) → level s (negated (get_or ls i 0)) < length t.starts + 1 →
    IsSatisfied s ls (level s (negated (get_or ls i 0))) ⊎ (IsLongReason (Long o) o × (current_level s ≤ level s (negated (get_or ls i 0)))))
    (λ left d. absurd (open_not_left s (get_or ls 0 0) agrees x.open_first left))
    (λ left d. inr (refl, omega (arith, x.second (omega arith), level_same s (get_or ls 1 0)))) in
    let cause : ReasonImplies words' (live_refs words' db'.refs) b.implied (enqueued (get_or ls 0 0) (Long o) (state_of a g t)) (length t.lits) (Long o) =
    long_reason words words' db db' o header ls b.implied s q agrees x added in
    record {
      below = record {
        db_matches = added.holds;
        propagation = asks_enqueued words' db'.refs (with_first_two_watched o ls w) b.implied s (length t.starts + 1) (get_or ls 0 0) (Long o) x.open_first x.there
            (λ p e. subst (λ z. Contains (live_refs words' db'.refs) z × (lit_of words' z 0 ≡ get_or ls 0 0)) (long_place o p e) (cause.0, ap (λ (ms : List ℕ). get_or ms 0 0) added.added.lits_there))
            (asks_added words words' db db' o header ls w b.implied s (length t.starts + 1) (get_or ls 0 0) (Long o) y.propagation added x.distinct three (pending_below s q ls x) own);
        reasons = turns_enqueued words' (live_refs words' db'.refs) b.implied s (get_or ls 0 0) (Long o) agrees x.open_first x.there cause (turns_added words words' db db' o header ls b.implied s y.db_matches added y.reasons);
        levelled = levels_stay.caused s (get_or ls 0 0) (Long o) agrees x.open_first x.there refl y.levelled;
        queue = y.queue ∙ sym (length-set a.current (variable l) (Some (is_positive l)));
        ready = λ u lt none.
            let z : (u ≢ variable (get_or ls 0 0)) × (value_of a.current u ≡ None) = still_open a.current (get_or ls 0 0) u (is_positive l) x.there none in
            elim (y.ready u (omega (arith, length-set a.current (variable l) (Some (is_positive l)))) z.1) [
              | inl p ↦ inl p
              | inr v ↦ inr (unused_added words words' db db' o header ls b.implied u y.db_matches added (pending_apart s q ls u x z.0 z.1) v)
            ];
      };
      units = units_enqueued s (get_or ls 0 0) (Long o) agrees x.open_first x.there (λ e. absurd (omega (arith, x.above (omega arith)))) h.units;
      base = record { above = h.base.above; bottom = h.base.bottom };
    }

-- a learned unit, at level 0
pub sound_unit : (words : List ℕ) (db : Db) (w : WatchState) (b : Binaries) (a : Values) (g : List ImplNode) (t : TrailState) (q : Queue) (l : ℕ) →
    RoundInvariant words db w b a g t q → t.starts ≡ [] → IsUnassignedLit a.current l → variable l < length a.current →
    RoundInvariant words db w b (with_true_lit l a) (with_node (variable l) (enqueued_node t NoCause) g) (with_lit l t) q
sound_unit words db w b a g t q l h bottom n below =
    let s : PropagationState = state_of a g t in
    let y : PartsInvariantBelow words db w b a g t q (length t.starts + 1) = h.below in
    let agrees : StateIsConsistent (state_of a g t) = y.propagation.agrees in
    record {
      below = record {
        db_matches = y.db_matches;
        propagation = asks_enqueued words db.refs w b.implied s (length t.starts + 1) l NoCause n below (λ o e. absurd (no_long o e)) (asks_for_reason words db.refs w b.implied s (length t.starts + 1) l NoCause y.propagation);
        reasons = turns_enqueued words (live_refs words db.refs) b.implied s l NoCause agrees n below tt y.reasons;
        levelled = levels_stay.none (enqueued l NoCause s) bottom;
        queue = y.queue ∙ sym (length-set a.current (variable l) (Some (is_positive l)));
        ready = ready_enqueued words (live_refs words db.refs) b.implied a.current q q l below (λ u d n p. p) y.ready;
      };
      units = units_enqueued s l NoCause agrees n below (λ e. refl) h.units;
      base = record { above = h.base.above; bottom = h.base.bottom };
    }
