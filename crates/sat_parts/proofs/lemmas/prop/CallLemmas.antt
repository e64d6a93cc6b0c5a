-- For callers in other crates: adding, deleting and removing clauses preserves the invariant of propagation.
use Rattle.std.proofs.Common.{ℕ, ◌≡◌, ◌*◌, ◌<◌, ◌≤◌, ◌⊎◌, inl, inr, List, [], ◌∷◌, ◌++◌, length, get_or, refl, sym, ap, ◌∙◌, subst, arith, Bool, true, false, Option, length-set}
use Rattle.std.proofs.lemmas.Bool.{cases_Bool, cond-true, cond-false}
use Rattle.std.proofs.lemmas.List.Elements.{Contains-append_left, Contains-push, Contains-push_cases, All-contains, All-filter, All-contains_itself}
use Rattle.std.specs.List.{Contains, filter}
use Rattle.std.specs.List.Retain.{IsFiltered}
use Rattle.sat_base.specs.values.Literals.{negated, variable}
use Rattle.sat_store.specs.clause.Buffer.{HoldsClauses, lits_at}
use Rattle.sat_store.proofs.lemmas.clause.HeldClauses.{holds_among}
use Rattle.sat_parts.specs.declared.prop.graph.Reason.{Reason}
use Rattle.sat_parts.specs.declared.prop.graph.Reason.TheVariants.{Unit as NoCause, Long}
use Rattle.sat_parts.specs.clause.Orders.{AreDistinct}
use Rattle.sat_store.specs.clause.Header.{Header}
use Rattle.sat_parts.specs.declared.prop.watch.Watch.{Watch}
use Rattle.sat_parts.specs.clause.Db.{Db, live_refs, AddsLongClause}
use Rattle.sat_parts.specs.clause.Filtered.{SameClausesAt}
use Rattle.sat_parts.specs.clause.Stored.{lit_of}
use Rattle.sat_parts.specs.prop.Values.{is_unassigned_var, IsTrueLit}
use Rattle.sat_parts.specs.prop.Binaries.{Binaries, implied_by, unassigned_among, RemovesAssigned}
use Rattle.sat_parts.specs.prop.WatchLists.{WatchState, no_watch, watch_on, watches_of, lists_with_watch, with_watch, with_clause_watches}
use Rattle.sat_parts.specs.prop.State.{PropagationState, node, level, current_level, lit_at, HasLeftQueue, IsSatisfied}
use Rattle.sat_parts.specs.prop.Ready.{IsSoundWatch, HasWatch, AreWatched}
use Rattle.sat_parts.specs.prop.Propagation.{PropagationInvariant, EnqueuePrecondition, IsLongReason}
use Rattle.sat_parts.proofs.lemmas.clause.ListLemmas.{place_in, at_place}
use Rattle.sat_parts.proofs.lemmas.clause.FilterLemmas.{filtered_in}
use Rattle.sat_parts.proofs.lemmas.prop.BuildLemmas.{live_in}
use Rattle.sat_parts.proofs.lemmas.prop.WalkLemmas.{more_watch, new_watch, good_lists, at_two}

-- fewer clauses are live, with the same literals, and every reason on the trail is one of them
pub asks_fewer : (words refs words' refs' : List ℕ) (w w' : WatchState) (implied : List (List ℕ)) (s : PropagationState) (top : ℕ) → PropagationInvariant words refs w implied s top → HoldsClauses words' refs' →
    ((o : ℕ) → Contains (live_refs words' refs') o → Contains (live_refs words refs) o × (lits_at words' o ≡ lits_at words o)) →
    length w'.lists ≡ length w.lists → (w'.enabled ≡ true → AreWatched words' (live_refs words' refs') w'.lists (length s.values)) →
    ((i o : ℕ) → i < length s.trail.lits → (node s (lit_at s i)).reason ≡ Long o → Contains (live_refs words' refs') o) →
    PropagationInvariant words' refs' w' implied s top
asks_fewer words refs words' refs' w w' implied s top h holds_clauses same room watched reasons = record {
  holds_clauses = holds_clauses;
  clauses = record {
    holds_clauses = holds_among words' refs' (live_refs words' refs') (λ o c. live_in words' refs' o c) holds_clauses;
    long = λ o c. subst (λ (ls : List ℕ). 3 ≤ length ls) (sym (same o c).1) (h.clauses.long o (same o c).0);
    below = λ o k c. subst (λ (ls : List ℕ). k < length ls → get_or ls k 0 < 2 * length s.values) (sym (same o c).1) (h.clauses.below o k (same o c).0);
    distinct = λ o c. subst (λ (ls : List ℕ). AreDistinct ls) (sym (same o c).1) (h.clauses.distinct o (same o c).0);
  };
  room = room ∙ h.room;
  watches = watched;
  agrees = h.agrees;
  queue = h.queue;
  firsts = λ i o lt e.
      let c : Contains (live_refs words' refs') o = reasons i o lt e in
      (c, ap (λ (ls : List ℕ). get_or ls 0 0) (same o c).1 ∙ (h.firsts i o lt e).1);
  settled = λ o i c b.
      subst (λ (ls : List ℕ). HasLeftQueue s (negated (get_or ls i 0)) → level s (negated (get_or ls i 0)) < top → IsSatisfied s ls (level s (negated (get_or ls i 0)))) (sym (same o c).1)
      (h.settled o i (same o c).0 b);
  ranges = h.ranges;
  binary = h.binary;
}

-- if the reason is not a clause, the precondition of enqueueing is the invariant
pub asks_of_unit : (words refs : List ℕ) (w : WatchState) (implied : List (List ℕ)) (s : PropagationState) (top lit : ℕ) → EnqueuePrecondition lit NoCause words refs w implied s top → PropagationInvariant words refs w implied s top
asks_of_unit words refs w implied s top lit h = record {
  holds_clauses = h.holds_clauses;
  clauses = h.clauses;
  room = h.room;
  watches = h.watches;
  agrees = h.agrees;
  queue = h.queue;
  firsts = h.firsts;
  settled = λ o i c b x d. elim (h.settled o i c b x d) [ inl y ↦ y | inr n ↦ absurd n.0 ];
  ranges = h.ranges;
  binary = λ l k x d b. elim (h.binary l k x d b) [ inl y ↦ y | inr n ↦ absurd n.0 ];
}

lists_added : (o a b : ℕ) (w : WatchState) → (length (with_clause_watches o a b w).lists ≡ length w.lists) × ((with_clause_watches o a b w).enabled ≡ w.enabled)
lists_added o a b w = elim (cases_Bool w.enabled) [
  | inl on ↦
      let e : with_clause_watches o a b w ≡ with_watch (negated b) (watch_on o a) (with_watch (negated a) (watch_on o b) w) = cond-true w.enabled _ w on in
      let one : List (List Watch) = lists_with_watch (negated a) (watch_on o b) w.lists in (
        ap (λ (x : WatchState). length x.lists) e ∙ length-set one (negated b) (watches_of one (negated b) ++ watch_on o a ∷ [])
            ∙ length-set w.lists (negated a) (watches_of w.lists (negated a) ++ watch_on o b ∷ []),
        ap (λ (x : WatchState). x.enabled) e,
      )
  | inr off ↦
      let e : with_clause_watches o a b w ≡ w = cond-false w.enabled _ w off in
      (ap (λ (x : WatchState). length x.lists) e, ap (λ (x : WatchState). x.enabled) e)
]

-- enabled watch lists get the watches of the new clause
watched_added : (words words' : List ℕ) (db db' : Db) (o count : ℕ) (header : Header) (lits : List ℕ) (w : WatchState) → AddsLongClause words db words' db' o header lits →
    HoldsClauses words db.refs → 3 ≤ length lits → ((k : ℕ) → k < length lits → get_or lits k 0 < 2 * count) → w.enabled ≡ true → AreWatched words (live_refs words db.refs) w.lists count →
    AreWatched words' (live_refs words' db'.refs) (with_clause_watches o (get_or lits 0 0) (get_or lits 1 0) w).lists count
watched_added words words' db db' o count header lits w x holds_clauses three below on h =
    let a : ℕ = get_or lits 0 0 in
    let b : ℕ = get_or lits 1 0 in
    let live : List ℕ = live_refs words db.refs in
    let live' : List ℕ = live_refs words' db'.refs in
    let room : length w.lists ≡ 2 * count = h.room in
    let small_a : get_or lits 0 0 < 2 * count = below 0 (omega arith) in
    let small_b : get_or lits 1 0 < 2 * count = below 1 (omega arith) in
    let first : Watch = watch_on o b in
    let second : Watch = watch_on o a in
    let one : List (List Watch) = lists_with_watch (negated a) first w.lists in
    let two : List (List Watch) = lists_with_watch (negated b) second one in
    let one_length : length one ≡ length w.lists = length-set w.lists (negated a) (watches_of w.lists (negated a) ++ first ∷ []) in
    let two_length : length two ≡ length one = length-set one (negated b) (watches_of one (negated b) ++ second ∷ []) in
    let in_one : negated (get_or lits 0 0) < length w.lists = omega arith in
    let in_two : negated (get_or lits 1 0) < length one = omega arith in
    let new_in : Contains (live_refs words' db'.refs) o = subst (λ (xs : List ℕ). Contains xs o) (sym x.live) (Contains-push live o) in
    let old_in : (p : ℕ) → Contains live p → Contains (live_refs words' db'.refs) p = λ p c. subst (λ (xs : List ℕ). Contains xs p) (sym x.live) (Contains-append_left live (o ∷ []) p c) in
    let same : (p : ℕ) → Contains live p → lits_at words' p ≡ lits_at words p = λ p c. (x.added.others p (holds_clauses.clauses p (live_in words db.refs p c))).lits in
    let there : lits_at words' o ≡ lits = x.added.lits_there in
    let good_first : IsSoundWatch words' (live_refs words' db'.refs) first =
    (new_in, (1, subst (λ (ls : List ℕ). (1 < length ls) × (get_or ls 1 0 ≡ b)) (sym there) (omega arith, refl))) in
    let good_second : IsSoundWatch words' (live_refs words' db'.refs) second =
    (new_in, (0, subst (λ (ls : List ℕ). (0 < length ls) × (get_or ls 0 0 ≡ a)) (sym there) (omega arith, refl))) in
    let good_old : (l p : ℕ) → p < length (watches_of w.lists l) → IsSoundWatch words' (live_refs words' db'.refs) (get_or (watches_of w.lists l) p no_watch) = λ l p lt.
    let g : IsSoundWatch words live (get_or (watches_of w.lists l) p no_watch) = h.good l p lt in
    let y : Watch = get_or (watches_of w.lists l) p no_watch in
    (old_in y.cref g.0, (g.1.0, subst (λ (ls : List ℕ). (g.1.0 < length ls) × (get_or ls g.1.0 0 ≡ y.blocking)) (sym (same y.cref g.0)) g.1.1)) in
    let W : ℕ → ℕ → Type 0 = λ p i. HasWatch (watches_of two (negated (lit_of words' p i))) p in
    let e : with_clause_watches o a b w ≡ with_watch (negated b) second (with_watch (negated a) first w) = cond-true w.enabled _ w on in
    subst (λ (z : WatchState). AreWatched words' (live_refs words' db'.refs) z.lists count) (sym e) (record {
      room = two_length ∙ one_length ∙ h.room;
      good = good_lists words' (live_refs words' db'.refs) one (negated b) second in_two good_second (good_lists words' (live_refs words' db'.refs) w.lists (negated a) first in_one good_first good_old);
      both = λ p i z hi. elim (Contains-push_cases live o p (subst (λ (xs : List ℕ). Contains xs p) x.live z)) [
        | inl old ↦ subst (λ (ls : List ℕ). HasWatch (watches_of two (negated (get_or ls i 0))) p) (sym (same p old))
            (more_watch one (negated b) (negated (lit_of words p i)) p second in_two (more_watch w.lists (negated a) (negated (lit_of words p i)) p first in_one (h.both p i old hi)))
        | inr new ↦ subst (λ (q : ℕ). W q i) new
            (at_two (λ j. W o j)
            (subst (λ (ls : List ℕ). HasWatch (watches_of two (negated (get_or ls 0 0))) o) (sym there) (more_watch one (negated b) (negated a) o second in_two (new_watch w.lists (negated a) first in_one)))
            (subst (λ (ls : List ℕ). HasWatch (watches_of two (negated (get_or ls 1 0))) o) (sym there) (new_watch one (negated b) second in_two)) i hi)
      ];
    })

-- a long clause was added, which may be the reason of the next literal. If a watched literal is false and has
-- left the queue, the clause is satisfied, or it is that reason and the literal is at the current level
pub asks_added : (words words' : List ℕ) (db db' : Db) (o : ℕ) (header : Header) (lits : List ℕ) (w : WatchState) (implied : List (List ℕ)) (s : PropagationState) (top lit : ℕ) (r : Reason) →
    PropagationInvariant words db.refs w implied s top → AddsLongClause words db words' db' o header lits → AreDistinct lits → 3 ≤ length lits → ((k : ℕ) → k < length lits → get_or lits k 0 < 2 * length s.values) →
    ((i : ℕ) → i < 2 → HasLeftQueue s (negated (get_or lits i 0)) → level s (negated (get_or lits i 0)) < top →
    IsSatisfied s lits (level s (negated (get_or lits i 0))) ⊎ (IsLongReason r o × (current_level s ≤ level s (negated (get_or lits i 0))))) →
    EnqueuePrecondition lit r words' db'.refs (with_clause_watches o (get_or lits 0 0) (get_or lits 1 0) w) implied s top
asks_added words words' db db' o header lits w implied s top lit r h x apart three below own =
    let live : List ℕ = live_refs words db.refs in
    let keeps : (p : ℕ) → Contains (live_refs words db.refs) p → lits_at words' p ≡ lits_at words p = λ p c. (x.added.others p (h.holds_clauses.clauses p (live_in words db.refs p c))).lits in
    let there : lits_at words' o ≡ lits = x.added.lits_there in
    let old_in : (p : ℕ) → Contains (live_refs words db.refs) p → Contains (live_refs words' db'.refs) p = λ p c. subst (λ (xs : List ℕ). Contains xs p) (sym x.live) (Contains-append_left live (o ∷ []) p c) in
    let from : (P : ℕ → List ℕ → Type 0) → ((p : ℕ) → Contains (live_refs words db.refs) p → P p (lits_at words p)) → P o lits → (p : ℕ) → Contains (live_refs words' db'.refs) p → P p (lits_at words' p) =
    λ P old new p c. elim (Contains-push_cases live o p (subst (λ (xs : List ℕ). Contains xs p) x.live c)) [
      | inl before ↦ subst (λ (ls : List ℕ). P p ls) (sym (keeps p before)) (old p before)
      | inr e ↦ subst (λ (q : ℕ). P q (lits_at words' q)) e (subst (λ (ls : List ℕ). P o ls) (sym there) new)
    ] in
    record {
      holds_clauses = x.holds.holds_clauses;
      clauses = record {
        holds_clauses = holds_among words' db'.refs (live_refs words' db'.refs) (λ p c. live_in words' db'.refs p c) x.holds.holds_clauses;
        long = from (λ p ls. 3 ≤ length ls) (λ p c. h.clauses.long p c) three;
        below = λ p k c. from (λ q ls. k < length ls → get_or ls k 0 < 2 * length s.values) (λ q d. h.clauses.below q k d) (below k) p c;
        distinct = from (λ p ls. AreDistinct ls) (λ p c. h.clauses.distinct p c) apart;
      };
      room = (lists_added o (get_or lits 0 0) (get_or lits 1 0) w).0 ∙ h.room;
      watches = λ on.
          let was : w.enabled ≡ true = sym (lists_added o (get_or lits 0 0) (get_or lits 1 0) w).1 ∙ on in
          watched_added words words' db db' o (length s.values) header lits w x h.holds_clauses three below was (h.watches was);
      agrees = h.agrees;
      queue = h.queue;
      firsts = λ i p lt e.
          let f : Contains (live_refs words db.refs) p × (lit_of words p 0 ≡ lit_at s i) = h.firsts i p lt e in
          (old_in p f.0, ap (λ (ls : List ℕ). get_or ls 0 0) (keeps p f.0) ∙ f.1);
      settled = λ p i c b.
          from (λ q ls. HasLeftQueue s (negated (get_or ls i 0)) → level s (negated (get_or ls i 0)) < top →
          IsSatisfied s ls (level s (negated (get_or ls i 0))) ⊎ (IsLongReason r q × (current_level s ≤ level s (negated (get_or ls i 0)))))
          (λ q d f g. inl (h.settled q i d b f g)) (own i b) p c;
      ranges = h.ranges;
      binary = λ l k f g b. inl (h.binary l k f g b);
    }

-- the literals that `unassigned_among` keeps are in the list
open_in : (values : List (Option Bool)) (v m : ℕ) (ls : List ℕ) → Contains (unassigned_among values v ls) m → Contains ls m
open_in values v m ls c =
    elim (cases_Bool (is_unassigned_var values v)) [
      | inl on ↦
          let e : unassigned_among values v ls ≡ filter (λ l. is_unassigned_var values (variable l)) ls = cond-true (is_unassigned_var values v) (filter (λ l. is_unassigned_var values (variable l)) ls) [] on in
          All-contains (Contains ls) (filter (λ l. is_unassigned_var values (variable l)) ls) m
          (All-filter (λ l. is_unassigned_var values (variable l)) (Contains ls) ls (All-contains_itself ls)) (subst (λ (xs : List ℕ). Contains xs m) e c)
      | inr off ↦
          let e : unassigned_among values v ls ≡ [] = cond-false (is_unassigned_var values v) (filter (λ l. is_unassigned_var values (variable l)) ls) [] off in
          absurd (omega (arith, (subst (λ (xs : List ℕ). Contains xs m) e c).1))
    ]

-- the binary clauses with an assigned variable were removed
pub asks_removed : (words refs : List ℕ) (w : WatchState) (old new : Binaries) (s : PropagationState) (top : ℕ) → PropagationInvariant words refs w old.implied s top → RemovesAssigned s.values old new →
    PropagationInvariant words refs w new.implied s top
asks_removed words refs w old new s top h x =
    let was : (l k : ℕ) → k < length (implied_by new.implied l) → Contains (implied_by old.implied l) (get_or (implied_by new.implied l) k 0) = λ l k b.
    open_in s.values (variable l) (get_or (implied_by new.implied l) k 0) (implied_by old.implied l)
    (subst (λ (xs : List ℕ). Contains xs (get_or (implied_by new.implied l) k 0)) (x.implied l) (place_in (implied_by new.implied l) k b)) in
    let at : (l k : ℕ) (b : k < length (implied_by new.implied l)) → get_or (implied_by old.implied l) (was l k b).0 0 ≡ get_or (implied_by new.implied l) k 0 = λ l k b.
    at_place (implied_by old.implied l) (get_or (implied_by new.implied l) k 0) (was l k b) in
    record {
      holds_clauses = h.holds_clauses;
      clauses = h.clauses;
      room = h.room;
      watches = h.watches;
      agrees = h.agrees;
      queue = h.queue;
      firsts = h.firsts;
      settled = h.settled;
      ranges = record {
        room = x.size ∙ h.ranges.room;
        below = λ l k b. subst (λ m. m < 2 * length s.values) (at l k b) (h.ranges.below l (was l k b).0 (was l k b).1);
      };
      binary = λ l k f d b.
          subst (λ m. IsTrueLit s.values m × (level s m ≤ level s l)) (at l k b) (h.binary l (was l k b).0 f d (was l k b).1);
    }

-- a pass over the clauses kept the reasons on the trail
pub asks_filtered : {F : Type 0} (R : F → ℕ → Bool → F → Type 0) (f : F) (words refs words' : List ℕ) (w : WatchState) (implied : List (List ℕ)) (s : PropagationState) (top : ℕ) →
    PropagationInvariant words refs w implied s top → IsFiltered R f (live_refs words refs) (live_refs words' refs) → SameClausesAt words words' (live_refs words' refs) → HoldsClauses words' refs →
    ((i o : ℕ) → i < length s.trail.lits → (node s (lit_at s i)).reason ≡ Long o → Contains (live_refs words' refs) o) →
    PropagationInvariant words' refs (record w { enabled = false }) implied s top
asks_filtered R f words refs words' w implied s top h x kept holds_clauses reasons =
    let v : WatchState = record w { enabled = false } in
    asks_fewer words refs words' refs w v implied s top h holds_clauses
    (λ o c. (filtered_in R f (live_refs words refs) (live_refs words' refs) o x c, (kept o c).lits)) refl (λ off. absurd (let e : false ≡ true = off in cc)) reasons
