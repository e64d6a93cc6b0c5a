-- Deleting, moving and collecting clauses preserves the invariant between rounds.
use Rattle.std.proofs.Common.{ℕ, ◌≡◌, ◌≢◌, ◌+◌, ◌<◌, ◌≤◌, inl, inr, List, [], ◌∷◌, length, get_or, refl, sym, ap, ◌∙◌, subst, arith, Bool, true, false, Option, not, cond, ◌/◌, ◌^◌, Result, Ok, Err}
use Rattle.std.specs.Prelude.{OnOk, OnErr}
use Rattle.sat_store.specs.declared.clause.alloc.StoreError.{StoreError}
use Rattle.sat_store.specs.declared.clause.tier.Tier.{Tier}
use Rattle.std.proofs.lemmas.Bool.{cases_Bool, cond-true, cond-false, cases_eq, cases_lt, true≢false, eq-eqb, ne_eqb}
use Rattle.std.proofs.lemmas.List.Elements.{All-contains, All-filter, All-contains_itself}
use Rattle.std.specs.List.{Contains, filter}
use Rattle.sat_base.specs.values.Literals.{variable, negated}
use Rattle.sat_store.specs.clause.Buffer.{lits_at, header_at}
use Rattle.sat_store.specs.clause.Header.{Header}
use Rattle.sat_store.specs.heap.Vsids.{Queue}
use Rattle.sat_parts.specs.declared.prop.graph.ImplNode.{ImplNode}
use Rattle.sat_parts.specs.declared.prop.graph.Reason.{Reason}
use Rattle.sat_parts.specs.declared.prop.graph.Reason.TheVariants.{Unit as NoCause, Binary, Long}
use Rattle.sat_parts.specs.clause.Db.{Db, DbMatchesBuffer, live_refs, without_ref, PutsHeader, DeletesClause, MovesClauseToTier, IsLockedClause}
use Rattle.sat_parts.specs.clause.Activity.{PutsHeaders, ActivityScale, StaysBelowRescaleLimit, ReachesRescaleLimit, BumpsWithoutRescale, BumpsAndRescales, DecaysAndRescales, decayed_bump, rescaled_header, bumped_activity, with_activity, bumped_rescaled_header}
use Rattle.sat_parts.specs.clause.Collected.{ReasonNamesCopy, CollectsGarbage, CollectsNothing}
use Rattle.sat_parts.specs.clause.Stored.{lit_of}
use Rattle.sat_parts.specs.prop.Binaries.{Binaries, implied_by, unassigned_among, RemovesAssigned}
use Rattle.sat_parts.specs.prop.Graphs.{has_no_clause}
use Rattle.sat_parts.specs.prop.Values.{Values, is_unassigned_var, IsTrueLit}
use Rattle.sat_parts.specs.prop.Trails.{TrailState}
use Rattle.sat_parts.specs.prop.WatchLists.{WatchState, watches_of, no_watch}
use Rattle.sat_parts.specs.prop.State.{PropagationState, node, lit_at}
use Rattle.sat_parts.specs.prop.Reasons.{IsFalseBefore, ReasonImplies}
use Rattle.sat_parts.specs.prop.Ready.{state_of, AreWatched, HasWatch}
use Rattle.sat_parts.specs.prop.TrailWord.{LevelsBeginWithDecisions}
use Rattle.sat_parts.proofs.lemmas.clause.ListLemmas.{at_place, place_in, in_without, there, in_head, in_tail}
use Rattle.sat_parts.proofs.lemmas.prop.BuildLemmas.{live_in}
use Rattle.sat_parts.proofs.lemmas.prop.CallLemmas.{asks_fewer, asks_removed}
use Rattle.sat_parts.proofs.lemmas.prop.CollectedLemmas.{with_graph, asks_collected}
use Rattle.sat_parts.specs.parts.Round.{IsInNoClause, PartsInvariantBelow, RoundInvariant}
use Rattle.sat_parts.proofs.lemmas.parts.TurnLemmas.{turns_by}

-- `LeavesClauses words refs words' refs'` holds if every live clause was live before, with the same literals.
abbrev pub LeavesClauses : (words refs words' refs' : List ℕ) → Type 0
LeavesClauses words refs words' refs' = (o : ℕ) → Contains (live_refs words' refs') o → Contains (live_refs words refs) o × (lits_at words' o ≡ lits_at words o)

-- `KeepsReasons words' refs' s` holds if the clauses of the long reasons on the trail are live.
abbrev pub KeepsReasons : (words' refs' : List ℕ) (s : PropagationState) → Type 0
KeepsReasons words' refs' s = (i o : ℕ) → i < length s.trail.lits → (node s (lit_at s i)).reason ≡ Long o → Contains (live_refs words' refs') o

unused_fewer : (words refs words' refs' : List ℕ) (implied : List (List ℕ)) (v : ℕ) → LeavesClauses words refs words' refs' → IsInNoClause words (live_refs words refs) implied v → IsInNoClause words' (live_refs words' refs') implied v
unused_fewer words refs words' refs' implied v same u = record {
  long = λ o k c b e. u.long o k (same o c).0 (subst (λ (ls : List ℕ). k < length ls) (same o c).1 b) (ap (λ (ls : List ℕ). variable (get_or ls k 0)) (sym (same o c).1) ∙ e);
  binary = u.binary;
}

-- the invariant between rounds holds with fewer clauses, if those of the reasons stay
pub sound_fewer : (words words' : List ℕ) (db db' : Db) (w w' : WatchState) (b : Binaries) (a : Values) (g : List ImplNode) (t : TrailState) (q : Queue) →
    RoundInvariant words db w b a g t q → DbMatchesBuffer words' db' → LeavesClauses words db.refs words' db'.refs → KeepsReasons words' db'.refs (state_of a g t) → length w'.lists ≡ length w.lists →
    (w'.enabled ≡ true → AreWatched words' (live_refs words' db'.refs) w'.lists (length a.current)) → RoundInvariant words' db' w' b a g t q
sound_fewer words words' db db' w w' b a g t q h held same reasons size watched =
    let s : PropagationState = state_of a g t in
    let x : PartsInvariantBelow words db w b a g t q (length t.starts + 1) = h.below in
    record {
      below = record {
        db_matches = held;
        propagation = asks_fewer words db.refs words' db'.refs w w' b.implied s (length t.starts + 1) x.propagation held.holds_clauses same size watched reasons;
        reasons = turns_by words words' (live_refs words db.refs) (live_refs words' db'.refs) b.implied b.implied s
            (λ i o lt e c. (reasons i o lt e, (same o (reasons i o lt e)).1)) (λ i ls lt e c. c) x.reasons;
        levelled = x.levelled;
        queue = x.queue;
        ready = λ v lt none. elim (x.ready v lt none) [ inl p ↦ inl p | inr u ↦ inr (unused_fewer words db.refs words' db'.refs b.implied v same u) ];
      };
      units = h.units;
      base = h.base;
    }

-- an item other than o is in the list without o
pub without_there : (o p : ℕ) (xs : List ℕ) → p ≢ o → Contains xs p → Contains (without_ref o xs) p
without_there o p [] n c = absurd (omega (arith, c.1))
without_there o p (x ∷ xs) n c = elim (cases_eq x o) [
  | inl e ↦
      let gone : without_ref o (x ∷ xs) ≡ without_ref o xs = ap (λ b. cond (not b) (x ∷ without_ref o xs) (without_ref o xs)) (eq-eqb x o e) in
      subst (λ (zs : List ℕ). Contains zs p) (sym gone) (without_there o p xs n (there x xs p (λ q. n (sym q ∙ e)) c))
  | inr d ↦
      let stays : without_ref o (x ∷ xs) ≡ x ∷ without_ref o xs = ap (λ b. cond (not b) (x ∷ without_ref o xs) (without_ref o xs)) (ne_eqb x o d) in
      subst (λ (zs : List ℕ). Contains zs p) (sym stays) (elim (cases_eq x p) [
        | inl q ↦ subst (λ z. Contains (x ∷ without_ref o xs) z) q (in_head x (without_ref o xs))
        | inr m ↦ in_tail x (without_ref o xs) p (without_there o p xs n (there x xs p m c))
      ])
]

-- deleting a clause that is not a reason on the trail
pub sound_without : (words words' : List ℕ) (db db' : Db) (w w' : WatchState) (b : Binaries) (a : Values) (g : List ImplNode) (t : TrailState) (q : Queue) (o : ℕ) →
    RoundInvariant words db w b a g t q → DeletesClause words db words' db' o → w' ≡ record w { enabled = false } → ((i p : ℕ) → i < length t.lits → (node (state_of a g t) (lit_at (state_of a g t) i)).reason ≡ Long p → p ≢ o) →
    RoundInvariant words' db' w' b a g t q
sound_without words words' db db' w w' b a g t q o h x to_w free =
    let y : PartsInvariantBelow words db w b a g t q (length t.starts + 1) = h.below in
    let refs : db'.refs ≡ db.refs = x.refs in
    let lits : (p : ℕ) → Contains db.refs p → lits_at words' p ≡ lits_at words p = λ p c. elim (cases_eq p o) [
      | inl e ↦ ap (λ z. lits_at words' z) e ∙ x.put.lits_there ∙ ap (λ z. lits_at words z) (sym e)
      | inr n ↦ (x.put.others p c n).lits
    ] in
    let back : LeavesClauses words db.refs words' db'.refs = λ p c.
    let d : Contains (live_refs words db.refs) p = (in_without o p (live_refs words db.refs) (subst (λ (xs : List ℕ). Contains xs p) x.live c)).0 in
    (d, lits p (live_in words db.refs p d)) in
    sound_fewer words words' db db' w w' b a g t q h x.holds back
    (λ i p lt e. subst (λ (xs : List ℕ). Contains xs p) (sym x.live) (without_there o p (live_refs words db.refs) (free i p lt e) (y.propagation.firsts i p lt e).0))
    (ap (λ (z : WatchState). length z.lists) to_w) (λ on. absurd (true≢false (sym on ∙ ap (λ (z : WatchState). z.enabled) to_w)))

-- deleting a clause that is not the reason of its first literal
pub sound_deleted : (words words' : List ℕ) (db db' : Db) (w w' : WatchState) (b : Binaries) (a : Values) (g : List ImplNode) (t : TrailState) (q : Queue) (o : ℕ) →
    RoundInvariant words db w b a g t q → DeletesClause words db words' db' o → w' ≡ record w { enabled = false } → (IsLockedClause words a.current g o → ⊥) → RoundInvariant words' db' w' b a g t q
sound_deleted words words' db db' w w' b a g t q o h x to_w free =
    let s : PropagationState = state_of a g t in
    let y : PartsInvariantBelow words db w b a g t q (length t.starts + 1) = h.below in
    let asserted : (i p : ℕ) → i < length t.lits → (node s (lit_at s i)).reason ≡ Long p → p ≢ o = λ i p lt e q.
    let f : Contains (live_refs words db.refs) p × (lit_of words p 0 ≡ lit_at s i) = y.propagation.firsts i p lt e in
    let first : lit_of words o 0 ≡ lit_at s i = ap (λ z. lit_of words z 0) (sym q) ∙ f.1 in
    free (subst (λ l. IsTrueLit a.current l) (sym first) (y.propagation.agrees.holds i lt), ap (λ l. (node s l).reason) first ∙ e ∙ ap (λ z. Long z) q) in
    sound_without words words' db db' w w' b a g t q o h x to_w asserted

-- reasons after a garbage collection
false_collected : (words : List ℕ) (db : Db) (s : PropagationState) (words' : List ℕ) (db' : Db) (nodes' : List ImplNode) (i m : ℕ) → CollectsGarbage words db s.nodes s.trail.lits words' db' nodes' →
    IsFalseBefore s i m → IsFalseBefore (with_graph s nodes') i m
false_collected words db s words' db' nodes' i m x h = elim h [
  | inl b ↦ inl (record { place = b.place; before = b.before; within = b.within; there = b.there })
  | inr r ↦ inr (record { holds = r.holds; depth = x.depths (variable (negated m)) ∙ r.depth; bottom = x.levels (variable (negated m)) ∙ r.bottom })
]

implies_followed : (words : List ℕ) (db : Db) (s : PropagationState) (words' : List ℕ) (db' : Db) (nodes' : List ImplNode) (implied : List (List ℕ)) (i : ℕ) (r r' : Reason) → CollectsGarbage words db s.nodes s.trail.lits words' db' nodes' →
    ReasonNamesCopy (live_refs words db.refs) db'.refs r r' → ReasonImplies words (live_refs words db.refs) implied s i r → ReasonImplies words' (live_refs words' db'.refs) implied (with_graph s nodes') i r'
implies_followed words db s words' db' nodes' implied i NoCause r' x f h = subst (λ (z : Reason). ReasonImplies words' (live_refs words' db'.refs) implied (with_graph s nodes') i z) (sym f) tt
implies_followed words db s words' db' nodes' implied i (Binary ls) r' x f h =
    subst (λ (z : Reason). ReasonImplies words' (live_refs words' db'.refs) implied (with_graph s nodes') i z) (sym f) (h.0, false_collected words db s words' db' nodes' i (get_or ls 0 0) x h.1)
implies_followed words db s words' db' nodes' implied i (Long o) r' x f h =
    let p : ℕ = get_or db'.refs f.0 0 in
    let same : lits_at words' (get_or db'.refs f.0 0) ≡ lits_at words o = x.copies.lits f.0 f.1.0 ∙ ap (λ z. lits_at words z) f.1.1 in
    subst (λ (z : Reason). ReasonImplies words' (live_refs words' db'.refs) implied (with_graph s nodes') i z) (sym f.1.2) (
      subst (λ (xs : List ℕ). Contains xs p) (sym x.live) (place_in db'.refs f.0 (omega (arith, f.1.0, x.copies.size))),
      ap (λ (ls : List ℕ). get_or ls 0 0) same ∙ h.1,
      λ k some b.
          subst (λ m. IsFalseBefore (with_graph s nodes') i m) (ap (λ (ls : List ℕ). get_or ls k 0) (sym same))
          (false_collected words db s words' db' nodes' i (lit_of words o k) x (h.2 k some (subst (λ (ls : List ℕ). k < length ls) same b))),
    )

unit_followed : (live refs' : List ℕ) (r r' : Reason) → ReasonNamesCopy live refs' r r' → has_no_clause r' ≡ has_no_clause r
unit_followed live refs' NoCause r' f = ap (λ (z : Reason). has_no_clause z) f
unit_followed live refs' (Binary ls) r' f = ap (λ (z : Reason). has_no_clause z) f
unit_followed live refs' (Long o) r' f = ap (λ (z : Reason). has_no_clause z) f.1.2

levelled_collected : (words : List ℕ) (db : Db) (s : PropagationState) (words' : List ℕ) (db' : Db) (nodes' : List ImplNode) → CollectsGarbage words db s.nodes s.trail.lits words' db' nodes' → LevelsBeginWithDecisions s → LevelsBeginWithDecisions (with_graph s nodes')
levelled_collected words db s words' db' nodes' x h = record {
  strict = h.strict;
  begun = h.begun;
  decided = λ k b. unit_followed (live_refs words db.refs) db'.refs _ _ (x.reasons (get_or s.trail.starts k 0) (h.begun k b)) ∙ h.decided k b;
  caused = λ i k b c d e. unit_followed (live_refs words db.refs) db'.refs _ _ (x.reasons i d) ∙ h.caused i k b c d e;
}

-- the invariant between rounds holds after a garbage collection
pub sound_collected : (words words' : List ℕ) (db db' : Db) (w w' : WatchState) (b : Binaries) (a : Values) (g g' : List ImplNode) (t : TrailState) (q : Queue) →
    RoundInvariant words db w b a g t q → CollectsGarbage words db g t.lits words' db' g' → w' ≡ record w { enabled = false } → RoundInvariant words' db' w' b a g' t q
sound_collected words words' db db' w w' b a g g' t q h x to_w =
    let s : PropagationState = state_of a g t in
    let y : PartsInvariantBelow words db w b a g t q (length t.starts + 1) = h.below in
    record {
      below = record {
        db_matches = x.holds;
        propagation = asks_collected words db s words' db' g' w w' b.implied (length t.starts + 1) x (ap (λ (z : WatchState). z.enabled) to_w) (ap (λ (z : WatchState). length z.lists) to_w) y.propagation;
        reasons = λ i le lt. implies_followed words db s words' db' g' b.implied i (node s (lit_at s i)).reason (node (with_graph s g') (lit_at s i)).reason x (x.reasons i lt) (y.reasons i le lt);
        levelled = levelled_collected words db s words' db' g' x y.levelled;
        queue = y.queue;
        ready = λ v lt none. elim (y.ready v lt none) [
          | inl p ↦ inl p
          | inr u ↦ inr (record {
            long = λ o k c less e.
                let d : Contains db'.refs o = subst (λ (xs : List ℕ). Contains xs o) x.live c in
                let in_live : d.0 < length (live_refs words db.refs) = omega (arith, d.1, x.copies.size) in
                let same : lits_at words' o ≡ lits_at words (get_or (live_refs words db.refs) d.0 0) = ap (λ z. lits_at words' z) (sym (at_place db'.refs o d)) ∙ x.copies.lits d.0 in_live in
                u.long (get_or (live_refs words db.refs) d.0 0) k (place_in (live_refs words db.refs) d.0 in_live) (subst (λ (ls : List ℕ). k < length ls) same less) (ap (λ (ls : List ℕ). variable (get_or ls k 0)) (sym same) ∙ e);
            binary = u.binary;
          })
        ];
      };
      units = λ i lt e.
          subst (λ (z : Reason). ReasonNamesCopy (live_refs words db.refs) db'.refs z (node (with_graph s g') (lit_at s i)).reason) (h.units i lt (sym (x.levels (variable (lit_at s i))) ∙ e)) (x.reasons i lt);
      base = h.base;
    }

-- clauses with the same literals are still watched
watched_same : (words words' live : List ℕ) (w : WatchState) (count : ℕ) → ((p : ℕ) → Contains live p → lits_at words' p ≡ lits_at words p) → AreWatched words live w.lists count → AreWatched words' live w.lists count
watched_same words words' live w count same h = record {
  room = h.room;
  good = λ l p lt.
      let x = h.good l p lt in
      (x.0, subst (λ (ls : List ℕ). (k : ℕ) × ((k < length ls) × (get_or ls k 0 ≡ (get_or (get_or w.lists l []) p no_watch).blocking))) (sym (same _ x.0)) x.1);
  both = λ o i c b. subst (λ (ls : List ℕ). HasWatch (watches_of w.lists (negated (get_or ls i 0))) o) (sym (same o c)) (h.both o i c b);
}

-- replacing headers, with the same clauses live
pub sound_put : (words words' : List ℕ) (db db' : Db) (w : WatchState) (b : Binaries) (a : Values) (g : List ImplNode) (t : TrailState) (q : Queue) (f : ℕ → Header) →
    RoundInvariant words db w b a g t q → DbMatchesBuffer words' db' → PutsHeaders words words' db.refs f → db'.refs ≡ db.refs → live_refs words' db'.refs ≡ live_refs words db.refs → RoundInvariant words' db' w b a g t q
sound_put words words' db db' w b a g t q f h held x refs live =
    let y : PartsInvariantBelow words db w b a g t q (length t.starts + 1) = h.below in
    let back : LeavesClauses words db.refs words' db'.refs = λ p c.
    let d : Contains (live_refs words db.refs) p = subst (λ (xs : List ℕ). Contains xs p) live c in
    (d, x.lits p (live_in words db.refs p d)) in
    sound_fewer words words' db db' w w b a g t q h held back
    (λ i p lt e. subst (λ (xs : List ℕ). Contains xs p) (sym live) (y.propagation.firsts i p lt e).0) refl
    (λ on. subst (λ (xs : List ℕ). AreWatched words' xs w.lists (length a.current)) (sym live) (watched_same words words' (live_refs words db.refs) w (length a.current) (λ p c. x.lits p (live_in words db.refs p c)) (y.propagation.watches on)))

-- a garbage collection that succeeds, is not due, or fails
pub sound_collect : (words words' : List ℕ) (db db' : Db) (w w' : WatchState) (b : Binaries) (a : Values) (g g' : List ImplNode) (t : TrailState) (q : Queue) (r : Result (Unit {0}) StoreError) →
    RoundInvariant words db w b a g t q → (length words / 2 < db.garbage → OnOk r (CollectsGarbage words db g t.lits words' db' g')) → (length words / 2 < db.garbage → OnOk r (w' ≡ record w { enabled = false })) →
    (db.garbage ≤ length words / 2 → CollectsNothing words db g w words' db' g' w') → OnErr r (CollectsNothing words db g w words' db' g' w') → RoundInvariant words' db' w' b a g' t q
sound_collect words words' db db' w w' b a g g' t q (Ok x) h due off not_due same = elim (cases_lt (length words / 2) db.garbage) [
  | inl lt ↦ sound_collected words words' db db' w w' b a g g' t q h (due lt) (off lt)
  | inr le ↦ (let y = not_due le in rw (y.0, y.1, y.2, y.3) h)
]
sound_collect words words' db db' w w' b a g g' t q (Err x) h due off not_due same = rw (same.0, same.1, same.2, same.3) h

-- deleting a clause unless it is a reason
pub sound_tried : (words words' : List ℕ) (db db' : Db) (w w' : WatchState) (b : Binaries) (a : Values) (g : List ImplNode) (t : TrailState) (q : Queue) (o : ℕ) (r : Bool) →
    RoundInvariant words db w b a g t q → (r ≡ true → IsLockedClause words a.current g o → ⊥) → (r ≡ true → DeletesClause words db words' db' o) → (r ≡ true → w' ≡ record w { enabled = false }) →
    (r ≡ false → (words' ≡ words) × (db' ≡ db) × (w' ≡ w)) → RoundInvariant words' db' w' b a g t q
sound_tried words words' db db' w w' b a g t q o true h free deleted off same = sound_deleted words words' db db' w w' b a g t q o h (deleted refl) (off refl) (free refl)
sound_tried words words' db db' w w' b a g t q o false h free deleted off same = (let y = same refl in rw (y.0, y.1, y.2) h)

-- replacing one header, without effect on what the list counts
pub sound_put_one : (words words' : List ℕ) (db : Db) (w : WatchState) (b : Binaries) (a : Values) (g : List ImplNode) (t : TrailState) (q : Queue) (o : ℕ) (header : Header) →
    RoundInvariant words db w b a g t q → PutsHeader words words' db.refs o header → DbMatchesBuffer words' db → live_refs words' db.refs ≡ live_refs words db.refs → RoundInvariant words' db w b a g t q
sound_put_one words words' db w b a g t q o header h x held live =
    let y : PartsInvariantBelow words db w b a g t q (length t.starts + 1) = h.below in
    let lits : (p : ℕ) → Contains db.refs p → lits_at words' p ≡ lits_at words p = λ p c. elim (cases_eq p o) [
      | inl e ↦ ap (λ z. lits_at words' z) e ∙ x.lits_there ∙ ap (λ z. lits_at words z) (sym e)
      | inr n ↦ (x.others p c n).lits
    ] in
    let back : LeavesClauses words db.refs words' db.refs = λ p c.
    let d : Contains (live_refs words db.refs) p = subst (λ (xs : List ℕ). Contains xs p) live c in
    (d, lits p (live_in words db.refs p d)) in
    sound_fewer words words' db db w w b a g t q h held back
    (λ i p lt e. subst (λ (xs : List ℕ). Contains xs p) (sym live) (y.propagation.firsts i p lt e).0) refl
    (λ on. subst (λ (xs : List ℕ). AreWatched words' xs w.lists (length a.current)) (sym live) (watched_same words words' (live_refs words db.refs) w (length a.current) (λ p c. lits p (live_in words db.refs p c)) (y.propagation.watches on)))

-- moving a clause to another tier
pub sound_tier : (words words' : List ℕ) (db db' : Db) (w : WatchState) (b : Binaries) (a : Values) (g : List ImplNode) (t : TrailState) (q : Queue) (o : ℕ) (tier : Tier) →
    RoundInvariant words db w b a g t q → MovesClauseToTier words db words' db' o tier → RoundInvariant words' db' w b a g t q
sound_tier words words' db db' w b a g t q o tier h x =
    let y : PartsInvariantBelow words db w b a g t q (length t.starts + 1) = h.below in
    let lits : (p : ℕ) → Contains db.refs p → lits_at words' p ≡ lits_at words p = λ p c. elim (cases_eq p o) [
      | inl e ↦ ap (λ z. lits_at words' z) e ∙ x.put.lits_there ∙ ap (λ z. lits_at words z) (sym e)
      | inr n ↦ (x.put.others p c n).lits
    ] in
    let back : LeavesClauses words db.refs words' db'.refs = λ p c.
    let d : Contains (live_refs words db.refs) p = subst (λ (xs : List ℕ). Contains xs p) x.live c in
    (d, lits p (live_in words db.refs p d)) in
    sound_fewer words words' db db' w w b a g t q h x.holds back
    (λ i p lt e. subst (λ (xs : List ℕ). Contains xs p) (sym x.live) (y.propagation.firsts i p lt e).0) refl
    (λ on. subst (λ (xs : List ℕ). AreWatched words' xs w.lists (length a.current)) (sym x.live) (watched_same words words' (live_refs words db.refs) w (length a.current) (λ p c. lits p (live_in words db.refs p c)) (y.propagation.watches on)))

-- decaying the activities of clauses
pub sound_clause_decayed : (words words' : List ℕ) (db : Db) (w : WatchState) (b : Binaries) (a : Values) (g : List ImplNode) (t : TrailState) (q : Queue) (c c' : ActivityScale) →
    RoundInvariant words db w b a g t q → (decayed_bump c < 2 ^ 30 → words' ≡ words) → (2 ^ 30 ≤ decayed_bump c → DecaysAndRescales words words' db.refs c c') →
    DbMatchesBuffer words' db → live_refs words' db.refs ≡ live_refs words db.refs → RoundInvariant words' db w b a g t q
sound_clause_decayed words words' db w b a g t q c c' h later all held live = elim (cases_lt (decayed_bump c) (2 ^ 30)) [
  | inl lt ↦ subst (λ (ws : List ℕ). RoundInvariant ws db w b a g t q) (sym (later lt)) h
  | inr le ↦ sound_put words words' db db w b a g t q (rescaled_header words) h held (all le).1 refl live
]

-- the literals that `unassigned_among` keeps are in the list
open_in : (values : List (Option Bool)) (v m : ℕ) (ls : List ℕ) → Contains (unassigned_among values v ls) m → Contains ls m
open_in values v m ls c =
    elim (cases_Bool (is_unassigned_var values v)) [
      | inl on ↦
          let e : unassigned_among values v ls ≡ filter (λ l. is_unassigned_var values (variable l)) ls = cond-true (is_unassigned_var values v) (filter (λ l. is_unassigned_var values (variable l)) ls) [] on in
          All-contains (Contains ls) (filter (λ l. is_unassigned_var values (variable l)) ls) m
          (All-filter (λ l. is_unassigned_var values (variable l)) (Contains ls) ls (All-contains_itself ls)) (subst (λ (xs : List ℕ). Contains xs m) e c)
      | inr off ↦
          let e : unassigned_among values v ls ≡ [] = cond-false (is_unassigned_var values v) (filter (λ l. is_unassigned_var values (variable l)) ls) [] off in
          absurd (omega (arith, (subst (λ (xs : List ℕ). Contains xs m) e c).1))
    ]

-- removing the binary clauses with an assigned variable, while the trail is empty
pub sound_removed : (words : List ℕ) (db : Db) (w : WatchState) (b b' : Binaries) (a : Values) (g : List ImplNode) (t : TrailState) (q : Queue) →
    RoundInvariant words db w b a g t q → t.lits ≡ [] → RemovesAssigned a.current b b' → RoundInvariant words db w b' a g t q
sound_removed words db w b b' a g t q h empty x =
    let s : PropagationState = state_of a g t in
    let y : PartsInvariantBelow words db w b a g t q (length t.starts + 1) = h.below in
    let none : length t.lits ≡ 0 = ap (λ (xs : List ℕ). length xs) empty in
    record {
      below = record {
        db_matches = y.db_matches;
        propagation = asks_removed words db.refs w b b' s (length t.starts + 1) y.propagation x;
        reasons = λ i le lt. absurd (omega arith);
        levelled = y.levelled;
        queue = y.queue;
        ready = λ v lt unset. elim (y.ready v lt unset) [
          | inl p ↦ inl p
          | inr u ↦ inr (record {
            long = u.long;
            binary = λ l k less.
                let m : ℕ = get_or (implied_by b'.implied l) k 0 in
                let c : Contains (implied_by b.implied l) (get_or (implied_by b'.implied l) k 0) =
                open_in a.current (variable l) (get_or (implied_by b'.implied l) k 0) (implied_by b.implied l)
                (subst (λ (xs : List ℕ). Contains xs (get_or (implied_by b'.implied l) k 0)) (x.implied l) (place_in (implied_by b'.implied l) k less)) in
                let z = u.binary l c.0 c.1 in
                (z.0, subst (λ n. variable n ≢ v) (at_place (implied_by b.implied l) m c) z.1);
          })
        ];
      };
      units = h.units;
      base = h.base;
    }

-- whether a clause was deleted or not, the other clauses are still live
pub others_tried : (words words' : List ℕ) (db db' : Db) (o : ℕ) (r : Bool) → (r ≡ true → DeletesClause words db words' db' o) → (r ≡ false → (words' ≡ words) × (db' ≡ db)) →
    (p : ℕ) → p ≢ o → Contains (live_refs words db.refs) p → Contains (live_refs words' db'.refs) p
others_tried words words' db db' o true deleted same p n c = subst (λ (xs : List ℕ). Contains xs p) (sym (deleted refl).live) (without_there o p (live_refs words db.refs) n c)
others_tried words words' db db' o false deleted same p n c = (let y = same refl in rw (y.0, y.1) c)

-- raising the activity of a clause
pub sound_clause_bumped : (words words' : List ℕ) (db : Db) (w : WatchState) (b : Binaries) (a : Values) (g : List ImplNode) (t : TrailState) (q : Queue) (o : ℕ) (c c' : ActivityScale) →
    RoundInvariant words db w b a g t q → (StaysBelowRescaleLimit words o c → BumpsWithoutRescale words words' db.refs o c c') → (ReachesRescaleLimit words o c → BumpsAndRescales words words' db.refs o c c') →
    DbMatchesBuffer words' db → live_refs words' db.refs ≡ live_refs words db.refs → RoundInvariant words' db w b a g t q
sound_clause_bumped words words' db w b a g t q o c c' h one all held live = elim (cases_lt (bumped_activity words o c.bump) (2 ^ 30)) [
  | inl lt ↦ sound_put_one words words' db w b a g t q o (with_activity (header_at words o) (bumped_activity words o c.bump)) h (one lt).1 held live
  | inr le ↦ sound_put words words' db db w b a g t q (bumped_rescaled_header words o c.bump) h held (all le).1 refl live
]

-- changing the queue of variables, but not which variables are available
pub sound_flags : (words : List ℕ) (db : Db) (w : WatchState) (b : Binaries) (a : Values) (g : List ImplNode) (t : TrailState) (q q' : Queue) → RoundInvariant words db w b a g t q → q'.available ≡ q.available → RoundInvariant words db w b a g t q'
sound_flags words db w b a g t q q' h e =
    let y : PartsInvariantBelow words db w b a g t q (length t.starts + 1) = h.below in
    record {
      below = record {
        db_matches = y.db_matches;
        propagation = y.propagation;
        reasons = y.reasons;
        levelled = y.levelled;
        queue = ap (λ (xs : List Bool). length xs) e ∙ y.queue;
        ready = λ v lt none. elim (y.ready v lt none) [ inl p ↦ inl (ap (λ (xs : List Bool). get_or xs v false) e ∙ p) | inr u ↦ inr u ];
      };
      units = h.units;
      base = h.base;
    }
