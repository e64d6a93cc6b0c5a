-- Permuting the literals of a clause after the first two, and shortening clauses.
use Rattle.std.proofs.Common.{ℕ, ◌≡◌, ◌≢◌, ◌+◌, ◌*◌, ◌<◌, ◌≤◌, inl, inr, List, take, length, get_or, refl, sym, ap, ◌∙◌, subst, arith, false}
use Rattle.std.proofs.lemmas.Bool.{cases_eq, true≢false}
use Rattle.std.proofs.lemmas.List.{get_or-take, length-take-le}
use Rattle.std.specs.List.{Contains}
use Rattle.sat_base.specs.values.Literals.{variable, negated}
use Rattle.sat_store.specs.clause.Buffer.{lits_at}
use Rattle.sat_store.specs.heap.Vsids.{Queue}
use Rattle.sat_store.proofs.lemmas.clause.HeldClauses.{holds_among}
use Rattle.sat_parts.specs.declared.prop.graph.ImplNode.{ImplNode}
use Rattle.sat_parts.specs.declared.prop.graph.Reason.{Reason}
use Rattle.sat_parts.specs.declared.prop.graph.Reason.TheVariants.{Unit as NoCause, Binary, Long}
use Rattle.sat_parts.specs.clause.Db.{Db, live_refs, ShortensClause}
use Rattle.sat_parts.specs.clause.Orders.{AreDistinct, IsReordering, PermutesClause, SameUpToOrder, PermutesClauses}
use Rattle.sat_parts.specs.clause.Stored.{AreLongClauses, lit_of, size_of}
use Rattle.sat_parts.specs.prop.Binaries.{Binaries}
use Rattle.sat_parts.specs.prop.Values.{Values, IsTrueLit}
use Rattle.sat_parts.specs.declared.prop.watch.Watch.{Watch}
use Rattle.sat_parts.specs.prop.Trails.{TrailState}
use Rattle.sat_parts.specs.prop.WatchLists.{WatchState, watches_of, no_watch}
use Rattle.sat_parts.specs.prop.State.{PropagationState, node, level, lit_at, HasLeftQueue, IsSatisfied}
use Rattle.sat_parts.specs.prop.Reasons.{IsFalseBefore, ReasonImplies, PropagationEffect}
use Rattle.sat_parts.specs.prop.Ready.{state_of, AreWatched, HasWatch}
use Rattle.sat_parts.specs.prop.Propagation.{PropagationInvariant}
use Rattle.sat_parts.proofs.lemmas.clause.OrderLemmas.{reorders_one, kept_clauses}
use Rattle.sat_parts.proofs.lemmas.clause.HeldLemmas.{held_reordered}
use Rattle.sat_parts.proofs.lemmas.prop.BuildLemmas.{live_in, live_same}
use Rattle.sat_parts.proofs.lemmas.prop.ReasonLemmas.{moves_shuffled}
use Rattle.sat_parts.proofs.lemmas.prop.WalkLemmas.{at_two}
use Rattle.sat_parts.proofs.lemmas.prop.StateLemmas.{left_true, level_low}
use Rattle.sat_parts.specs.parts.Round.{PartsInvariantBelow, RoundInvariant}
use Rattle.sat_parts.proofs.lemmas.parts.MoveLemmas.{sound_moved}

-- the literals of one clause after the first two are permuted
pub asks_shuffled : (words words' refs : List ℕ) (w : WatchState) (implied : List (List ℕ)) (s : PropagationState) (top o : ℕ) → PropagationInvariant words refs w implied s top → Contains (live_refs words refs) o → PermutesClause words words' o →
    lit_of words' o 0 ≡ lit_of words o 0 → lit_of words' o 1 ≡ lit_of words o 1 → PropagationInvariant words' refs w implied s top
asks_shuffled words words' refs w implied s top o h c x first second =
    let live : List ℕ = live_refs words refs in
    let r : PermutesClauses words words' (live_refs words refs) = reorders_one words words' (live_refs words refs) o c x in
    let k : SameUpToOrder words words' refs = r.all refs (λ p d. live_in words refs p d) h.holds_clauses in
    let e : live_refs words' refs ≡ live_refs words refs = live_same words words' refs k.headers in
    let two : (p i : ℕ) → Contains (live_refs words refs) p → i < 2 → lit_of words' p i ≡ lit_of words p i = λ p i d b. elim (cases_eq o p) [
      | inl q ↦ subst (λ z. lit_of words' z i ≡ lit_of words z i) q (at_two (λ j. lit_of words' o j ≡ lit_of words o j) first second i b)
      | inr n ↦ ap (λ (ls : List ℕ). get_or ls i 0) (x.others (live_refs words refs) p c h.clauses.holds_clauses d n).lits
    ] in
    let forth : (p : ℕ) → Contains (live_refs words refs) p → IsReordering (lits_at words p) (lits_at words' p) = λ p d. k.lits p (live_in words refs p d) in
    let satisfied : (p bound : ℕ) → Contains (live_refs words refs) p → IsSatisfied s (lits_at words p) bound → IsSatisfied s (lits_at words' p) bound = λ p bound d z.
    let j = (forth p d).forth z.place z.within in
    record {
      place = j.0;
      within = omega (arith, j.1.0, (forth p d).size);
      holds = subst (λ l. IsTrueLit s.values l) (sym j.1.1) z.holds;
      low = subst (λ l. level s l ≤ bound) (sym j.1.1) z.low;
    } in
    let old_in : (p : ℕ) → Contains (live_refs words' refs) p → Contains (live_refs words refs) p = λ p d. subst (λ (xs : List ℕ). Contains xs p) e d in
    record {
      holds_clauses = k.holds_clauses;
      clauses = subst (λ (xs : List ℕ). AreLongClauses words' xs (length s.values)) (sym e) (kept_clauses words words' live (length s.values) h.clauses r);
      room = h.room;
      watches = λ on.
          let v : AreWatched words (live_refs words refs) w.lists (length s.values) = h.watches on in
          subst (λ (xs : List ℕ). AreWatched words' xs w.lists (length s.values)) (sym e) (record {
            room = v.room;
            good = λ l p lt.
                let z = v.good l p lt in
                let y : Watch = get_or (watches_of w.lists l) p no_watch in
                let j = (forth y.cref z.0).forth z.1.0 z.1.1.0 in
                (z.0, (j.0, (omega (arith, j.1.0, (forth y.cref z.0).size), j.1.1 ∙ z.1.1.1)));
            both = λ p i d b. subst (λ m. HasWatch (watches_of w.lists (negated m)) p) (sym (two p i d b)) (v.both p i d b);
          });
      agrees = h.agrees;
      queue = h.queue;
      firsts = λ i p lt f.
          let z : Contains (live_refs words refs) p × (lit_of words p 0 ≡ lit_at s i) = h.firsts i p lt f in
          (subst (λ (xs : List ℕ). Contains xs p) (sym e) z.0, two p 0 z.0 (omega arith) ∙ z.1);
      settled = λ p i d b.
          let f : Contains (live_refs words refs) p = old_in p d in
          subst (λ m. HasLeftQueue s (negated m) → level s (negated m) < top → IsSatisfied s (lits_at words' p) (level s (negated m))) (sym (two p i f b))
          (λ left due. satisfied p (level s (negated (lit_of words p i))) f (h.settled p i f b left due));
      ranges = h.ranges;
      binary = h.binary;
    }

pub sound_shuffled : (words words' : List ℕ) (db : Db) (w : WatchState) (b : Binaries) (a : Values) (g : List ImplNode) (t : TrailState) (q : Queue) (o : ℕ) →
    RoundInvariant words db w b a g t q → Contains (live_refs words db.refs) o → PermutesClause words words' o → lit_of words' o 0 ≡ lit_of words o 0 → lit_of words' o 1 ≡ lit_of words o 1 → RoundInvariant words' db w b a g t q
sound_shuffled words words' db w b a g t q o h c x first second =
    let s : PropagationState = state_of a g t in
    let y : PartsInvariantBelow words db w b a g t q (length t.starts + 1) = h.below in
    let m : PropagationEffect (live_refs words db.refs) b.implied words s words' s = moves_shuffled (live_refs words db.refs) b.implied words s words' o (length a.current) y.propagation.agrees y.propagation.clauses c x (λ _. first) in
    let k : SameUpToOrder words words' db.refs = m.reorders.all db.refs (λ p d. live_in words db.refs p d) y.propagation.holds_clauses in
    record {
      below = sound_moved words words' db w w b a a g g t t q (length t.starts + 1) (length t.starts + 1) y (held_reordered words words' db y.db_matches m.reorders) m
          (live_same words words' db.refs k.headers) (asks_shuffled words words' db.refs w b.implied s (length t.starts + 1) o y.propagation c x first second);
      units = h.units;
      base = h.base;
    }

distinct_taken : (ls : List ℕ) (n : ℕ) → n ≤ length ls → AreDistinct ls → AreDistinct (take n ls)
distinct_taken ls n le d j k a b e =
    let size : length (take n ls) ≡ n = length-take-le n ls le in
    d j k (omega arith) (omega arith) (sym (get_or-take n ls j 0 (omega arith)) ∙ e ∙ get_or-take n ls k 0 (omega arith))

shorter_turn : (words words' live live' : List ℕ) (implied : List (List ℕ)) (s : PropagationState) (i o len : ℕ) (r : Reason) → live' ≡ live →
    ((p : ℕ) → Contains live' p → (k : ℕ) → k < size_of words' p → (lit_of words' p k ≡ lit_of words p k) × (k < size_of words p)) →
    ((p : ℕ) → Contains live' p → lit_of words' p 0 ≡ lit_of words p 0) →
    ReasonImplies words live implied s i r → ReasonImplies words' live' implied s i r
shorter_turn words words' live live' implied s i o len NoCause e same first h = tt
shorter_turn words words' live live' implied s i o len (Binary ls) e same first h = h
shorter_turn words words' live live' implied s i o len (Long p) e same first h =
    let d : Contains live' p = subst (λ (xs : List ℕ). Contains xs p) (sym e) h.0 in (
      d,
      first p d ∙ h.1,
      λ k some lt. subst (λ m. IsFalseBefore s i m) (sym (same p d k lt).0) (h.2 k some (same p d k lt).1),
    )

-- shortening a clause whose first two literals are not false by a literal that has left the queue
pub sound_shortened : (words words' : List ℕ) (db : Db) (w w' : WatchState) (b : Binaries) (a : Values) (g : List ImplNode) (t : TrailState) (q : Queue) (o len : ℕ) →
    RoundInvariant words db w b a g t q → Contains (live_refs words db.refs) o → 3 ≤ len → len ≤ size_of words o → ShortensClause words db words' o len → w' ≡ record w { enabled = false } →
    ((i : ℕ) → i < 2 → HasLeftQueue (state_of a g t) (negated (lit_of words o i)) → ⊥) → RoundInvariant words' db w' b a g t q
sound_shortened words words' db w w' b a g t q o len h c three le x to_w fresh =
    let s : PropagationState = state_of a g t in
    let y : PartsInvariantBelow words db w b a g t q (length t.starts + 1) = h.below in
    let size : length (take len (lits_at words o)) ≡ len = length-take-le len (lits_at words o) le in
    let off : w'.enabled ≡ false = ap (λ (z : WatchState). z.enabled) to_w in
    let old_in : (p : ℕ) → Contains (live_refs words' db.refs) p → Contains (live_refs words db.refs) p = λ p d. subst (λ (xs : List ℕ). Contains xs p) x.live d in
    -- a property of all old clauses and of the shortened one
    let from : (P : ℕ → List ℕ → Type 0) → ((p : ℕ) → Contains (live_refs words db.refs) p → P p (lits_at words p)) → P o (take len (lits_at words o)) → (p : ℕ) → Contains (live_refs words' db.refs) p → P p (lits_at words' p) =
    λ P old new p d. elim (cases_eq p o) [
      | inl e ↦ subst (λ z. P z (lits_at words' z)) (sym e) (subst (λ (ls : List ℕ). P o ls) (sym x.lits_there) new)
      | inr n ↦ subst (λ (ls : List ℕ). P p ls) (sym (x.others p (live_in words db.refs p (old_in p d)) n).lits) (old p (old_in p d))
    ] in
    let at : (k : ℕ) → k < len → get_or (take len (lits_at words o)) k 0 ≡ lit_of words o k = λ k lt. get_or-take len (lits_at words o) k 0 lt in
    let first_same : (p : ℕ) → Contains (live_refs words' db.refs) p → lit_of words' p 0 ≡ lit_of words p 0 =
    from (λ p ls. get_or ls 0 0 ≡ lit_of words p 0) (λ p d. refl) (at 0 (omega arith)) in
    record {
      below = record {
        db_matches = x.holds;
        propagation = record {
          holds_clauses = x.holds.holds_clauses;
          clauses = record {
            holds_clauses = holds_among words' db.refs (live_refs words' db.refs) (λ p d. live_in words' db.refs p d) x.holds.holds_clauses;
            long = from (λ p ls. 3 ≤ length ls) (λ p d. y.propagation.clauses.long p d) (omega arith);
            below = λ p k d. from (λ z ls. k < length ls → get_or ls k 0 < 2 * length a.current) (λ z f. y.propagation.clauses.below z k f)
                (λ lt. subst (λ m. m < 2 * length a.current) (sym (at k (omega arith))) (y.propagation.clauses.below o k c (omega arith))) p d;
            distinct = from (λ p ls. AreDistinct ls) (λ p d. y.propagation.clauses.distinct p d) (distinct_taken (lits_at words o) len le (y.propagation.clauses.distinct o c));
          };
          room = ap (λ (z : WatchState). length z.lists) to_w ∙ y.propagation.room;
          watches = λ on. absurd (true≢false (sym on ∙ off));
          agrees = y.propagation.agrees;
          queue = y.propagation.queue;
          firsts = λ i p lt e.
              let f : Contains (live_refs words db.refs) p × (lit_of words p 0 ≡ lit_at s i) = y.propagation.firsts i p lt e in
              let d : Contains (live_refs words' db.refs) p = subst (λ (xs : List ℕ). Contains xs p) (sym x.live) f.0 in
              (d, first_same p d ∙ f.1);
          settled = λ p i d b.
              from (λ z ls. HasLeftQueue s (negated (get_or ls i 0)) → level s (negated (get_or ls i 0)) < length t.starts + 1 → IsSatisfied s ls (level s (negated (get_or ls i 0))))
              (λ z f left due. y.propagation.settled z i f b left due)
              (λ left due. absurd (fresh i b (subst (λ m. HasLeftQueue s (negated m)) (at i (omega arith)) left))) p d;
          ranges = y.propagation.ranges;
          binary = y.propagation.binary;
        };
        reasons = λ i z lt. shorter_turn words words' (live_refs words db.refs) (live_refs words' db.refs) b.implied s i o len (node s (lit_at s i)).reason x.live
            (λ p d. from (λ z ls. (k : ℕ) → k < length ls → (get_or ls k 0 ≡ lit_of words z k) × (k < size_of words z)) (λ z f k lt. (refl, lt)) (λ k lt. (at k (omega arith), omega arith)) p d)
            first_same (y.reasons i z lt);
        levelled = y.levelled;
        queue = y.queue;
        ready = λ u lt none. elim (y.ready u lt none) [
          | inl p ↦ inl p
          | inr v ↦ inr (record {
            long = λ p k d. from (λ z ls. k < length ls → variable (get_or ls k 0) ≢ u) (λ z f less. v.long z k f less)
                (λ less e. v.long o k c (omega arith) (ap (λ m. variable m) (sym (at k (omega arith))) ∙ e)) p d;
            binary = v.binary;
          })
        ];
      };
      units = h.units;
      base = h.base;
    }

-- a live clause without a true literal: its first two are not false by literals that have left the queue
pub fresh_unsatisfied : (words : List ℕ) (db : Db) (w : WatchState) (b : Binaries) (a : Values) (g : List ImplNode) (t : TrailState) (q : Queue) (o : ℕ) → RoundInvariant words db w b a g t q → Contains (live_refs words db.refs) o →
    ((k : ℕ) → k < size_of words o → IsTrueLit a.current (lit_of words o k) → ⊥) → (i : ℕ) → i < 2 → HasLeftQueue (state_of a g t) (negated (lit_of words o i)) → ⊥
fresh_unsatisfied words db w b a g t q o h c none i lt left =
    let s : PropagationState = state_of a g t in
    let m : ℕ = negated (lit_of words o i) in
    let z : IsSatisfied s (lits_at words o) (level s (negated (lit_of words o i))) = h.below.propagation.settled o i c lt left (omega (arith, level_low s m h.below.propagation.agrees (left_true s m h.below.propagation.agrees left))) in
    none z.place z.within z.holds
