-- From `PropagationInvariant`, for all parts, to `WatchedPropagationInvariant`, for the loop over the queue, and back.
use Rattle.std.proofs.Common.{ℕ, ◌≡◌, inl, inr, ◌+◌, ◌/◌, ◌<◌, List, length, sym, subst, arith, true, false, Result, Ok, Err}
use Rattle.std.proofs.lemmas.Bool.{cases_Bool}
use Rattle.sat_store.specs.clause.Buffer.{HoldsClauses}
use Rattle.sat_parts.specs.declared.prop.graph.Conflict.{Conflict}
use Rattle.sat_parts.specs.clause.Orders.{SameUpToOrder}
use Rattle.sat_parts.specs.clause.Db.{live_refs}
use Rattle.sat_parts.specs.clause.Stored.{AreLongClauses}
use Rattle.sat_parts.specs.prop.WatchLists.{WatchState}
use Rattle.sat_parts.specs.prop.State.{PropagationState, level, current_level}
use Rattle.sat_parts.specs.prop.Reasons.{TrailReasonsHaveLitFirst}
use Rattle.sat_parts.specs.prop.Ready.{AreWatched, LongClausesArePropagated, WatchedPropagationInvariant, WatchedPropagationResult, IsUnitFixpoint, IsConflict}
use Rattle.sat_parts.specs.prop.Propagation.{PropagationInvariant, PropagationResult}
use Rattle.sat_parts.proofs.lemmas.prop.BuildLemmas.{live_in, live_same}

-- the invariant for all parts gives `WatchedPropagationInvariant` for the enabled watch lists
pub ready_from : (words refs : List ℕ) (w w' : WatchState) (implied : List (List ℕ)) (s : PropagationState) (top : ℕ) → PropagationInvariant words refs w implied s top →
    AreWatched words (live_refs words refs) w'.lists (length s.values) → WatchedPropagationInvariant words (live_refs words refs) w'.lists implied s top
ready_from words refs w w' implied s top h x = record {
  long = record { clauses = h.clauses; watches = x; agrees = h.agrees; queue = h.queue; settled = h.settled };
  ranges = h.ranges;
  binary = h.binary;
  firsts = h.firsts;
}

asks_from : (words refs : List ℕ) (w : WatchState) (implied : List (List ℕ)) (s : PropagationState) (top : ℕ) (live : List ℕ) → HoldsClauses words refs → live_refs words refs ≡ live →
    WatchedPropagationInvariant words live w.lists implied s top → PropagationInvariant words refs w implied s top
asks_from words refs w implied s top live holds_clauses e h = record {
  holds_clauses = holds_clauses;
  clauses = subst (λ (z : List ℕ). AreLongClauses words z (length s.values)) (sym e) h.long.clauses;
  room = h.long.watches.room;
  watches = λ on. subst (λ (z : List ℕ). AreWatched words z w.lists (length s.values)) (sym e) h.long.watches;
  agrees = h.long.agrees;
  queue = h.long.queue;
  firsts = subst (λ (z : List ℕ). TrailReasonsHaveLitFirst words z s) (sym e) h.firsts;
  settled = subst (λ (z : List ℕ). LongClausesArePropagated words z s (λ l. level s l < top)) (sym e) h.long.settled;
  ranges = h.ranges;
  binary = h.binary;
}

-- the result of the loop over the queue is the result of propagation for all parts
pub gives_from : (refs : List ℕ) (implied : List (List ℕ)) (words : List ℕ) (s : PropagationState) (words' : List ℕ) (s' : PropagationState) (w : WatchState) (r : Result (Unit {0}) Conflict) →
    HoldsClauses words refs → WatchedPropagationResult (live_refs words refs) implied words s words' s' w.lists r → PropagationResult refs implied words s words' s' w r
gives_from refs implied words s words' s' w (Ok x) holds_clauses h =
    let k : SameUpToOrder words words' refs = h.moves.reorders.all refs (λ o g. live_in words refs o g) holds_clauses in
    let e : live_refs words' refs ≡ live_refs words refs = live_same words words' refs k.headers in
    record {
      moves = h.moves;
      live = e;
      outcome = (
        asks_from words' refs w implied s' (current_level s' + 1) (live_refs words refs) k.holds_clauses e h.outcome.0,
        h.outcome.1,
        subst (λ (z : List ℕ). IsUnitFixpoint words' z implied s'.values) (sym e) h.outcome.2,
      );
    }
gives_from refs implied words s words' s' w (Err x) holds_clauses h =
    let k : SameUpToOrder words words' refs = h.moves.reorders.all refs (λ o g. live_in words refs o g) holds_clauses in
    let e : live_refs words' refs ≡ live_refs words refs = live_same words words' refs k.headers in
    record {
      moves = h.moves;
      live = e;
      outcome = (
        asks_from words' refs w implied s' (current_level s') (live_refs words refs) k.holds_clauses e h.outcome.0,
        subst (λ (z : List ℕ). IsConflict words' z implied s'.values x) (sym e) h.outcome.1,
      );
    }

-- the watch lists are right once they are enabled
pub watched_now : (words refs : List ℕ) (w w' : WatchState) (implied : List (List ℕ)) (s : PropagationState) (top : ℕ) → PropagationInvariant words refs w implied s top →
    (w.enabled ≡ true → w' ≡ w) → (w.enabled ≡ false → AreWatched words (live_refs words refs) w'.lists (length w.lists / 2)) →
    AreWatched words (live_refs words refs) w'.lists (length s.values)
watched_now words refs w w' implied s top h same built =
    let n : length w.lists / 2 ≡ length s.values = omega (arith, h.room) in
    elim (cases_Bool w.enabled) [
      | inl on ↦ subst (λ (x : WatchState). AreWatched words (live_refs words refs) x.lists (length s.values)) (sym (same on)) (h.watches on)
      | inr off ↦ subst (λ (z : ℕ). AreWatched words (live_refs words refs) w'.lists z) n (built off)
    ]
