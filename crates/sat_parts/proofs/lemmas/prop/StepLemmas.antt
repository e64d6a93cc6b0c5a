-- Enqueueing a literal and beginning a level preserve the invariant of propagation.
use Rattle.std.proofs.Common.{ℕ, ◌≡◌, ◌+◌, ◌*◌, ◌^◌, ◌<◌, ◌≤◌, inl, inr, List, [], ◌∷◌, ◌++◌, length, get_or, refl, sym, ap, ◌∙◌, subst, arith}
use Rattle.std.proofs.lemmas.Bool.{cases_eq}
use Rattle.std.proofs.lemmas.List.{length_push, get_or_append_left, get_or_push}
use Rattle.std.specs.List.{Contains}
use Rattle.sat_base.specs.values.Literals.{negated, variable}
use Rattle.sat_store.specs.clause.Buffer.{lits_at}
use Rattle.sat_parts.specs.declared.prop.graph.ImplNode.{ImplNode}
use Rattle.sat_parts.specs.declared.prop.graph.Reason.{Reason}
use Rattle.sat_parts.specs.declared.prop.graph.Reason.TheVariants.{Unit as NoCause, Binary, Long}
use Rattle.sat_parts.specs.clause.Db.{live_refs}
use Rattle.sat_parts.specs.clause.Stored.{AreLongClauses, lit_of}
use Rattle.sat_parts.specs.prop.Values.{IsTrueLit, IsUnassignedLit}
use Rattle.sat_parts.specs.prop.Trails.{IsAtLevel, with_level}
use Rattle.sat_parts.specs.prop.Binaries.{implied_by}
use Rattle.sat_parts.specs.prop.WatchLists.{WatchState}
use Rattle.sat_parts.specs.prop.State.{PropagationState, node, level, lit_at, IsRemovedUnit, HasLeftQueue, StateIsConsistent, IsSatisfied, TrailGrows, enqueued}
use Rattle.sat_parts.specs.prop.Reasons.{TrailReasonsHaveLitFirst}
use Rattle.sat_parts.specs.prop.Ready.{AreWatched, AreImpliedLists}
use Rattle.sat_parts.specs.prop.Propagation.{PropagationInvariant, EnqueuePrecondition, IsLongReason, IsBinaryReason, PropagationPrecondition}
use Rattle.sat_parts.proofs.lemmas.prop.StateLemmas.{left_true, left_back, level_kept, level_low, satisfied_forth, agrees_enqueued, grows_enqueued, queue_enqueued, lit_front, lit_last, node_kept, node_new, true_new}
use Rattle.sat_parts.proofs.lemmas.prop.RoomLemmas.{room_for}

firsts_enqueued : (words live : List ℕ) (s : PropagationState) (l : ℕ) (r : Reason) → StateIsConsistent s → IsUnassignedLit s.values l → variable l < length s.values → TrailReasonsHaveLitFirst words live s →
    ((o : ℕ) → r ≡ Long o → Contains live o × (lit_of words o 0 ≡ l)) → TrailReasonsHaveLitFirst words live (enqueued l r s)
firsts_enqueued words live s l r a n below h cause i o b e =
    let t : PropagationState = enqueued l r s in
    let size : length (s.trail.lits ++ l ∷ []) ≡ length s.trail.lits + 1 = length_push s.trail.lits l in
    elim (cases_eq i (length s.trail.lits)) [
      | inl q ↦
          let last : lit_at t i ≡ l = ap (λ z. lit_at t z) q ∙ lit_last s l r in
          let f : r ≡ Long o = sym (ap (λ z. (node t z).reason) last ∙ ap (λ (z : ImplNode). z.reason) (node_new s l r (omega (arith, a.nodes)))) ∙ e in
          ((cause o f).0, (cause o f).1 ∙ sym last)
      | inr d ↦
          let k : i < length s.trail.lits = omega arith in
          let same : lit_at t i ≡ lit_at s i = lit_front s l r i k in
          let f : (node s (lit_at s i)).reason ≡ Long o = sym (ap (λ z. (node t z).reason) same ∙ ap (λ (z : ImplNode). z.reason) (node_kept s l (lit_at s i) r n (a.holds i k))) ∙ e in
          ((h i o k f).0, (h i o k f).1 ∙ sym same)
    ]

own_long : (r : Reason) (o : ℕ) → IsLongReason r o → r ≡ Long o
own_long NoCause o h = absurd h
own_long (Binary ls) o h = absurd h
own_long (Long p) o h = ap (λ q. Long q) h

own_binary : (r : Reason) (lit l m : ℕ) → IsBinaryReason r lit l m → m ≡ lit
own_binary NoCause lit l m h = absurd h
own_binary (Binary ls) lit l m h = h.0
own_binary (Long o) lit l m h = absurd h

-- the invariant gives the precondition of enqueueing
pub asks_for_reason : (words refs : List ℕ) (w : WatchState) (implied : List (List ℕ)) (s : PropagationState) (top l : ℕ) (r : Reason) → PropagationInvariant words refs w implied s top → EnqueuePrecondition l r words refs w implied s top
asks_for_reason words refs w implied s top l r h = record {
  holds_clauses = h.holds_clauses;
  clauses = h.clauses;
  room = h.room;
  watches = h.watches;
  agrees = h.agrees;
  queue = h.queue;
  firsts = h.firsts;
  settled = λ o i ho hi x d. inl (h.settled o i ho hi x d);
  ranges = h.ranges;
  binary = λ m k x d b. inl (h.binary m k x d b);
}

-- an unassigned literal becomes true
pub asks_enqueued : (words refs : List ℕ) (w : WatchState) (implied : List (List ℕ)) (s : PropagationState) (top l : ℕ) (r : Reason) → IsUnassignedLit s.values l → variable l < length s.values →
    ((o : ℕ) → r ≡ Long o → Contains (live_refs words refs) o × (lit_of words o 0 ≡ l)) → EnqueuePrecondition l r words refs w implied s top → PropagationInvariant words refs w implied (enqueued l r s) top
asks_enqueued words refs w implied s top l r n below cause h =
    let room : length s.trail.lits < s.trail.room = room_for s l r h.agrees n below in
    let t : PropagationState = enqueued l r s in
    let g : TrailGrows s t = grows_enqueued s l r h.agrees n below room in
    let level_new : level t l ≡ length s.trail.starts = ap (λ (z : ImplNode). z.level) (node_new s l r (omega (arith, h.agrees.nodes))) in
    record {
      holds_clauses = h.holds_clauses;
      clauses = subst (λ (n : ℕ). AreLongClauses words (live_refs words refs) n) (sym g.size) h.clauses;
      room = h.room ∙ ap (λ n. 2 * n) (sym g.size);
      watches = λ on. subst (λ (n : ℕ). AreWatched words (live_refs words refs) w.lists n) (sym g.size) (h.watches on);
      agrees = agrees_enqueued s l r h.agrees n below room;
      queue = queue_enqueued s l r h.agrees h.queue n below;
      firsts = firsts_enqueued words (live_refs words refs) s l r h.agrees n below h.firsts cause;
      settled = λ o i ho hi x d.
          let y : HasLeftQueue s (negated (lit_of words o i)) = left_back s t (negated (lit_of words o i)) g refl h.agrees.trail x in
          let same : level t (negated (lit_of words o i)) ≡ level s (negated (lit_of words o i)) = level_kept s t (negated (lit_of words o i)) g (left_true s (negated (lit_of words o i)) h.agrees y) in
          elim (h.settled o i ho hi y (omega arith)) [
            | inl z ↦ satisfied_forth s t (lits_at words o) (level t (negated (lit_of words o i))) g (subst (λ (n : ℕ). IsSatisfied s (lits_at words o) n) (sym same) z)
            | inr z ↦
                let first : lit_of words o 0 ≡ l = (cause o (own_long r o z.0)).1 in
                record {
                  place = 0;
                  within = omega (arith, h.clauses.long o ho);
                  holds = subst (λ (m : ℕ). IsTrueLit t.values m) (sym first) (true_new s l r below);
                  low = omega (arith, ap (λ m. level t m) first, level_new, z.1, same);
                }
          ];
      ranges = subst (λ (n : ℕ). AreImpliedLists implied n) (sym g.size) h.ranges;
      binary = λ m k x d b.
          let y : HasLeftQueue s m = left_back s t m g refl h.agrees.trail x in
          let same : level t m ≡ level s m = level_kept s t m g (left_true s m h.agrees y) in
          elim (h.binary m k y (omega arith) b) [
            | inl z ↦ (g.kept (get_or (implied_by implied m) k 0) z.0, omega (arith, z.1, same, level_kept s t (get_or (implied_by implied m) k 0) g z.0))
            | inr z ↦
                let there : get_or (implied_by implied m) k 0 ≡ l = own_binary r l m (get_or (implied_by implied m) k 0) z.0 in (
                  subst (λ (q : ℕ). IsTrueLit t.values q) (sym there) (true_new s l r below),
                  omega (arith, ap (λ q. level t q) there, level_new, z.1, same),
                )
          ];
    }

-- an unassigned literal of a variable in range can be enqueued: the trail has room for it
pub agrees_by : (s : PropagationState) (l : ℕ) (r : Reason) → IsUnassignedLit s.values l → variable l < length s.values → StateIsConsistent s → StateIsConsistent (enqueued l r s)
agrees_by s l r n below a = agrees_enqueued s l r a n below (room_for s l r a n below)

-- the state with one more level
abbrev pub raised : PropagationState → PropagationState
raised s = record s { trail = with_level s.trail }

grows_raised : (s : PropagationState) (l : ℕ) → IsRemovedUnit (raised s) l → IsRemovedUnit s l
grows_raised s l r = record { holds = r.holds; depth = r.depth; bottom = r.bottom }

-- one more level preserves `StateIsConsistent`
pub agrees_raised : (s : PropagationState) → StateIsConsistent s → length s.trail.starts + 1 < 2 ^ 32 → StateIsConsistent (raised s)
agrees_raised s h few =
    let size : length (s.trail.starts ++ length s.trail.lits ∷ []) ≡ length s.trail.starts + 1 = length_push s.trail.starts (length s.trail.lits) in
    let at_end : get_or (s.trail.starts ++ length s.trail.lits ∷ []) (length s.trail.starts) 0 ≡ length s.trail.lits = get_or_push s.trail.starts (length s.trail.lits) 0 (length s.trail.starts) refl in
    let old : (k : ℕ) → k < length s.trail.starts → get_or (s.trail.starts ++ length s.trail.lits ∷ []) k 0 ≡ get_or s.trail.starts k 0 =
    λ k b. get_or_append_left s.trail.starts (length s.trail.lits ∷ []) 0 k b in
    let value : (k : ℕ) → k < length s.trail.starts + 1 → get_or (s.trail.starts ++ length s.trail.lits ∷ []) k 0 ≤ length s.trail.lits = λ k b.
    elim (cases_eq k (length s.trail.starts)) [
      | inl q ↦ subst (λ z. get_or (s.trail.starts ++ length s.trail.lits ∷ []) z 0 ≤ length s.trail.lits) (sym q) (omega arith)
      | inr n ↦ omega (arith, old k (omega arith), h.trail.levels.within k (omega arith))
    ] in
    record {
      trail = record {
        queue = h.trail.queue;
        levels = record {
          within = λ k b. value k (omega arith);
          rising = λ j k le b. elim (cases_eq k (length s.trail.starts)) [
            | inl q ↦ omega (arith, value j (omega arith), ap (λ z. get_or (s.trail.starts ++ length s.trail.lits ∷ []) z 0) q)
            | inr n ↦ omega (arith, old j (omega arith), old k (omega arith), h.trail.levels.rising j k le (omega arith))
          ];
        };
        fits = h.trail.fits;
        small = h.trail.small;
        counted = omega arith;
      };
      nodes = h.nodes;
      room = h.room;
      holds = h.holds;
      depths = h.depths;
      levels = λ i b.
          let l : IsAtLevel s.trail.starts i (level s (lit_at s i)) = h.levels i b in
          record {
            within = omega (arith, l.within);
            begun = λ k c. omega (arith, old k (omega (arith, l.within)), l.begun k c);
            not_begun = λ k c d. elim (cases_eq k (length s.trail.starts)) [
              | inl q ↦ subst (λ z. i < get_or (s.trail.starts ++ length s.trail.lits ∷ []) z 0) (sym q) (omega arith)
              | inr n ↦ omega (arith, old k (omega arith), l.not_begun k c (omega arith))
            ];
          };
      known = λ l t. elim (h.known l t) [
        | inl x ↦ inl (record { place = x.place; before = x.before; within = x.within; there = x.there })
        | inr x ↦ inr (record { holds = x.holds; depth = x.depth; bottom = x.bottom })
      ];
    }

left_raised : (s : PropagationState) (l : ℕ) → HasLeftQueue (raised s) l → HasLeftQueue s l
left_raised s l h = elim h [
  | inl x ↦ inl (record { place = x.place; before = x.before; within = x.within; there = x.there })
  | inr x ↦ inr (grows_raised s l x)
]

-- a level begins while the queue is empty
pub asks_raised : (words refs : List ℕ) (w : WatchState) (implied : List (List ℕ)) (s : PropagationState) → length s.trail.starts + 1 < 2 ^ 32 → s.trail.head ≡ length s.trail.lits →
    PropagationPrecondition words refs w implied s → PropagationPrecondition words refs w implied (raised s)
asks_raised words refs w implied s few empty h = record {
  holds_clauses = h.holds_clauses;
  clauses = h.clauses;
  room = h.room;
  watches = h.watches;
  agrees = agrees_raised s h.agrees few;
  queue = λ i le b. absurd (omega arith);
  firsts = h.firsts;
  settled = λ o i ho hi x d.
      let y : HasLeftQueue s (negated (lit_of words o i)) = left_raised s (negated (lit_of words o i)) x in
      let z : IsSatisfied s (lits_at words o) (level s (negated (lit_of words o i))) =
      h.settled o i ho hi y (omega (arith, level_low s (negated (lit_of words o i)) h.agrees (left_true s (negated (lit_of words o i)) h.agrees y))) in
      record { place = z.place; within = z.within; holds = z.holds; low = z.low };
  ranges = h.ranges;
  binary = λ l k x d b.
      let y : HasLeftQueue s l = left_raised s l x in
      h.binary l k y (omega (arith, level_low s l h.agrees (left_true s l h.agrees y))) b;
}
