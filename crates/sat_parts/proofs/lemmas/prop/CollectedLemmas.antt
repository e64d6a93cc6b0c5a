-- For callers in other crates: a garbage collection preserves the invariant of propagation.
use Rattle.std.proofs.Common.{ℕ, ◌≡◌, ◌*◌, ◌<◌, ◌≤◌, inl, inr, List, [], length, get_or, refl, sym, ap, ◌∙◌, subst, arith, false}
use Rattle.std.proofs.lemmas.Bool.{true≢false}
use Rattle.std.specs.List.{Contains}
use Rattle.sat_base.specs.values.Literals.{negated, variable}
use Rattle.sat_store.specs.clause.Buffer.{lits_at}
use Rattle.sat_store.proofs.lemmas.clause.HeldClauses.{holds_among}
use Rattle.sat_parts.specs.declared.prop.graph.ImplNode.{ImplNode}
use Rattle.sat_parts.specs.declared.prop.graph.Reason.{Reason}
use Rattle.sat_parts.specs.declared.prop.graph.Reason.TheVariants.{Unit as NoCause, Binary, Long}
use Rattle.sat_parts.specs.clause.Orders.{AreDistinct}
use Rattle.sat_parts.specs.clause.Db.{Db, live_refs}
use Rattle.sat_parts.specs.clause.Collected.{ReasonNamesCopy, CollectsGarbage}
use Rattle.sat_parts.specs.clause.Stored.{lit_of}
use Rattle.sat_parts.specs.prop.Trails.{IsAtLevel}
use Rattle.sat_parts.specs.prop.WatchLists.{WatchState}
use Rattle.sat_parts.specs.prop.State.{PropagationState, node, level, lit_at, IsRemovedUnit, HasLeftQueue, StateIsConsistent, IsSatisfied}
use Rattle.sat_parts.specs.prop.Propagation.{PropagationInvariant}
use Rattle.sat_parts.proofs.lemmas.prop.BuildLemmas.{live_in}
use Rattle.sat_parts.proofs.lemmas.clause.ListLemmas.{at_place, place_in}
use Rattle.sat_parts.proofs.lemmas.clause.GcLemmas.{long_same}

-- the state with other nodes
abbrev pub with_graph : PropagationState → List ImplNode → PropagationState
with_graph s nodes = record s { nodes = nodes }

removed_back : (words : List ℕ) (db : Db) (s : PropagationState) (words' : List ℕ) (db' : Db) (nodes' : List ImplNode) (l : ℕ) → CollectsGarbage words db s.nodes s.trail.lits words' db' nodes' →
    IsRemovedUnit (with_graph s nodes') l → IsRemovedUnit s l
removed_back words db s words' db' nodes' l x r = record { holds = r.holds; depth = sym (x.depths (variable l)) ∙ r.depth; bottom = sym (x.levels (variable l)) ∙ r.bottom }

removed_on : (words : List ℕ) (db : Db) (s : PropagationState) (words' : List ℕ) (db' : Db) (nodes' : List ImplNode) (l : ℕ) → CollectsGarbage words db s.nodes s.trail.lits words' db' nodes' →
    IsRemovedUnit s l → IsRemovedUnit (with_graph s nodes') l
removed_on words db s words' db' nodes' l x r = record { holds = r.holds; depth = x.depths (variable l) ∙ r.depth; bottom = x.levels (variable l) ∙ r.bottom }

left_back : (words : List ℕ) (db : Db) (s : PropagationState) (words' : List ℕ) (db' : Db) (nodes' : List ImplNode) (l : ℕ) → CollectsGarbage words db s.nodes s.trail.lits words' db' nodes' →
    HasLeftQueue (with_graph s nodes') l → HasLeftQueue s l
left_back words db s words' db' nodes' l x h = elim h [
  | inl b ↦ inl (record { place = b.place; before = b.before; within = b.within; there = b.there })
  | inr r ↦ inr (removed_back words db s words' db' nodes' l x r)
]

agrees_collected : (words : List ℕ) (db : Db) (s : PropagationState) (words' : List ℕ) (db' : Db) (nodes' : List ImplNode) → CollectsGarbage words db s.nodes s.trail.lits words' db' nodes' → StateIsConsistent s →
    StateIsConsistent (with_graph s nodes')
agrees_collected words db s words' db' nodes' x h = record {
  trail = h.trail;
  nodes = x.size ∙ h.nodes;
  room = h.room;
  holds = h.holds;
  depths = λ i lt. x.depths (variable (lit_at s i)) ∙ h.depths i lt;
  levels = λ i lt. subst (λ n. IsAtLevel s.trail.starts i n) (sym (x.levels (variable (lit_at s i)))) (h.levels i lt);
  known = λ l t. elim (h.known l t) [
    | inl b ↦ inl (record { place = b.place; before = b.before; within = b.within; there = b.there })
    | inr r ↦ inr (removed_on words db s words' db' nodes' l x r)
  ];
}

-- the copy of a reason's clause has the same literal first
followed_first : (words live words' refs' : List ℕ) (lit o : ℕ) (r r' : Reason) → length refs' ≡ length live → ((k : ℕ) → k < length live → lits_at words' (get_or refs' k 0) ≡ lits_at words (get_or live k 0)) →
    ((p : ℕ) → r ≡ Long p → lit_of words p 0 ≡ lit) → ReasonNamesCopy live refs' r r' → r' ≡ Long o → Contains refs' o × (lit_of words' o 0 ≡ lit)
followed_first words live words' refs' lit o NoCause r' n same first h e = absurd (let z : NoCause ≡ Long o = sym h ∙ e in cc)
followed_first words live words' refs' lit o (Binary ls) r' n same first h e = absurd (let z : Binary ls ≡ Long o = sym h ∙ e in cc)
followed_first words live words' refs' lit o (Long p) r' n same first h e =
    let q : get_or refs' h.0 0 ≡ o = long_same (get_or refs' h.0 0) o (sym h.1.2 ∙ e) in (
      subst (λ z. Contains refs' z) q (place_in refs' h.0 (omega (arith, h.1.0))),
      ap (λ z. lit_of words' z 0) (sym q) ∙ ap (λ (ls : List ℕ). get_or ls 0 0) (same h.0 h.1.0) ∙ ap (λ z. lit_of words z 0) h.1.1 ∙ first p refl,
    )

-- a garbage collection preserves the invariant of propagation
pub asks_collected : (words : List ℕ) (db : Db) (s : PropagationState) (words' : List ℕ) (db' : Db) (nodes' : List ImplNode) (w w' : WatchState) (implied : List (List ℕ)) (top : ℕ) →
    CollectsGarbage words db s.nodes s.trail.lits words' db' nodes' → w'.enabled ≡ false → length w'.lists ≡ length w.lists → PropagationInvariant words db.refs w implied s top →
    PropagationInvariant words' db'.refs w' implied (with_graph s nodes') top
asks_collected words db s words' db' nodes' w w' implied top x off size h =
    let live : List ℕ = live_refs words db.refs in
    let t : PropagationState = with_graph s nodes' in
    let from : (P : List ℕ → Type 0) → ((p : ℕ) → Contains (live_refs words db.refs) p → P (lits_at words p)) → (p : ℕ) → Contains (live_refs words' db'.refs) p → P (lits_at words' p) = λ P old p c.
    let d : Contains db'.refs p = subst (λ (xs : List ℕ). Contains xs p) x.live c in
    let lt : d.0 < length (live_refs words db.refs) = omega (arith, d.1, x.copies.size) in
    let same : lits_at words' p ≡ lits_at words (get_or (live_refs words db.refs) d.0 0) = ap (λ z. lits_at words' z) (sym (at_place db'.refs p d)) ∙ x.copies.lits d.0 lt in
    subst (λ (ls : List ℕ). P ls) (sym same) (old (get_or (live_refs words db.refs) d.0 0) (place_in (live_refs words db.refs) d.0 lt)) in
    record {
      holds_clauses = x.holds.holds_clauses;
      clauses = record {
        holds_clauses = holds_among words' db'.refs (live_refs words' db'.refs) (λ p c. live_in words' db'.refs p c) x.holds.holds_clauses;
        long = from (λ ls. 3 ≤ length ls) (λ p c. h.clauses.long p c);
        below = λ p k c. from (λ ls. k < length ls → get_or ls k 0 < 2 * length s.values) (λ q d. h.clauses.below q k d) p c;
        distinct = from (λ ls. AreDistinct ls) (λ p c. h.clauses.distinct p c);
      };
      room = size ∙ h.room;
      watches = λ on. absurd (true≢false (sym on ∙ off));
      agrees = agrees_collected words db s words' db' nodes' x h.agrees;
      queue = λ i le lt. x.levels (variable (lit_at s i)) ∙ h.queue i le lt;
      firsts = λ i o lt e.
          let f : Contains db'.refs o × (lit_of words' o 0 ≡ lit_at s i) =
          followed_first words (live_refs words db.refs) words' db'.refs (lit_at s i) o (node s (lit_at s i)).reason (node t (lit_at s i)).reason x.copies.size x.copies.lits (λ p q. (h.firsts i p lt q).1) (x.reasons i lt) e in
          (subst (λ (xs : List ℕ). Contains xs o) (sym x.live) f.0, f.1);
      settled = λ p i c b.
          from (λ ls. HasLeftQueue t (negated (get_or ls i 0)) → level t (negated (get_or ls i 0)) < top → IsSatisfied t ls (level t (negated (get_or ls i 0))))
          (λ q d f g.
          let n : level t (negated (lit_of words q i)) ≡ level s (negated (lit_of words q i)) = x.levels (variable (negated (lit_of words q i))) in
          let y : IsSatisfied s (lits_at words q) (level s (negated (lit_of words q i))) = h.settled q i d b (left_back words db s words' db' nodes' (negated (lit_of words q i)) x f) (omega arith) in
          record { place = y.place; within = y.within; holds = y.holds; low = omega (arith, y.low, n, x.levels (variable (get_or (lits_at words q) y.place 0))) })
          p c;
      ranges = h.ranges;
      binary = λ l k f g b.
          let n : level t l ≡ level s l = x.levels (variable l) in
          let y = h.binary l k (left_back words db s words' db' nodes' l x f) (omega arith) b in
          (y.0, omega (arith, y.1, n, x.levels (variable (get_or (get_or implied l []) k 0))));
    }
