-- A unit whose variable is used again.
use Rattle.std.proofs.Common.{ℕ, ◌≡◌, ◌≢◌, ◌+◌, ◌*◌, ◌<◌, ◌⊎◌, inl, inr, List, [], length, get_or, set, length-set, get_or-set_same, get_or-set_other, refl, sym, ap, ◌∙◌, subst, arith, false, Some}
use Rattle.std.proofs.lemmas.Bool.{true≢false}
use Rattle.sat_base.specs.values.Literals.{variable, negated, is_positive}
use Rattle.sat_store.specs.clause.Buffer.{lits_at}
use Rattle.sat_store.specs.heap.Vsids.{Queue, is_available}
use Rattle.sat_parts.specs.declared.prop.graph.ImplNode.{ImplNode}
use Rattle.sat_parts.specs.declared.prop.graph.Reason.{Reason}
use Rattle.sat_parts.specs.declared.prop.graph.Reason.TheVariants.{Unit as NoCause}
use Rattle.sat_parts.specs.clause.Db.{Db, live_refs}
use Rattle.sat_parts.specs.clause.Stored.{AreLongClauses, lit_of}
use Rattle.sat_parts.specs.prop.Binaries.{Binaries, implied_by}
use Rattle.sat_parts.specs.prop.Graphs.{removed_node, with_node, new_node}
use Rattle.sat_parts.specs.prop.Values.{Values, with_true_lit, IsTrueLit, IsUnassignedLit}
use Rattle.sat_parts.specs.prop.Trails.{TrailState, IsAtLevel}
use Rattle.sat_parts.specs.prop.WatchLists.{WatchState}
use Rattle.sat_parts.specs.prop.State.{PropagationState, node, level, lit_at, HasLeftQueue, IsRemovedUnit, StateIsConsistent, IsSatisfied}
use Rattle.sat_parts.specs.prop.Ready.{state_of, AreWatched, AreImpliedLists}
use Rattle.sat_parts.specs.prop.Reasons.{ReasonImplies}
use Rattle.sat_parts.proofs.lemmas.prop.StateLemmas.{left_true, negated_variable, open_other, true_kept, true_back, true_new}
use Rattle.sat_parts.proofs.lemmas.prop.WordLemmas.{levels_stay}
use Rattle.sat_parts.specs.parts.Round.{IsInNoClause, PartsInvariantBelow, RoundInvariant}
use Rattle.sat_parts.proofs.lemmas.parts.TurnLemmas.{implies_by}
use Rattle.sat_parts.proofs.lemmas.parts.DecideLemmas.{still_open}

-- the state in which an unassigned literal became true as a unit taken off the trail
abbrev pub restored : ℕ → PropagationState → PropagationState
restored l s = record s { values = set s.values (variable l) (Some (is_positive l)); nodes = with_node (variable l) removed_node s.nodes }

other_node : (s : PropagationState) (l m : ℕ) → variable m ≢ variable l → node (restored l s) m ≡ node s m
other_node s l m n = get_or-set_other s.nodes (variable l) (variable m) removed_node new_node n

-- literals that were true keep their nodes
old_node : (s : PropagationState) (l m : ℕ) → IsUnassignedLit s.values l → IsTrueLit s.values m → node (restored l s) m ≡ node s m
old_node s l m free h = other_node s l m (open_other s.values l m free h)

same_level : (s : PropagationState) (l m : ℕ) → IsUnassignedLit s.values l → IsTrueLit s.values m → level (restored l s) m ≡ level s m
same_level s l m free h = ap (λ (z : ImplNode). z.level) (old_node s l m free h)

pub is_restored : (s : PropagationState) (l : ℕ) → variable l < length s.values → length s.nodes ≡ length s.values → IsRemovedUnit (restored l s) l
is_restored s l below size =
    let itself : node (restored l s) l ≡ removed_node = get_or-set_same s.nodes (variable l) removed_node new_node (omega arith) in
    record { holds = true_new s l NoCause below; depth = ap (λ (z : ImplNode). z.depth) itself; bottom = ap (λ (z : ImplNode). z.level) itself }

removed_kept : (s : PropagationState) (l m : ℕ) → IsUnassignedLit s.values l → IsRemovedUnit s m → IsRemovedUnit (restored l s) m
removed_kept s l m free x = record {
  holds = true_kept s l m NoCause free x.holds;
  depth = ap (λ (z : ImplNode). z.depth) (old_node s l m free x.holds) ∙ x.depth;
  bottom = same_level s l m free x.holds ∙ x.bottom;
}

removed_back : (s : PropagationState) (l m : ℕ) → variable l < length s.values → IsRemovedUnit (restored l s) m → (m ≡ l) ⊎ IsRemovedUnit s m
removed_back s l m below x = elim (true_back s l m NoCause below x.holds) [
  | inl e ↦ inl e
  | inr y ↦ inr (record { holds = y.1; depth = sym (ap (λ (z : ImplNode). z.depth) (other_node s l m y.0)) ∙ x.depth; bottom = sym (ap (λ (z : ImplNode). z.level) (other_node s l m y.0)) ∙ x.bottom })
]

left_back : (s : PropagationState) (l m : ℕ) → variable l < length s.values → HasLeftQueue (restored l s) m → (m ≡ l) ⊎ HasLeftQueue s m
left_back s l m below h = elim h [
  | inl x ↦ inr (inl (record { place = x.place; before = x.before; within = x.within; there = x.there }))
  | inr x ↦ elim (removed_back s l m below x) [ inl e ↦ inl e | inr y ↦ inr (inr y) ]
]

agrees_restored : (s : PropagationState) (l : ℕ) → StateIsConsistent s → IsUnassignedLit s.values l → variable l < length s.values → StateIsConsistent (restored l s)
agrees_restored s l h free below =
    let size : length (set s.values (variable l) (Some (is_positive l))) ≡ length s.values = length-set s.values (variable l) (Some (is_positive l)) in
    let nodes : length (with_node (variable l) removed_node s.nodes) ≡ length s.nodes = length-set s.nodes (variable l) removed_node in
    record {
      trail = h.trail;
      nodes = nodes ∙ h.nodes ∙ sym size;
      room = omega (arith, h.room);
      holds = λ i lt. true_kept s l (lit_at s i) NoCause free (h.holds i lt);
      depths = λ i lt. ap (λ (z : ImplNode). z.depth) (old_node s l (lit_at s i) free (h.holds i lt)) ∙ h.depths i lt;
      levels = λ i lt. subst (λ (z : ImplNode). IsAtLevel s.trail.starts i z.level) (sym (old_node s l (lit_at s i) free (h.holds i lt))) (h.levels i lt);
      known = λ m x. elim (true_back s l m NoCause below x) [
        | inl e ↦ inr (subst (λ z. IsRemovedUnit (restored l s) z) (sym e) (is_restored s l below h.nodes))
        | inr y ↦ elim (h.known m y.1) [
          | inl z ↦ inl (record { place = z.place; before = z.before; within = z.within; there = z.there })
          | inr z ↦ inr (removed_kept s l m free z)
        ]
      ];
    }

-- the unit of a freed variable is true again
pub sound_restored : (words : List ℕ) (db : Db) (w : WatchState) (b : Binaries) (a : Values) (g : List ImplNode) (t : TrailState) (q : Queue) (l : ℕ) →
    RoundInvariant words db w b a g t q → t.starts ≡ [] → variable l < length a.current → IsUnassignedLit a.current l → is_available q (variable l) ≡ false →
    RoundInvariant words db w b (with_true_lit l a) (with_node (variable l) removed_node g) t q
sound_restored words db w b a g t q l h bottom below free not =
    let s : PropagationState = state_of a g t in
    let s' : PropagationState = restored l (state_of a g t) in
    let y : PartsInvariantBelow words db w b a g t q (length t.starts + 1) = h.below in
    let old : StateIsConsistent (state_of a g t) = y.propagation.agrees in
    let size : length (set a.current (variable l) (Some (is_positive l))) ≡ length a.current = length-set a.current (variable l) (Some (is_positive l)) in
    let unused : IsInNoClause words (live_refs words db.refs) b.implied (variable l) = elim (y.ready (variable l) below free) [ inl p ↦ absurd (true≢false (sym p ∙ not)) | inr u ↦ u ] in
    let kept : (m : ℕ) → IsTrueLit a.current m → IsTrueLit (restored l (state_of a g t)).values m = λ m x. true_kept s l m NoCause free x in
    let lev : (m : ℕ) → IsTrueLit a.current m → level (restored l (state_of a g t)) m ≡ level (state_of a g t) m = λ m x. same_level s l m free x in
    let at : (i : ℕ) → i < length t.lits → node (restored l (state_of a g t)) (lit_at (state_of a g t) i) ≡ node (state_of a g t) (lit_at (state_of a g t) i) = λ i lt. old_node s l (lit_at s i) free (old.holds i lt) in
    record {
      below = record {
        db_matches = y.db_matches;
        propagation = record {
          holds_clauses = y.propagation.holds_clauses;
          clauses = subst (λ (k : ℕ). AreLongClauses words (live_refs words db.refs) k) (sym size) y.propagation.clauses;
          room = y.propagation.room ∙ ap (λ k. 2 * k) (sym size);
          watches = λ on. subst (λ (k : ℕ). AreWatched words (live_refs words db.refs) w.lists k) (sym size) (y.propagation.watches on);
          agrees = agrees_restored s l old free below;
          queue = λ i le lt. ap (λ (z : ImplNode). z.level) (at i lt) ∙ y.propagation.queue i le lt;
          firsts = λ i o lt e. y.propagation.firsts i o lt (sym (ap (λ (z : ImplNode). z.reason) (at i lt)) ∙ e);
          settled = λ o i c hi x d.
              let m : ℕ = negated (lit_of words o i) in
              elim (left_back s l (negated (lit_of words o i)) below x) [
                | inl e ↦ absurd (unused.long o i c (omega (arith, y.propagation.clauses.long o c)) (sym (negated_variable (lit_of words o i)) ∙ ap (λ z. variable z) e))
                | inr was ↦
                    let same : level s' (negated (lit_of words o i)) ≡ level s (negated (lit_of words o i)) = lev m (left_true s m old was) in
                    let z : IsSatisfied s (lits_at words o) (level s (negated (lit_of words o i))) = y.propagation.settled o i c hi was (omega (arith, same, d)) in
                    record { place = z.place; within = z.within; holds = kept (get_or (lits_at words o) z.place 0) z.holds; low = omega (arith, same, lev (get_or (lits_at words o) z.place 0) z.holds, z.low) }
              ];
          ranges = subst (λ (k : ℕ). AreImpliedLists b.implied k) (sym size) y.propagation.ranges;
          binary = λ m k x d lt.
              elim (left_back s l m below x) [
                | inl e ↦ absurd ((unused.binary m k lt).0 (ap (λ z. variable z) e))
                | inr was ↦
                    let same : level s' m ≡ level s m = lev m (left_true s m old was) in
                    let z = y.propagation.binary m k was (omega (arith, same, d)) lt in
                    (kept (get_or (implied_by b.implied m) k 0) z.0, omega (arith, same, lev (get_or (implied_by b.implied m) k 0) z.0, z.1))
              ];
        };
        reasons = λ i le lt.
            subst (λ (r : Reason). ReasonImplies words (live_refs words db.refs) b.implied s' i r) (sym (ap (λ (z : ImplNode). z.reason) (at i lt)))
            (implies_by words words (live_refs words db.refs) (live_refs words db.refs) b.implied b.implied s s' i (node s (lit_at s i)).reason refl
            (λ m x. elim x [
              | inl z ↦ inl (record { place = z.place; before = z.before; within = z.within; there = z.there })
              | inr z ↦ inr (removed_kept s l (negated m) free z)
            ])
            (λ o e c. (c, refl)) (λ ls e c. c) (y.reasons i le lt));
        levelled = levels_stay.none s' bottom;
        queue = y.queue ∙ sym size;
        ready = λ v lt none. (let x = still_open a.current l v (is_positive l) below none in y.ready v (omega arith) x.1);
      };
      units = λ i lt e. ap (λ (z : ImplNode). z.reason) (at i lt) ∙ h.units i lt (sym (ap (λ (z : ImplNode). z.level) (at i lt)) ∙ e);
      base = h.base;
    }
