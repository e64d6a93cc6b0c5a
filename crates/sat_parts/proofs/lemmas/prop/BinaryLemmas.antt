-- One iteration of the loop over the literals that a literal implies.
use Rattle.std.proofs.Common.{ℕ, ◌≡◌, ◌+◌, ◌<◌, ◌≤◌, ◌⊎◌, inl, inr, List, [], ◌∷◌, length, get_or, refl, sym, ap, ◌∙◌, subst, arith, Bool, true, false, not, Option, Some, None}
use Rattle.std.proofs.lemmas.Bool.{cases_eq}
use Rattle.std.proofs.lemmas.List.Elements.{Contains-get_or}
use Rattle.std.specs.List.{Contains}
use Rattle.sat_base.specs.values.Literals.{negated, variable, is_positive}
use Rattle.sat_parts.specs.declared.prop.graph.Reason.{Reason}
use Rattle.sat_parts.specs.declared.prop.graph.Reason.TheVariants.{Binary}
use Rattle.sat_parts.specs.prop.Values.{IsTrueLit, IsFalseLit, IsUnassignedLit, value_of}
use Rattle.sat_parts.specs.prop.Binaries.{implied_by}
use Rattle.sat_parts.specs.prop.State.{PropagationState, level, current_level, lit_at, IsRemovedUnit, IsOnTrailBefore, HasLeftQueue, StateIsConsistent, IsQueueCurrent, enqueued, TrailGrows}
use Rattle.sat_parts.specs.prop.Reasons.{ReasonImplies}
use Rattle.sat_parts.specs.prop.Ready.{AreImpliedLists}
use Rattle.sat_parts.specs.prop.Walk.{BinaryWalkInvariant}
use Rattle.sat_parts.proofs.lemmas.prop.StateLemmas.{negated_twice, false_from_true, level_low, left_true, left_forth, level_kept, agrees_enqueued, grows_enqueued, queue_enqueued, true_new, before_forth, removed_forth, lit_last}
use Rattle.sat_parts.proofs.lemmas.prop.RoomLemmas.{room_for}
use Rattle.sat_parts.proofs.lemmas.prop.ReasonLemmas.{moves_refl, moves_enqueued, moves_trans}

pub binary_open : (implied : List (List ℕ)) (lit : ℕ) (s : PropagationState) → StateIsConsistent s → IsQueueCurrent s → HasLeftQueue s lit → level s lit ≡ current_level s → BinaryWalkInvariant implied lit s s 0
binary_open implied lit s a q left top = record {
  agrees = a;
  queue = q;
  left = left;
  top = top;
  moves = λ words live. moves_refl live implied words s;
  head = refl;
  done = λ k h b. absurd (omega arith);
}

-- the literal at index `at` is already true
pub binary_true : (implied : List (List ℕ)) (lit : ℕ) (s t : PropagationState) (at : ℕ) → BinaryWalkInvariant implied lit s t at →
    IsTrueLit t.values (get_or (implied_by implied lit) at 0) → BinaryWalkInvariant implied lit s t (at + 1)
binary_true implied lit s t at h holds = record {
  agrees = h.agrees;
  queue = h.queue;
  left = h.left;
  top = h.top;
  moves = h.moves;
  head = h.head;
  done = λ k lt b. elim (cases_eq k at) [
    | inl e ↦
        let x : IsTrueLit t.values (get_or (implied_by implied lit) k 0) = subst (λ (i : ℕ). IsTrueLit t.values (get_or (implied_by implied lit) i 0)) (sym e) holds in
        (x, omega (arith, level_low t (get_or (implied_by implied lit) k 0) h.agrees x, h.top))
    | inr n ↦ h.done k (omega arith) b
  ];
}

-- a literal that has left the queue is on the trail, or was taken off it
so_far : (s : PropagationState) (l : ℕ) → HasLeftQueue s l → IsOnTrailBefore s (length s.trail.lits) l ⊎ IsRemovedUnit s l
so_far s l h = elim h [
  | inl b ↦ inl (record { place = b.place; before = b.within; within = b.within; there = b.there })
  | inr r ↦ inr r
]

-- the literal at index `at` is unassigned, and becomes true
pub binary_enqueued : (implied : List (List ℕ)) (lit : ℕ) (s t : PropagationState) (at x f : ℕ) → BinaryWalkInvariant implied lit s t at →
    at < length (implied_by implied lit) → x ≡ get_or (implied_by implied lit) at 0 → f ≡ negated lit → IsUnassignedLit t.values x → variable x < length t.values →
    BinaryWalkInvariant implied lit s (enqueued x (Binary (f ∷ [])) t) (at + 1)
binary_enqueued implied lit s t at x f h lt x_is f_is open_x small =
    let r : Reason = Binary (f ∷ []) in
    let room : length t.trail.lits < t.trail.room = room_for t x (Binary (f ∷ [])) h.agrees open_x small in
    let u : PropagationState = enqueued x (Binary (f ∷ [])) t in
    let g : TrailGrows t (enqueued x (Binary (f ∷ [])) t) = grows_enqueued t x (Binary (f ∷ [])) h.agrees open_x small room in
    let a : StateIsConsistent (enqueued x (Binary (f ∷ [])) t) = agrees_enqueued t x (Binary (f ∷ [])) h.agrees open_x small room in
    let twice : negated f ≡ lit = ap (λ z. negated z) f_is ∙ negated_twice lit in
    let cause : (words live : List ℕ) → ReasonImplies words live implied u (length t.trail.lits) r = λ words live. (
      subst (λ (z : ℕ). Contains (implied_by implied z) (lit_at u (length t.trail.lits))) (sym twice)
          (subst (λ (z : ℕ). Contains (implied_by implied lit) z) (sym (lit_last t x r ∙ x_is)) (Contains-get_or (implied_by implied lit) at 0 lt)),
      subst (λ (z : ℕ). IsOnTrailBefore u (length t.trail.lits) z ⊎ IsRemovedUnit u z) (sym twice)
          (elim (so_far t lit h.left) [
            | inl b ↦ inl (before_forth t u (length t.trail.lits) lit g b)
            | inr y ↦ inr (removed_forth t u lit g y)
          ]),
    ) in
    let lt_kept : level u lit ≡ level t lit = level_kept t u lit g (left_true t lit h.agrees h.left) in
    record {
      agrees = a;
      queue = queue_enqueued t x r h.agrees h.queue open_x small;
      left = left_forth t u lit g refl h.left;
      top = lt_kept ∙ h.top;
      moves = λ words live. moves_trans live implied words s words t words u (h.moves words live)
          (moves_enqueued live implied words t x r h.agrees open_x small room refl (cause words live));
      head = h.head;
      done = λ k b c. elim (cases_eq k at) [
        | inl e ↦
            let y : get_or (implied_by implied lit) k 0 ≡ x = ap (λ i. get_or (implied_by implied lit) i 0) e ∙ sym x_is in
            let z : IsTrueLit u.values (get_or (implied_by implied lit) k 0) = subst (λ (m : ℕ). IsTrueLit u.values m) (sym y) (true_new t x r small) in
            (z, omega (arith, level_low u (get_or (implied_by implied lit) k 0) a z, lt_kept ∙ h.top))
        | inr n ↦
            let d : IsTrueLit t.values (get_or (implied_by implied lit) k 0) × (level t (get_or (implied_by implied lit) k 0) ≤ level t lit) = h.done k (omega arith) c in
            (g.kept (get_or (implied_by implied lit) k 0) d.0, omega (arith, d.1, level_kept t u (get_or (implied_by implied lit) k 0) g d.0, lt_kept))
      ];
    }

-- the loop stops at a false literal
pub binary_stopped : (implied : List (List ℕ)) (lit : ℕ) (s t : PropagationState) (at : ℕ) → BinaryWalkInvariant implied lit s t at → BinaryWalkInvariant implied lit s t 0
binary_stopped implied lit s t at h = record {
  agrees = h.agrees;
  queue = h.queue;
  left = h.left;
  top = h.top;
  moves = h.moves;
  head = h.head;
  done = λ k b c. absurd (omega arith);
}

-- both literals of the clause are false
pub binary_conflict : (implied : List (List ℕ)) (lit : ℕ) (s t : PropagationState) (at x f : ℕ) → BinaryWalkInvariant implied lit s t at →
    at < length (implied_by implied lit) → x ≡ get_or (implied_by implied lit) at 0 → f ≡ negated lit → IsFalseLit t.values x →
    Contains (implied_by implied (negated f)) x × IsFalseLit t.values x × IsFalseLit t.values f
binary_conflict implied lit s t at x f h lt x_is f_is false_x =
    let twice : negated f ≡ lit = ap (λ z. negated z) f_is ∙ negated_twice lit in (
      subst (λ (z : ℕ). Contains (implied_by implied z) x) (sym twice)
          (subst (λ (z : ℕ). Contains (implied_by implied lit) z) (sym x_is) (Contains-get_or (implied_by implied lit) at 0 lt)),
      false_x,
      subst (λ (z : ℕ). IsFalseLit t.values z) (sym f_is) (false_from_true t.values lit (left_true t lit h.agrees h.left)),
    )

open_cases : (o : Option Bool) (p : Bool) → (o ≡ Some p → ⊥) → (o ≡ Some (not p) → ⊥) → o ≡ None
open_cases None p t f = refl
open_cases (Some true) true t f = absurd (t refl)
open_cases (Some true) false t f = absurd (f refl)
open_cases (Some false) true t f = absurd (f refl)
open_cases (Some false) false t f = absurd (t refl)

-- a literal that is neither true nor false is unassigned
pub open_from_not : (values : List (Option Bool)) (l : ℕ) → (IsTrueLit values l → ⊥) → (IsFalseLit values l → ⊥) → IsUnassignedLit values l
open_from_not values l t f = open_cases (value_of values (variable l)) (is_positive l) t f

-- implied literals are in range
pub implied_below : (implied : List (List ℕ)) (lit at x count : ℕ) → AreImpliedLists implied count → at < length (implied_by implied lit) → x ≡ get_or (implied_by implied lit) at 0 → variable x < count
implied_below implied lit at x count h lt x_is = omega (arith, h.below lit at lt)
