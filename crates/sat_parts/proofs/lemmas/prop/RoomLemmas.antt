-- Every variable is on the trail at most once, so there is room for an unassigned literal.
use Rattle.std.proofs.Common.{ℕ, ◌≡◌, ◌+◌, ◌<◌, ◌≤◌, inl, inr, List, [], ◌∷◌, ◌++◌, map, length, get_or, sym, ap, ◌∙◌, subst, arith, eqb, Bool, true, false, Option, Some, None}
use Rattle.std.proofs.lemmas.Bool.{cases_eq, cases_lt, ne_eqb, eqb-true}
use Rattle.std.proofs.lemmas.List.{get_or-map, length-map, length_push, get_or_past}
use Rattle.std.proofs.lemmas.Map.Keys.{IsDistinct-from_apart}
use Rattle.std.proofs.lemmas.Map.Steps.{length-le_from_distinct_below}
use Rattle.std.proofs.lemmas.Map.Views.{Contains-from_any}
use Rattle.std.specs.List.{list_any, Contains}
use Rattle.sat_base.specs.values.Literals.{variable, is_positive}
use Rattle.sat_parts.specs.declared.prop.graph.Reason.{Reason}
use Rattle.sat_parts.specs.prop.Values.{IsUnassignedLit, value_of}
use Rattle.sat_parts.specs.prop.Graphs.{node_of}
use Rattle.sat_parts.specs.prop.State.{PropagationState, lit_at, StateIsConsistent, enqueued}
use Rattle.sat_parts.proofs.lemmas.prop.StateLemmas.{open_other, lit_front, lit_last}

-- an assigned variable exists
pub below_from_value : (values : List (Option Bool)) (v : ℕ) (b : Bool) → value_of values v ≡ Some b → v < length values
below_from_value values v b e = elim (cases_lt v (length values)) [
  | inl h ↦ h
  | inr h ↦ (let x : Some b ≡ None = sym e ∙ get_or_past values v None h in cc)
]

-- the variables on the trail, and that of one more literal
abbrev variables : PropagationState → ℕ → List ℕ
variables s l = map (λ m. variable m) (s.trail.lits ++ l ∷ [])

variables_length : (s : PropagationState) (l : ℕ) → length (variables s l) ≡ length s.trail.lits + 1
variables_length s l = length-map (s.trail.lits ++ l ∷ []) (λ m. variable m) ∙ length_push s.trail.lits l

variables_front : (s : PropagationState) (l : ℕ) (r : Reason) (k d : ℕ) → k < length s.trail.lits → get_or (variables s l) k d ≡ variable (lit_at s k)
variables_front s l r k d h =
    let n : length (s.trail.lits ++ l ∷ []) ≡ length s.trail.lits + 1 = length_push s.trail.lits l in
    get_or-map (λ m. variable m) (s.trail.lits ++ l ∷ []) k 0 d (omega arith) ∙ ap (λ m. variable m) (lit_front s l r k h)

variables_last : (s : PropagationState) (l : ℕ) (r : Reason) (k d : ℕ) → k ≡ length s.trail.lits → get_or (variables s l) k d ≡ variable l
variables_last s l r k d e =
    let n : length (s.trail.lits ++ l ∷ []) ≡ length s.trail.lits + 1 = length_push s.trail.lits l in
    get_or-map (λ m. variable m) (s.trail.lits ++ l ∷ []) k 0 d (omega arith) ∙ ap (λ m. variable m) (ap (λ x. lit_at (enqueued l r s) x) e ∙ lit_last s l r)

-- literals at different positions of the trail have different variables
pub places_apart : (s : PropagationState) (i j : ℕ) → StateIsConsistent s → i < length s.trail.lits → j < length s.trail.lits → variable (lit_at s i) ≡ variable (lit_at s j) → i ≡ j
places_apart s i j h p q e =
    let d : i + 1 ≡ j + 1 = sym (h.depths i p) ∙ ap (λ v. (node_of s.nodes v).depth) e ∙ h.depths j q in
    omega arith

apart : (s : PropagationState) (l : ℕ) (r : Reason) (i j d : ℕ) → StateIsConsistent s → IsUnassignedLit s.values l → i < j → j < length (variables s l) → eqb (get_or (variables s l) i d) (get_or (variables s l) j d) ≡ false
apart s l r i j d h n lt b =
    let size : length (variables s l) ≡ length s.trail.lits + 1 = variables_length s l in
    let p : i < length s.trail.lits = omega arith in
    ne_eqb (get_or (variables s l) i d) (get_or (variables s l) j d) (λ e.
    let f : variable (lit_at s i) ≡ get_or (variables s l) j d = sym (variables_front s l r i d p) ∙ e in
    elim (cases_eq j (length s.trail.lits)) [
      | inl q ↦ open_other s.values l (lit_at s i) n (h.holds i p) (f ∙ variables_last s l r j d q)
      | inr q ↦
          let k : j < length s.trail.lits = omega arith in
          let same : i ≡ j = places_apart s i j h p k (f ∙ variables_front s l r j d k) in
          omega arith
    ])

below : (s : PropagationState) (l : ℕ) (r : Reason) (q : ℕ) → StateIsConsistent s → variable l < length s.values → list_any (eqb q) (variables s l) ≡ true → q < length s.values
below s l r q h small any =
    let size : length (variables s l) ≡ length s.trail.lits + 1 = variables_length s l in
    let c : Contains (variables s l) q = Contains-from_any {eq = eqb} (λ x y e. eqb-true x y e) q (variables s l) any in
    elim (cases_eq c.0 (length s.trail.lits)) [
      | inl e ↦ subst (λ (x : ℕ). x < length s.values) (sym (variables_last s l r c.0 q e) ∙ c.2) small
      | inr e ↦
          let k : c.0 < length s.trail.lits = omega (arith, c.1) in
          subst (λ (x : ℕ). x < length s.values) (sym (variables_front s l r c.0 q k) ∙ c.2)
          (below_from_value s.values (variable (lit_at s c.0)) (is_positive (lit_at s c.0)) (h.holds c.0 k))
    ]

-- the trail has room for an unassigned literal
pub room_for : (s : PropagationState) (l : ℕ) (r : Reason) → StateIsConsistent s → IsUnassignedLit s.values l → variable l < length s.values → length s.trail.lits < s.trail.room
room_for s l r h n small =
    let size : length (variables s l) ≡ length s.trail.lits + 1 = variables_length s l in
    let all : length (variables s l) ≤ length s.values =
    length-le_from_distinct_below (variables s l) (length s.values)
    (IsDistinct-from_apart eqb (variables s l) (λ i j d lt b. apart s l r i j d h n lt b))
    (λ q any. below s l r q h small any) in
    omega (arith, h.room)
