-- Calls that add no unit, or take units off the trail.
use Rattle.std.proofs.Common.{ℕ, ◌≡◌, ◌+◌, ◌<◌, ◌≤◌, ◌⊎◌, inl, inr, true, false, List, [], ◌∷◌, ◌++◌, length, refl, sym, ap, ◌∙◌, subst, arith}
use Rattle.std.proofs.lemmas.Bool.{cases_lt, cases_eq, true≢false}
use Rattle.std.proofs.lemmas.List.{length_push}
use Rattle.sat_base.specs.values.Literals.{variable}
use Rattle.sat_parts.specs.declared.prop.graph.ImplNode.{ImplNode}
use Rattle.sat_parts.specs.declared.prop.graph.Reason.{Reason}
use Rattle.sat_parts.specs.declared.prop.graph.Reason.TheVariants.{Unit as NoCause}
use Rattle.sat_parts.specs.prop.Graphs.{has_no_clause, enqueued_node}
use Rattle.sat_parts.specs.prop.Values.{Values, IsTrueLit, IsUnassignedLit}
use Rattle.sat_parts.specs.prop.Trails.{TrailState, with_level, without_levels_above}
use Rattle.sat_parts.specs.prop.Undone.{with_levels_undone, lits_above_level}
use Rattle.sat_parts.specs.prop.Backtracked.{BacktrackEffect}
use Rattle.sat_parts.proofs.lemmas.prop.BacktrackLemmas.{keeps_low, undone_length}
use Rattle.sat_parts.specs.prop.State.{PropagationState, node, level, lit_at, StateIsConsistent, TrailGrows, enqueued}
use Rattle.sat_parts.specs.prop.Ready.{state_of}
use Rattle.sat_parts.proofs.lemmas.prop.StateLemmas.{grows_enqueued, lit_last, node_new}
use Rattle.sat_parts.proofs.lemmas.prop.RoomLemmas.{room_for}
use Rattle.sat_parts.specs.prop.Graphs.{removed_node, with_node, node_of}
use Rattle.sat_parts.specs.prop.Trails.{with_cleared}
use Rattle.sat_parts.specs.prop.State.{current_level}
use Rattle.sat_parts.proofs.lemmas.prop.StateLemmas.{level_low}
use Rattle.std.proofs.Common.{get_or-set_same, get_or-set_other, length-set}
use Rattle.std.proofs.lemmas.List.{get_or_past}
use Rattle.sat_parts.specs.prop.Graphs.{new_node}
use Rattle.sat_parts.specs.parts.Units.{with_removed_units}
use Rattle.sat_parts.specs.parts.Frame.{AddsNoUnit, ClearsUnits}

-- all new literals are above level 0, or have clauses as their reasons
pub carries_grown : (s s' : PropagationState) → StateIsConsistent s → TrailGrows s s' →
    ((i : ℕ) → length s.trail.lits ≤ i → i < length s'.trail.lits → level s' (lit_at s' i) ≡ 0 → has_no_clause (node s' (lit_at s' i)).reason ≡ true → ⊥) → AddsNoUnit s s'
carries_grown s s' a g new = record {
  size = g.size;
  units = λ l u. elim u [
    | inl r ↦ inl (g.removed l r)
    | inr b ↦ elim (cases_lt b.place (length s.trail.lits)) [
      | inl lt ↦
          let there : lit_at s b.place ≡ l = sym (g.front b.place lt) ∙ b.there in
          let holds : IsTrueLit s.values l = subst (λ m. IsTrueLit s.values m) there (a.holds b.place lt) in
          let same : node s' l ≡ node s l = g.nodes l holds in
          inr (record {
            place = b.place;
            within = lt;
            there = there;
            bottom = ap (λ (n : ImplNode). n.level) (sym same) ∙ b.bottom;
            none = ap (λ (n : ImplNode). has_no_clause n.reason) (sym same) ∙ b.none;
          })
      | inr ge ↦ absurd (new b.place ge b.within (ap (λ m. level s' m) b.there ∙ b.bottom) (ap (λ m. has_no_clause (node s' m).reason) b.there ∙ b.none))
    ]
  ];
  bottom = λ l t z. (g.kept l t, ap (λ (n : ImplNode). n.level) (g.nodes l t) ∙ z);
}

-- levels that are undone
pub carries_undone : (v : ℕ) (a : Values) (g : List ImplNode) (t : TrailState) → StateIsConsistent (state_of a g t) → v < length t.starts → AddsNoUnit (state_of a g t) (state_of (with_levels_undone v t a) g (without_levels_above v t))
carries_undone v a g t h lt =
    let k : BacktrackEffect v (state_of a g t) (state_of (with_levels_undone v t a) g (without_levels_above v t)) = keeps_low v a g t h lt in
    record {
      size = undone_length (lits_above_level v t) a;
      units = λ l u. elim u [
        | inl r ↦ inl (record { holds = k.true_kept l r.holds; depth = r.depth; bottom = r.bottom })
        | inr b ↦ inr (record { place = b.place; within = omega (arith, b.within, k.shorter); there = sym (k.places b.place b.within) ∙ b.there; bottom = b.bottom; none = b.none })
      ];
      bottom = λ l x z. (k.low_kept l x (omega (arith, z)), z);
    }

-- an unassigned literal becomes true by a clause, or above level 0
pub carries_enqueued : (s : PropagationState) (l : ℕ) (r : Reason) → StateIsConsistent s → IsUnassignedLit s.values l → variable l < length s.values → (has_no_clause r ≡ false) ⊎ (0 < length s.trail.starts) → AddsNoUnit s (enqueued l r s)
carries_enqueued s l r a free below why =
    let size : length (s.trail.lits ++ l ∷ []) ≡ length s.trail.lits + 1 = length_push s.trail.lits l in
    carries_grown s (enqueued l r s) a (grows_enqueued s l r a free below (room_for s l r a free below)) (λ i ge lt z u.
    let last : i ≡ length s.trail.lits = omega arith in
    let at : lit_at (enqueued l r s) i ≡ l = ap (λ k. lit_at (enqueued l r s) k) last ∙ lit_last s l r in
    let its : node (enqueued l r s) (lit_at (enqueued l r s) i) ≡ enqueued_node s.trail r = ap (λ m. node (enqueued l r s) m) at ∙ node_new s l r (omega (arith, a.nodes)) in
    elim why [
      | inl n ↦ true≢false (sym u ∙ ap (λ (x : ImplNode). has_no_clause x.reason) its ∙ n)
      | inr some ↦ (let e : length s.trail.starts ≡ 0 = sym (ap (λ (x : ImplNode). x.level) its) ∙ z in omega arith)
    ])

-- a level begins
carries_level : (s : PropagationState) → AddsNoUnit s (record s { trail = with_level s.trail })
carries_level s = record {
  size = refl;
  units = λ l u. elim u [
    | inl r ↦ inl (record { holds = r.holds; depth = r.depth; bottom = r.bottom })
    | inr b ↦ inr (record { place = b.place; within = b.within; there = b.there; bottom = b.bottom; none = b.none })
  ];
  bottom = λ l t z. (t, z);
}

pub carries_trans : (a b c : PropagationState) → AddsNoUnit a b → AddsNoUnit b c → AddsNoUnit a c
carries_trans a b c x y = record {
  size = y.size ∙ x.size;
  units = λ l u. x.units l (y.units l u);
  bottom = λ l t z. let k = x.bottom l t z in y.bottom l k.0 k.1;
}

pub carries_refl : (s : PropagationState) → AddsNoUnit s s
carries_refl s = record { size = refl; units = λ l u. u; bottom = λ l t z. (t, z) }

-- a literal is decided, on a new level
pub carries_decided : (s : PropagationState) (l : ℕ) → StateIsConsistent (record s { trail = with_level s.trail }) → IsUnassignedLit s.values l → variable l < length s.values → AddsNoUnit s (enqueued l NoCause (record s { trail = with_level s.trail }))
carries_decided s l a free below =
    let r : PropagationState = record s { trail = with_level s.trail } in
    let size : length (s.trail.starts ++ length s.trail.lits ∷ []) ≡ length s.trail.starts + 1 = length_push s.trail.starts (length s.trail.lits) in
    carries_trans s r (enqueued l NoCause r) (carries_level s) (carries_enqueued r l NoCause a free below (inr (omega arith)))

-- marking units keeps a variable of level 0 at level 0
marked_level : (g : List ImplNode) (u v : ℕ) → (node_of g v).level ≡ 0 → (node_of (with_node u removed_node g) v).level ≡ 0
marked_level g u v z = elim (cases_eq v u) [
  | inr n ↦ ap (λ (x : ImplNode). x.level) (get_or-set_other g u v removed_node new_node n) ∙ z
  | inl e ↦ elim (cases_lt u (length g)) [
    | inl lt ↦ ap (λ k. (node_of (with_node u removed_node g) k).level) e ∙ ap (λ (x : ImplNode). x.level) (get_or-set_same g u removed_node new_node lt)
    | inr ge ↦ ap (λ (x : ImplNode). x.level) (get_or_past (with_node u removed_node g) v new_node (omega (arith, length-set g u removed_node)))
  ]
]

removed_level : (ls : List ℕ) (g : List ImplNode) (v : ℕ) → (node_of g v).level ≡ 0 → (node_of (with_removed_units ls g) v).level ≡ 0
removed_level [] g v z = z
removed_level (l ∷ ls) g v z = removed_level ls (with_node (variable l) removed_node g) v (marked_level g (variable l) v z)

-- units are taken off the trail
pub clears_cleared : (a : Values) (g : List ImplNode) (t : TrailState) → StateIsConsistent (state_of a g t) → t.starts ≡ [] → ClearsUnits (state_of a g t) (state_of a (with_removed_units t.lits g) (with_cleared t))
clears_cleared a g t h bottom =
    let s : PropagationState = state_of a g t in
    let none : length t.starts ≡ 0 = ap (λ (xs : List ℕ). length xs) bottom in
    record {
      size = refl;
      units = λ l u. elim u [
        | inl r ↦ (r.holds, (let z : level s l ≤ current_level s = level_low s l h r.holds in omega arith))
        | inr b ↦ (let n : b.place < 0 = b.within in absurd (omega arith))
      ];
      bottom = λ l x z. (x, removed_level t.lits g (variable l) z);
    }
