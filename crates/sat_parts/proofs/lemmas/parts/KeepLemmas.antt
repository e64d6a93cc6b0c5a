-- The levels up to `top` stay as the search proceeds.
use Rattle.std.proofs.Common.{ℕ, ◌≡◌, ◌+◌, ◌<◌, List, [], ◌∷◌, ◌++◌, length, get_or, take, refl, sym, ap, ◌∙◌, subst, arith}
use Rattle.std.proofs.lemmas.List.{length_push, get_or_append_left, get_or-take, length-take-le}
use Rattle.sat_base.specs.values.Literals.{variable}
use Rattle.sat_parts.specs.declared.prop.graph.ImplNode.{ImplNode}
use Rattle.sat_parts.specs.declared.prop.graph.Reason.{Reason}
use Rattle.sat_parts.specs.declared.prop.graph.Reason.TheVariants.{Unit as NoCause}
use Rattle.sat_parts.specs.prop.Values.{Values, IsUnassignedLit}
use Rattle.sat_parts.specs.prop.Trails.{TrailState, with_level, without_levels_above}
use Rattle.sat_parts.specs.prop.Undone.{with_levels_undone}
use Rattle.sat_parts.specs.prop.State.{PropagationState, lit_at, StateIsConsistent, TrailGrows, enqueued}
use Rattle.sat_parts.specs.prop.Ready.{state_of}
use Rattle.sat_parts.specs.prop.TrailWord.{LevelsBeginWithDecisions, decided_on}
use Rattle.sat_parts.specs.prop.Backtracked.{BacktrackEffect}
use Rattle.sat_parts.proofs.lemmas.prop.StateLemmas.{grows_enqueued}
use Rattle.sat_parts.proofs.lemmas.prop.BacktrackLemmas.{keeps_low}
use Rattle.sat_parts.proofs.lemmas.prop.RoomLemmas.{room_for}
use Rattle.sat_parts.specs.parts.Frame.{KeepsLevelsTo}

pub keeps_trans : (top : ℕ) (a b c : PropagationState) → KeepsLevelsTo top a b → KeepsLevelsTo top b c → KeepsLevelsTo top a c
keeps_trans top a b c x y = record {
  low = λ l t le. (let p = x.low l t le in let q = y.low l p.0 (omega (arith, p.1)) in (q.0, q.1 ∙ p.1));
  begun = λ j lt b. (let p = x.begun j lt b in let q = y.begun j lt p.0 in (q.0, q.1 ∙ p.1));
}

-- literals are appended to the trail
pub keeps_grown : (top : ℕ) (a b : PropagationState) → TrailGrows a b → LevelsBeginWithDecisions a → KeepsLevelsTo top a b
keeps_grown top a b g x = record {
  low = λ l t le. (g.kept l t, ap (λ (n : ImplNode). n.level) (g.nodes l t));
  begun = λ j lt c. (subst (λ (xs : List ℕ). j < length xs) (sym g.starts) c, ap (λ (xs : List ℕ). lit_at b (get_or xs j 0)) g.starts ∙ g.front (get_or a.trail.starts j 0) (x.begun j c));
}

pub keeps_enqueued : (top : ℕ) (s : PropagationState) (l : ℕ) (r : Reason) → StateIsConsistent s → LevelsBeginWithDecisions s → IsUnassignedLit s.values l → variable l < length s.values → KeepsLevelsTo top s (enqueued l r s)
keeps_enqueued top s l r a x free below = keeps_grown top s (enqueued l r s) (grows_enqueued s l r a free below (room_for s l r a free below)) x

-- a level begins with a decision
pub keeps_decided : (top : ℕ) (s : PropagationState) (l : ℕ) → StateIsConsistent (record s { trail = with_level s.trail }) → LevelsBeginWithDecisions s → IsUnassignedLit s.values l → variable l < length s.values → KeepsLevelsTo top s (decided_on l s)
keeps_decided top s l a x free below =
    let r : PropagationState = record s { trail = with_level s.trail } in
    let size : length (s.trail.starts ++ length s.trail.lits ∷ []) ≡ length s.trail.starts + 1 = length_push s.trail.starts (length s.trail.lits) in
    let g : TrailGrows r (decided_on l s) = grows_enqueued r l NoCause a free below (room_for r l NoCause a free below) in
    record {
      low = λ m t le. (g.kept m t, ap (λ (n : ImplNode). n.level) (g.nodes m t));
      begun = λ j lt c. (
        omega arith,
        ap (λ i. lit_at (decided_on l s) i) (get_or_append_left s.trail.starts (length s.trail.lits ∷ []) 0 j c) ∙ g.front (get_or s.trail.starts j 0) (x.begun j c),
      );
    }

-- higher levels are undone
pub keeps_undone : (v : ℕ) (a : Values) (g : List ImplNode) (t : TrailState) → StateIsConsistent (state_of a g t) → LevelsBeginWithDecisions (state_of a g t) → v < length t.starts → KeepsLevelsTo v (state_of a g t) (state_of (with_levels_undone v t a) g (without_levels_above v t))
keeps_undone v a g t h x lt =
    let k : BacktrackEffect v (state_of a g t) (state_of (with_levels_undone v t a) g (without_levels_above v t)) = keeps_low v a g t h lt in
    let size : length (take v t.starts) ≡ v = length-take-le v t.starts (omega arith) in
    record {
      low = λ l b le. (k.low_kept l b le, refl);
      begun = λ j b c. (
        omega arith,
        ap (λ i. lit_at (state_of (with_levels_undone v t a) g (without_levels_above v t)) i) (get_or-take v t.starts j 0 b)
            ∙ k.places (get_or t.starts j 0) (let e : length (take (get_or t.starts v 0) t.lits) ≡ get_or t.starts v 0 = length-take-le (get_or t.starts v 0) t.lits (omega (arith, x.begun v lt)) in omega (arith, x.strict j v b lt)),
      );
    }
