-- Facts about analysis, in the form in which the code needs them.
use Rattle.std.proofs.Common.{ℕ, ◌≡◌, ◌+◌, ◌<◌, ◌≤◌, inl, inr, Bool, true, false, List, length, get_or, refl, sym, ap, ◌∙◌, subst, arith}
use Rattle.std.proofs.lemmas.Bool.{cases_eq}
use Rattle.std.proofs.lemmas.Bool.Decides.{nat_tests}
use Rattle.std.specs.List.{swap}
use Rattle.std.proofs.lemmas.List.Edits.{swap_is}
use Rattle.sat_base.specs.values.Literals.{variable, is_positive}
use Rattle.sat_store.specs.clause.Buffer.{IsClause, lits_at, swapped}
use Rattle.sat_parts.specs.declared.prop.graph.ImplNode.{ImplNode}
use Rattle.sat_parts.specs.declared.prop.graph.Reason.{Reason}
use Rattle.sat_parts.specs.declared.prop.graph.Reason.TheVariants.{Long}
use Rattle.sat_parts.specs.clause.Orders.{IsReordering}
use Rattle.sat_parts.specs.prop.Values.{IsTrueLit}
use Rattle.sat_parts.specs.prop.Graphs.{node_of}
use Rattle.sat_parts.specs.prop.State.{PropagationState, node, level, lit_at, StateIsConsistent}
use Rattle.sat_parts.specs.prop.Reasons.{IsFalseBefore}
use Rattle.sat_parts.proofs.lemmas.prop.RoomLemmas.{below_from_value}
use Rattle.sat_parts.proofs.lemmas.clause.OrderLemmas.{other, swapped_at, shuffled_swapped, shuffled_refl, shuffled_trans}
use Rattle.sat_solver.specs.analyze_conflict.AnalysisState.{AnalysisState}
use Rattle.sat_solver.specs.analyze_conflict.Marks.{causes_at, CanAnalyze, IsReasoned, AreFlagsOf}
use Rattle.sat_solver.proofs.lemmas.analyze_conflict.InTurn.{above_first}
use Rattle.sat_solver.proofs.lemmas.analyze_conflict.Meeting.{OpenPlace, open_some, variable_below}
use Rattle.sat_solver.proofs.lemmas.analyze_conflict.Resolution.{IsLastFlagged}

-- if literals are still to be resolved, some literal of the trail is flagged
pub some_flagged : (s : PropagationState) (top : ℕ) (w : AnalysisState) (at : ℕ) (lits : List ℕ) → lits ≡ s.trail.lits → AreFlagsOf s top w at → 0 < w.pending → (p : ℕ) × ((p < at) × (get_or w.flags (variable (get_or lits p 0)) false ≡ true))
some_flagged s top w at lits e m some =
    let x : OpenPlace s top w.flags at = open_some s top w.flags at (omega (arith, m.counted)) in
    (x.place, (x.before, ap (λ (ls : List ℕ). get_or w.flags (variable (get_or ls x.place 0)) false) e ∙ x.flagged))

pub last_place : (s : PropagationState) (flags : List Bool) (p at : ℕ) (lits : List ℕ) → lits ≡ s.trail.lits → p < at → get_or flags (variable (get_or lits p 0)) false ≡ true →
    ((q : ℕ) → p < q → q < at → get_or flags (variable (get_or lits q 0)) false ≡ false) → IsLastFlagged s flags p at
last_place s flags p at lits e lt f others = record {
  before = lt;
  flagged = ap (λ (ls : List ℕ). get_or flags (variable (get_or ls p 0)) false) (sym e) ∙ f;
  others = λ q a b. ap (λ (ls : List ℕ). get_or flags (variable (get_or ls q 0)) false) (sym e) ∙ others q a b;
}

-- the clause of a long reason above level 0 is in the buffer
pub taken_stands : (words : List ℕ) (s : PropagationState) (p o : ℕ) (r : Reason) → CanAnalyze words s → get_or s.trail.starts 0 0 ≤ p → p < length s.trail.lits → r ≡ (node s (lit_at s p)).reason → r ≡ Long o → IsClause words o × (0 < length (lits_at words o))
taken_stands words s p o r can first within r_is e = can.valid p o first within (sym r_is ∙ e)

-- the false literals of a reason above level 0 have nodes
pub before_nodes : (words : List ℕ) (s : PropagationState) (p k : ℕ) (ls : List ℕ) → CanAnalyze words s → get_or s.trail.starts 0 0 ≤ p → p < length s.trail.lits → ls ≡ causes_at words s (lit_at s p) → k < length ls → variable (get_or ls k 0) < length s.nodes
before_nodes words s p k ls can first within e lt =
    let b : IsFalseBefore s p (get_or (causes_at words s (lit_at s p)) k 0) = can.before p k first within (subst (λ (xs : List ℕ). k < length xs) e lt) in
    omega (arith, variable_below s p (get_or (causes_at words s (lit_at s p)) k 0) can.agrees b, can.agrees.nodes, ap (λ (xs : List ℕ). variable (get_or xs k 0)) e)

-- the long reason of a used literal is in the buffer
pub reasoned_stands : (words : List ℕ) (s : PropagationState) (l o : ℕ) (r : Reason) → CanAnalyze words s → IsReasoned s 0 l → r ≡ (node s l).reason → r ≡ Long o → IsClause words o × (0 < length (lits_at words o))
reasoned_stands words s l o r can x r_is e =
    can.valid x.place o (above_first s x.place l can.agrees x.within x.there x.above can.above) x.within (ap (λ z. (node s z).reason) x.there ∙ sym r_is ∙ e)

pub reasoned_nodes : (words : List ℕ) (s : PropagationState) (l k : ℕ) (ls : List ℕ) → CanAnalyze words s → IsReasoned s 0 l → ls ≡ causes_at words s l → k < length ls → variable (get_or ls k 0) < length s.nodes
reasoned_nodes words s l k ls can x e lt =
    before_nodes words s x.place k ls can (above_first s x.place l can.agrees x.within x.there x.above can.above) x.within (e ∙ ap (λ z. causes_at words s z) (sym x.there)) lt

pub reasoned_variable : (s : PropagationState) (l : ℕ) → StateIsConsistent s → IsReasoned s 0 l → variable l < length s.values
reasoned_variable s l a x = true_variable s x.place l a x.within x.there
  where
    true_variable : (s : PropagationState) (p l : ℕ) → StateIsConsistent s → p < length s.trail.lits → lit_at s p ≡ l → variable l < length s.values
    true_variable s p l a within there = below_from_value s.values (variable l) (is_positive l) (subst (λ z. IsTrueLit s.values z) there (a.holds p within))

-- The search for the second literal of a learned clause: each literal of a higher level is swapped with the second
-- one.
abbrev level_in : List ImplNode → ℕ → ℕ
level_in nodes l = (node_of nodes (variable l)).level

pub record Chained (nodes : List ImplNode) (old ls : List ℕ) (at level : ℕ) : Type 0 where
  pub lits : IsReordering old ls
  pub first : get_or ls 0 0 ≡ get_or old 0 0
  pub level_is : level ≡ level_in nodes (get_or ls 1 0)
  pub highest : (k : ℕ) → 0 < k → k < at → level_in nodes (get_or ls k 0) ≤ level

pub chained_start : (nodes : List ImplNode) (ls : List ℕ) (level : ℕ) → level ≡ level_in nodes (get_or ls 1 0) → Chained nodes ls ls 2 level
chained_start nodes ls level e = record {
  lits = shuffled_refl ls;
  first = refl;
  level_is = e;
  highest = λ k pos lt.
      let one : k ≡ 1 = omega arith in
      omega (arith, e, ap (λ z. level_in nodes (get_or ls z 0)) one);
}

pub chained_stays : (nodes : List ImplNode) (old ls : List ℕ) (at level : ℕ) → Chained nodes old ls at level → level_in nodes (get_or ls at 0) ≤ level → Chained nodes old ls (at + 1) level
chained_stays nodes old ls at level h le = record {
  lits = h.lits;
  first = h.first;
  level_is = h.level_is;
  highest = λ k pos lt. elim (cases_eq k at) [
    | inl e ↦ subst (λ z. level_in nodes (get_or ls z 0) ≤ level) (sym e) le
    | inr d ↦ h.highest k pos (omega arith)
  ];
}

other_here : (i j k : ℕ) → k ≡ j → other i j k ≡ i
other_here i j k e = grind (arith, nat_tests)

other_one : (i j k : ℕ) → k ≡ i → (k ≡ j → ⊥) → other i j k ≡ j
other_one i j k e n = grind (arith, nat_tests)

other_kept : (i j k : ℕ) → (k ≡ i → ⊥) → (k ≡ j → ⊥) → other i j k ≡ k
other_kept i j k n m = grind (arith, nat_tests)

pub chained_swaps : (nodes : List ImplNode) (old ls : List ℕ) (at level : ℕ) → Chained nodes old ls at level → 2 ≤ at → at < length ls → level < level_in nodes (get_or ls at 0) → Chained nodes old (swap ls 1 at) (at + 1) (level_in nodes (get_or ls at 0))
chained_swaps nodes old ls at level h two within more =
    let new : ℕ = level_in nodes (get_or ls at 0) in
    let is : swapped ls 1 at ≡ swap ls 1 at = swap_is ls 1 at 0 (omega arith) within in
    let at_k : (k : ℕ) → get_or (swap ls 1 at) k 0 ≡ get_or ls (other 1 at k) 0 = λ k. ap (λ (xs : List ℕ). get_or xs k 0) (sym is) ∙ swapped_at ls 1 at k (omega arith) within in
    record {
      lits = shuffled_trans old ls (swap ls 1 at) h.lits (subst (λ (xs : List ℕ). IsReordering ls xs) is (shuffled_swapped ls 1 at (omega arith) within));
      first = at_k 0 ∙ ap (λ z. get_or ls z 0) (other_kept 1 at 0 (λ e. omega (arith, e)) (λ e. omega (arith, e))) ∙ h.first;
      level_is = ap (λ z. level_in nodes z) (sym (at_k 1 ∙ ap (λ z. get_or ls z 0) (other_one 1 at 1 refl (λ e. omega (arith, e)))));
      highest = λ k pos lt. elim (cases_eq k at) [
        | inl e ↦ omega (arith, h.level_is, ap (λ z. level_in nodes z) (at_k k ∙ ap (λ z. get_or ls z 0) (other_here 1 at k e)))
        | inr d ↦ elim (cases_eq k 1) [
          | inl e ↦ omega (arith, ap (λ z. level_in nodes z) (at_k k ∙ ap (λ z. get_or ls z 0) (other_one 1 at k e d)))
          | inr n ↦ omega (arith, h.highest k pos (omega arith), ap (λ z. level_in nodes z) (at_k k ∙ ap (λ z. get_or ls z 0) (other_kept 1 at k n d)))
        ]
      ];
    }

-- a reordered list has the same variables, so all of them have nodes
pub shuffled_nodes : (nodes : List ImplNode) (ls ms : List ℕ) → IsReordering ls ms → ((k : ℕ) → k < length ls → variable (get_or ls k 0) < length nodes) → (k : ℕ) → k < length ms → variable (get_or ms k 0) < length nodes
shuffled_nodes nodes ls ms h inside k lt =
    let o : (j : ℕ) × ((j < length ls) × (get_or ls j 0 ≡ get_or ms k 0)) = h.back k (omega (arith, h.size)) in
    omega (arith, inside o.0 o.1.0, ap (λ z. variable z) o.1.1)

pub place_variable : (s : PropagationState) (top : ℕ) (w : AnalysisState) (at p : ℕ) → StateIsConsistent s → AreFlagsOf s top w at → p < at → variable (lit_at s p) < length w.flags
place_variable s top w at p a m lt =
    let within : p < length s.trail.lits = omega (arith, m.within) in
    omega (arith, m.size, below_from_value s.values (variable (lit_at s p)) (is_positive (lit_at s p)) (a.holds p within))
