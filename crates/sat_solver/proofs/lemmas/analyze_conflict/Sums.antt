-- Marking a literal sets one flag and adds one used literal, so their total stays the same.
use Rattle.std.proofs.Common.{ℕ, ◌≡◌, ◌+◌, ◌<◌, inl, inr, suc, zero, Bool, true, false, List, [], ◌∷◌, length, get_or, set, cond, eqb, refl, sym, ap, ◌∙◌, subst, arith, length-set}
use Rattle.std.proofs.lemmas.Bool.{cases_Bool, or_parts, cond-true, cond-false}
use Rattle.std.proofs.lemmas.List.{length_push}
use Rattle.sat_base.specs.values.Literals.{variable, negated}
use Rattle.sat_parts.specs.declared.prop.graph.ImplNode.{ImplNode}
use Rattle.sat_parts.specs.prop.Graphs.{node_of}
use Rattle.sat_solver.specs.analyze_conflict.AnalysisState.{AnalysisState}
use Rattle.sat_solver.specs.analyze_conflict.Minimization.{with_mark, MarkingResult, can_be_implied, is_settled, marked_reasons, unset_count}

unset_set : (flags : List Bool) (v : ℕ) → v < length flags → get_or flags v false ≡ false → unset_count (set flags v true) + 1 ≡ unset_count flags
unset_set [] v lt e = absurd (omega arith)
unset_set (b ∷ bs) zero lt e = let one : cond {A = ℕ} b 0 1 ≡ 1 = ap (λ (c : Bool). cond {A = ℕ} c 0 1) e in omega arith
unset_set (b ∷ bs) (suc v) lt e = omega (arith, unset_set bs v (omega arith) e)

-- the number of flags that aren't set plus the number of used literals
abbrev pub total : AnalysisState → ℕ
total w = unset_count w.flags + length w.used

marked_total : (r : ℕ) (w : AnalysisState) → variable r < length w.flags → get_or w.flags (variable r) false ≡ false → total (with_mark r w) ≡ total w
marked_total r w lt e = omega (arith, unset_set w.flags (variable r) lt e, length_push w.used (negated r))

pub followed_total : (nodes : List ImplNode) (filter : ℕ) (rs : List ℕ) (w : AnalysisState) → ((k : ℕ) → k < length rs → variable (get_or rs k 0) < length w.flags) → total (marked_reasons nodes filter rs w).work ≡ total w
followed_total nodes filter [] w h = refl
followed_total nodes filter (r ∷ rs) w h =
    let stop : MarkingResult = record { work = w; whole = false } in
    let on : MarkingResult = marked_reasons nodes filter rs (with_mark r w) in
    let skip : MarkingResult = marked_reasons nodes filter rs w in
    let inner : MarkingResult = cond (can_be_implied nodes filter r) on stop in
    elim (cases_Bool (is_settled nodes r w)) [
      | inl t ↦ ap (λ (f : MarkingResult). total f.work) (cond-true (is_settled nodes r w) skip inner t) ∙ followed_total nodes filter rs w (λ k lt. h (suc k) (omega arith))
      | inr u ↦
          let parts = or_parts (eqb (node_of nodes (variable r)).level 0) (get_or w.flags (variable r) false) u in
          elim (cases_Bool (can_be_implied nodes filter r)) [
            | inl t ↦
                ap (λ (f : MarkingResult). total f.work) (cond-false (is_settled nodes r w) skip inner u ∙ cond-true (can_be_implied nodes filter r) on stop t)
                ∙ followed_total nodes filter rs (with_mark r w) (λ k lt. subst (λ n. variable (get_or rs k 0) < n) (sym (length-set w.flags (variable r) true)) (h (suc k) (omega arith)))
                ∙ marked_total r w (h 0 (omega arith)) parts.1
            | inr n ↦ ap (λ (f : MarkingResult). total f.work) (cond-false (is_settled nodes r w) skip inner u ∙ cond-false (can_be_implied nodes filter r) on stop n)
          ]
    ]
