-- A failed search restores the work as it was before.
use Rattle.std.proofs.Common.{ℕ, ◌≡◌, ◌+◌, ◌<◌, ◌≤◌, ◌⊎◌, inl, inr, suc, zero, false, List, [], ◌∷◌, ◌++◌, length, take, get_or, refl, sym, ap, ◌∙◌, arith}
use Rattle.std.proofs.lemmas.Bool.{cases_eq, cases_lt, cases_Bool, both_ways}
use Rattle.std.proofs.lemmas.List.{length_push, take_at, take-take, ext_get_or}
use Rattle.sat_base.specs.values.Literals.{variable}
use Rattle.sat_solver.specs.analyze_conflict.AnalysisState.{AnalysisState}
use Rattle.sat_solver.specs.analyze_conflict.Minimization.{AddsMarks, with_used, UndoesMarks, SameAnalysis}

abbrev IsNewUseBelow : (used : List ℕ) (from n v : ℕ) → Type 0
IsNewUseBelow used from n v = (k : ℕ) × ((from ≤ k) × (k < n) × (variable (get_or used k 0) ≡ v))

-- whether a literal that was used at position `from` or later has this variable
new_use : (used : List ℕ) (from n v : ℕ) → n ≤ length used → IsNewUseBelow used from n v ⊎ (IsNewUseBelow used from n v → ⊥)
new_use used from zero v le = inr (λ x. omega (arith, x.1.1))
new_use used from (suc n) v le = elim (new_use used from n v (omega arith)) [
  | inl x ↦ inl (x.0, (x.1.0, omega (arith, x.1.1), x.1.2))
  | inr none ↦ elim (cases_lt n from) [
    | inl lt ↦ inr (λ x. none (x.0, (x.1.0, omega (arith, x.1.0), x.1.2)))
    | inr ge ↦ elim (cases_eq (variable (get_or used n 0)) v) [
      | inl e ↦ inl (n, (ge, omega arith, e))
      | inr d ↦ inr (λ x. elim (cases_eq x.0 n) [
        | inl q ↦ d (ap (λ z. variable (get_or used z 0)) (sym q) ∙ x.1.2)
        | inr r ↦ none (x.0, (x.1.0, omega (arith, x.1.1), x.1.2))
      ])
    ]
  ]
]

restored_at : (l : ℕ) (w w' w2 : AnalysisState) (v : ℕ) → AddsMarks (with_used l w) w' → UndoesMarks (length w.used) w' w2 → get_or w2.flags v false ≡ get_or w.flags v false
restored_at l w w' w2 v m u =
    let n : length (w.used ++ l ∷ []) ≡ length w.used + 1 = length_push w.used l in
    elim (new_use w'.used (length w.used + 1) (length w'.used) v (omega arith)) [
      | inl x ↦
          sym (ap (λ z. get_or w2.flags z false) x.1.2) ∙ u.cleared x.0 (omega (arith, x.1.0)) x.1.1 ∙ sym (m.fresh x.0 (omega (arith, x.1.0)) x.1.1) ∙ ap (λ z. get_or w.flags z false) x.1.2
      | inr none ↦
          u.others v (λ x. none (x.place, (x.following, x.within, x.there))) ∙ elim (cases_Bool (get_or w'.flags v false)) [
            | inl t ↦ elim (m.raised v t) [
              | inl g ↦ t ∙ sym g
              | inr x ↦ absurd (none (x.place, (omega (arith, x.following), x.within, x.there)))
            ]
            | inr f ↦ elim (cases_Bool (get_or w.flags v false)) [
              | inl t ↦ absurd (both_ways (get_or w'.flags v false) f (m.kept v t))
              | inr g ↦ f ∙ sym g
            ]
          ]
    ]

pub undone : (l : ℕ) (w w' w2 : AnalysisState) → AddsMarks (with_used l w) w' → UndoesMarks (length w.used) w' w2 → SameAnalysis w w2
undone l w w' w2 m u =
    let n : length (w.used ++ l ∷ []) ≡ length w.used + 1 = length_push w.used l in
    record {
      clause = u.clause ∙ m.clause;
      seen = u.seen ∙ m.seen;
      antecedents = u.antecedents ∙ m.antecedents;
      core = u.core ∙ m.core;
      pending = u.pending ∙ m.pending;
      used = u.used ∙ sym (take-take (length w.used) (length (w.used ++ l ∷ [])) w'.used (omega arith)) ∙ ap (λ (xs : List ℕ). take (length w.used) xs) m.front ∙ take_at w.used (l ∷ []) (length w.used) refl;
      flags = ext_get_or false w2.flags w.flags (u.size ∙ m.size) (λ v lt. restored_at l w w' w2 v m u);
    }
