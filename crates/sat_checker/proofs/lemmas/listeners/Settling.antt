-- What is stored with and without a pending unit conflict.
use Rattle.std.proofs.Common.{ℕ, ◌≡◌, true, false, is_some, Option, None, Some, List, ◌∷◌, inl, inr, refl, sym, ap, ◌∙◌}
use Rattle.sat_base.specs.steps.Steps.{Step, End}
use Rattle.sat_checker.specs.Stored.{Stored}
use Rattle.sat_checker.specs.Storing.{with_conflict_settled, settled_by}
use Rattle.sat_checker.specs.Accepts.{stored_after, ready_after}
use Rattle.sat_checker.specs.KernelView.{RepresentsStoredAfter}
use Rattle.sat_checker.specs.inner.FormulaView.{StoredStatus}
use Rattle.sat_checker.specs.declared.kernel.Kernel.{Kernel}
use Rattle.sat_checker.specs.declared.state.CheckerState.{CheckerState}

pub settled_none : (f : Stored) → (with_conflict_settled f).conflict ≡ None
settled_none f = go f.conflict refl
  where
    go : (c : Option (ℕ × ℕ)) → f.conflict ≡ c → (settled_by c f).conflict ≡ None
    go None e = e
    go (Some units) e = refl

-- settling a unit conflict changes no variable
pub settled_variables : (f : Stored) → (with_conflict_settled f).variables ≡ f.variables
settled_variables f = go f.conflict
  where
    go : (c : Option (ℕ × ℕ)) → (settled_by c f).variables ≡ f.variables
    go None = refl
    go (Some units) = refl

pub settled_already : (f : Stored) → f.conflict ≡ None → with_conflict_settled f ≡ f
settled_already f e = ap (λ (c : Option (ℕ × ℕ)). settled_by c f) e

pub is_none_none : (c : Option (ℕ × ℕ)) → is_some c ≡ false → c ≡ None
is_none_none None e = refl
is_none_none (Some units) e = absurd (let d : true ≡ false = e in cc)

pub end_settled : (steps : List Step) → (stored_after (End ∷ steps)).conflict ≡ None
end_settled steps = settled_none (stored_after steps)

module _ (k : Kernel) (steps : List Step) (kept : RepresentsStoredAfter k.state steps) where
  pub conflict_of : k.state.formula.status.conflict ≡ kept.formula.conflict
  conflict_of = ap (λ (s : StoredStatus). s.conflict) kept.keeps.formula.status

  pub none_pending : (stored_after steps).conflict ≡ None → k.state.formula.status.conflict ≡ None
  none_pending n = elim kept.left [
    | inl e ↦ conflict_of ∙ ap (λ (f : Stored). f.conflict) e ∙ n
    | inr e ↦ conflict_of ∙ ap (λ (f : Stored). f.conflict) e ∙ settled_none (stored_after steps)
  ]

  -- if no unit conflict is pending, the stored formula is the one that checks the next step
  pub ready_is : k.state.formula.status.conflict ≡ None → kept.formula ≡ ready_after steps
  ready_is n = elim kept.left [
    | inl e ↦ e ∙ sym (settled_already (stored_after steps) (sym (ap (λ (f : Stored). f.conflict) e) ∙ sym conflict_of ∙ n))
    | inr e ↦ e
  ]

  -- if a unit conflict is pending, the stored formula is not settled yet
  pub stored_is : (units : ℕ × ℕ) → k.state.formula.status.conflict ≡ Some units → kept.formula ≡ stored_after steps
  stored_is units s = elim kept.left [
    | inl e ↦ e
    | inr e ↦ absurd (let g : ◌≡◌ {A = Option (ℕ × ℕ)} None (Some units) = sym (settled_none (stored_after steps)) ∙ sym (ap (λ (f : Stored). f.conflict) e) ∙ sym conflict_of ∙ s in cc)
  ]

-- once settled, the stored formula is the one that checks the next step
pub ready_of : (state : CheckerState) (steps : List Step) (kept : RepresentsStoredAfter state steps) → with_conflict_settled kept.formula ≡ ready_after steps
ready_of state steps kept = elim kept.left [
  | inl e ↦ ap with_conflict_settled e
  | inr e ↦ ap with_conflict_settled e ∙ settled_already (ready_after steps) (settled_none (stored_after steps))
]
