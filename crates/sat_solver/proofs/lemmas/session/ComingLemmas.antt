-- Which steps a call may make.
use Rattle.std.proofs.Common.{◌≡◌, ◌∙◌, Bool, true, false, List, [], ◌∷◌, ◌++◌, refl, sym, ap, subst, append_assoc}
use Rattle.std.proofs.lemmas.Bool.{true≢false}
use Rattle.sat_base.specs.steps.Steps.{Step}
use Rattle.sat_solver.specs.session.Session.{session_after}
use Rattle.sat_solver.specs.session.AllowedSteps.{EachIsAllowed, OnlyAllowedSteps, OnlyWidthAfterUnsat}
use Rattle.sat_solver.proofs.lemmas.session.PlainLemmas.{unsat_stays}

module _ (IsAllowedStep : List Step → Step → Type 0) where
  pub comes_none : (steps : List Step) → OnlyAllowedSteps IsAllowedStep steps steps
  comes_none steps = record { steps = []; following = refl; each = tt }

  pub comes_one : (from to : List Step) (step : Step) → to ≡ step ∷ from → IsAllowedStep from step → OnlyAllowedSteps IsAllowedStep from to
  comes_one from to step e m = record { steps = step ∷ []; following = e; each = (tt, m) }

  each_both : (earlier xs ys : List Step) → EachIsAllowed IsAllowedStep earlier xs → EachIsAllowed IsAllowedStep (xs ++ earlier) ys → EachIsAllowed IsAllowedStep earlier (ys ++ xs)
  each_both earlier xs [] a b = a
  each_both earlier xs (y ∷ ys) a b = (each_both earlier xs ys a b.0, subst (λ ss. IsAllowedStep ss y) (sym (append_assoc ys xs earlier)) b.1)

  pub comes_both : (from mids to : List Step) → OnlyAllowedSteps IsAllowedStep from mids → OnlyAllowedSteps IsAllowedStep mids to → OnlyAllowedSteps IsAllowedStep from to
  comes_both from mids to a b = record {
    steps = b.steps ++ a.steps;
    following = b.following ∙ ap (λ ss. b.steps ++ ss) a.following ∙ sym (append_assoc b.steps a.steps from);
    each = each_both from a.steps b.steps a.each (subst (λ ss. EachIsAllowed IsAllowedStep ss b.steps) a.following b.each);
  }

-- steps that are allowed by a rule are allowed by a weaker one
each_map : (P Q : List Step → Step → Type 0) → ((earlier : List Step) (step : Step) → P earlier step → Q earlier step) → (earlier steps : List Step) → EachIsAllowed P earlier steps → EachIsAllowed Q earlier steps
each_map P Q f earlier [] h = tt
each_map P Q f earlier (step ∷ steps) h = (each_map P Q f earlier steps h.0, f (steps ++ earlier) step h.1)

pub comes_map : (P Q : List Step → Step → Type 0) → ((earlier : List Step) (step : Step) → P earlier step → Q earlier step) → (from to : List Step) → OnlyAllowedSteps P from to → OnlyAllowedSteps Q from to
comes_map P Q f from to c = record { steps = c.steps; following = c.following; each = each_map P Q f from c.steps c.each }

-- if unsat isn't recorded after a step, it wasn't before
not_before : (step : Step) (earlier : List Step) → (session_after (step ∷ earlier)).unsat ≡ false → (session_after earlier).unsat ≡ false
not_before step earlier e = go (session_after earlier).unsat refl
  where
    go : (b : Bool) → (session_after earlier).unsat ≡ b → (session_after earlier).unsat ≡ false
    go true u = absurd (true≢false (sym (unsat_stays step (session_after earlier) u) ∙ e))
    go false u = u

each_ends : (earlier steps : List Step) → (session_after (steps ++ earlier)).unsat ≡ false → EachIsAllowed OnlyWidthAfterUnsat earlier steps
each_ends earlier [] e = tt
each_ends earlier (step ∷ steps) e =
    let before = not_before step (steps ++ earlier) e in
    (each_ends earlier steps before, λ u. absurd (true≢false (sym u ∙ before)))

-- steps after which unsat isn't recorded are allowed by `OnlyWidthAfterUnsat`
pub comes_open : (from to steps : List Step) → to ≡ steps ++ from → (session_after to).unsat ≡ false → OnlyAllowedSteps OnlyWidthAfterUnsat from to
comes_open from to steps e open_still = record { steps = steps; following = e; each = each_ends from steps (subst (λ ss. (session_after ss).unsat ≡ false) e open_still) }

-- so is one more step, which may record unsat
pub comes_last : (from mids to steps : List Step) (step : Step) → mids ≡ steps ++ from → (session_after mids).unsat ≡ false → to ≡ step ∷ mids → OnlyAllowedSteps OnlyWidthAfterUnsat from to
comes_last from mids to steps step e open_still last =
    comes_both OnlyWidthAfterUnsat from mids to (comes_open from mids steps e open_still) (comes_one OnlyWidthAfterUnsat mids to step last (λ u. absurd (true≢false (sym u ∙ open_still))))
