-- The steps that close an ask do not record unsat.
use Rattle.std.proofs.Common.{◌≡◌, ◌∙◌, false, List, [], ◌∷◌, ◌++◌, refl, sym, subst, append_assoc}
use Rattle.std.proofs.lemmas.List.{append_cancel_right}
use Rattle.std.specs.List.{AllByRecursion}
use Rattle.sat_base.specs.steps.Steps.{Step, SolverVarName, ChangeHashBits, Assumptions}
use Rattle.sat_checker.specs.Accepts.{effect, ready_after}
use Rattle.sat_checker.specs.matching.Checking.{is_ordered}
use Rattle.sat_checker.specs.matching.Expected.{Expected, Closes, FitsExpected, closes}
use Rattle.sat_checker.specs.matching.ProofChecking.{checker_rules}
use Rattle.sat_solver.specs.variables.NamingSteps.{IsLiteralsStep}
use Rattle.sat_solver.specs.session.AllowedSteps.{EachIsAllowed}
use Rattle.sat_checker.specs.matching.Traces.{HasTrace, no_step, silent, visible}
use Rattle.certify.proofs.lemmas.confirm.Settled.{settled_unsat}

made_after : {s t : List Step} {es : List Expected} → HasTrace checker_rules s t es → (zs : List Step) × (t ≡ zs ++ s)
made_after no_step = ([], refl)
made_after (silent {s = s} {step = step} q m) = let r = made_after m in (r.0 ++ (step ∷ []), r.1 ∙ sym (append_assoc r.0 (step ∷ []) s))
made_after (visible {s = s} {step = step} f m) = let r = made_after m in (r.0 ++ (step ∷ []), r.1 ∙ sym (append_assoc r.0 (step ∷ []) s))

each_first : (s : List Step) (x : Step) (ys : List Step) → EachIsAllowed (IsLiteralsStep []) s (ys ++ (x ∷ [])) → IsLiteralsStep [] s x × EachIsAllowed (IsLiteralsStep []) (x ∷ s) ys
each_first s x [] h = (h.1, tt)
each_first s x (y ∷ ys) h = let r = each_first s x ys h.0 in (r.0, (r.1, subst (λ e. IsLiteralsStep [] e y) (append_assoc ys (x ∷ []) s) h.1))

record Onwards (s t : List Step) (x : Step) : Type 0 where
  may : IsLiteralsStep [] s x
  steps : List Step
  following : t ≡ steps ++ (x ∷ s)
  each : EachIsAllowed (IsLiteralsStep []) (x ∷ s) steps

first_comes : (s t : List Step) (x : Step) (ys zs : List Step) → t ≡ ys ++ s → EachIsAllowed (IsLiteralsStep []) s ys → t ≡ zs ++ (x ∷ s) → Onwards s t x
first_comes s t x ys zs b c d =
    let e : ys ≡ zs ++ (x ∷ []) = append_cancel_right ys (zs ++ (x ∷ [])) s (sym b ∙ d ∙ sym (append_assoc zs (x ∷ []) s)) in
    let h = each_first s x zs (subst (EachIsAllowed (IsLiteralsStep []) s) e c) in
    record { may = h.0; steps = zs; following = d; each = h.1 }

-- an unordered step that may close an ask does not record unsat
keeps_going : (s : List Step) (step : Step) → is_ordered step ≡ false → IsLiteralsStep [] s step → checker_rules.unsat s ≡ false → checker_rules.unsat (step ∷ s) ≡ false
keeps_going s (ChangeHashBits bits) q m g = settled_unsat (effect (ChangeHashBits bits) (ready_after s)) ∙ g
keeps_going s (SolverVarName v n) q m g = absurd (m.2.1)
keeps_going s step q m g = absurd (cc)

close_keeps : (s : List Step) (x : Expected) (step : Step) → FitsExpected (checker_rules.knows s) s x step → x ≡ Closes → checker_rules.unsat s ≡ false → checker_rules.unsat (step ∷ s) ≡ false
close_keeps s Closes step closes e g = settled_unsat (effect (Assumptions []) (ready_after s)) ∙ g
close_keeps s x step f e g = absurd (cc)

-- the steps that close an ask do not record unsat
pub closing : {s t : List Step} {es : List Expected} → HasTrace checker_rules s t es → AllByRecursion (λ e. e ≡ Closes) es → (ys : List Step) → t ≡ ys ++ s → EachIsAllowed (IsLiteralsStep []) s ys → checker_rules.unsat s ≡ false → checker_rules.unsat t ≡ false
closing no_step h ys b c g = g
closing {t = t} (silent {s = s} {step = step} q m) h ys b c g =
    let z = made_after m in
    let r = first_comes s t step ys z.0 b c z.1 in
    closing m h r.steps r.following r.each (keeps_going s step q r.may g)
closing {t = t} (visible {s = s} {step = step} {e = x} f m) h ys b c g =
    let z = made_after m in
    let r = first_comes s t step ys z.0 b c z.1 in
    closing m h.1 r.steps r.following r.each (close_keeps s x step f h.0 g)
