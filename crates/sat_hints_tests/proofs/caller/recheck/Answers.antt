use Rattle.std.proofs.Common.{◌≡◌, ◌++◌, List, [], ◌∷◌, Result, Ok, Err, refl, sym, ◌∙◌, ap, subst}
use Rattle.std.specs.Prelude.{IfOk}
use Rattle.sat_base.specs.device.Device.{Writer}
use Rattle.sat_base.specs.steps.Steps.{Step, End}
use Rattle.sat_checker.specs.ProofView.{steps_after}
use Rattle.sat_checker.specs.declared.error.CheckerError.{CheckerError}
use Rattle.sat_hints.specs.Checks.{VerdictHolds}
use Rattle.sat_hints.specs.Conversion.{hint_text, hint_verdict}
use Rattle.sat_hints.specs.Laws.{WritesTextOrFault}
use Rattle.sat_hints.specs.declared.answer.HintVerdict.{HintVerdict}
use Rattle.sat_hints.specs.declared.error.HintError.{HintError}
use Rattle.sat_hints.specs.declared.error.HintError.TheVariants.{Refused}
use Rattle.sat_hints.proofs.lemmas.Converted.{accepted_converts}
use Rattle.sat_hints_tests.proofs.caller.recheck.Goals as goal

of_steps : {E : Type 0} (result : Result HintVerdict E) (steps : List Step) → IfOk result (λ v. v ≡ hint_verdict steps) → IfOk result (λ v. (s : List Step) × (v ≡ hint_verdict s))
of_steps (Ok v) steps h = (steps, h)
of_steps (Err e) steps h = tt

not_refused : (error : HintError) (steps : List Step) (old new : Writer) → WritesTextOrFault (Err error) steps old new → (e : CheckerError) → error ≡ Refused e → ⊥
not_refused error steps old new h e is = subst (λ x. WritesTextOrFault (Err x) steps old new) is h

pub returns-in-Ok-clause-proved : goal.returns-in-Ok-clause-proved
returns-in-Ok-clause-proved g c =
    let k = c.in-Ok.ensures in
    let steps : List Step = End ∷ steps_after k.0 [] in
    let none : c.new-out.result.device.items ≡ [] = rw c.new-out.ensures.device c.new.ensures.items in
    let same : c.into_inner-text.result.items ≡ c.convert.new.out.device.items = rw c.into_inner-text.ensures refl in
    let text : c.deref.result.now ≡ hint_text steps = c.deref.ensures.value ∙ same ∙ k.4.known_bytes ∙ ap (λ xs. xs ++ hint_text steps) none in
    of_steps c.verdict_on.result steps (c.verdict_on.ensures _ _ _ (subst (λ t. VerdictHolds (hint_verdict steps) t) (sym text) k.3))

pub returns-in-Err-clause-accepted : goal.returns-in-Err-clause-accepted
returns-in-Err-clause-accepted g c = λ steps text more certificate text_is e is.
    not_refused c.in-Err.error steps _ _ (accepted_converts steps text more (Err c.in-Err.error) _ _ _ _ certificate text_is c.in-Err.ensures) e is
