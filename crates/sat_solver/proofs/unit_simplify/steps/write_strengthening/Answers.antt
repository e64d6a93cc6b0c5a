use Rattle.std.proofs.Common.{◌≡◌, ◌∙◌, ◌∷◌, ◌&&◌, Ok, refl, ap, length}
use Rattle.std.specs.Prelude.{nat_lt}
use Rattle.std.proofs.lemmas.Result.{err_from_is_err_and}
use Rattle.sat_base.specs.steps.Steps.{Step, AtClause, DeleteClause, Simplified}
use Rattle.sat_base.specs.steps.StepViews.{deletion_of}
use Rattle.sat_solver.specs.proof.ProofView.{steps_of}
use Rattle.sat_solver.specs.cdcl.StepEffects.{error_of_proof}
use Rattle.sat_solver.proofs.lemmas.cdcl.GoingLemmas.{goes_step, goes_broken, goes_then, goes_then_fails}
use Rattle.sat_solver.specs.session.Quiet.{has_at_most_one}
use Rattle.sat_solver.proofs.lemmas.fits.QuietLemmas.{few_quiet}
use Rattle.sat_solver.specs.unit_simplify.StrengtheningSteps.{deleted_step, derived_step}
use Rattle.sat_solver.proofs.unit_simplify.steps.write_strengthening.Goals as goal

pub add_step-requires-clause-may : goal.add_step-requires-clause-may
add_step-requires-clause-may g c = rw c.deref.ensures.value c.requires.may.derive

pub returns-in_err-add_step : goal.returns-in_err-add_step
returns-in_err-add_step g c =
    let p = err_from_is_err_and c.from_residual.result c.from_residual.ensures.1 in
    rw (p.1, p.2)
    (goes_broken g.W.CountedWrite.seen c.in_err-add_step.field-0.0 c.args.proof.now c.add_step.new.self (AtClause c.stays_redundant.result c.args.part.now c.deref.result.now) _ c.requires.named c.in_err-add_step.ensures.keeps c.in_err-add_step.ensures.records)

pub returns : goal.returns
returns g c =
    let p = c.args.proof.now in
    let q = c.add_step.new.self in
    let z = c.add_step-2.new.self in
    let one : Step = derived_step c.args.redundant c.args.part.now c.args.scratch.now.hashes.items in
    let two : Step = deleted_step c.args.redundant Simplified c.args.scratch.now.clause.items in
    let one_is : AtClause c.stays_redundant.result c.args.part.now c.deref.result.now ≡ derived_step c.args.redundant c.args.part.now c.args.scratch.now.hashes.items =
    ap (λ b. AtClause b c.args.part.now c.deref.result.now) c.stays_redundant.ensures
    ∙ ap (λ hs. AtClause (c.args.redundant && nat_lt 2 (length c.args.part.now)) c.args.part.now hs) c.deref.ensures.value in
    let two_is : DeleteClause c.deref-2.result.now (deletion_of c.deletion_for.result) ≡ deleted_step c.args.redundant Simplified c.args.scratch.now.clause.items =
    ap (λ ls. DeleteClause ls (deletion_of c.deletion_for.result)) c.deref-2.ensures.value ∙ ap (λ x. DeleteClause c.args.scratch.now.clause.items x) c.deletion_for.ensures in
    goes_then g.W.CountedWrite.seen tt (Ok tt) p q z (λ (_ : Unit {0}) _. steps_of q ≡ one ∷ steps_of p) (λ (_ : Unit {0}) _. steps_of z ≡ two ∷ steps_of q) _
    (goes_step g.W.CountedWrite.seen tt p q (AtClause c.stays_redundant.result c.args.part.now c.deref.result.now) (λ _ _. steps_of q ≡ one ∷ steps_of p) c.requires.named (few_quiet c.stays_redundant.result c.args.part.now c.deref.result.now (ap has_at_most_one c.deref.ensures.value ∙ c.requires.few)) c.in_ok-add_step.ensures.keeps c.in_ok-add_step.ensures.records
    (c.in_ok-add_step.ensures.records.history ∙ ap (λ x. x ∷ steps_of p) one_is))
    (goes_step g.W.CountedWrite.seen tt q z (DeleteClause c.deref-2.result.now (deletion_of c.deletion_for.result)) (λ _ _. steps_of z ≡ two ∷ steps_of q) tt refl c.in_ok-add_step-2.ensures.keeps c.in_ok-add_step-2.ensures.records
    (c.in_ok-add_step-2.ensures.records.history ∙ ap (λ x. x ∷ steps_of q) two_is))
    (λ xs ys y a b. b ∙ ap (λ ss. two ∷ ss) a)

pub returns-in_err-add_step-2 : goal.returns-in_err-add_step-2
returns-in_err-add_step-2 g c =
    let p = c.args.proof.now in
    let q = c.add_step.new.self in
    let z = c.add_step-2.new.self in
    let r = err_from_is_err_and c.from_residual-in_err-add_step-2.result c.from_residual-in_err-add_step-2.ensures.1 in
    rw (r.1, r.2)
    (goes_then_fails g.W.CountedWrite.seen tt (error_of_proof c.in_err-add_step-2.field-0.0) p q z (λ (_ : Unit {0}) _. Unit {0}) (λ (_ : Unit {0}) _. Unit {0}) _
    (goes_step g.W.CountedWrite.seen tt p q (AtClause c.stays_redundant.result c.args.part.now c.deref.result.now) (λ _ _. Unit {0}) c.requires.named (few_quiet c.stays_redundant.result c.args.part.now c.deref.result.now (ap has_at_most_one c.deref.ensures.value ∙ c.requires.few)) c.in_ok-add_step.ensures.keeps c.in_ok-add_step.ensures.records tt)
    (goes_broken g.W.CountedWrite.seen c.in_err-add_step-2.field-0.0 q z (DeleteClause c.deref-2.result.now (deletion_of c.deletion_for.result)) _ tt c.in_err-add_step-2.ensures.keeps c.in_err-add_step-2.ensures.records))
