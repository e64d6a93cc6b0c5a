use Rattle.std.proofs.Common.{sym, subst}
use Rattle.sat_base.specs.steps.StepReading.{reader_source, last_step_in}
use Rattle.sat_base.specs.steps.StepText.{SpellsStep}
use Rattle.sat_base.specs.steps.StepViews.{step_of}
use Rattle.sat_checker.specs.inner.ProofSteps.{at_source}
use Rattle.sat_checker.specs.CheckerView.{view_with}
use Rattle.sat_checker.specs.listeners.Receiving.{OwnReceivesFirst}
use Rattle.sat_checker.specs.listeners.ProcessingView.{EachListenerReceives}
use Rattle.sat_checker.proofs.lemmas.checker.Proofs.{unread_answer, step_stops}
use Rattle.sat_checker.proofs.checker.Checker.check_next.Goals as goal

pub returns-in-Err-clause-steps_on : goal.returns-in-Err-clause-steps_on
returns-in-Err-clause-steps_on g c = λ before begun earlier valid.
    let S = g.R.CountedRead.seen in
    rw (c.unread_error.ensures, c.is_step_out_of_memory-self.ensures)
    (unread_answer (OwnReceivesFirst g.O.ProofProcessor.takes (EachListenerReceives g.P.ProofProcessor.takes g.T.ProofTranscriptProcessor.reads)) before begun S (view_with c.args.own.now c.args.self.now) c.args.steps.now c.advance.new.self c.in-Err.error (last_step_in c.advance.new.self) earlier c.requires.well c.requires.open_yet c.in-Err.ensures valid)

pub returns-in-Err-check_step-clause-steps_on : goal.returns-in-Err-check_step-clause-steps_on
returns-in-Err-check_step-clause-steps_on g c = λ before begun earlier valid.
    let S = g.R.CountedRead.seen in
    let n = c.in_default.ensures.answer in
    step_stops (OwnReceivesFirst g.O.ProofProcessor.takes (EachListenerReceives g.P.ProofProcessor.takes g.T.ProofTranscriptProcessor.reads)) before begun (at_source (view_with c.args.own.now c.args.self.now) (reader_source S c.args.steps.now)) (at_source _ (reader_source S c.advance.new.self)) c.in-Err-check_step.error earlier (step_of c.step-step.result) c.requires.well
    (record { text = n.0; passes = n.1; spelt = subst (λ z. SpellsStep z n.0) (sym c.step-step.ensures) n.2; looks = c.in-Err-check_step.ensures.looks earlier valid.kernel })
    (c.in-Err-check_step.ensures.notifies before begun earlier valid)

pub returns-in-Ok-clause-steps_on : goal.returns-in-Ok-clause-steps_on
returns-in-Ok-clause-steps_on g c = λ before begun earlier valid.
    let n = c.in_default.ensures.answer in
    let a = c.in-Ok.ensures.notifies before begun earlier valid in (
      step_of c.step-step.result,
      record { text = n.0; passes = n.1; spelt = subst (λ z. SpellsStep z n.0) (sym c.step-step.ensures) n.2; looks = c.in-Ok.ensures.looks earlier valid.kernel },
      c.is_end.ensures,
      (a.1.valid, a.1.goes_on),
    )
