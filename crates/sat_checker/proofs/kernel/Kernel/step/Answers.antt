use Rattle.std.proofs.Common.{arith}
use Rattle.std.proofs.lemmas.Grind.{common_steps}
use Rattle.std.proofs.Common.{◌+◌, ◌≤◌, refl, sym, subst, rules}
use Rattle.sat_base.specs.steps.StepViews.{step_of}
use Rattle.sat_checker.specs.Accepts.{ready_after}
use Rattle.sat_checker.specs.KernelView.{kernel_looks}
use Rattle.sat_checker.specs.Looks.{most_looks}
use Rattle.sat_checker.specs.announcements.Announcements.{announced}
use Rattle.sat_checker.specs.inner.NotifyingSteps.{notices_with, changed_by, with_earlier_data, earlier_data_of}
use Rattle.sat_checker.specs.inner.VariablesView.{variable_at}
use Rattle.sat_checker.specs.listeners.Receiving.{call_listeners, OwnReceivesFirst}
use Rattle.sat_checker.specs.listeners.ProcessingView.{EachListenerReceives}
use Rattle.sat_checker.proofs.lemmas.announcements.Long.{after_any}
use Rattle.sat_checker.proofs.lemmas.variables.Keeping.{match_true}
use Rattle.sat_checker.proofs.lemmas.listeners.Taken.{ready_kept, noted_reported, taken_on, short_judges, short_notifies, taken_judges, taken_notifies}
use Rattle.sat_checker.proofs.kernel.Kernel.step.Goals as goal

pub returns-in-Ok-true-clause-correct : goal.returns-in-Ok-true-clause-correct
returns-in-Ok-true-clause-correct g c = λ steps s.
    let k = ready_kept c.args.self.now steps s c.requires.well c.requires.settled in
    let turned = match_true c.in-Ok-true.field-0 _ _ (c.in-Ok-true.ensures.decides (ready_after steps) k) (search rules) in
    taken_judges c.args.self.now steps s c.requires.well c.requires.settled (step_of c.args.step.now) (OwnReceivesFirst g.O.ProofProcessor.takes (EachListenerReceives g.P.ProofProcessor.takes g.T.ProofTranscriptProcessor.reads)) _ _ (call_listeners c.args.own.now c.args.others.now) turned.0 turned.1 c.announce.new.self (call_listeners c.announce.new.own c.announce.new.others) c.announce.result
    (c.announce.ensures (notices_with (with_earlier_data (earlier_data_of c.changed-was.result) (variable_at c.check_step.new.self.variables)) c.check_step.new.notes.news) (λ h. refl))

pub returns-in-Ok-true-clause-notifies : goal.returns-in-Ok-true-clause-notifies
returns-in-Ok-true-clause-notifies g c = λ before begun steps s.
    let k = ready_kept c.args.self.now steps s.kernel c.requires.well c.requires.settled in
    let turned = match_true c.in-Ok-true.field-0 _ _ (c.in-Ok-true.ensures.decides (ready_after steps) k) (search rules) in
    let reported = notices_with (with_earlier_data (changed_by (variable_at c.args.self.now.state.variables) (step_of c.args.step.now)) (variable_at c.check_step.new.self.variables)) (announced (ready_after steps) (step_of c.args.step.now)) in
    taken_notifies c.args.self.now steps s.kernel c.requires.well c.requires.settled (step_of c.args.step.now) (OwnReceivesFirst g.O.ProofProcessor.takes (EachListenerReceives g.P.ProofProcessor.takes g.T.ProofTranscriptProcessor.reads)) before begun (call_listeners c.args.own.now c.args.others.now) (s.heard c.requires.well)
    _ turned.0 turned.1 (announced (ready_after steps) (step_of c.args.step.now)) refl (changed_by (variable_at c.args.self.now.state.variables) (step_of c.args.step.now)) refl c.announce.new.self (call_listeners c.announce.new.own c.announce.new.others) c.announce.result
    (c.announce.ensures reported (λ h.
    noted_reported c.begin.new.self c.check_step.new.notes c.args.listening (step_of c.args.step.now) (ready_after steps) (variable_at c.args.self.now.state.variables) (variable_at c.check_step.new.self.variables) (earlier_data_of c.changed-was.result) c.begin.ensures.listening c.begin.ensures.none c.changed-was.ensures
    (c.in-Ok-true.ensures.noted (search rules) (ready_after steps) k (after_any steps)) h))

pub returns-in-Ok-true-clause-goes_on : goal.returns-in-Ok-true-clause-goes_on
returns-in-Ok-true-clause-goes_on g c =
    taken_on (OwnReceivesFirst g.O.ProofProcessor.takes (EachListenerReceives g.P.ProofProcessor.takes g.T.ProofTranscriptProcessor.reads)) _ _ (call_listeners c.args.own.now c.args.others.now) c.announce.new.self (call_listeners c.announce.new.own c.announce.new.others) c.announce.result (c.announce.ensures _ (λ h. refl))

pub returns-in-Err-clause-correct : goal.returns-in-Err-clause-correct
returns-in-Err-clause-correct g c = grind (arith, common_steps, ready_kept, short_judges)

pub returns-in-Err-clause-notifies : goal.returns-in-Err-clause-notifies
returns-in-Err-clause-notifies g c = grind (arith, common_steps, ready_kept, short_notifies)

pub returns-in-Ok-true-clause-looks : goal.returns-in-Ok-true-clause-looks
returns-in-Ok-true-clause-looks g c = λ steps s.
    subst (λ n. n ≤ kernel_looks c.args.self.now + most_looks (ready_after steps) (step_of c.args.step.now)) (sym (c.announce.ensures _ (λ h. refl)).0.looks) (c.check_step.ensures.looks.most (ready_after steps) (ready_kept c.args.self.now steps s c.requires.well c.requires.settled))

pub returns-in-Ok-true-clause-rise : goal.returns-in-Ok-true-clause-rise
returns-in-Ok-true-clause-rise g c = subst (λ n. kernel_looks c.args.self.now ≤ n) (sym (c.announce.ensures _ (λ h. refl)).0.looks) c.check_step.ensures.looks.rise
