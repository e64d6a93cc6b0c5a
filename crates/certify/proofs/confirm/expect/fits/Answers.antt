use Rattle.std.proofs.Common.{Bool, Some, IfOk, sym, subst}
use Rattle.sat_base.specs.steps.StepViews.{step_of}
use Rattle.certify.specs.declared.confirm.expect.Expected.{Expected}
use Rattle.certify.specs.declared.confirm.expect.Expected.TheVariants as code
use Rattle.certify.specs.declared.verdict.Why.TheVariants.{AnswerDiffers}
use Rattle.certify.specs.confirm.SpeltLiterals.{AllAmong, Decides}
use Rattle.certify.specs.refusals.Names.{ListsNamesInUse}
use Rattle.certify.specs.confirm.Comparing.{ComparesStep, ComparesLine, due_of}
use Rattle.certify.proofs.lemmas.confirm.Compared.{if_ok, model_unlisted, model_reported}
use Rattle.certify.proofs.confirm.expect.fits.Goals as goal

pub returns-in-NewName : goal.returns-in-NewName
returns-in-NewName c = subst (λ (d : Expected). ComparesStep (due_of d) c.args.known (step_of c.args.step.now) c.compare_new_name.result) (sym c.in-NewName.is) c.compare_new_name.ensures

pub returns-in-NoName : goal.returns-in-NoName
returns-in-NoName c = subst (λ (d : Expected). ComparesStep (due_of d) c.args.known (step_of c.args.step.now) c.compare_no_name.result) (sym c.in-NoName.is) c.compare_no_name.ensures

pub returns-in-Clause : goal.returns-in-Clause
returns-in-Clause c = subst (λ (d : Expected). IfOk c.compare_clause.result (ComparesStep (due_of d) c.args.known (step_of c.args.step.now))) (sym c.in-Clause.is) c.compare_clause.ensures

pub returns-in-Ask : goal.returns-in-Ask
returns-in-Ask c = subst (λ (d : Expected). IfOk c.compare_ask.result (ComparesStep (due_of d) c.args.known (step_of c.args.step.now))) (sym c.in-Ask.is) c.compare_ask.ensures

pub returns-in-Core : goal.returns-in-Core
returns-in-Core c = subst (λ (d : Expected). IfOk c.compare_core.result (ComparesStep (due_of d) c.args.known (step_of c.args.step.now))) (sym c.in-Core.is) c.compare_core.ensures

pub returns-in-Close : goal.returns-in-Close
returns-in-Close c = subst (λ (d : Expected). ComparesStep (due_of d) c.args.known (step_of c.args.step.now) c.compare_close.result) (sym c.in-Close.is) c.compare_close.ensures

pub returns-in-End : goal.returns-in-End
returns-in-End c = subst (λ (d : Expected). ComparesStep (due_of d) c.args.known (step_of c.args.step.now) c.compare_end.result) (sym c.in-End.is) c.compare_end.ensures

pub returns-then-not-branch : goal.returns-then-not-branch
returns-then-not-branch c =
    let names = c.in-Model.names.now in
    let ask = c.in-Model.ask.now in
    let line = c.in-Model.line.now in
    let none = subst (λ (b : Bool). Decides b (ListsNamesInUse names line × AllAmong ask line)) c.if-not-branch.true c.in_ok-is_line-in-Model.ensures in
    subst (λ (d : Expected). ComparesStep (due_of d) c.args.known (step_of c.args.step.now) (Some AnswerDiffers)) (sym c.in-Model.is)
    (model_unlisted c.args.known (step_of c.args.step.now) names ask line AnswerDiffers none)

pub returns-else-not-branch : goal.returns-else-not-branch
returns-else-not-branch c =
    let names = c.in-Model.names.now in
    let ask = c.in-Model.ask.now in
    let line = c.in-Model.line.now in
    let both = subst (λ (b : Bool). Decides b (ListsNamesInUse names line × AllAmong ask line)) c.if-not-branch.false c.in_ok-is_line-in-Model.ensures in
    subst (λ (d : Expected). IfOk c.compare_line.result (ComparesStep (due_of d) c.args.known (step_of c.args.step.now))) (sym c.in-Model.is)
    (if_ok c.compare_line.result (ComparesLine c.args.known line (step_of c.args.step.now)) (ComparesStep (due_of (code.Model c.in-Model.names c.in-Model.ask c.in-Model.line)) c.args.known (step_of c.args.step.now))
    (λ r compared. model_reported c.args.known (step_of c.args.step.now) names ask line r both.0 both.1 compared) c.compare_line.ensures)
