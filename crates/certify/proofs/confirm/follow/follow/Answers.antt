use Rattle.std.proofs.Common.{refl}
use Rattle.sat_base.specs.steps.StepViews.{step_of}
use Rattle.certify.specs.declared.confirm.expect.Expected.TheVariants as code
use Rattle.certify.specs.confirm.Comparing.{due_of}
use Rattle.certify.proofs.lemmas.confirm.Following.{unchanged}
use Rattle.certify.proofs.confirm.follow.follow.Goals as goal

pub returns-in-NewName : goal.returns-in-NewName
returns-in-NewName c = rw c.in-NewName.is c.follow_new_name.ensures

pub returns-in-NoName : goal.returns-in-NoName
returns-in-NoName c = rw c.in-NoName.is c.follow_no_name.ensures

pub returns-in-Clause : goal.returns-in-Clause
returns-in-Clause c = rw c.in-Clause.is (unchanged (due_of (code.Clause c.in-Clause.field-0)) c.args.variables.now (step_of c.args.step.now) (λ o ask. refl))

pub returns-in-Ask : goal.returns-in-Ask
returns-in-Ask c = rw c.in-Ask.is (unchanged (due_of (code.Ask c.in-Ask.field-0)) c.args.variables.now (step_of c.args.step.now) (λ o ask. refl))

pub returns-in-Model : goal.returns-in-Model
returns-in-Model c = rw c.in-Model.is (unchanged (due_of (code.Model c.in-Model._names c.in-Model.ask c.in-Model.line)) c.args.variables.now (step_of c.args.step.now) (λ o ask. refl))

pub returns-in-Core : goal.returns-in-Core
returns-in-Core c = rw c.in-Core.is (unchanged (due_of (code.Core c.in-Core.field-0)) c.args.variables.now (step_of c.args.step.now) (λ o ask. refl))

pub returns-in-Close : goal.returns-in-Close
returns-in-Close c = rw c.in-Close.is (unchanged (due_of code.Close) c.args.variables.now (step_of c.args.step.now) (λ o ask. refl))

pub returns-in-End : goal.returns-in-End
returns-in-End c = rw c.in-End.is (unchanged (due_of code.End) c.args.variables.now (step_of c.args.step.now) (λ o ask. refl))
