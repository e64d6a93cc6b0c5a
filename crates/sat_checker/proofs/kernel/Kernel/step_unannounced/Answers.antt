use Rattle.std.proofs.Common.{refl, rules, arith}
use Rattle.std.proofs.lemmas.Grind.{common_steps}
use Rattle.sat_base.specs.steps.StepViews.{step_of}
use Rattle.sat_checker.specs.Accepts.{ready_after}
use Rattle.sat_checker.proofs.lemmas.variables.Keeping.{match_true}
use Rattle.sat_checker.proofs.lemmas.listeners.Taken.{ready_kept, short_alone, step_stands}
use Rattle.sat_checker.proofs.kernel.Kernel.step_unannounced.Goals as goal

pub returns-in-Ok-true-clause-correct : goal.returns-in-Ok-true-clause-correct
returns-in-Ok-true-clause-correct c = λ steps s.
    let k = ready_kept c.args.self.now steps s c.requires.well c.requires.settled in
    let turned = match_true c.in-Ok-true.field-0 _ _ (c.in-Ok-true.ensures.decides (ready_after steps) k) (search rules) in (
      c.requires.well,
      record { accepts = turned.0; valid = step_stands c.args.self.now steps s c.requires.well c.requires.settled (step_of c.args.step.now) _ turned.0 turned.1 (grind (arith, common_steps)); goes_on = c.requires.well },
    )

pub returns-in-Err-clause-correct : goal.returns-in-Err-clause-correct
returns-in-Err-clause-correct c = λ steps s.
    short_alone c.args.self.now steps s c.requires.well c.requires.settled (step_of c.args.step.now) _ c.in-Err.error c.refusal.result c.refusal.ensures
    (c.in-Err.ensures.decides (ready_after steps) (ready_kept c.args.self.now steps s c.requires.well c.requires.settled)) c.in-Err.ensures.kept refl refl
