use Rattle.std.proofs.Common.{◌∙◌, Ok, sym, ap, refl}
use Rattle.std.proofs.lemmas.Result.{err_from_is_err_and}
use Rattle.sat_base.specs.steps.StepViews.{step_of}
use Rattle.sat_solver.specs.proof.Widths.{narrowed}
use Rattle.sat_solver.proofs.lemmas.session.CheckedLemmas.{step_fed, width_taken, width_untaken}
use Rattle.sat_solver.proofs.proof.checker.Checked.take.Goals as goal

pub returns-clause-takes : goal.returns-clause-takes
returns-clause-takes g c =
    step_fed g.P.ProofProcessor.takes c.args.self.now (step_of c.args.step.now) c.feed.result c.take_width.new.self (record c.take_width.new.self { checker = c.feed.new.checker }) (step_of c.args.cut.now) (sym c.is_end.ensures ∙ c.if-is_end.false) c.requires.width c.in_ok-take_width.ensures.takes refl
    (c.requires.cut ∙ ap (λ w. narrowed w (step_of c.args.step.now)) (sym c.in_ok-take_width.ensures.bits)) c.feed.ensures

pub returns-then-is_end-clause-takes : goal.returns-then-is_end-clause-takes
returns-then-is_end-clause-takes g c = width_taken g.P.ProofProcessor.takes c.args.self.now (step_of c.args.step.now) (Ok tt) c.take_width.new.self (sym c.is_end.ensures ∙ c.if-is_end.true) c.in_ok-take_width.ensures.takes

pub returns-in_err-take_width-clause-takes : goal.returns-in_err-take_width-clause-takes
returns-in_err-take_width-clause-takes g c =
    let p = err_from_is_err_and c.from_residual.result c.from_residual.ensures.1 in
    rw (p.1, p.2) (width_untaken g.P.ProofProcessor.takes c.args.self.now (step_of c.args.step.now) c.in_err-take_width.field-0.0 c.take_width.new.self c.in_err-take_width.ensures.takes)
