use Rattle.std.proofs.Common.{arith}
use Rattle.std.proofs.lemmas.Grind.{common_steps}
use Rattle.std.proofs.lemmas.Result.{err_from_is_err_and}
use Rattle.sat_base.specs.steps.StepViews.{step_of}
use Rattle.sat_base.specs.steps.StepWriting.{steps_sink}
use Rattle.sat_solver.specs.proof.Counting.{width_change}
use Rattle.sat_solver.specs.declared.proof.format.ProofFormat.TheVariants.{Varisat}
use Rattle.sat_solver.proofs.lemmas.session.ProofLemmas.{wrote_more}
use Rattle.sat_solver.proofs.lemmas.session.PuttingLemmas.{wrote_one, puts_after, puts_short}
use Rattle.sat_solver.proofs.proof.native.write_at.Goals as goal

pub returns-in_err-write_width : goal.returns-in_err-write_width
returns-in_err-write_width g c = grind (arith, common_steps, err_from_is_err_and, puts_short)

pub returns : goal.returns
returns g c = grind (arith, common_steps, wrote_more, wrote_one)

pub returns-in_err-write : goal.returns-in_err-write
returns-in_err-write g c =
    let p = err_from_is_err_and c.from_residual-in_err-write.result c.from_residual-in_err-write.ensures.1 in
    let seen = g.W.CountedWrite.seen in
    rw (p.1, p.2) (puts_after Varisat (step_of c.args.step.now) (width_change c.args.widths.0 c.args.widths.1) (steps_sink seen c.args.writer.now) (steps_sink seen c.write_width.new.writer) (steps_sink seen c.write.new.self) c.in_ok-write_width.ensures c.in_err-write.ensures.sends.breaks)
