use Rattle.std.proofs.Common.{arith}
use Rattle.std.proofs.lemmas.Grind.{common_steps}
use Rattle.std.proofs.lemmas.Result.{err_from_is_err_and}
use Rattle.sat_base.specs.device.Reading.{source_of}
use Rattle.sat_base.proofs.lemmas.steps.StepReads.{deletion_fails, deletion_satisfied}
use Rattle.sat_base.proofs.device.input.Input.deletion.Goals as goal

pub returns-in_err-code-clause-reads : goal.returns-in_err-code-clause-reads
returns-in_err-code-clause-reads g c = grind (arith, common_steps, err_from_is_err_and, deletion_fails)

pub returns-clause-reads : goal.returns-clause-reads
returns-clause-reads g c = let S = source_of g.R.CountedRead.seen in deletion_satisfied c.in_ok-code.code (S c.args.self.now) (S c.number.new.self) c.if-code-eq0.false c.if-code-eq1.false c.in_ok-code.ensures.reads
