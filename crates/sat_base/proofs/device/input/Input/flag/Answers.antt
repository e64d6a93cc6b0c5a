use Rattle.std.proofs.Common.{arith}
use Rattle.std.proofs.lemmas.Grind.{common_steps}
use Rattle.std.proofs.lemmas.Result.{err_from_is_err_and}
use Rattle.sat_base.specs.device.Reading.{source_of}
use Rattle.sat_base.proofs.lemmas.steps.StepReads.{flag_fails, flag_true}
use Rattle.sat_base.proofs.device.input.Input.flag.Goals as goal

pub returns-in_err-bit-clause-reads : goal.returns-in_err-bit-clause-reads
returns-in_err-bit-clause-reads g c = grind (arith, common_steps, err_from_is_err_and, flag_fails)

pub returns-clause-reads : goal.returns-clause-reads
returns-clause-reads g c = let S = source_of g.R.CountedRead.seen in flag_true c.in_ok-bit.bit (S c.args.self.now) (S c.number.new.self) c.if-bit-eq0.false c.in_ok-bit.ensures.reads
