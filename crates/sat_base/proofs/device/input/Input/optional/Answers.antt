use Rattle.std.proofs.lemmas.Grind.{common_steps}
use Rattle.std.proofs.Common.{arith}
use Rattle.std.proofs.lemmas.Result.{err_from_is_err_and}
use Rattle.sat_base.specs.device.Reading.{source_of}
use Rattle.sat_base.proofs.lemmas.steps.StepReads.{optional_fails, optional_some}
use Rattle.sat_base.proofs.device.input.Input.optional.Goals as goal

pub returns-in_err-above-clause-reads : goal.returns-in_err-above-clause-reads
returns-in_err-above-clause-reads g c = grind (arith, common_steps, err_from_is_err_and, optional_fails)

pub returns-clause-reads : goal.returns-clause-reads
returns-clause-reads g c = let S = source_of g.R.CountedRead.seen in optional_some c.in_ok-above.above c.from_index.result (S c.args.self.now) (S c.number.new.self) (omega (arith, c.from_index.ensures)) c.in_ok-above.ensures.reads
