use Rattle.std.proofs.Common.{arith}
use Rattle.std.proofs.lemmas.Grind.{common_steps}
use Rattle.sat_base.proofs.lemmas.device.ReadLemmas.{passes_none, took_text}
use Rattle.sat_base.proofs.device.input.Input.number.Goals as goal

pub returns-in-Some-clause-reads : goal.returns-in-Some-clause-reads
returns-in-Some-clause-reads g c = grind (arith, common_steps, passes_none, took_text)
