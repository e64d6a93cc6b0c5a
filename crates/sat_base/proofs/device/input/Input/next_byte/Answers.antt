use Rattle.std.proofs.Common.{arith}
use Rattle.std.proofs.lemmas.Grind.{common_steps}
use Rattle.sat_base.proofs.lemmas.device.ReadLemmas.{passes_none, took_text}
use Rattle.sat_base.proofs.device.input.Input.next_byte.Goals as goal

pub returns-then-self-clause-reads : goal.returns-then-self-clause-reads
returns-then-self-clause-reads g c = grind (arith, common_steps, passes_none, took_text)
