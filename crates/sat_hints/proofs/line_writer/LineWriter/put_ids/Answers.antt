use Rattle.std.proofs.Common.{arith}
use Rattle.std.proofs.lemmas.Grind.{common_steps}
use Rattle.sat_hints.proofs.lemmas.Decimals.{text_waits}
use Rattle.sat_hints.proofs.line_writer.LineWriter.put_ids.Goals as goal

pub returns : goal.returns
returns g c = grind (arith, common_steps, text_waits)
