use Rattle.std.proofs.Common.{arith}
use Rattle.std.proofs.lemmas.Grind.{common_steps}
use Rattle.sat_hints.proofs.lemmas.Putting.{put_three}
use Rattle.sat_hints.proofs.line_writer.LineWriter.put_removed.Goals as goal

pub returns : goal.returns
returns g c = grind (arith, common_steps, put_three)
