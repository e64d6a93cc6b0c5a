use Rattle.std.proofs.Common.{arith}
use Rattle.std.proofs.lemmas.Grind.{common_steps}
use Rattle.sat_hints.proofs.lemmas.Putting.{so_far_more, next_number}
use Rattle.sat_hints.proofs.line_writer.LineWriter.put_each_id.Goals as goal

pub loop-id-preserved : goal.loop-id-preserved
loop-id-preserved g c = grind (arith, common_steps, so_far_more, next_number)
