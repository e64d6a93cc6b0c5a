use Rattle.std.proofs.Common.{arith}
use Rattle.std.proofs.lemmas.Grind.{common_steps}
use Rattle.sat_solver.proofs.lemmas.analyze_conflict.TwoParts.{hash_both}
use Rattle.sat_solver.proofs.proof.map_step.causes_hash.Goals as goal

pub returns : goal.returns
returns c = grind (arith, common_steps, hash_both)
