use Rattle.std.proofs.Common.{arith}
use Rattle.std.proofs.lemmas.Grind.{common_steps}
use Rattle.std.proofs.lemmas.List.{get_or_read}
use Rattle.sat_parts.proofs.lemmas.prop.PlaceLemmas.{pushed_by}
use Rattle.sat_parts.proofs.binary.push.Goals as goal

pub returns-clause-pushed : goal.returns-clause-pushed
returns-clause-pushed c = grind (arith, common_steps, get_or_read, pushed_by)
