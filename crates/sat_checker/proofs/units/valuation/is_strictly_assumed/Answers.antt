use Rattle.std.proofs.lemmas.Grind.{common_steps}
use Rattle.std.proofs.Common.{arith}
use Rattle.std.proofs.lemmas.List.{length-reverse}
use Rattle.sat_checker.proofs.lemmas.sets.Marks.{once}
use Rattle.sat_checker.proofs.lemmas.sets.Parts.{strict_part, no_strict_part, not_less}
use Rattle.sat_checker.proofs.lemmas.sets.Trails.{once_trail}
use Rattle.sat_checker.proofs.units.valuation.is_strictly_assumed.Goals as goal

pub returns-then-clause-assumed : goal.returns-then-clause-assumed
returns-then-clause-assumed c = grind (arith, common_steps, length-reverse, once, strict_part, once_trail)

pub returns-else-clause-assumed : goal.returns-else-clause-assumed
returns-else-clause-assumed c = grind (arith, common_steps, length-reverse, once, no_strict_part, not_less)
