use Rattle.std.proofs.Common.{arith}
use Rattle.std.proofs.lemmas.Grind.{common_steps}
use Rattle.std.proofs.lemmas.Bool.{ne_eqb}
use Rattle.std.proofs.lemmas.List.{length-reverse}
use Rattle.sat_checker.proofs.lemmas.sets.Parts.{same_set, other_length}
use Rattle.sat_checker.proofs.lemmas.sets.Trails.{once_trail}
use Rattle.sat_checker.proofs.units.valuation.has_just_assumed.Goals as goal

pub returns-then-clause-assumed : goal.returns-then-clause-assumed
returns-then-clause-assumed c = grind (arith, common_steps, length-reverse, same_set, once_trail)

pub returns-else-clause-assumed : goal.returns-else-clause-assumed
returns-else-clause-assumed c = grind (arith, common_steps, ne_eqb, length-reverse, other_length, once_trail)
