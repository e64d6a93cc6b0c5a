use Rattle.std.proofs.lemmas.Grind.{common_steps}
use Rattle.std.proofs.Common.{arith}
use Rattle.sat_parts.proofs.lemmas.parts.LearnLemmas.{sound_unit}
use Rattle.sat_parts.proofs.parts.load.load_unit.Goals as goal

pub returns-clause-holds : goal.returns-clause-holds
returns-clause-holds c = grind (arith, common_steps, sound_unit)
