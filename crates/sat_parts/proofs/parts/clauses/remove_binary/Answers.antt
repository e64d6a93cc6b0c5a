use Rattle.std.proofs.lemmas.Grind.{common_steps}
use Rattle.std.proofs.Common.{arith}
use Rattle.sat_parts.proofs.lemmas.parts.WordSteps.{extends_refl}
use Rattle.sat_parts.proofs.lemmas.parts.FewerLemmas.{sound_removed}
use Rattle.sat_parts.proofs.parts.clauses.remove_binary.Goals as goal

pub returns : goal.returns
returns c = grind (arith, common_steps, extends_refl, sound_removed)
