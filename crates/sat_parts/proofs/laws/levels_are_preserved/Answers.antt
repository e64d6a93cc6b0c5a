use Rattle.sat_parts.proofs.lemmas.prop.WordLemmas.{levels_stay}
use Rattle.sat_parts.proofs.laws.levels_are_preserved.Goals as goal

pub returns : goal.returns
returns c = levels_stay
