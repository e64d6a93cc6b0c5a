use Rattle.sat_parts.proofs.lemmas.prop.WordLemmas.{words_rise}
use Rattle.sat_parts.proofs.laws.trail_words_increase.Goals as goal

pub returns : goal.returns
returns c = words_rise
