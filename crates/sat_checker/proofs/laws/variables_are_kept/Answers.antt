use Rattle.sat_checker.proofs.lemmas.meaning.Names.{named_is_known, known_stays, deleted_is_nameless, names_apart, unknown_is_unknown, deletion_is_seen}
use Rattle.sat_checker.proofs.laws.variables_are_kept.Goals as goal

pub returns : goal.returns
returns c = record { named = named_is_known; stays = known_stays; nameless = deleted_is_nameless; apart = names_apart; unknowns = unknown_is_unknown; deletion = deletion_is_seen }
