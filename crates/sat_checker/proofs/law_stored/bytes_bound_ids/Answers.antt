use Rattle.sat_checker.proofs.lemmas.invariants.FewBytes.{ids_within_bytes, none_is_spent}
use Rattle.sat_checker.proofs.law_stored.bytes_bound_ids.Goals as goal

pub returns : goal.returns
returns c = record { ids = ids_within_bytes; spent = none_is_spent }
