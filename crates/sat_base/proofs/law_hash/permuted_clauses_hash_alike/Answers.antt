use Rattle.sat_base.proofs.lemmas.values.HashLemmas.{hash_permuted}
use Rattle.sat_base.proofs.law_hash.permuted_clauses_hash_alike.Goals as goal

pub returns : goal.returns
returns c = hash_permuted
