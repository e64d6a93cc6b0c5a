use Rattle.std.proofs.Common.{arith}
use Rattle.sat_store.proofs.lemmas.variables.CodeLemmas.{code_put, decoded_more}
use Rattle.sat_store.proofs.var_map.put.Goals as goal

pub returns-clause-put : goal.returns-clause-put
returns-clause-put c = rw (c.index-index.ensures.value, c.index.ensures.value) (code_put _ _ _ _ _ (decoded_more _) c.loop-new.invariant.0 (omega arith))
