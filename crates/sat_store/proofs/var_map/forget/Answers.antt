use Rattle.std.proofs.Common.{◌<◌, length, refl, arith}
use Rattle.sat_store.proofs.lemmas.variables.CodeLemmas.{code_put}
use Rattle.sat_store.proofs.var_map.forget.Goals as goal

pub returns-then-index-codes-clause-put : goal.returns-then-index-codes-clause-put
returns-then-index-codes-clause-put c =
    let within : c.args.from < length c.args.codes.now = omega (arith, c.if-index-codes.true, c.index-index.ensures.value) in
    rw c.index-index.ensures.value (code_put _ _ _ 0 _ refl (λ v. refl) within)
