use Rattle.std.proofs.Common.{◌≡◌, ◌+◌, ◌*◌, ◌<◌, ◌++◌, take, vec_len, vec_capacity}
use Rattle.std.specs.List.{All}
use Rattle.sat_base.specs.values.Literals.{var_limit}
use Rattle.sat_store.proofs.clause.alloc.push_lits.Given as goal

abbrev pub invariant-loop-lit : goal.invariant-loop-lit
invariant-loop-lit l = (l.words.items ≡ l.fn.words.items ++ take l.lit-index l.lits) × (vec_len l.words ≡ vec_len l.fn.words + l.lit-index) × (vec_capacity l.words ≡ vec_capacity l.fn.words) × All (λ x. x < 2 * var_limit) (take l.lit-index l.lits)
