use Rattle.std.proofs.Common.{arith}
use Rattle.std.proofs.lemmas.Grind.{common_steps}
use Rattle.sat_checker.proofs.lemmas.store.Dropping.{gone_stored}
use Rattle.sat_checker.proofs.lemmas.store.Kept.{where_ok}
use Rattle.sat_checker.proofs.store.clauses.Clauses.push.Goals as goal

pub invariant_of-self-else-is_err : goal.invariant_of-self-else-is_err
invariant_of-self-else-is_err c = grind (arith, common_steps, gone_stored, where_ok)
