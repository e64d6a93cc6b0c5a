use Rattle.std.proofs.Common.{arith}
use Rattle.std.proofs.lemmas.Grind.{common_steps}
use Rattle.sat_checker.proofs.lemmas.store.Ids.{numbered_absent, numbered_gone}
use Rattle.sat_checker.proofs.store.clauses.Clauses.place_of.Goals as goal

pub returns-in_err-place-clause-absent : goal.returns-in_err-place-clause-absent
returns-in_err-place-clause-absent c = grind (arith, common_steps, numbered_absent)

pub returns-then-is_removed-clause-absent : goal.returns-then-is_removed-clause-absent
returns-then-is_removed-clause-absent c = grind (arith, common_steps, numbered_gone)
