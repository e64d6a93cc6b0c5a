use Rattle.std.proofs.Common.{arith}
use Rattle.std.proofs.lemmas.Grind.{common_steps}
use Rattle.sat_checker.proofs.lemmas.store.Filing.{files_all}
use Rattle.sat_checker.proofs.store.clauses.drop_removed.Goals as goal

pub returns-clause-filed : goal.returns-clause-filed
returns-clause-filed c = grind (arith, common_steps, files_all)
