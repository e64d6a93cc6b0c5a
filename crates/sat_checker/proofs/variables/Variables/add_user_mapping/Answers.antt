use Rattle.std.proofs.Common.{arith}
use Rattle.std.proofs.lemmas.Grind.{common_steps}
use Rattle.sat_checker.proofs.lemmas.variables.Keeping.{named_kept, match_true}
use Rattle.sat_checker.proofs.variables.Variables.add_user_mapping.Goals as goal

pub returns-clause-answers : goal.returns-clause-answers
returns-clause-answers c = grind (arith, common_steps, named_kept, match_true)
