use Rattle.std.proofs.Common.{arith}
use Rattle.std.proofs.lemmas.Grind.{common_steps}
use Rattle.sat_base.proofs.lemmas.text.SeveralBytes.{follows_by}
use Rattle.sat_base.proofs.text.Tokenizer.push_number.Goals as goal

pub returns-clause-takes : goal.returns-clause-takes
returns-clause-takes c = grind (arith, common_steps, follows_by)
