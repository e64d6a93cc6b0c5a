use Rattle.std.proofs.Common.{arith}
use Rattle.std.proofs.lemmas.Grind.{common_steps}
use Rattle.certify.proofs.lemmas.script.Tokens.{zero_taken}
use Rattle.certify.proofs.script.commands.Commands.end_command.Goals as goal

pub returns : goal.returns
returns c = grind (arith, common_steps, zero_taken)
