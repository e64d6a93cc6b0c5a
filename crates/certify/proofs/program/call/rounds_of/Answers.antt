use Rattle.std.proofs.Common.{arith}
use Rattle.std.proofs.lemmas.Grind.{common_steps}
use Rattle.certify.proofs.lemmas.program.Words.{all_digits, no_digit, rounds_parsed}
use Rattle.certify.proofs.program.call.rounds_of.Goals as goal

pub returns-then-not-is_ascii_digit : goal.returns-then-not-is_ascii_digit
returns-then-not-is_ascii_digit c = grind (arith, common_steps, no_digit)

pub returns : goal.returns
returns c = grind (arith, common_steps, all_digits, rounds_parsed)
