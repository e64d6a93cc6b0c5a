use Rattle.std.proofs.lemmas.Grind.{common_steps}
use Rattle.std.proofs.Common.{arith}
use Rattle.std.proofs.lemmas.Bool.Decides.{nat_tests}
use Rattle.sat_base.proofs.lemmas.text.TextRuns.{takes_byte, takes_blank, quiet_after}
use Rattle.sat_base.proofs.lemmas.text.RightWords.{right_after}
use Rattle.sat_base.proofs.text.Tokenizer.push.Goals as goal

pub returns-then-is_digit-clause-takes : goal.returns-then-is_digit-clause-takes
returns-then-is_digit-clause-takes c =
    takes_byte c.args.self.now c.args.byte c.number_continues-self.result (rw c.in-Digits.is c.number_continues-self.ensures)

pub returns-then-not-is_blank-clause-takes : goal.returns-then-not-is_blank-clause-takes
returns-then-not-is_blank-clause-takes c = takes_byte c.args.self.now c.args.byte c.next-self.result c.next-self.ensures

pub returns-clause-takes : goal.returns-clause-takes
returns-clause-takes c = grind (arith, common_steps, nat_tests, takes_blank)

pub returns-clause-quiet : goal.returns-clause-quiet
returns-clause-quiet c blank = quiet_after _ c.after_blank-self.ensures.quiet

pub returns-clause-right : goal.returns-clause-right
returns-clause-right c blank = right_after _ c.after_blank-self.ensures.quiet
