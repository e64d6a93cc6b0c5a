use Rattle.sat_base.proofs.lemmas.text.TextRuns.{none_over, over_ignores, open_looks}
use Rattle.sat_base.proofs.text.Tokenizer.is_over.Goals as goal

pub returns-in-Over-clause-over : goal.returns-in-Over-clause-over
returns-in-Over-clause-over c e = over_ignores c.args.self.now c.in-Over.is

pub returns-in-Over-clause-none : goal.returns-in-Over-clause-none
returns-in-Over-clause-none c e = none_over c.args.self.now c.in-Over.is

pub returns-in_default-clause-goes_on : goal.returns-in_default-clause-goes_on
returns-in_default-clause-goes_on c e = open_looks c.args.self.now c.in_default.not-Over
