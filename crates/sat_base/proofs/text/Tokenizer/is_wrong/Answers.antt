use Rattle.sat_base.proofs.lemmas.text.RightWords.{right_ahead, wrong_line, wrong_word}
use Rattle.sat_base.proofs.text.Tokenizer.is_wrong.Goals as goal

pub returns-in-Bad-clause-wrong : goal.returns-in-Bad-clause-wrong
returns-in-Bad-clause-wrong c e = wrong_word c.args.self.now c.in-Bad.is

pub returns-in-WrongHeader-clause-wrong : goal.returns-in-WrongHeader-clause-wrong
returns-in-WrongHeader-clause-wrong c e = wrong_line c.args.self.now c.in-WrongHeader.is

pub returns-in_default-clause-right : goal.returns-in_default-clause-right
returns-in_default-clause-right c e = right_ahead c.args.self.now c.in_default.not-Bad c.in_default.not-WrongHeader
