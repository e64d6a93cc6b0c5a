use Rattle.sat_base.proofs.lemmas.text.TextRuns.{line_fresh, line_other}
use Rattle.sat_base.proofs.text.Tokenizer.line.Goals as goal

pub returns-in-Fresh : goal.returns-in-Fresh
returns-in-Fresh c = line_fresh c.args.self.now c.in-Fresh.field-0 c.in-Fresh.is

pub returns-in_default : goal.returns-in_default
returns-in_default c = line_other c.args.self.now c.saturating_add.result c.in_default.not-Fresh c.saturating_add.ensures
