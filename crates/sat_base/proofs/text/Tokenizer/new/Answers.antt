use Rattle.sat_base.proofs.lemmas.text.TextRuns.{stands_first}
use Rattle.sat_base.proofs.text.Tokenizer.new.Goals as goal

pub returns : goal.returns
returns c = stands_first
