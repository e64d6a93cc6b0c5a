use Rattle.sat_base.proofs.lemmas.text.TextRuns.{ended}
use Rattle.sat_base.proofs.text.Tokenizer.finish.Goals as goal

pub returns : goal.returns
returns c = ended c.args.self.now c.token_in.result c.token_in.ensures
