use Rattle.certify.proofs.lemmas.script.LastChunks.{line_number}
use Rattle.certify.proofs.script.reader.ScriptReader.line.Goals as goal

pub returns : goal.returns
returns c = line_number c.args.self.now c.line.result c.line.ensures
