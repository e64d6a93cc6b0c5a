use Rattle.certify.proofs.lemmas.script.Bytes.{counts_first, means_first}
use Rattle.certify.proofs.lemmas.script.LastChunks.{consumed_first}
use Rattle.certify.proofs.script.reader.ScriptReader.new.Goals as goal

pub returns-clause-text : goal.returns-clause-text
returns-clause-text c = consumed_first c.new.result c.new-2.result c.new.ensures c.new-2.ensures.draft

pub returns-clause-counts : goal.returns-clause-counts
returns-clause-counts c = counts_first c.new.result c.new-2.result c.new.ensures c.new-2.ensures.draft

pub returns-clause-means : goal.returns-clause-means
returns-clause-means c = means_first c.new.result c.new-2.result c.new.ensures c.new-2.ensures.draft c.new-2.ensures.headed c.new-2.ensures.asked
