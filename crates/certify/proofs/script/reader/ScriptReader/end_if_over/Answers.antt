use Rattle.certify.specs.script.Commands.{end_reading_if}
use Rattle.certify.proofs.lemmas.script.Bytes.{ends_over}
use Rattle.certify.proofs.script.reader.ScriptReader.end_if_over.Goals as goal

pub returns-then-is_over : goal.returns-then-is_over
returns-then-is_over c asks before m rest =
    ends_over asks c.args.self.now before (end_reading_if asks c.ending.result) (c.is_over.ensures.over c.if-is_over.true) (c.is_over.ensures.none c.if-is_over.true) m (c.ending.ensures asks) rest

pub returns : goal.returns
returns c = c.is_over.ensures.goes_on c.if-is_over.false
