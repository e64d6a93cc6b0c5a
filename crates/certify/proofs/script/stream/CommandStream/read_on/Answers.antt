use Rattle.certify.specs.script.LastPiece.{source_in}
use Rattle.certify.proofs.lemmas.script.LastChunks.{valid_account}
use Rattle.certify.proofs.lemmas.script.Streaming.{brings_over}
use Rattle.certify.proofs.script.stream.CommandStream.read_on.Goals as goal

pub returns-in-Some-clause-brings : goal.returns-in-Some-clause-brings
returns-in-Some-clause-brings g c =
    let self = c.args.self.now in
    brings_over (source_in g.S.CountedRead.seen c.args.script.now self.ahead) self.reader c.in-Some.end c.requires.open_yet c.in-Some.ensures

pub returns-in-Some-clause-stops : goal.returns-in-Some-clause-stops
returns-in-Some-clause-stops g c start h = valid_account start (source_in g.S.CountedRead.seen c.args.script.now c.args.self.now.ahead) c.args.self.now.reader h
