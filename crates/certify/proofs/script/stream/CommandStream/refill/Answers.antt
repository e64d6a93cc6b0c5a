use Rattle.std.proofs.Common.{arith}
use Rattle.std.proofs.lemmas.Grind.{common_steps}
use Rattle.std.proofs.lemmas.Result.{err_from_is_err_and}
use Rattle.certify.specs.script.LastPiece.{source_in}
use Rattle.certify.proofs.lemmas.script.LastChunks.{finishes_next, reads_chunk, reads_none, valid_account}
use Rattle.certify.proofs.lemmas.script.Streaming.{refill_ends}
use Rattle.certify.proofs.script.stream.CommandStream.refill.Goals as goal

pub returns-then-branch-eq0-clause-brings : goal.returns-then-branch-eq0-clause-brings
returns-then-branch-eq0-clause-brings g c = grind (arith, common_steps, refill_ends)

pub returns-clause-stops : goal.returns-clause-stops
returns-clause-stops g c start h =
    reads_chunk start c.in_ok-refill.field-0 (source_in g.S.CountedRead.seen c.args.script.now c.args.self.now.ahead) (source_in g.S.CountedRead.seen c.refill.new.reader c.refill.new.self) c.args.self.now.reader
    c.requires.waiting c.in_ok-refill.ensures.reads c.requires.looks_on c.in_ok-refill.ensures.last c.in_ok-refill.ensures.bytes h

pub returns-then-branch-eq0-clause-stops : goal.returns-then-branch-eq0-clause-stops
returns-then-branch-eq0-clause-stops g c start h =
    let S = g.S.CountedRead.seen in
    rw c.finish.ensures.ahead (finishes_next c.finish.result start (source_in S c.refill.new.reader c.refill.new.self) c.args.self.now.reader c.finish.new.self.reader c.finish.ensures.finishes c.finish.ensures.tokenizer
    (valid_account start (source_in S c.refill.new.reader c.refill.new.self) c.args.self.now.reader (reads_chunk start c.in_ok-refill.field-0 (source_in S c.args.script.now c.args.self.now.ahead) (source_in S c.refill.new.reader c.refill.new.self) c.args.self.now.reader
    c.requires.waiting c.in_ok-refill.ensures.reads c.requires.looks_on c.in_ok-refill.ensures.last c.in_ok-refill.ensures.bytes h)))

pub returns-in_err-refill-clause-stops : goal.returns-in_err-refill-clause-stops
returns-in_err-refill-clause-stops g c =
    let S = g.S.CountedRead.seen in
    let p = err_from_is_err_and c.from_residual.result c.from_residual.ensures.1 in
    rw p.1 (λ start h. reads_none start c.in_err-refill.field-0.0 (source_in S c.args.script.now c.args.self.now.ahead) (source_in S c.refill.new.reader c.refill.new.self) c.args.self.now.reader c.requires.waiting c.requires.looks_on c.in_err-refill.ensures.bytes h)
