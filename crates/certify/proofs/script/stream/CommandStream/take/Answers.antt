use Rattle.certify.specs.script.LastPiece.{waiting_bytes}
use Rattle.certify.proofs.lemmas.script.Streaming.{take_parts}
use Rattle.certify.proofs.script.stream.CommandStream.take.Goals as goal

pub returns : goal.returns
returns c =
    let p = take_parts c.in_ok-count.reached c.args.self.now.reader c.push.new.self c.waiting.result.now (waiting_bytes c.args.self.now.ahead) (waiting_bytes c.consume.new.self) c.in_ok-count.count c.waiting.ensures c.in_ok-count.ensures.within c.in_ok-count.ensures.some c.consume.ensures.waiting c.in_ok-count.ensures.takes c.in_ok-count.ensures.text in
    (p.0, p.1, c.consume.ensures.reads, p.2, p.3, p.4)
