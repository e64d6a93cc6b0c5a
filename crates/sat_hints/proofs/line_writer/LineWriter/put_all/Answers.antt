use Rattle.std.proofs.Common.{◌+◌, ◌∷◌, [], drop, get_or}
use Rattle.std.proofs.lemmas.List.{drop_more}
use Rattle.sat_hints.specs.inner.LineWriting.{outlet}
use Rattle.sat_hints.proofs.lemmas.Putting.{so_far_more}
use Rattle.sat_hints.proofs.line_writer.LineWriter.put_all.Goals as goal

pub loop-byte-preserved : goal.loop-byte-preserved
loop-byte-preserved g c =
    let S = g.W.CountedWrite.seen in
    let i = c.loop-byte.byte-index in
    let bytes = c.args.bytes.now in
    so_far_more bytes (drop i bytes) (get_or bytes i 0 ∷ []) (drop (i + 1) bytes) (outlet S c.args.self.now) (outlet S c.loop-byte.self) (outlet S c.put.new.self) c.loop-byte.invariant (drop_more bytes i 0 c.loop-byte-test.true) c.put.ensures
