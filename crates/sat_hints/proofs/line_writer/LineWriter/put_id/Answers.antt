use Rattle.std.proofs.Common.{◌≤◌, ◌+◌, ◌^◌, ◌∷◌, [], arith}
use Rattle.sat_hints.specs.Lines.{id_words}
use Rattle.sat_hints.specs.inner.LineWriting.{outlet}
use Rattle.sat_hints.proofs.lemmas.Putting.{put_same, past_all}
use Rattle.sat_hints.proofs.line_writer.LineWriter.put_id.Goals as goal

pub returns-in-None : goal.returns-in-None
returns-in-None g c =
    let S = g.W.CountedWrite.seen in
    let past : 2 ^ 64 ≤ c.args.id + 1 = omega (arith, c.in-None.ensures) in
    put_same _ (id_words (c.args.id ∷ [])) (outlet S c.args.self.now) (outlet S c.put_all.new.self) (past_all c.args.id (omega arith) past) c.put_all.ensures
