use Rattle.std.proofs.Common.{ℕ, ◌∷◌, [], ap}
use Rattle.sat_hints.specs.Lines.{id_words}
use Rattle.sat_hints.specs.inner.LineWriting.{outlet}
use Rattle.sat_hints.proofs.lemmas.Putting.{put_same, put_three}
use Rattle.sat_hints.proofs.line_writer.LineWriter.put_fresh.Goals as goal

pub returns : goal.returns
returns g c =
    let S = g.W.CountedWrite.seen in
    put_three (101 ∷ 32 ∷ []) (id_words (c.args.var ∷ [])) (48 ∷ 10 ∷ []) (outlet S c.args.self.now) (outlet S c.put_all.new.self) (outlet S c.put_id.new.self) (outlet S c.put_all-2.new.self) c.put_all.ensures
    (put_same (id_words (c.index.result ∷ [])) (id_words (c.args.var ∷ [])) (outlet S c.put_all.new.self) (outlet S c.put_id.new.self) (ap (λ (n : ℕ). id_words (n ∷ [])) c.index.ensures.value) c.put_id.ensures) c.put_all-2.ensures
