use Rattle.std.proofs.Common.{◌∷◌, []}
use Rattle.sat_hints.specs.Lines.{id_words, literal_words}
use Rattle.sat_hints.specs.inner.LineWriting.{outlet}
use Rattle.sat_hints.proofs.lemmas.Putting.{put_four}
use Rattle.sat_hints.proofs.line_writer.LineWriter.put_both.Goals as goal

pub returns : goal.returns
returns g c =
    let S = g.W.CountedWrite.seen in
    put_four (literal_words c.args.literals.now) (48 ∷ 32 ∷ []) (id_words c.args.ids.now) (48 ∷ 10 ∷ []) (outlet S c.args.self.now) (outlet S c.put_literals.new.self) (outlet S c.put_all.new.self) (outlet S c.put_ids.new.self) (outlet S c.put_all-2.new.self)
    c.put_literals.ensures c.put_all.ensures c.put_ids.ensures c.put_all-2.ensures
