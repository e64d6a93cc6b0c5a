use Rattle.sat_hints.proofs.lemmas.Finished.{lent_text}
use Rattle.sat_hints.proofs.converting.convert.Goals as goal

pub returns : goal.returns
returns g c = lent_text g.W.CountedWrite.seen c.args.out.now _ c.into_writer-out.result c.new-lines.result c.write_text-result.new.lines _ c.write_text-result.result _ _ c.out-1.given.1 c.new-lines.ensures.writer c.into_writer-out.ensures c.write_text-result.ensures
