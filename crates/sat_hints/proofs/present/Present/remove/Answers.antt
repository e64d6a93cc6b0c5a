use Rattle.sat_hints.proofs.lemmas.Listed.{loses_further}
use Rattle.std.proofs.lemmas.Result.{on_ok_weaker}
use Rattle.sat_hints.proofs.present.Present.remove.Goals as goal

pub returns : goal.returns
returns c = on_ok_weaker c.compact_if_sparse.result (λ k. loses_further c.args.self.now c.take_out.new.self c.compact_if_sparse.new.self _ c.take_out.ensures k) c.compact_if_sparse.ensures
