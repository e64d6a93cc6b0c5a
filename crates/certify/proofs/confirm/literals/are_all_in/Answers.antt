use Rattle.std.proofs.Common.{arith}
use Rattle.certify.proofs.lemmas.confirm.LiteralSets.{all_next}
use Rattle.certify.proofs.confirm.literals.are_all_in.Goals as goal

pub loop-lit-preserved : goal.loop-lit-preserved
loop-lit-preserved c = all_next c.args.literals.now c.args.others.now c.loop-lit.lit-index c.lit-item.result c.loop-lit.all c.is_in-all.result (omega arith) c.lit-item.is c.is_in-all.ensures c.loop-lit.invariant
