use Rattle.std.proofs.Common.{arith}
use Rattle.certify.proofs.lemmas.confirm.LiteralSets.{among_next}
use Rattle.certify.proofs.confirm.literals.is_in.Goals as goal

pub loop-other-preserved : goal.loop-other-preserved
loop-other-preserved c = among_next c.args.lits.now c.loop-other.other-index c.other-item.result c.args.lit c.loop-other.found c.eq-found.result (omega arith) c.other-item.is c.eq-found.ensures c.loop-other.invariant
