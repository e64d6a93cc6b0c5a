use Rattle.std.proofs.Common.{arith}
use Rattle.certify.proofs.lemmas.judge.Taken.{known_next}
use Rattle.certify.proofs.refusals.names.Names.are_known.Goals as goal

pub loop-lit-preserved : goal.loop-lit-preserved
loop-lit-preserved c j h rest =
    c.loop-lit.invariant j h (known_next c.args.self.now j c.args.literals.now c.loop-lit.lit-index c.lit-item.result c.var.result h (omega arith) c.lit-item.is c.var.ensures (c.is_in_use.ensures c.if-not-is_in_use.false) rest)
