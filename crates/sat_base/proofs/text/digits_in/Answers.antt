use Rattle.std.proofs.Common.{arith}
use Rattle.sat_base.specs.declared.text.Place.TheVariants as at
use Rattle.sat_base.proofs.lemmas.text.SeveralBytes.{moves_further_digit}
use Rattle.sat_base.proofs.text.digits_in.Goals as goal

pub loop-count-preserved : goal.loop-count-preserved
loop-count-preserved c = λ negative.
    let m = moves_further_digit (at.Digits negative c.args.value) negative c.loop-count.value c.args.bytes.now c.loop-count.count (omega arith) (cc) (c.loop-count.invariant negative) in
    rw c.with_digit-value.ensures m
