use Rattle.std.proofs.Common.{◌+◌, arith}
use Rattle.sat_base.proofs.lemmas.values.Decimals.{few_digits}
use Rattle.certify.proofs.answers.write.push_literal.Goals as goal

pub write_decimal-end-requires : goal.write_decimal-end-requires
write_decimal-end-requires c = omega (arith, few_digits (c.index.result + 1) (omega (arith, c.index.ensures.bound)))
