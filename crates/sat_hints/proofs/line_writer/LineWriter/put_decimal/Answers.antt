use Rattle.std.proofs.lemmas.Grind.{common_steps}
use Rattle.std.proofs.Common.{arith}
use Rattle.sat_base.proofs.lemmas.values.Decimals.{few_digits}
use Rattle.sat_hints.proofs.line_writer.LineWriter.put_decimal.Goals as goal

pub write_decimal-self-requires : goal.write_decimal-self-requires
write_decimal-self-requires g c = grind (arith, common_steps, few_digits)
