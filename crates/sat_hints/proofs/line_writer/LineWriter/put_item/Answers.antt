use Rattle.std.proofs.lemmas.Grind.{common_steps}
use Rattle.std.proofs.Common.{arith}
use Rattle.sat_base.proofs.lemmas.values.Decimals.{few_digits, one_put}
use Rattle.sat_hints.proofs.lemmas.Decimals.{text_waits}
use Rattle.sat_hints.proofs.line_writer.LineWriter.put_item.Goals as goal

pub write_decimal-at-requires : goal.write_decimal-at-requires
write_decimal-at-requires g c = grind (arith, common_steps, few_digits)

pub bounds-self-at : goal.bounds-self-at
bounds-self-at g c = grind (arith, common_steps, few_digits)

pub returns : goal.returns
returns g c = grind (arith, common_steps, few_digits, one_put, text_waits)
