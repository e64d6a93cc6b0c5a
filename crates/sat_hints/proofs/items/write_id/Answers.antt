use Rattle.std.proofs.lemmas.Grind.{common_steps}
use Rattle.std.proofs.Common.{arith}
use Rattle.sat_base.proofs.lemmas.values.Decimals.{few_digits}
use Rattle.sat_hints.proofs.lemmas.Decimals.{text_put}
use Rattle.sat_hints.proofs.items.write_id.Goals as goal

pub write_decimal-end-requires : goal.write_decimal-end-requires
write_decimal-end-requires c = grind (arith, common_steps, few_digits)

pub bounds-bytes-end : goal.bounds-bytes-end
bounds-bytes-end c = grind (arith, common_steps, few_digits)

pub returns-clause-within : goal.returns-clause-within
returns-clause-within c = grind (arith, common_steps, few_digits)

pub returns-clause-text : goal.returns-clause-text
returns-clause-text c = grind (arith, common_steps, few_digits, text_put)
