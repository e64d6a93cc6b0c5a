use Rattle.std.proofs.lemmas.Grind.{common_steps}
use Rattle.std.proofs.Common.{arith}
use Rattle.std.proofs.lemmas.List.{length-set}
use Rattle.sat_base.proofs.lemmas.values.Decimals.{few_digits}
use Rattle.sat_hints.proofs.lemmas.Decimals.{text_put}
use Rattle.sat_hints.proofs.lemmas.Items.{largest_text}
use Rattle.sat_hints.proofs.items.write_largest.Goals as goal

pub write_decimal-end-requires : goal.write_decimal-end-requires
write_decimal-end-requires c = let few = few_digits 1844674407370955161 (omega arith) in omega (arith, few, c.requires)

pub bounds-bytes-end : goal.bounds-bytes-end
bounds-bytes-end c = let few = few_digits 1844674407370955161 (omega arith) in omega (arith, few, c.requires, c.write_decimal-end.ensures.end, c.write_decimal-end.ensures.same)

pub bounds-bytes-end-2 : goal.bounds-bytes-end-2
bounds-bytes-end-2 c = grind (arith, common_steps, length-set, few_digits)

pub returns-clause-within : goal.returns-clause-within
returns-clause-within c = let few = few_digits 1844674407370955161 (omega arith) in omega (arith, few, c.write_decimal-end.ensures.end)

pub returns-clause-text : goal.returns-clause-text
returns-clause-text c = grind (arith, common_steps, length-set, few_digits, text_put, largest_text)
