use Rattle.std.proofs.lemmas.Grind.{common_steps}
use Rattle.std.proofs.Common.{arith}
use Rattle.sat_base.proofs.lemmas.values.Decimals.{more_length, after_pair}
use Rattle.sat_base.proofs.decimal.+write_long.Goals as goal

pub write_long-at-requires : goal.write_long-at-requires
write_long-at-requires t c = grind (arith, common_steps, more_length)

pub write_pair-requires-clause-room : goal.write_pair-requires-clause-room
write_pair-requires-clause-room t c = grind (arith, common_steps, more_length)

pub returns-clause-end : goal.returns-clause-end
returns-clause-end t c = grind (arith, common_steps, more_length)

pub returns-clause-text : goal.returns-clause-text
returns-clause-text t c =
    after_pair c.args.bytes.now c.write_long-at.new.bytes c.write_pair.new.bytes c.args.len c.write_long-at.result c.args.number (omega arith) c.ranges.number.fits c.write_long-at.ensures.text c.write_pair.ensures.text
