use Rattle.std.proofs.Common.{arith}
use Rattle.sat_base.proofs.lemmas.values.Decimals.{few_digits}
use Rattle.sat_base.proofs.device.output.Output.put_decimal.Goals as goal

pub write_decimal-end-requires : goal.write_decimal-end-requires
write_decimal-end-requires g c = omega (arith, few_digits c.args.number c.ranges.number.fits)
