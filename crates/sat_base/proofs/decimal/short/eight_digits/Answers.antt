use Rattle.sat_base.proofs.lemmas.text.EightBytes.{eight_value}
use Rattle.sat_base.proofs.decimal.short.eight_digits.Goals as goal

pub returns : goal.returns
returns c = λ ds are is. eight_value ds c.args.digits are is
