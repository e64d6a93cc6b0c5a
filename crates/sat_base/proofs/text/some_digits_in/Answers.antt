use Rattle.sat_base.proofs.lemmas.text.ShortNumbers.{moves_short, moves_short_after_minus}
use Rattle.sat_base.proofs.text.some_digits_in.Goals as goal

pub returns-in-Some-clause-plain : goal.returns-in-Some-clause-plain
returns-in-Some-clause-plain c = moves_short c.args.bytes.now c.in-Some.value c.in-Some.count c.in-Some.ensures

pub returns-in-Some-clause-negative : goal.returns-in-Some-clause-negative
returns-in-Some-clause-negative c = moves_short_after_minus c.args.bytes.now c.in-Some.value c.in-Some.count c.in-Some.ensures
