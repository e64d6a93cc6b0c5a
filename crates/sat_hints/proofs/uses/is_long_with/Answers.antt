use Rattle.std.proofs.lemmas.Grind.{common_steps}
use Rattle.std.proofs.Common.{arith}
use Rattle.sat_hints.proofs.lemmas.Counting.{not_long, counted_where}
use Rattle.sat_hints.proofs.uses.is_long_with.Goals as goal

pub returns-then-clause-lt2 : goal.returns-then-clause-lt2
returns-then-clause-lt2 c = grind (arith, common_steps, not_long)

pub returns : goal.returns
returns c = counted_where c.args.var c.args.clause.now c.mentions.result c.if-clause-lt2.false c.mentions.ensures
