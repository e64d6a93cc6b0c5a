use Rattle.std.proofs.Common.{None}
use Rattle.sat_parts.proofs.lemmas.prop.MirrorLemmas.{mirrors_set}
use Rattle.sat_parts.proofs.prop.assignment.lose_value.Goals as goal

pub returns-clause-mirrors : goal.returns-clause-mirrors
returns-clause-mirrors c = mirrors_set c.args.values.now c.args.codes.now c.args.index None c.requires.mirrors c.requires.below
