use Rattle.std.proofs.Common.{sym}
use Rattle.sat_checker.proofs.lemmas.sets.Rising.{canonical_stays}
use Rattle.sat_hints.proofs.line_checking.sorted_set.Goals as goal

pub returns-then-is_strictly_increasing : goal.returns-then-is_strictly_increasing
returns-then-is_strictly_increasing c = sym (canonical_stays c.args.literals.now (c.is_strictly_increasing.ensures.0 c.if-is_strictly_increasing.true))
