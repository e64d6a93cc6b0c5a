use Rattle.std.proofs.Common.{◌≡◌, take}
use Rattle.sat_checker.specs.LiteralSets.{is_among}
use Rattle.certify.proofs.confirm.literals.is_in.Given as goal

abbrev pub invariant-loop-other : goal.invariant-loop-other
invariant-loop-other l = l.found ≡ is_among (take l.other-index l.lits) l.lit
