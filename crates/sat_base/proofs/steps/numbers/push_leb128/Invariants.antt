use Rattle.std.proofs.Common.{◌+◌, length}
use Rattle.sat_base.proofs.lemmas.steps.NumberBytes.{GroupsWait}
use Rattle.sat_base.proofs.steps.numbers.push_leb128.Given as goal

abbrev pub invariant-loop-rest : goal.invariant-loop-rest
invariant-loop-rest l = GroupsWait l.number l.rest l.fn.out.items l.out.items (length l.fn.out.items + 10)

abbrev pub decreases-loop-rest : goal.decreases-loop-rest
decreases-loop-rest l = l.rest
