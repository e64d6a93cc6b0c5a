use Rattle.std.proofs.Common.{take}
use Rattle.certify.specs.confirm.SpeltLiterals.{AllAmong, Decides}
use Rattle.certify.proofs.confirm.literals.are_all_in.Given as goal

-- the flag says whether all literals so far are among the others
abbrev pub invariant-loop-lit : goal.invariant-loop-lit
invariant-loop-lit l = Decides l.all (AllAmong (take l.lit-index l.literals) l.others)
