use Rattle.std.proofs.lemmas.Grind.{common_steps}
use Rattle.std.proofs.Common.{arith}
use Rattle.sat_hints.proofs.lemmas.Counting.{kept_gone, kept_none, kept_some, times_whole}
use Rattle.sat_hints.proofs.uses.is_in_long.Goals as goal

pub loop-place-preserved-then-is_removed : goal.loop-place-preserved-then-is_removed
loop-place-preserved-then-is_removed c = grind (arith, common_steps, kept_gone)

pub returns-then-is_long_with : goal.returns-then-is_long_with
returns-then-is_long_with c = grind (arith, common_steps, kept_some)

pub loop-place-preserved : goal.loop-place-preserved
loop-place-preserved c = grind (arith, common_steps, kept_none)

pub returns : goal.returns
returns c = grind (arith, common_steps, times_whole)
