use Rattle.std.proofs.lemmas.Grind.{common_steps}
use Rattle.std.proofs.Common.{arith}
use Rattle.std.proofs.lemmas.List.{get_or_default, length-set}
use Rattle.sat_solver.proofs.lemmas.unit_simplify.FreeingLemmas.{freed_all, freed_first, freed_skipped, same_without}
use Rattle.sat_solver.proofs.unit_simplify.free_vars.free_unmarked.Goals as goal

pub loop-index-preserved-then-index : goal.loop-index-preserved-then-index
loop-index-preserved-then-index c = grind (arith, common_steps, get_or_default, freed_skipped)

pub loop-index-preserved : goal.loop-index-preserved
loop-index-preserved c = grind (arith, common_steps, get_or_default, length-set, freed_first, same_without)

pub returns : goal.returns
returns c = freed_all c.args.used.now.items c.loop-index.index c.args.parts.now c.loop-index.parts (omega (arith, c.loop-index-test.false)) c.loop-index.invariant.left
