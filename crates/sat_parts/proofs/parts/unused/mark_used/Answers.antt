use Rattle.std.proofs.lemmas.Grind.{common_steps}
use Rattle.std.proofs.Common.{arith}
use Rattle.sat_parts.proofs.lemmas.parts.GrowLemmas.{nothing_reads}
use Rattle.sat_parts.proofs.parts.unused.mark_used.Goals as goal

pub mark_all-requires-clause-none : goal.mark_all-requires-clause-none
mark_all-requires-clause-none c = grind (arith, common_steps, nothing_reads)
