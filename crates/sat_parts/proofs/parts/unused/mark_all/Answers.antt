use Rattle.std.proofs.lemmas.Grind.{common_steps}
use Rattle.std.proofs.Common.{arith}
use Rattle.sat_parts.proofs.lemmas.parts.MarkLemmas.{unmarked, marked_none}
use Rattle.sat_parts.proofs.parts.unused.mark_all.Goals as goal

pub returns-clause-unused : goal.returns-clause-unused
returns-clause-unused c = grind (arith, common_steps, unmarked)

pub returns-clause-others : goal.returns-clause-others
returns-clause-others c = grind (arith, common_steps, marked_none)
