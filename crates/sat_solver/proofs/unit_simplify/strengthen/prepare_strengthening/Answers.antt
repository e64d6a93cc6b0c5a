use Rattle.std.proofs.Common.{arith}
use Rattle.std.proofs.lemmas.Grind.{common_steps}
use Rattle.std.proofs.lemmas.List.{take-map}
use Rattle.sat_solver.proofs.lemmas.unit_simplify.GatherLemmas.{front_open}
use Rattle.sat_solver.proofs.unit_simplify.strengthen.prepare_strengthening.Goals as goal

pub gather_open-len-requires-clause-front : goal.gather_open-len-requires-clause-front
gather_open-len-requires-clause-front c = front_open c.args.search.now.parts c.args.cref c.requires.holds c.requires.live c.requires.flat c.requires.none

pub returns-clause-named : goal.returns-clause-named
returns-clause-named c = grind (arith, common_steps, take-map)
