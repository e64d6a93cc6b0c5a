use Rattle.std.proofs.Common.{arith}
use Rattle.std.proofs.lemmas.Grind.{common_steps}
use Rattle.sat_solver.proofs.lemmas.assumptions.FailingLemmas.{core_below, cause_there, cause_clause, cause_some}
use Rattle.sat_solver.proofs.assumptions.failed_core.prepare_core.Goals as goal

pub map_lits-requires : goal.map_lits-requires
map_lits-requires c = grind (arith, common_steps, core_below)

pub name_reasons-requires-clause-there : goal.name_reasons-requires-clause-there
name_reasons-requires-clause-there c =
    let s = c.args.search.now in
    rw c.used.ensures (cause_there s.parts s.assumptions.lits.items s.failed c.requires.holds c.requires.failing s.analysis.core s.analysis.used c.requires.fails)

pub name_reasons-requires-clause-clause : goal.name_reasons-requires-clause-clause
name_reasons-requires-clause-clause c =
    let s = c.args.search.now in
    rw c.used.ensures (cause_clause s.parts s.assumptions.lits.items s.failed c.requires.holds c.requires.failing s.analysis.core s.analysis.used c.requires.fails)

pub name_reasons-requires-clause-some : goal.name_reasons-requires-clause-some
name_reasons-requires-clause-some c =
    let s = c.args.search.now in
    rw c.used.ensures (cause_some s.parts s.assumptions.lits.items s.failed c.requires.holds c.requires.failing s.analysis.core s.analysis.used c.requires.fails)
