use Rattle.sat_solver.proofs.lemmas.fits.StepLemmas.{used_clause, conflict_clause}
use Rattle.sat_solver.proofs.cdcl.learn.prepare_learned.Goals as goal

pub name_clauses-requires-clause-clause : goal.name_clauses-requires-clause-clause
name_clauses-requires-clause-clause c =
    rw c.used.ensures (used_clause c.args.search.now.parts c.args.conflict.now c.args.search.now.analysis c.args._level c.requires.refuted c.requires.learns)

pub name_clauses-requires-clause-conflict : goal.name_clauses-requires-clause-conflict
name_clauses-requires-clause-conflict c = conflict_clause c.args.search.now.parts c.args.conflict.now c.requires.refuted
