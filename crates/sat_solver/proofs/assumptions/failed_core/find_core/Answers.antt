use Rattle.sat_solver.proofs.lemmas.assumptions.FailingLemmas.{parts_can}
use Rattle.sat_solver.proofs.assumptions.failed_core.find_core.Goals as goal

pub analyze_assumption-requires-clause-can : goal.analyze_assumption-requires-clause-can
analyze_assumption-requires-clause-can c = parts_can c.args.search.now.parts c.requires.holds
