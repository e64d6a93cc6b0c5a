use Rattle.sat_solver.specs.proof.ProofView.{session_of}
use Rattle.sat_solver.proofs.lemmas.cdcl.GoingLemmas.{goes_none}
use Rattle.sat_solver.proofs.lemmas.unit_simplify.StrengthenClauseLemmas.{strengthens_none}
use Rattle.sat_solver.proofs.unit_simplify.long.simplify_clause.Goals as goal

pub returns-in-Whole : goal.returns-in-Whole
returns-in-Whole g c = goes_none g.W.CountedWrite.seen tt c.args.proof.now _ c.requires.keeps (strengthens_none (session_of c.args.proof.now) c.args.search.now c.args.cref c.requires.search c.in-Whole.ensures)
