use Rattle.sat_solver.specs.proof.ProofView.{session_of}
use Rattle.sat_solver.proofs.lemmas.cdcl.GoingLemmas.{goes_then}
use Rattle.sat_solver.proofs.lemmas.unit_simplify.StrengthenSearchLemmas.{strengthened_trans}
use Rattle.sat_solver.proofs.unit_simplify.strengthen_all.Goals as goal

pub returns : goal.returns
returns g c =
    goes_then g.W.CountedWrite.seen tt c.simplify_clauses.result c.args.proof.now c.simplify_binary.new.proof c.simplify_clauses.new.proof _ _ _ c.in_ok-simplify_binary.ensures c.simplify_clauses.ensures
    (λ xs ys y a b. record { strengthened = strengthened_trans (session_of c.simplify_binary.new.proof) (session_of c.simplify_clauses.new.proof) c.args.search.now c.simplify_binary.new.search c.simplify_clauses.new.search a.0 b.strengthened; left = b.left })
