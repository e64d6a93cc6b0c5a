use Rattle.sat_solver.specs.proof.ProofView.{steps_of, session_of}
use Rattle.sat_solver.proofs.lemmas.clause.BumpingLemmas.{learned_on}
use Rattle.sat_solver.proofs.lemmas.cdcl.GoingLemmas.{goes_on}
use Rattle.sat_solver.proofs.cdcl.learn.learn_from.Goals as goal

pub returns-clause-learned : goal.returns-clause-learned
returns-clause-learned g c =
    let s = session_of c.learn_clause.new.proof in
    goes_on g.W.CountedWrite.seen tt tt c.args.proof.now c.learn_clause.new.proof _ _
    (λ steps x. learned_on (steps_of c.args.proof.now) steps s c.args.search.now c.learn_clause.new.search c.bump_seen_vars.new.search x (c.bump_seen_vars.ensures.bumped s x.search))
    c.in_ok-learn_clause.ensures.learned
