use Rattle.sat_checker.specs.CheckerView.{view_of}
use Rattle.sat_checker.specs.listeners.ProcessingView.{EachListenerReceives}
use Rattle.sat_checker.proofs.lemmas.checker.Additions.{may_add, clause_checked}
use Rattle.sat_checker.proofs.checker.Checker.add_clause.Goals as goal

pub returns-clause-checks : goal.returns-clause-checks
returns-clause-checks g c = λ before begun steps s.
    let k = s.kernel.kept c.if-self.false in
    clause_checked (EachListenerReceives g.P.ProofProcessor.takes g.T.ProofTranscriptProcessor.reads) before begun c.check_step.result (view_of c.args.self.now) (view_of c.check_step.new.self) c.args.clause.now steps
    (may_add c.args.self.now.kernel.state steps k c.args.clause.now (c.if-not-may_add.ensures k.formula k.keeps)) (c.check_step.ensures.notifies before begun steps s)
