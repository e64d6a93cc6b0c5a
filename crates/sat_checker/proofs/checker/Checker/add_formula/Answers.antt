use Rattle.std.proofs.Common.{rules, arith}
use Rattle.std.proofs.lemmas.Result.{err_from_is_err_and}
use Rattle.sat_checker.specs.CheckerView.{view_of}
use Rattle.sat_checker.specs.ClausesView.{steps_after_additions}
use Rattle.sat_checker.specs.listeners.ProcessingView.{EachListenerReceives}
use Rattle.sat_checker.proofs.lemmas.checker.Additions.{added_one, added_stops, added_all}
use Rattle.sat_checker.proofs.lemmas.listeners.Somebody.{clauses_faults}
use Rattle.sat_checker.proofs.checker.Checker.add_formula.Goals as goal

pub loop-clause-preserved : goal.loop-clause-preserved
loop-clause-preserved g c = (
  c.loop-clause.invariant.0,
  omega (arith, c.loop-clause.invariant.1, c.in_ok-add_clause.ensures.rise),
  λ before begun earlier valid.
      let p = c.loop-clause.invariant.2 before begun earlier valid in
      added_one (EachListenerReceives g.P.ProofProcessor.takes g.T.ProofTranscriptProcessor.reads) before begun (view_of c.args.self.now) (view_of c.loop-clause.self) (view_of c.add_clause.new.self) c.args.formula.now.clauses c.loop-clause.clause-iterator c.next.new.self c.in-Some.clause.now earlier c.in-Some.ensures.steps p
      c.in_ok-add_clause.ensures.looks (c.in_ok-add_clause.ensures.checks before begun (steps_after_additions p.added earlier) p.goes_on.0),
)

pub returns-in_err-add_clause-clause-adds : goal.returns-in_err-add_clause-clause-adds
returns-in_err-add_clause-clause-adds g c = λ before begun earlier valid.
    let q = err_from_is_err_and c.from_residual.result c.from_residual.ensures.1 in
    let p = c.loop-clause.invariant.2 before begun earlier valid in
    rw (q.1, q.2)
    (added_stops (EachListenerReceives g.P.ProofProcessor.takes g.T.ProofTranscriptProcessor.reads) before begun (view_of c.args.self.now) (view_of c.loop-clause.self) (view_of c.add_clause.new.self) c.in_err-add_clause.field-0.0 c.args.formula.now.clauses c.loop-clause.clause-iterator c.next.new.self c.in-Some.clause.now earlier
    c.loop-clause.invariant.0 c.in-Some.ensures.steps p c.in_err-add_clause.ensures.looks (c.in_err-add_clause.ensures.checks before begun (steps_after_additions p.added earlier) p.goes_on.0))

pub returns-clause-adds : goal.returns-clause-adds
returns-clause-adds g c = λ before begun earlier valid.
    added_all (EachListenerReceives g.P.ProofProcessor.takes g.T.ProofTranscriptProcessor.reads) before begun (view_of c.args.self.now) (view_of c.loop-clause.self) c.args.formula.now.clauses c.loop-clause.clause-iterator earlier c.loop-clause.invariant.0 (search rules) (c.loop-clause.invariant.2 before begun earlier valid)

pub returns-in_err-add_clause-clause-faults : goal.returns-in_err-add_clause-clause-faults
returns-in_err-add_clause-clause-faults g c = λ steps s. clauses_faults g.P.ProofProcessor.takes g.T.ProofTranscriptProcessor.reads (view_of c.args.self.now) _ steps s c.from_residual.result c.args.formula.now.clauses (returns-in_err-add_clause-clause-adds g c)
