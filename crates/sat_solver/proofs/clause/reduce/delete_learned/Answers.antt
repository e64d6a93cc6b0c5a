use Rattle.std.proofs.Common.{arith}
use Rattle.std.proofs.lemmas.Grind.{common_steps}
use Rattle.std.proofs.Common.{◌∙◌, refl, ap, true, false}
use Rattle.std.proofs.lemmas.Result.{err_from_is_err_and}
use Rattle.sat_base.specs.steps.Steps.{DeleteClause, Redundant}
use Rattle.sat_solver.specs.proof.ProofView.{session_of}
use Rattle.sat_solver.specs.session.Session.{session_after}
use Rattle.sat_solver.proofs.lemmas.cdcl.GoingLemmas.{goes_none, goes_starved, goes_step, goes_broken}
use Rattle.sat_solver.proofs.lemmas.clause.ReducingLemmas.{deleted_none, deleted_may, deleted_one}
use Rattle.sat_solver.proofs.clause.reduce.delete_learned.Goals as goal

pub returns-in_err-map_clause : goal.returns-in_err-map_clause
returns-in_err-map_clause g c = grind (arith, common_steps, err_from_is_err_and, goes_starved)

pub returns-then-not-drop_clause : goal.returns-then-not-drop_clause
returns-then-not-drop_clause g c =
    goes_none g.W.CountedWrite.seen false c.args.proof.now _ c.requires.keeps
    (deleted_none (session_of c.args.proof.now) c.args.search.now _ c.requires.search refl refl refl refl c.args.cref (c.drop_clause.ensures.kept c.if-not-drop_clause.true).0 (c.drop_clause.ensures.kept c.if-not-drop_clause.true).1)

pub add_step-requires-clause-may : goal.add_step-requires-clause-may
add_step-requires-clause-may g c =
    deleted_may (session_of c.args.proof.now) c.args.search.now (record c.args.search.now { parts = c.drop_clause.new.parts }) c.requires.search refl refl refl refl c.args.cref c.requires.learned (c.drop_clause.ensures.dropped c.if-not-drop_clause.false)
    c.deref-2.result.now (c.deref-2.ensures.value ∙ rw c.deref.ensures.value at c.in_ok-map_clause.ensures)

pub returns : goal.returns
returns g c =
    goes_step g.W.CountedWrite.seen true c.args.proof.now c.add_step.new.self (DeleteClause c.deref-2.result.now Redundant) _ tt refl c.in_ok-add_step.ensures.keeps c.in_ok-add_step.ensures.records
    (deleted_one (session_of c.args.proof.now) c.args.search.now _ c.requires.search refl refl refl refl c.args.cref c.requires.learned (c.drop_clause.ensures.dropped c.if-not-drop_clause.false)
    (session_of c.add_step.new.self) c.deref-2.result.now (c.deref-2.ensures.value ∙ rw c.deref.ensures.value at c.in_ok-map_clause.ensures) (ap (λ ss. session_after ss) c.in_ok-add_step.ensures.records.history) c.drop_clause.ensures.holds c.drop_clause.ensures.word c.drop_clause.ensures.others (c.drop_clause.ensures.free c.if-not-drop_clause.false))

pub returns-in_err-add_step : goal.returns-in_err-add_step
returns-in_err-add_step g c =
    let p = err_from_is_err_and c.from_residual-in_err-add_step.result c.from_residual-in_err-add_step.ensures.1 in
    rw (p.1, p.2)
    (goes_broken g.W.CountedWrite.seen c.in_err-add_step.field-0.0 c.args.proof.now c.add_step.new.self (DeleteClause c.deref-2.result.now Redundant) _ tt c.in_err-add_step.ensures.keeps c.in_err-add_step.ensures.records)
