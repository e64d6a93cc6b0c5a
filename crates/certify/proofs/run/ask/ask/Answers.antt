use Rattle.std.proofs.lemmas.Result.{err_from_is_err_and}
use Rattle.certify.proofs.lemmas.run.RunStateCalls.{allowed_still, ask_took, fails_then, memory_fails}
use Rattle.sat_base.specs.script.Script.{Ask}
use Rattle.sat_solver.specs.variables.VariableRoom.{user_vars_in}
use Rattle.sat_solver.specs.facade.Calls.{HasFullStore}
use Rattle.certify.specs.answers.AnswerForms.{named_literals}
use Rattle.certify.specs.run.SolverCalls.{LacksVariablesFor, RefusedForRoom}
use Rattle.certify.proofs.lemmas.run.CallFaults.{caused_map}
use Rattle.certify.proofs.lemmas.run.Needing.{ask_needs}
use Rattle.certify.proofs.run.ask.ask.Goals as goal

pub returns-in_err-report-clause-fails : goal.returns-in_err-report-clause-fails
returns-in_err-report-clause-fails g c =
    let p = err_from_is_err_and c.from_residual-in_err-report.result c.from_residual-in_err-report.ensures.1 in
    rw (p.1, p.2) (fails_then c.in_err-report.field-0.0 c.args.solver.now c.assume.new.solver c.search.new.solver c.in_ok-assume.ensures.assumed.took c.in_err-report.ensures.fails)

pub returns-in_err-push_answer-clause-fails : goal.returns-in_err-push_answer-clause-fails
returns-in_err-push_answer-clause-fails g c =
    let p = err_from_is_err_and c.from_residual-in_err-push_answer.result c.from_residual-in_err-push_answer.ensures.1 in
    rw (p.1, p.2) (memory_fails c.in_err-push_answer.field-0.0 c.args.solver.now c.search.new.solver c.in_err-push_answer.ensures.memory
    (ask_took c.args.solver.now c.assume.new.solver c.search.new.solver c.args.literals.now c.args.budget c.in_ok-report.report c.in_ok-assume.ensures.assumed c.in_ok-report.ensures.searched))

pub returns-clause-ready : goal.returns-clause-ready
returns-clause-ready g c = c.in_ok-report.ensures.searched.solved.ready

pub returns-clause-allowed : goal.returns-clause-allowed
returns-clause-allowed g c = allowed_still c.args.solver.now c.assume.new.solver c.search.new.solver c.args.literals.now c.args.budget c.in_ok-report.report c.requires.allowed c.in_ok-assume.ensures.assumed c.in_ok-report.ensures.searched

pub push_answer-requires-clause-ready : goal.push_answer-requires-clause-ready
push_answer-requires-clause-ready g c = c.in_ok-report.ensures.searched.solved.ready

pub search-requires : goal.search-requires
search-requires g c = c.in_ok-assume.ensures.assumed.ready

pub returns-in_err-assume-clause-cause : goal.returns-in_err-assume-clause-cause
returns-in_err-assume-clause-cause g c =
    let p = err_from_is_err_and c.from_residual.result c.from_residual.ensures.1 in
    let s = c.args.solver.now in
    let user = c.args.literals.now in
    rw (p.1, p.2) (caused_map c.in_err-assume.field-0.0 ⊥ (RefusedForRoom s c.assume.new.solver (user_vars_in user)) (HasFullStore c.assume.new.solver) (LacksVariablesFor s c.assume.new.solver (Ask (named_literals user))) (λ x. absurd x) (ask_needs s c.assume.new.solver user) c.in_err-assume.ensures.cause)
