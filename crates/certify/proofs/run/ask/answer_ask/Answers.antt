use Rattle.std.proofs.Common.{arith}
use Rattle.std.proofs.lemmas.Grind.{common_steps}
use Rattle.std.proofs.Common.{ℕ, List, [], Err, refl, subst}
use Rattle.std.proofs.lemmas.Result.{err_from_is_err_and}
use Rattle.sat_base.specs.device.Device.{WriterFails, WriterAccepts}
use Rattle.sat_base.specs.script.Script.{Ask}
use Rattle.certify.specs.answers.AnswerForms.{named_literals}
use Rattle.certify.proofs.lemmas.run.RunStateCalls.{answers_say, ask_cut, ask_writes, asked_of, fails_then, memory_fails, memory_says, nothing_stops, solver_says, takes_none}
use Rattle.sat_solver.specs.facade.Calls.{HasFullStore, MakesSteps}
use Rattle.sat_solver.proofs.lemmas.facade.Steps.{makes_more}
use Rattle.certify.specs.run.SolverCalls.{LacksVariablesFor, RefusedForRoom}
use Rattle.certify.proofs.lemmas.run.CallFaults.{caused_map}
use Rattle.certify.proofs.lemmas.run.Caused.{memory_caused}
use Rattle.certify.proofs.lemmas.run.Needing.{none_needs}
use Rattle.certify.proofs.run.ask.answer_ask.Given.{Over}
use Rattle.certify.proofs.run.ask.answer_ask.Goals as goal
use Rattle.certify.proofs.run.ask.answer_ask.Goals.{In_ok-assume, In_ok-report}

-- the steps of the ask
asked : (g : Over) (c : In_ok-report g) → MakesSteps c.args.session.now.solver c.ask.new.solver
asked g c = ask_writes c.args.session.now.solver c.ask.new.solver c.args.literals.now c.ask.new.page.text.items c.args.session.now.budget c.in_ok-report.report c.in_ok-report.ensures.effect

-- the ask is closed
closed : (g : Over) (c : In_ok-assume g) → MakesSteps c.args.session.now.solver c.assume.new.solver
closed g c =
    makes_more c.args.session.now.solver c.ask.new.solver c.assume.new.solver
    (ask_writes c.args.session.now.solver c.ask.new.solver c.args.literals.now c.ask.new.page.text.items c.args.session.now.budget c.in_ok-report.report c.in_ok-report.ensures.effect) c.in_ok-assume.ensures.assumed.took

pub returns-in_err-assume-clause-written : goal.returns-in_err-assume-clause-written
returns-in_err-assume-clause-written g c =
    let p = err_from_is_err_and c.from_residual-in_err-assume.result c.from_residual-in_err-assume.ensures.1 in
    let w = g.A.CountedWrite.seen c.args.answers.now in
    let s = c.args.session.now in
    rw (p.1, p.2) (solver_says c.in_err-assume.field-0.0 w w s.solver c.ask.new.solver c.assume.new.solver (refl, refl) (asked g (goal.at.returns-in_err-assume-clause-written g c).In_ok-report) c.in_err-assume.ensures.fails)

pub returns-in_err-push-clause-written : goal.returns-in_err-push-clause-written
returns-in_err-push-clause-written g c =
    let p = err_from_is_err_and c.from_residual-in_err-push.result c.from_residual-in_err-push.ensures.1 in
    let w = g.A.CountedWrite.seen c.args.answers.now in
    rw p.1 (memory_says _ w w c.args.session.now.solver c.assume.new.solver p.2 (refl, refl) (closed g (goal.at.returns-in_err-push-clause-written g c).In_ok-assume))

pub returns-in_err-write_answer-clause-written : goal.returns-in_err-write_answer-clause-written
returns-in_err-write_answer-clause-written g c =
    let p = err_from_is_err_and c.from_residual-in_err-write_answer.result c.from_residual-in_err-write_answer.ensures.1 in
    let u = g.A.CountedWrite.seen c.args.answers.now in
    let v = g.A.CountedWrite.seen c.write_answer.new.answers in
    rw (p.1, p.2) (answers_say c.in_err-write_answer.field-0.0 u v c.args.session.now.solver c.assume.new.solver c.in_err-write_answer.ensures.fails.0 c.in_err-write_answer.ensures.fails.1 (closed g (goal.at.returns-in_err-write_answer-clause-written g c).In_ok-assume))

pub returns-clause-written : goal.returns-clause-written
returns-clause-written g c = (takes_none (g.A.CountedWrite.seen c.args.answers.now) (g.A.CountedWrite.seen c.write_answer.new.answers) _ c.in_ok-write_answer.ensures.takes, closed g (goal.at.returns-clause-written g c).In_ok-assume)

pub returns-clause-carried : goal.returns-clause-carried
returns-clause-carried g c =
    let s = c.args.session.now in
    let written = subst (λ (text : List ℕ). WriterAccepts (g.A.CountedWrite.seen c.args.answers.now) (g.A.CountedWrite.seen c.write_answer.new.answers) text) c.deref.ensures.value c.in_ok-write_answer.ensures.takes in
    asked_of s _ c.ask.new.solver c.args.literals.now c.ask.new.page.text.items c.in_ok-report.report _ _ c.in_ok-report.ensures.effect written c.in_ok-assume.ensures.assumed refl refl refl c.in_ok-push.ensures.items

pub returns-in_err-report-clause-stops : goal.returns-in_err-report-clause-stops
returns-in_err-report-clause-stops g c left =
    let p = err_from_is_err_and c.from_residual.result c.from_residual.ensures.1 in
    let s = c.args.session.now in
    rw p.1 (nothing_stops {T = Unit {0}} (Err c.in_err-report.field-0.0) s (record s { solver = c.ask.new.solver }) (Ask (named_literals c.args.literals.now)) left (g.A.CountedWrite.seen c.args.answers.now) c.in_err-report.ensures.fails)

pub returns-in_err-assume-clause-stops : goal.returns-in_err-assume-clause-stops
returns-in_err-assume-clause-stops g c left =
    let p = err_from_is_err_and c.from_residual-in_err-assume.result c.from_residual-in_err-assume.ensures.1 in
    let s = c.args.session.now in
    rw p.1 (nothing_stops {T = Unit {0}} (Err c.in_err-assume.field-0.0) s (record s { solver = c.assume.new.solver }) (Ask (named_literals c.args.literals.now)) left (g.A.CountedWrite.seen c.args.answers.now)
    (fails_then c.in_err-assume.field-0.0 s.solver c.ask.new.solver c.assume.new.solver (asked g (goal.at.returns-in_err-assume-clause-stops g c).In_ok-report) c.in_err-assume.ensures.fails))

pub returns-in_err-push-clause-stops : goal.returns-in_err-push-clause-stops
returns-in_err-push-clause-stops g c left =
    let p = err_from_is_err_and c.from_residual-in_err-push.result c.from_residual-in_err-push.ensures.1 in
    let s = c.args.session.now in
    rw p.1 (nothing_stops {T = Unit {0}} (Err _) s (record s { solver = c.assume.new.solver }) (Ask (named_literals c.args.literals.now)) left (g.A.CountedWrite.seen c.args.answers.now)
    (memory_fails _ s.solver c.assume.new.solver p.2 (closed g (goal.at.returns-in_err-push-clause-stops g c).In_ok-assume)))

pub returns-in_err-write_answer-clause-stops : goal.returns-in_err-write_answer-clause-stops
returns-in_err-write_answer-clause-stops g c left =
    let p = err_from_is_err_and c.from_residual-in_err-write_answer.result c.from_residual-in_err-write_answer.ensures.1 in
    let u = g.A.CountedWrite.seen c.args.answers.now in
    let v = g.A.CountedWrite.seen c.write_answer.new.answers in
    let s = c.args.session.now in
    let cut = subst (λ (text : List ℕ). WriterFails u v text) c.deref.ensures.value c.in_err-write_answer.ensures.breaks in
    rw p.1 (λ j live means free. ask_cut s (record s { solver = c.assume.new.solver }) c.ask.new.solver c.args.literals.now c.ask.new.page.text.items c.in_ok-report.report u v c.in_ok-report.ensures.effect c.in_ok-assume.ensures.assumed left j live means free cut)

pub returns-in_err-assume-clause-cause : goal.returns-in_err-assume-clause-cause
returns-in_err-assume-clause-cause g c =
    let p = err_from_is_err_and c.from_residual-in_err-assume.result c.from_residual-in_err-assume.ensures.1 in
    let s = c.args.session.now in
    let t = c.ask.new.solver in
    let user = c.args.literals.now in
    let effect = c.in_ok-report.ensures.effect in
    rw (p.1, p.2) (caused_map c.in_err-assume.field-0.0 ⊥ (RefusedForRoom t c.assume.new.solver []) (HasFullStore c.assume.new.solver) (LacksVariablesFor s.solver c.assume.new.solver (Ask (named_literals user))) (λ x. absurd x)
    (none_needs s.solver effect.mid t c.assume.new.solver user s.budget c.in_ok-report.report effect.opened effect.searched) c.in_err-assume.ensures.cause)

pub returns-in_err-push-clause-cause : goal.returns-in_err-push-clause-cause
returns-in_err-push-clause-cause g c = grind (arith, common_steps, err_from_is_err_and, memory_caused)
