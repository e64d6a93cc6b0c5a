use Rattle.std.proofs.lemmas.Grind.{common_steps}
use Rattle.std.proofs.lemmas.Result.{err_from_is_err_and}
use Rattle.std.proofs.Common.{ℕ, ◌+◌, ◌≡◌, arith, [], Err, refl, subst}
use Rattle.certify.specs.script.Commands.{end_reading}
use Rattle.certify.specs.run.BetweenCommands.{run_place}
use Rattle.certify.specs.run.Stopping.{StopsServing}
use Rattle.sat_base.specs.script.Script.{Clean, Malformed}
use Rattle.sat_solver.proofs.lemmas.facade.Steps.{makes_none}
use Rattle.certify.proofs.lemmas.run.ServedThrough.{asked_stops, ends_asked, ends_clean, ends_malformed}
use Rattle.certify.proofs.lemmas.run.Stopping.{stops_none}
use Rattle.certify.proofs.lemmas.run.Caused.{asked_caused}
use Rattle.certify.proofs.run.serve.serve_end.Goals as goal

pub returns-in_default-clause-written : goal.returns-in_default-clause-written
returns-in_default-clause-written g c = ((refl, refl), makes_none c.args.session.now.solver)

pub returns-in-Clean-clause-written : goal.returns-in-Clean-clause-written
returns-in-Clean-clause-written g c = ((refl, refl), makes_none c.args.session.now.solver)

pub returns-in-Clean-clause-serves : goal.returns-in-Clean-clause-serves
returns-in-Clean-clause-serves g c j at = rw c.in-Clean.is (ends_clean j c.args.session.now (g.A.CountedWrite.seen c.args.answers.now))

pub returns-in_ok-answer_ask-in-Asked-clause-serves : goal.returns-in_ok-answer_ask-in-Asked-clause-serves
returns-in_ok-answer_ask-in-Asked-clause-serves g c j at =
    rw c.in-Asked.is (ends_asked j c.args.session.now c.answer_ask.new.session (g.A.CountedWrite.seen c.args.answers.now) (g.A.CountedWrite.seen c.answer_ask.new.answers) at c.in_ok-answer_ask-in-Asked.ensures.carried)

pub returns-in_ok-report_malformed-in-Malformed-clause-serves : goal.returns-in_ok-report_malformed-in-Malformed-clause-serves
returns-in_ok-report_malformed-in-Malformed-clause-serves g c = grind (arith, common_steps, ends_malformed)

pub returns-in_default-clause-stops : goal.returns-in_default-clause-stops
returns-in_default-clause-stops g c = λ j at. stops_none c.args.session.now.budget (run_place c.args.session.now j) c.args.session.now.solver.steps [] refl (end_reading c.args.end) (g.A.CountedWrite.seen c.args.answers.now)

pub returns-in_err-answer_ask-in-Asked-clause-stops : goal.returns-in_err-answer_ask-in-Asked-clause-stops
returns-in_err-answer_ask-in-Asked-clause-stops g c =
    let p = err_from_is_err_and c.from_residual.result c.from_residual.ensures.1 in
    let u = g.A.CountedWrite.seen c.args.answers.now in
    let v = g.A.CountedWrite.seen c.answer_ask.new.answers in
    rw (p.1, c.in-Asked.is) (asked_stops {T = Unit {0}} (Err c.in_err-answer_ask-in-Asked.field-0.0) c.args.session.now c.answer_ask.new.session u v (c.in_err-answer_ask-in-Asked.ensures.stops ([], Clean)))

pub returns-in_err-answer_ask-in-Asked-clause-cause : goal.returns-in_err-answer_ask-in-Asked-clause-cause
returns-in_err-answer_ask-in-Asked-clause-cause g c = grind (arith, common_steps, err_from_is_err_and, asked_caused)

pub returns-in_err-report_malformed-in-Malformed-clause-stops : goal.returns-in_err-report_malformed-in-Malformed-clause-stops
returns-in_err-report_malformed-in-Malformed-clause-stops g c =
    let p = err_from_is_err_and c.from_residual-in_err-report_malformed-in-Malformed.result c.from_residual-in_err-report_malformed-in-Malformed.ensures.1 in
    let s = c.args.session.now in
    let u = g.A.CountedWrite.seen c.args.answers.now in
    let v = g.A.CountedWrite.seen c.report_malformed.new.answers in
    let next : c.in-Some.number ≡ s.commands + 1 = grind (arith, common_steps) in
    rw (p.1, c.in-Malformed.is) (λ j at. subst (λ (n : ℕ). StopsServing s.budget (record (run_place s j) { number = n }) ([], Malformed) c.report_malformed.new.session.solver.steps u v) next (c.in_err-report_malformed-in-Malformed.ensures.stops j))
