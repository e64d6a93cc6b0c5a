use Rattle.std.proofs.Common.{arith}
use Rattle.std.proofs.lemmas.Grind.{common_steps}
use Rattle.std.proofs.Common.{ℕ, List, ◌≡◌, [], refl, subst}
use Rattle.sat_base.specs.device.Device.{WriterFails}
use Rattle.certify.specs.answers.Answers.{malformed_line}
use Rattle.sat_base.specs.script.Script.{Malformed}
use Rattle.std.proofs.lemmas.Result.{err_from_is_err_and}
use Rattle.certify.proofs.lemmas.run.RunStateCalls.{err_map, memory_says, on_err, written_of}
use Rattle.sat_solver.proofs.lemmas.facade.Steps.{makes_none}
use Rattle.certify.specs.run.BetweenCommands.{run_place}
use Rattle.certify.proofs.lemmas.run.Stopping.{stops_malformed, stops_none}
use Rattle.certify.proofs.run.serve.report_malformed.Goals as goal

pub returns-in_err-push_malformed-clause-written : goal.returns-in_err-push_malformed-clause-written
returns-in_err-push_malformed-clause-written g c = grind (arith, common_steps, err_from_is_err_and, memory_says, makes_none)

pub returns-clause-written : goal.returns-clause-written
returns-clause-written g c =
    written_of c.write_answer.result (g.A.CountedWrite.seen c.args.answers.now) (g.A.CountedWrite.seen c.write_answer.new.answers) c.args.session.now.solver c.deref.result.now c.write_answer.ensures.takes c.write_answer.ensures.fails

pub returns-in_err-push_malformed-clause-stops : goal.returns-in_err-push_malformed-clause-stops
returns-in_err-push_malformed-clause-stops g c j = on_err _ _ (stops_none c.args.session.now.budget (record (run_place c.args.session.now j) { number = c.args.number }) c.args.session.now.solver.steps [] refl ([], Malformed) (g.A.CountedWrite.seen c.args.answers.now))

pub returns-clause-stops : goal.returns-clause-stops
returns-clause-stops g c j =
    let s = c.args.session.now in
    let u = g.A.CountedWrite.seen c.args.answers.now in
    let v = g.A.CountedWrite.seen c.write_answer.new.answers in
    let line : c.deref.result.now ≡ malformed_line c.args.number = grind (arith, common_steps) in
    err_map c.write_answer.result (WriterFails u v c.deref.result.now) _ (λ b. stops_malformed s.budget (record (run_place s j) { number = c.args.number }) s.solver.steps [] refl u v (subst (λ (text : List ℕ). WriterFails u v text) line b)) c.write_answer.ensures.breaks
