use Rattle.std.proofs.Common.{arith}
use Rattle.std.proofs.lemmas.Grind.{common_steps}
use Rattle.std.proofs.Common.{◌≡◌, ◌∙◌, List, ◌∷◌, ℕ, map, refl, ap}
use Rattle.std.proofs.lemmas.Result.{err_from_is_err_and}
use Rattle.sat_base.specs.steps.Steps.{DeleteClause, Satisfied}
use Rattle.sat_solver.specs.session.LiveClauses.{with_var}
use Rattle.sat_solver.specs.proof.ProofView.{steps_of}
use Rattle.sat_solver.specs.session.Naming.{global_of_index}
use Rattle.sat_solver.proofs.lemmas.cdcl.GoingLemmas.{goes_starved, goes_step, goes_broken}
use Rattle.sat_solver.proofs.load.delete_satisfied.Goals as goal

pub returns-in_err-map_lits : goal.returns-in_err-map_lits
returns-in_err-map_lits g c = grind (arith, common_steps, err_from_is_err_and, goes_starved)

pub returns : goal.returns
returns g c =
    let same : c.deref.result.now ≡ map (with_var (global_of_index c.args.globals.now)) c.args.lits.now = c.deref.ensures.value ∙ c.in_ok-map_lits.ensures in
    goes_step g.W.CountedWrite.seen tt c.args.proof.now c.add_step.new.self (DeleteClause c.deref.result.now Satisfied) (λ _ _. steps_of c.add_step.new.self ≡ DeleteClause (map (with_var (global_of_index c.args.globals.now)) c.args.lits.now) Satisfied ∷ steps_of c.args.proof.now)
    tt refl c.in_ok-add_step.ensures.keeps c.in_ok-add_step.ensures.records (c.in_ok-add_step.ensures.records.history ∙ ap (λ (ls : List ℕ). DeleteClause ls Satisfied ∷ steps_of c.args.proof.now) same)

pub returns-in_err-add_step : goal.returns-in_err-add_step
returns-in_err-add_step g c =
    let p = err_from_is_err_and c.from_residual-in_err-add_step.result c.from_residual-in_err-add_step.ensures.1 in
    rw (p.1, p.2) (goes_broken g.W.CountedWrite.seen c.in_err-add_step.field-0.0 c.args.proof.now c.add_step.new.self (DeleteClause c.deref.result.now Satisfied) _ tt c.in_err-add_step.ensures.keeps c.in_err-add_step.ensures.records)
