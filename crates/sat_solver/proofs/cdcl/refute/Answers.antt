use Rattle.std.proofs.Common.{arith}
use Rattle.std.proofs.lemmas.Grind.{common_steps}
use Rattle.std.proofs.Common.{◌≡◌, ◌∙◌, ap, refl, sym, subst, [], false, Ok}
use Rattle.std.proofs.lemmas.Result.{err_from_is_err_and}
use Rattle.sat_base.specs.steps.Steps.{Step, AtClause}
use Rattle.sat_parts.specs.clause.Db.{live_refs}
use Rattle.sat_solver.specs.session.Session.{CanDerive, session_after}
use Rattle.sat_solver.specs.proof.ProofView.{steps_of, session_of}
use Rattle.sat_parts.specs.parts.Whole.{state}
use Rattle.sat_solver.specs.session.Naming.{global_of_index}
use Rattle.sat_solver.specs.session.MatchingLaws.{named_hashes}
use Rattle.sat_solver.proofs.lemmas.fits.UnitLemmas.{empty_may}
use Rattle.sat_solver.specs.cdcl.StepEffects.{error_of_proof}
use Rattle.sat_solver.proofs.lemmas.cdcl.GoingLemmas.{goes_starved, goes_step, goes_broken, goes_after, goes_then_fails}
use Rattle.sat_solver.proofs.lemmas.cdcl.RoundLemmas.{refutes_later}
use Rattle.sat_solver.specs.cdcl.Rounds.{LastRefutes}
use Rattle.sat_solver.proofs.cdcl.refute.Goals as goal

pub returns-in_err-name_clauses : goal.returns-in_err-name_clauses
returns-in_err-name_clauses g c = grind (arith, common_steps, err_from_is_err_and, goes_starved, goes_then_fails)

pub add_step-requires-clause-may : goal.add_step-requires-clause-may
add_step-requires-clause-may g c =
    let p = c.args.parts.now in
    let same : c.deref.result.now ≡ named_hashes c.args.parts.now.clauses (state c.args.parts.now) [] c.args.conflict.now =
    c.deref.ensures.value ∙ c.in_ok-name_clauses.ensures in
    subst (λ hs. CanDerive (session_of c.write_units.new.proof) [] hs) (sym same)
    (empty_may p.clauses (live_refs p.clauses p.db.refs) p.binary.implied (state p) (session_of c.write_units.new.proof) (global_of_index c.args.globals.now) c.args.conflict.now c.in_ok-write_units.ensures.ends c.requires.refuted.0.propagation.agrees c.requires.bottom c.requires.refuted.1)

pub returns : goal.returns
returns g c =
    let step : Step = AtClause false [] c.deref.result.now in
    goes_after g.W.CountedWrite.seen c.in_ok-write_units.field-0 (Ok tt) c.args.proof.now c.write_units.new.proof c.add_step.new.self _ _ _ c.in_ok-write_units.ensures
    (goes_step g.W.CountedWrite.seen tt c.write_units.new.proof c.add_step.new.self step (λ _ steps. LastRefutes (steps_of c.write_units.new.proof) steps (session_of c.add_step.new.self)) tt refl c.in_ok-add_step.ensures.keeps c.in_ok-add_step.ensures.records
    (record { last = step; rest = []; is = refl; before = c.in_ok-write_units.ensures.ends.fits.consistent; now = ap (λ ss. (session_after ss).unsat) c.in_ok-add_step.ensures.records.history; quiet = (refl, tt) }))
    (λ xs ys y added quiet a b. refutes_later (steps_of c.args.proof.now) xs ys (session_of c.add_step.new.self) quiet (subst (λ zs. LastRefutes zs ys (session_of c.add_step.new.self)) added b))

pub returns-in_err-add_step : goal.returns-in_err-add_step
returns-in_err-add_step g c =
    let p = err_from_is_err_and c.from_residual-in_err-add_step.result c.from_residual-in_err-add_step.ensures.1 in
    rw (p.1, p.2)
    (goes_then_fails g.W.CountedWrite.seen c.in_ok-write_units.field-0 (error_of_proof c.in_err-add_step.field-0.0) c.args.proof.now c.write_units.new.proof c.add_step.new.self _ (λ (_ : Unit {0}) _. Unit {0}) _ c.in_ok-write_units.ensures
    (goes_broken g.W.CountedWrite.seen c.in_err-add_step.field-0.0 c.write_units.new.proof c.add_step.new.self (AtClause false [] c.deref.result.now) _ tt c.in_err-add_step.ensures.keeps c.in_err-add_step.ensures.records))
