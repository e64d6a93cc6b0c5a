use Rattle.std.proofs.Common.{ℕ, ◌≡◌, ◌∙◌, sym, subst, refl, List, arith}
use Rattle.std.proofs.lemmas.Grind.{common_steps}
use Rattle.std.proofs.lemmas.Result.{err_from_is_err_and}
use Rattle.sat_base.specs.steps.Steps.{UnitClauses}
use Rattle.sat_parts.specs.clause.Db.{live_refs}
use Rattle.sat_solver.specs.session.Session.{CanWriteUnits, session_after}
use Rattle.sat_solver.specs.proof.ProofView.{session_of}
use Rattle.sat_solver.specs.session.TrailUnits.{written_units}
use Rattle.sat_parts.specs.parts.Whole.{state}
use Rattle.sat_solver.specs.session.Naming.{global_of_index}
use Rattle.sat_solver.proofs.lemmas.fits.UnitLemmas.{units_may}
use Rattle.sat_solver.specs.unit_simplify.AfterUnits.{LevelZeroLitsAreUnits}
use Rattle.sat_solver.proofs.lemmas.cdcl.GoingLemmas.{goes_none, goes_starved, goes_step, goes_broken}
use Rattle.sat_solver.proofs.lemmas.cdcl.LeftLemmas.{units_step, units_none, none_left}
use Rattle.sat_solver.proofs.lemmas.cdcl.NamedLemmas.{units_named}
use Rattle.sat_solver.proofs.unit_simplify.prove_units.write_units.Goals as goal

pub returns-in_err-collect_units : goal.returns-in_err-collect_units
returns-in_err-collect_units g c = grind (arith, common_steps, err_from_is_err_and, goes_starved)

pub returns-then-is_empty : goal.returns-then-is_empty
returns-then-is_empty g c = grind (arith, common_steps, common_steps, goes_none, units_none, none_left)

pub add_step-requires-clause-may : goal.add_step-requires-clause-may
add_step-requires-clause-may g c =
    let p = c.args.parts.now in
    let same : c.deref.result.now ≡ written_units c.args.parts.now.clauses (state c.args.parts.now) 64 (global_of_index c.args.globals.now) c.args.parts.now.trail.lits =
    c.deref.ensures.value ∙ c.in_ok-collect_units.ensures in
    subst (λ (us : List (ℕ × ℕ)). CanWriteUnits (session_of c.args.proof.now) us) (sym same)
    (units_may p.clauses (live_refs p.clauses p.db.refs) p.binary.implied (state p) (session_of c.args.proof.now) (global_of_index c.args.globals.now) c.requires.fits c.requires.named c.requires.orderly.agrees c.requires.orderly.clauses c.requires.orderly.turns c.requires.bottom)

pub returns : goal.returns
returns g c =
    let same : c.deref.result.now ≡ written_units c.args.parts.now.clauses (state c.args.parts.now) 64 (global_of_index c.args.globals.now) c.args.parts.now.trail.lits =
    c.deref.ensures.value ∙ c.in_ok-collect_units.ensures in
    goes_step g.W.CountedWrite.seen tt c.args.proof.now c.add_step.new.self (UnitClauses c.deref.result.now) (λ _ _. LevelZeroLitsAreUnits c.args.parts.now (session_of c.add_step.new.self) (global_of_index c.args.globals.now))
    (units_named c.args.parts.now (session_of c.args.proof.now) (global_of_index c.args.globals.now) c.requires.named c.requires.orderly c.deref.result.now same) refl c.in_ok-add_step.ensures.keeps c.in_ok-add_step.ensures.records
    (subst (λ ss. LevelZeroLitsAreUnits c.args.parts.now (session_after ss) (global_of_index c.args.globals.now)) (sym c.in_ok-add_step.ensures.records.history ∙ refl)
    (rw same (units_step c.args.parts.now (session_of c.args.proof.now) (global_of_index c.args.globals.now) c.requires.orderly c.requires.bottom c.requires.fits c.requires.named)))

pub returns-in_err-add_step : goal.returns-in_err-add_step
returns-in_err-add_step g c =
    let same : c.deref.result.now ≡ written_units c.args.parts.now.clauses (state c.args.parts.now) 64 (global_of_index c.args.globals.now) c.args.parts.now.trail.lits =
    c.deref.ensures.value ∙ c.in_ok-collect_units.ensures in
    let p = err_from_is_err_and c.from_residual-in_err-add_step.result c.from_residual-in_err-add_step.ensures.1 in
    rw (p.1, p.2)
    (goes_broken g.W.CountedWrite.seen c.in_err-add_step.field-0.0 c.args.proof.now c.add_step.new.self (UnitClauses c.deref.result.now) (λ _ _. LevelZeroLitsAreUnits c.args.parts.now (session_of c.add_step.new.self) (global_of_index c.args.globals.now))
    (units_named c.args.parts.now (session_of c.args.proof.now) (global_of_index c.args.globals.now) c.requires.named c.requires.orderly c.deref.result.now same) c.in_err-add_step.ensures.keeps c.in_err-add_step.ensures.records)
