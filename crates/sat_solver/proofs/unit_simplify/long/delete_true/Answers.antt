use Rattle.std.proofs.Common.{arith}
use Rattle.std.proofs.lemmas.Grind.{common_steps}
use Rattle.std.proofs.Common.{◌≡◌, ◌∙◌, List, ℕ, map, refl, sym, ap, subst}
use Rattle.std.proofs.lemmas.Result.{err_from_is_err_and}
use Rattle.sat_base.specs.steps.Steps.{DeleteClause, Satisfied}
use Rattle.sat_base.specs.steps.StepViews.{deletion_of}
use Rattle.sat_store.specs.clause.Buffer.{lits_at}
use Rattle.sat_solver.specs.proof.ProofView.{session_of}
use Rattle.sat_store.specs.clause.Header.{Header, is_learned}
use Rattle.sat_solver.specs.declared.context.Scratch.{Scratch}
use Rattle.sat_solver.specs.session.Session.{session_after, after, IsAllowedStep}
use Rattle.sat_solver.specs.session.LiveClauses.{with_var}
use Rattle.sat_solver.specs.session.Matching.{is_redundant}
use Rattle.sat_solver.specs.cdcl.Joint.{global_in}
use Rattle.sat_solver.specs.unit_simplify.StrengtheningSteps.{deleted_step}
use Rattle.sat_solver.specs.declared.context.Search.{Search}
use Rattle.sat_solver.specs.unit_simplify.EmptyTrail.{IsStrengthened, StrengthensClause}
use Rattle.sat_solver.proofs.lemmas.cdcl.GoingLemmas.{goes_starved, goes_step, goes_broken}
use Rattle.sat_solver.proofs.lemmas.unit_simplify.StrengthenClauseLemmas.{strengthens_dropped}
use Rattle.sat_solver.proofs.lemmas.unit_simplify.TrueLemmas.{true_goes, true_lighter}
use Rattle.sat_solver.proofs.unit_simplify.long.delete_true.Goals as goal

pub returns-in_err-map_clause : goal.returns-in_err-map_clause
returns-in_err-map_clause g c = grind (arith, common_steps, err_from_is_err_and, goes_starved)

pub add_step-requires-clause-may : goal.add_step-requires-clause-may
add_step-requires-clause-may g c =
    let clause : c.deref-2.result.now ≡ map (with_var (global_in c.args.search.now)) (lits_at c.args.search.now.parts.clauses c.args.cref) = c.deref-2.ensures.value ∙ rw c.deref.ensures.value at c.in_ok-map_clause.ensures in
    let flag : is_redundant c.args.search.now.parts.clauses c.args.cref ≡ c.redundant-redundant.result = ap (λ (h : Header). is_learned h.tier) (sym c.header.ensures.value) ∙ sym c.redundant-redundant.ensures in
    subst (λ d. IsAllowedStep (session_of c.args.proof.now) (DeleteClause c.deref-2.result.now d)) (sym c.deletion_for.ensures)
    (subst (λ (ls : List ℕ). IsAllowedStep (session_of c.args.proof.now) (deleted_step c.redundant-redundant.result Satisfied ls)) (sym clause)
    (true_goes (session_of c.args.proof.now) c.args.search.now c.delete_long.new.parts c.args.cref c.requires.search c.requires.flat c.requires.live c.requires.satisfied c.delete_long.ensures.dropped c.redundant-redundant.result flag).0)

pub returns : goal.returns
returns g c =
    let clause : c.deref-2.result.now ≡ map (with_var (global_in c.args.search.now)) (lits_at c.args.search.now.parts.clauses c.args.cref) = c.deref-2.ensures.value ∙ rw c.deref.ensures.value at c.in_ok-map_clause.ensures in
    let flag : is_redundant c.args.search.now.parts.clauses c.args.cref ≡ c.redundant-redundant.result = ap (λ (h : Header). is_learned h.tier) (sym c.header.ensures.value) ∙ sym c.redundant-redundant.ensures in
    let scratch : Scratch = record c.args.search.now.scratch { clause = c.map_clause.new.clause } in
    let after_step = subst (λ d. IsStrengthened (after (DeleteClause c.deref-2.result.now d) (session_of c.args.proof.now)) c.args.search.now (record c.args.search.now { parts = c.delete_long.new.parts; scratch = scratch })) (sym c.deletion_for.ensures)
    (subst (λ (ls : List ℕ). IsStrengthened (after (deleted_step c.redundant-redundant.result Satisfied ls) (session_of c.args.proof.now)) c.args.search.now (record c.args.search.now { parts = c.delete_long.new.parts; scratch = scratch })) (sym clause)
    (true_lighter (session_of c.args.proof.now) c.args.search.now c.delete_long.new.parts c.args.cref c.requires.search c.requires.flat c.requires.live c.requires.satisfied c.delete_long.ensures.dropped c.redundant-redundant.result flag scratch c.delete_long.ensures.holds c.delete_long.ensures.word)) in
    let d : Search = record c.args.search.now { parts = c.delete_long.new.parts; scratch = scratch } in
    goes_step g.W.CountedWrite.seen tt c.args.proof.now c.add_step.new.self (DeleteClause c.deref-2.result.now (deletion_of c.deletion_for.result)) (λ _ _. StrengthensClause (session_of c.add_step.new.self) c.args.search.now d c.args.cref) tt refl c.in_ok-add_step.ensures.keeps c.in_ok-add_step.ensures.records
    (strengthens_dropped (session_of c.add_step.new.self) c.args.search.now d c.args.cref (subst (λ ss. IsStrengthened (session_after ss) c.args.search.now d) (sym c.in_ok-add_step.ensures.records.history) after_step) c.delete_long.ensures.dropped)

pub returns-in_err-add_step : goal.returns-in_err-add_step
returns-in_err-add_step g c =
    let p = err_from_is_err_and c.from_residual-in_err-add_step.result c.from_residual-in_err-add_step.ensures.1 in
    rw (p.1, p.2)
    (goes_broken g.W.CountedWrite.seen c.in_err-add_step.field-0.0 c.args.proof.now c.add_step.new.self (DeleteClause c.deref-2.result.now (deletion_of c.deletion_for.result)) _ tt c.in_err-add_step.ensures.keeps c.in_err-add_step.ensures.records)
