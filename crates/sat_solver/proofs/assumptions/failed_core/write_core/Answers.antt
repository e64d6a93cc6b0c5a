use Rattle.std.proofs.Common.{arith}
use Rattle.std.proofs.lemmas.Grind.{common_steps}
use Rattle.std.proofs.Common.{ℕ, ◌≡◌, ◌∙◌, List, map, sym, ap, subst}
use Rattle.std.proofs.lemmas.Result.{err_from_is_err_and}
use Rattle.sat_base.specs.steps.Steps.{FailedAssumptions}
use Rattle.sat_solver.specs.session.LiveClauses.{with_var}
use Rattle.sat_solver.specs.proof.ProofView.{session_of}
use Rattle.sat_solver.specs.session.Session.{IsAllowedStep}
use Rattle.sat_solver.proofs.lemmas.fits.FailedParts.{fails_may}
use Rattle.sat_solver.specs.declared.context.Search.{Search}
use Rattle.sat_solver.specs.assumptions.Core.{causes_hashes}
use Rattle.sat_solver.specs.cdcl.Joint.{global_in}
use Rattle.sat_solver.proofs.lemmas.assumptions.FailingLemmas.{reports_starved, reports_broken, reports_core}
use Rattle.sat_solver.proofs.assumptions.failed_core.write_core.Goals as goal

pub returns-in_err-find_core : goal.returns-in_err-find_core
returns-in_err-find_core g c = grind (arith, common_steps, err_from_is_err_and, reports_starved)

pub add_step-requires-clause-may : goal.add_step-requires-clause-may
add_step-requires-clause-may g c =
    let s = c.args.search.now in
    let x = c.in_ok-find_core.ensures in
    let core : c.deref.result.now ≡ map (with_var (global_in c.args.search.now)) c.find_core.new.search.analysis.core = c.deref.ensures.value ∙ x.clause in
    let hashes : c.deref-2.result.now ≡ causes_hashes c.args.search.now.parts c.find_core.new.search.analysis.used = c.deref-2.ensures.value ∙ x.hashes in
    let may : IsAllowedStep (session_of c.args.proof.now) (FailedAssumptions (map (with_var (global_in c.args.search.now)) c.find_core.new.search.analysis.core) (causes_hashes c.args.search.now.parts c.find_core.new.search.analysis.used)) =
    fails_may s.parts (session_of c.args.proof.now) (global_in s) c.requires.search.valid.fits c.requires.search.valid.holds s.failed s.assumptions.lits.items c.requires.search.ready.asked c.requires.failing.among c.requires.failing.decided
    c.requires.failing.fails c.find_core.new.search.analysis.core c.find_core.new.search.analysis.used x.fails in
    subst (λ (ls : List ℕ). IsAllowedStep (session_of c.args.proof.now) (FailedAssumptions ls c.deref-2.result.now)) (sym core)
    (subst (λ (hs : List ℕ). IsAllowedStep (session_of c.args.proof.now) (FailedAssumptions (map (with_var (global_in c.args.search.now)) c.find_core.new.search.analysis.core) hs)) (sym hashes) may)

pub returns : goal.returns
returns g c =
    let x = c.in_ok-find_core.ensures in
    reports_core g.W.CountedWrite.seen c.args.proof.now c.add_step.new.self c.args.search.now c.find_core.new.search c.in_ok-add_step.ensures.keeps
    c.deref.result.now (c.deref.ensures.value ∙ x.clause) c.deref-2.result.now (c.deref-2.ensures.value ∙ x.hashes) c.in_ok-add_step.ensures.records
    c.requires.search c.requires.failing x.fails x.free
    (ap (λ (s : Search). s.parts) x.same) (ap (λ (s : Search). s.globals) x.same) (ap (λ (s : Search). s.assumptions) x.same)

pub returns-in_err-add_step : goal.returns-in_err-add_step
returns-in_err-add_step g c = grind (arith, common_steps, err_from_is_err_and, reports_broken)
