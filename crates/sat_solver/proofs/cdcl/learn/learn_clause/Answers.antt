use Rattle.std.proofs.Common.{◌≡◌, ◌<◌, ◌∙◌, Err, length, refl, ap, arith}
use Rattle.sat_parts.specs.declared.parts.SearchState.{SearchState}
use Rattle.std.proofs.lemmas.Result.{err_from_is_err_and}
use Rattle.sat_base.specs.steps.Steps.{AtClause}
use Rattle.sat_parts.specs.prop.ReasonLits.{conflict_lits}
use Rattle.sat_parts.specs.declared.parts.assumptions.Assumptions.{Assumptions}
use Rattle.sat_parts.specs.parts.Assumed.{PlacesAreCorrect}
use Rattle.sat_solver.proofs.lemmas.cdcl.TurnLemmas.{ready_names}
use Rattle.sat_solver.specs.proof.ProofView.{steps_of, session_of}
use Rattle.sat_parts.specs.parts.Whole.{state}
use Rattle.sat_solver.proofs.lemmas.fits.LearnedLemmas.{is_learned_clause}
use Rattle.sat_solver.specs.declared.context.Search.{Search}
use Rattle.sat_solver.specs.cdcl.Joint.{global_in, SameVarsAndAssumptions}
use Rattle.sat_solver.specs.cdcl.Learning.{UndoesAndLearns}
use Rattle.sat_solver.proofs.lemmas.cdcl.TakingLemmas.{free_taken}
use Rattle.sat_solver.proofs.lemmas.cdcl.GoingLemmas.{goes_starved, goes_learned, goes_broken, goes_refused}
use Rattle.sat_solver.proofs.lemmas.cdcl.LearningLemmas.{learned_allowed, learned_stands, learned_last, learned_whole}
use Rattle.sat_solver.proofs.lemmas.cdcl.NamedLemmas.{learned_named}
use Rattle.sat_solver.proofs.cdcl.learn.learn_clause.Goals as goal

pub returns-in_err-level : goal.returns-in_err-level
returns-in_err-level g c =
    let p = err_from_is_err_and c.from_residual.result c.from_residual.ensures.1 in
    rw (p.1, p.2) (record { learned = goes_starved g.W.CountedWrite.seen c.args.proof.now _ c.requires.keeps; seen = tt; rated = tt })

pub add_step-requires-clause-may : goal.add_step-requires-clause-may
add_step-requires-clause-may g c =
    let x = c.in_ok-level.ensures in
    learned_allowed c.args.search.now.parts c.args.conflict.now c.analyze.new.search.analysis c.in_ok-level.level (steps_of c.args.proof.now) (global_in c.args.search.now) c.requires.stopped.refuted c.requires.above c.requires.stopped.fits (ready_names (session_of c.args.proof.now) c.args.search.now c.requires.stopped.ready) x.learns
    c.deref.result.now c.deref-2.result.now (c.deref.ensures.value ∙ x.clause) (c.deref-2.ensures.value ∙ x.hashes)

pub returns-in_err-add_step : goal.returns-in_err-add_step
returns-in_err-add_step g c =
    let x = c.in_ok-level.ensures in
    let p = err_from_is_err_and c.from_residual-in_err-add_step.result c.from_residual-in_err-add_step.ensures.1 in
    rw (p.1, p.2)
    (record {
      learned = goes_broken g.W.CountedWrite.seen c.in_err-add_step.field-0.0 c.args.proof.now c.add_step.new.self (AtClause c.is_marked_redundant.result c.deref.result.now c.deref-2.result.now) _
          (learned_named c.args.search.now.parts c.args.conflict.now c.analyze.new.search.analysis c.in_ok-level.level (session_of c.args.proof.now) (global_in c.args.search.now) (ready_names (session_of c.args.proof.now) c.args.search.now c.requires.stopped.ready) x.learns c.deref.result.now (c.deref.ensures.value ∙ x.clause)) c.in_err-add_step.ensures.keeps c.in_err-add_step.ensures.records;
      seen = tt;
      rated = tt;
    })

pub store_learned-requires-clause-learned : goal.store_learned-requires-clause-learned
store_learned-requires-clause-learned g c =
    let p = c.args.search.now.parts in
    let same : c.analyze.new.search.parts ≡ c.args.search.now.parts = ap (λ (s : Search). s.parts) c.in_ok-level.ensures.same in
    rw same (is_learned_clause p.clauses (state p) (conflict_lits p.clauses c.args.conflict.now) c.analyze.new.search.analysis c.in_ok-level.level c.requires.stopped.refuted.0.propagation.agrees c.in_ok-level.ensures.learns)

pub returns-in_err-store_learned : goal.returns-in_err-store_learned
returns-in_err-store_learned g c =
    let p = err_from_is_err_and c.from_residual-in_err-store_learned.result c.from_residual-in_err-store_learned.ensures.1 in
    let x = c.in_ok-level.ensures in
    rw (p.1, p.2) (record {
      learned = goes_refused g.W.CountedWrite.seen c.in_err-store_learned.field-0.0 c.args.proof.now c.add_step.new.self (AtClause c.is_marked_redundant.result c.deref.result.now c.deref-2.result.now) _
          (learned_named c.args.search.now.parts c.args.conflict.now c.analyze.new.search.analysis c.in_ok-level.level (session_of c.args.proof.now) (global_in c.args.search.now) (ready_names (session_of c.args.proof.now) c.args.search.now c.requires.stopped.ready) x.learns c.deref.result.now (c.deref.ensures.value ∙ x.clause)) c.in_ok-add_step.ensures.keeps c.in_ok-add_step.ensures.records
          (λ e. c.store_learned.ensures.full (c.in_err-store_learned.was ∙ ap Err e));
      seen = tt;
      rated = tt;
    })

pub returns-clause-learned : goal.returns-clause-learned
returns-clause-learned g c =
    let x = c.in_ok-level.ensures in
    let y = c.in_ok-store_learned.ensures in
    let r = c.requires.stopped in
    let flags = rw c.clause.ensures at c.is_marked_redundant.ensures in
    let same : c.analyze.new.search.parts ≡ c.args.search.now.parts = ap (λ (s : Search). s.parts) x.same in
    let assumptions : c.analyze.new.search.assumptions ≡ c.args.search.now.assumptions = ap (λ (s : Search). s.assumptions) x.same in
    let n = c.store_learned.new.search in
    let taken : UndoesAndLearns c.args.search.now.parts c.store_learned.new.search.parts c.in_ok-level.header c.analyze.new.search.analysis.clause c.in_ok-level.level = rw same at y.taken in
    let assumed : c.store_learned.new.search.assumptions ≡ c.args.search.now.assumptions = ap (λ (s : Search). s.assumptions) y.same ∙ assumptions in
    let lits : c.cut.new.self.lits ≡ c.args.search.now.assumptions.lits = c.cut.ensures.lits ∙ ap (λ (a : Assumptions). a.lits) assumed in
    let before : PlacesAreCorrect c.store_learned.new.search.assumptions (state c.args.search.now.parts) = rw assumed r.ready.placed in
    let placed = c.cut.ensures.placed (state c.args.search.now.parts) (state c.store_learned.new.search.parts) before (omega (arith, x.learns.below)) taken.keeps taken.starts in
    let moved : SameVarsAndAssumptions c.analyze.new.search (record c.store_learned.new.search { assumptions = c.cut.new.self }) =
    record { globals = ap (λ (s : Search). s.globals) y.same; lits = c.cut.ensures.lits ∙ ap (λ (s : Search). s.assumptions.lits) y.same; size = y.taken.size } in
    goes_learned g.W.CountedWrite.seen tt c.args.proof.now c.add_step.new.self (AtClause c.is_marked_redundant.result c.deref.result.now c.deref-2.result.now) _
    (learned_named c.args.search.now.parts c.args.conflict.now c.analyze.new.search.analysis c.in_ok-level.level (session_of c.args.proof.now) (global_in c.args.search.now) (ready_names (session_of c.args.proof.now) c.args.search.now c.requires.stopped.ready) x.learns c.deref.result.now (c.deref.ensures.value ∙ x.clause)) c.in_ok-add_step.ensures.keeps c.in_ok-add_step.ensures.records
    (learned_whole (steps_of c.args.proof.now) (steps_of c.add_step.new.self) (AtClause c.is_marked_redundant.result c.deref.result.now c.deref-2.result.now) c.args.search.now _ r.ready refl c.in_ok-add_step.ensures.records.history
    (learned_stands c.args.search.now.parts c.args.conflict.now c.analyze.new.search.analysis c.in_ok-level.level (steps_of c.args.proof.now) (global_in c.args.search.now) r.refuted c.requires.above r.fits (ready_names (session_of c.args.proof.now) c.args.search.now r.ready) x.learns
    c.store_learned.new.search.parts c.in_ok-level.header c.deref.result.now c.deref-2.result.now c.is_marked_redundant.result (steps_of c.add_step.new.self) (c.deref.ensures.value ∙ x.clause) flags c.in_ok-add_step.ensures.records.history taken.holds taken.fits)
    taken.rises taken.size
    (learned_last c.args.search.now.parts c.args.conflict.now c.analyze.new.search.analysis c.in_ok-level.level (steps_of c.args.proof.now) (global_in c.args.search.now) r.refuted c.requires.above r.fits (ready_names (session_of c.args.proof.now) c.args.search.now r.ready) x.learns
    c.deref.result.now c.deref-2.result.now c.is_marked_redundant.result (c.deref.ensures.value ∙ x.clause))
    (moved.globals ∙ ap (λ (s : Search). s.globals) x.same) lits placed
    (free_taken c.analyze.new.search (record n { assumptions = c.cut.new.self }) x.free moved (ap (λ (s : Search). s.analysis) y.same) y.flags))

pub returns-clause-seen : goal.returns-clause-seen
returns-clause-seen g c =
    let x = c.in_ok-level.ensures in
    let y = c.in_ok-store_learned.ensures in
    let same : c.analyze.new.search.parts ≡ c.args.search.now.parts = ap (λ (s : Search). s.parts) x.same in
    let size : length c.store_learned.new.search.parts.assignment.current ≡ length c.args.search.now.parts.assignment.current = y.taken.size ∙ ap (λ (p : SearchState). length p.assignment.current) same in
    rw (ap (λ (s : Search). s.analysis) y.same) (λ v k. (let b : v < length c.args.search.now.parts.assignment.current = x.seen v k in omega (arith, b, size)))
