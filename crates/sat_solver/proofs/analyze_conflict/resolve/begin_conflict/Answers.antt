use Rattle.std.proofs.Common.{ℕ, ◌≡◌, List, length, get_or, sym, ap, ◌∙◌, subst}
use Rattle.sat_base.specs.values.Literals.{negated}
use Rattle.sat_parts.specs.prop.ReasonLits.{conflict_lits}
use Rattle.sat_parts.specs.prop.Ready.{state_of}
use Rattle.sat_parts.specs.prop.State.{PropagationState, current_level}
use Rattle.sat_parts.proofs.lemmas.prop.StateLemmas.{true_from_false}
use Rattle.sat_solver.specs.analyze_conflict.AnalysisState.{AnalysisState, with_seen_literals, begun_analysis}
use Rattle.sat_solver.specs.analyze_conflict.Marks.{ResolutionInvariant}
use Rattle.sat_solver.specs.analyze_conflict.Seen.{CollectionInvariant}
use Rattle.sat_solver.proofs.lemmas.analyze_conflict.Ends.{began}
use Rattle.sat_solver.proofs.lemmas.analyze_conflict.Collecting.{collecting_began}
use Rattle.sat_solver.proofs.analyze_conflict.resolve.begin_conflict.Goals as goal

pub returns-clause-resolving : goal.returns-clause-resolving
returns-clause-resolving c =
    let words : List ℕ = c.args.clauses.now in
    let s : PropagationState = state_of c.args.assignment.now c.args.graph.now c.args.trail.now in
    let e : c.add_all.new.analysis ≡ with_seen_literals c.args.graph.now (current_level s) (conflict_lits words c.args.conflict.now) (begun_analysis c.args.conflict.now c.args.analysis.now) =
    c.in_ok-add_all.ensures
    ∙ ap (λ n. with_seen_literals c.args.graph.now n c.lits.result c.begin.new.self) c.current_level.ensures.level
    ∙ ap (λ (ls : List ℕ). with_seen_literals c.args.graph.now (current_level s) ls c.begin.new.self) c.lits.ensures
    ∙ ap (λ (w : AnalysisState). with_seen_literals c.args.graph.now (current_level s) (conflict_lits words c.args.conflict.now) w) c.in_ok-begin.ensures in
    subst (λ (w : AnalysisState). ResolutionInvariant words s (conflict_lits words c.args.conflict.now) w (length c.args.trail.now.lits)) (sym e)
    (began words s (conflict_lits words c.args.conflict.now) c.args.conflict.now c.args.analysis.now c.requires.can c.requires.clear c.requires.size c.requires.fails c.requires.top)

pub returns-clause-collecting : goal.returns-clause-collecting
returns-clause-collecting c =
    let words : List ℕ = c.args.clauses.now in
    let s : PropagationState = state_of c.args.assignment.now c.args.graph.now c.args.trail.now in
    let ls : List ℕ = conflict_lits words c.args.conflict.now in
    let e : c.add_all.new.analysis ≡ with_seen_literals c.args.graph.now (current_level s) (conflict_lits words c.args.conflict.now) (begun_analysis c.args.conflict.now c.args.analysis.now) =
    c.in_ok-add_all.ensures
    ∙ ap (λ n. with_seen_literals c.args.graph.now n c.lits.result c.begin.new.self) c.current_level.ensures.level
    ∙ ap (λ (ls : List ℕ). with_seen_literals c.args.graph.now (current_level s) ls c.begin.new.self) c.lits.ensures
    ∙ ap (λ (w : AnalysisState). with_seen_literals c.args.graph.now (current_level s) (conflict_lits words c.args.conflict.now) w) c.in_ok-begin.ensures in
    subst (λ (w : AnalysisState). CollectionInvariant words s c.args.conflict.now w (length c.args.trail.now.lits)) (sym e)
    (collecting_began words s c.args.conflict.now c.args.analysis.now c.requires.can.agrees c.requires.clear c.requires.size
    (λ k lt. c.requires.can.agrees.known (negated (get_or ls k 0)) (true_from_false s.values (get_or ls k 0) (c.requires.fails k lt))))
