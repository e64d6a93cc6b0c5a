use Rattle.std.proofs.lemmas.Grind.{common_steps}
use Rattle.std.proofs.Common.{ℕ, List, Bool, length, get_or, sym, ap, ◌∙◌, subst, arith}
use Rattle.std.specs.List.Sorted.{IsPermutation}
use Rattle.sat_parts.specs.clause.Glue.{FlagsAreClear}
use Rattle.sat_parts.specs.prop.Ready.{state_of}
use Rattle.sat_parts.specs.prop.State.{PropagationState}
use Rattle.sat_parts.proofs.lemmas.clause.ListLemmas.{place_in}
use Rattle.sat_solver.specs.analyze_conflict.AnalysisState.{AnalysisState}
use Rattle.sat_solver.specs.analyze_conflict.Derivation.{PutsHighestSecond}
use Rattle.sat_solver.specs.analyze_conflict.Minimization.{IsSortedBefore}
use Rattle.sat_solver.proofs.lemmas.analyze_conflict.Codes.{reasoned_variable}
use Rattle.sat_solver.proofs.lemmas.analyze_conflict.Minimized.{false_variable}
use Rattle.sat_solver.proofs.lemmas.analyze_conflict.Ordered.{ordered}
use Rattle.sat_solver.proofs.lemmas.analyze_conflict.Learned.{learned}
use Rattle.sat_solver.proofs.lemmas.analyze_conflict.Resolutions.{is_resolution}
use Rattle.sat_solver.proofs.lemmas.analyze_conflict.Turned.{falls_before}
use Rattle.sat_solver.proofs.analyze_conflict.analyze.analyze_conflict.Goals as goal

pub returns-clause-learns : goal.returns-clause-learns
returns-clause-learns c =
    let w : AnalysisState = c.minimize_clause.new.analysis in
    let w' : AnalysisState = c.put_second.new.self in
    let before = ap (λ (x : AnalysisState). x.used) c.clear_flags.ensures.same in
    let order = subst (λ (us : List ℕ). IsPermutation us c.order_used.new.self.used) before c.in_ok-order_used.ensures.permutation in
    let derivation = ordered _ _ _ w.clause w.used c.order_used.new.self.used c.requires.can.agrees c.in_ok-minimize_clause.ensures.grounds order c.in_ok-order_used.ensures.rising in
    let used = ap (λ (x : AnalysisState). x.used) c.put_second.ensures.same in
    let clause = ap (λ (x : AnalysisState). x.clause) c.order_used.ensures.same ∙ ap (λ (x : AnalysisState). x.clause) c.clear_flags.ensures.same in
    let flags = ap (λ (x : AnalysisState). x.flags) c.put_second.ensures.same ∙ ap (λ (x : AnalysisState). x.flags) c.order_used.ensures.same in
    learned _ _ _ w w' c.put_second.result c.requires.can c.requires.fails c.in_ok-minimize_clause.ensures.asserting (rw used derivation)
    (subst (λ (xs : List ℕ). PutsHighestSecond c.args.graph.now xs w'.clause c.put_second.result) clause c.put_second.ensures.second)
    (subst (λ (fs : List Bool). FlagsAreClear fs) (sym flags) c.clear_flags.ensures.clear)

pub returns-clause-resolution : goal.returns-clause-resolution
returns-clause-resolution c = grind (arith, common_steps, is_resolution)

pub order_used-requires : goal.order_used-requires
order_used-requires c =
    let w : AnalysisState = c.minimize_clause.new.analysis in
    let before = ap (λ (x : AnalysisState). x.used) c.clear_flags.ensures.same in
    let falls =
    falls_before _ _ _ c.finish_conflict.new.analysis w c.requires.can.agrees c.in_ok-finish_conflict.ensures.resolved c.in_ok-minimize_clause.ensures.kept
    (λ k lt. c.in_ok-minimize_clause.ensures.grounds.reasons (get_or w.used k 0) (place_in w.used k lt)) in
    subst (λ (us : List ℕ). IsSortedBefore c.args.graph.now us (length c.used-resolved.result.now)) (sym before)
    (subst (λ n. IsSortedBefore c.args.graph.now w.used n) (sym (ap (λ (us : List ℕ). length us) c.used-resolved.ensures)) falls)

pub clear_flags-requires-clause-used : goal.clear_flags-requires-clause-used
clear_flags-requires-clause-used c = λ k lt.
    let s : PropagationState = state_of c.args.assignment.now c.args.graph.now c.args.trail.now in
    let w : AnalysisState = c.minimize_clause.new.analysis in
    let l : ℕ = get_or w.used k 0 in
    omega (arith, reasoned_variable s l c.requires.can.agrees (c.in_ok-minimize_clause.ensures.grounds.reasons l (place_in w.used k lt)), c.in_ok-minimize_clause.ensures.size, c.in_ok-finish_conflict.ensures.resolved.size)

pub put_second-requires : goal.put_second-requires
put_second-requires c = grind (arith, common_steps, false_variable)
