use Rattle.std.proofs.Common.{◌≡◌, List, Bool, length, ap, ◌∙◌, arith}
use Rattle.std.proofs.lemmas.List.{with_items_is}
use Rattle.sat_solver.specs.analyze_conflict.AnalysisState.{AnalysisState, analysis_state, with_seen_literals}
use Rattle.sat_solver.proofs.lemmas.analyze_conflict.Adding.{added_whole}
use Rattle.sat_solver.proofs.analyze_conflict.state.AnalyzeConflict.add_own.Goals as goal

pub returns-clause-seen : goal.returns-clause-seen
returns-clause-seen c =
    let x = c.self.inside in
    let flags : List Bool = c.add_lits.new.flags in
    let w : AnalysisState = analysis_state x.clause.items x.used.items x.seen.items x.antecedents.items x.core.items x.flags.items x.pending in
    let e = rw (c.in_ok-make_room.ensures.first, c.in_ok-make_room.ensures.second, c.deref_mut.ensures.value) at c.add_lits.ensures.added in
    let size : length flags ≡ x.flags.len = omega (arith, x.flags.ok.0, c.deref_mut.ensures.len) in
    ap (λ (fs : List Bool). analysis_state c.add_lits.new.clause.items x.used.items c.add_lits.new.seen.items x.antecedents.items x.core.items fs c.add_lits.new.pending) (with_items_is x.flags flags size)
    ∙ added_whole c.args.graph.now c.args.top c.args.lits.now _ _ _ _ w e ∙ ap (λ (v : AnalysisState). with_seen_literals c.args.graph.now c.args.top c.args.lits.now v) c.self.view_is
