use Rattle.std.proofs.Common.{◌≡◌, ◌-◌, ap, ◌∙◌, arith}
use Rattle.sat_parts.specs.declared.prop.graph.ImplNode.{ImplNode}
use Rattle.sat_parts.specs.declared.prop.graph.Reason.{Reason}
use Rattle.sat_parts.specs.prop.ReasonLits.{reason_lits}
use Rattle.sat_parts.specs.prop.Graphs.{node_of}
use Rattle.sat_parts.specs.prop.Ready.{state_of}
use Rattle.sat_parts.specs.prop.State.{PropagationState}
use Rattle.sat_solver.specs.analyze_conflict.Marks.{depth}
use Rattle.sat_solver.proofs.lemmas.analyze_conflict.Codes.{taken_stands, before_nodes}
use Rattle.sat_solver.proofs.lemmas.analyze_conflict.Tracing.{found, traced_first}
use Rattle.sat_solver.proofs.assumptions.analyze.begin_trace.Goals as goal

pub lits-requires-clause-clause : goal.lits-requires-clause-clause
lits-requires-clause-clause c = λ o is.
    let x = found _ _ c.args.failed c.requires.can c.requires.fails c.requires.above in
    let r_is = c.reason-reason.ensures ∙ ap (λ v. (node_of c.args.graph.now v).reason) c.var.ensures ∙ ap (λ (n : ImplNode). n.reason) x.node_is in
    (taken_stands _ _ _ o _ c.requires.can x.first x.within r_is is).0

pub lits-requires-clause-some : goal.lits-requires-clause-some
lits-requires-clause-some c = λ o is.
    let x = found _ _ c.args.failed c.requires.can c.requires.fails c.requires.above in
    let r_is = c.reason-reason.ensures ∙ ap (λ v. (node_of c.args.graph.now v).reason) c.var.ensures ∙ ap (λ (n : ImplNode). n.reason) x.node_is in
    (taken_stands _ _ _ o _ c.requires.can x.first x.within r_is is).1

pub add_all-requires-clause-nodes : goal.add_all-requires-clause-nodes
add_all-requires-clause-nodes c = λ k lt.
    let x = found _ _ c.args.failed c.requires.can c.requires.fails c.requires.above in
    let r_is = c.reason-reason.ensures ∙ ap (λ v. (node_of c.args.graph.now v).reason) c.var.ensures ∙ ap (λ (n : ImplNode). n.reason) x.node_is in
    before_nodes _ _ _ k c.lits.result c.requires.can x.first x.within (c.lits.ensures ∙ ap (λ (r : Reason). reason_lits c.args.clauses.now r) r_is) lt

pub overflow_sub-result : goal.overflow_sub-result
overflow_sub-result c =
    let s : PropagationState = state_of c.args.assignment.now c.args.graph.now c.args.trail.now in
    let x = found c.args.clauses.now s c.args.failed c.requires.can c.requires.fails c.requires.above in
    let d : c.depth.result ≡ depth s c.args.failed = c.depth.ensures ∙ ap (λ v. (node_of c.args.graph.now v).depth) c.var-2.ensures in
    omega (arith, d, c.requires.can.agrees.depths (depth s c.args.failed - 1) x.within, ap (λ (n : ImplNode). n.depth) x.node_is)

pub returns : goal.returns
returns c =
    let x = found _ _ c.args.failed c.requires.can c.requires.fails c.requires.above in
    rw (c.depth.ensures, c.var-2.ensures, c.in_ok-add_all.ensures, c.lits.ensures, c.reason-reason.ensures, c.var.ensures, c.in_ok-add_used.ensures, c.not.ensures, c.in_ok-begin_core.ensures)
    (traced_first _ _ c.args.failed _ c.args.analysis.now c.requires.can c.requires.clear c.requires.size x.within x.there c.requires.above c.requires.caused)
