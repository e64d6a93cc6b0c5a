use Rattle.std.proofs.Common.{ℕ, ◌≡◌, ◌<◌, List, length, get_or, refl, sym, ap, ◌∙◌, subst, arith}
use Rattle.std.proofs.lemmas.List.{get_or_read}
use Rattle.sat_base.specs.values.Literals.{variable}
use Rattle.sat_parts.specs.declared.prop.graph.Reason.{Reason}
use Rattle.sat_parts.specs.prop.ReasonLits.{reason_lits}
use Rattle.sat_parts.specs.prop.Graphs.{node_of, has_no_clause}
use Rattle.sat_parts.specs.prop.Ready.{state_of}
use Rattle.sat_parts.specs.prop.State.{PropagationState, node, lit_at}
use Rattle.sat_solver.specs.analyze_conflict.AnalysisState.{AnalysisState, with_seen_literals, with_reason_used, with_core_literal}
use Rattle.sat_solver.specs.analyze_conflict.Marks.{causes_at}
use Rattle.sat_solver.specs.assumptions.FailedAssumptions.{TraceInvariant}
use Rattle.sat_solver.proofs.lemmas.analyze_conflict.Codes.{some_flagged, last_place, place_variable, taken_stands, before_nodes}
use Rattle.sat_solver.proofs.lemmas.analyze_conflict.Resolution.{IsLastFlagged}
use Rattle.sat_solver.proofs.lemmas.analyze_conflict.Tracing.{Reached, reached, traced_used, traced_chosen}
use Rattle.sat_solver.proofs.assumptions.analyze.trace_next.Goals as goal
use Rattle.sat_solver.proofs.assumptions.analyze.trace_next.Goals.{After-reason-reason}

-- the last flagged literal, and its reason
module _ (c : After-reason-reason) where
  abbrev s : PropagationState
  s = state_of c.args.assignment.now c.args.graph.now c.args.trail.now

  abbrev p : ℕ
  p = c.last_flagged-place.result

  last : IsLastFlagged s c.args.analysis.now.flags p c.args.before
  last = last_place s c.args.analysis.now.flags p c.args.before c.trail-lits.result.now c.trail-lits.ensures.lits c.last_flagged-place.ensures.within c.last_flagged-place.ensures.flagged c.last_flagged-place.ensures.others

  here : variable (lit_at s p) < length c.args.analysis.now.flags
  here = place_variable s 1 c.args.analysis.now c.args.before p c.requires.can.agrees c.requires.tracing.marks last.before

  found : Reached c.args.clauses.now s c.args.analysis.now p c.args.before
  found = reached c.args.clauses.now s c.args.analysis.now p c.args.before c.requires.can c.requires.tracing.marks c.requires.some last here

  lit_is : c.index-lits-place.result ≡ lit_at s p
  lit_is =
      get_or_read c.trail-lits.result.now p c.index-lits-place.result (omega (arith, found.within, ap (λ (xs : List ℕ). length xs) c.trail-lits.ensures.lits)) c.index-lits-place.is 0
      ∙ ap (λ (xs : List ℕ). get_or xs p 0) c.trail-lits.ensures.lits

  reason_is : c.reason-reason.result ≡ (node s (lit_at s p)).reason
  reason_is = c.reason-reason.ensures ∙ ap (λ v. (node_of c.args.graph.now v).reason) (c.var.ensures ∙ ap (λ l. variable l) lit_is)

pub last_flagged-place-requires-clause-some : goal.last_flagged-place-requires-clause-some
last_flagged-place-requires-clause-some c =
    some_flagged (state_of c.args.assignment.now c.args.graph.now c.args.trail.now) 1 c.args.analysis.now c.args.before c.trail-lits.result.now c.trail-lits.ensures.lits c.requires.tracing.marks c.requires.some

pub returns-then-is_unit : goal.returns-then-is_unit
returns-then-is_unit c =
    let x = (goal.at.returns-then-is_unit c).After-reason-reason in
    let free = ap (λ (r : Reason). has_no_clause r) (sym (reason_is x)) ∙ sym c.is_unit.ensures ∙ c.if-is_unit.true in
    let e = c.in_ok-add_decision_to_core.ensures ∙ ap (λ l. with_core_literal l c.args.analysis.now) (lit_is x) in
    ((last x).before, subst (λ (v : AnalysisState). TraceInvariant c.args.clauses.now (s x) c.args.failed v (p x)) (sym e) (traced_chosen _ _ _ _ _ _ c.requires.can c.requires.tracing c.requires.some (last x) (here x) free))

pub lits-requires-clause-clause : goal.lits-requires-clause-clause
lits-requires-clause-clause c = λ o is.
    let x = (goal.at.lits-requires-clause-clause c).After-reason-reason in
    (taken_stands _ _ _ o _ c.requires.can (found x).first (found x).within (reason_is x) is).0

pub lits-requires-clause-some : goal.lits-requires-clause-some
lits-requires-clause-some c = λ o is.
    let x = (goal.at.lits-requires-clause-some c).After-reason-reason in
    (taken_stands _ _ _ o _ c.requires.can (found x).first (found x).within (reason_is x) is).1

pub add_all-requires-clause-nodes : goal.add_all-requires-clause-nodes
add_all-requires-clause-nodes c = λ k lt.
    let x = (goal.at.add_all-requires-clause-nodes c).After-reason-reason in
    before_nodes _ _ _ k c.lits.result c.requires.can (found x).first (found x).within (c.lits.ensures ∙ ap (λ (r : Reason). reason_lits c.args.clauses.now r) (reason_is x)) lt

pub returns : goal.returns
returns c =
    let x = (goal.at.returns c).After-reason-reason in
    let l = lit_at (s x) (p x) in
    let caused = ap (λ (r : Reason). has_no_clause r) (sym (reason_is x)) ∙ sym c.is_unit.ensures ∙ c.if-is_unit.false in
    let e : c.add_all.new.analysis ≡ with_seen_literals c.args.graph.now 1 (causes_at c.args.clauses.now (s x) l) (with_reason_used (node (s x) l).reason l c.args.analysis.now) =
    rw (c.in_ok-add_all.ensures, c.lits.ensures, c.in_ok-use_reason.ensures, lit_is x, reason_is x) refl in
    ((last x).before, subst (λ (v : AnalysisState). TraceInvariant c.args.clauses.now (s x) c.args.failed v (p x)) (sym e) (traced_used _ _ _ _ _ _ c.requires.can c.requires.tracing c.requires.some (last x) (here x) caused))
