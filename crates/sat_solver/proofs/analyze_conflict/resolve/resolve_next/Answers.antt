use Rattle.std.proofs.Common.{ℕ, ◌≡◌, ◌<◌, List, length, get_or, refl, sym, ap, ◌∙◌, subst, arith}
use Rattle.std.proofs.lemmas.List.{get_or_read}
use Rattle.sat_base.specs.values.Literals.{variable}
use Rattle.sat_parts.specs.declared.prop.graph.Reason.{Reason}
use Rattle.sat_parts.specs.prop.ReasonLits.{reason_lits, conflict_lits}
use Rattle.sat_parts.specs.prop.Graphs.{node_of}
use Rattle.sat_parts.specs.prop.Ready.{state_of}
use Rattle.sat_parts.specs.prop.State.{PropagationState, node, current_level, lit_at}
use Rattle.sat_solver.specs.analyze_conflict.AnalysisState.{AnalysisState, with_seen_literals, with_reason_used}
use Rattle.sat_solver.specs.analyze_conflict.Marks.{causes_at, ResolutionInvariant}
use Rattle.sat_solver.specs.analyze_conflict.Seen.{CollectionInvariant}
use Rattle.sat_solver.proofs.lemmas.analyze_conflict.Codes.{some_flagged, last_place, place_variable, taken_stands, before_nodes}
use Rattle.sat_solver.proofs.lemmas.analyze_conflict.Collecting.{collecting_taken}
use Rattle.sat_solver.proofs.lemmas.analyze_conflict.Resolution.{IsLastFlagged, Taken, taken, resolved}
use Rattle.sat_solver.proofs.analyze_conflict.resolve.resolve_next.Goals as goal
use Rattle.sat_solver.proofs.analyze_conflict.resolve.resolve_next.Goals.{After-var, After-reason-reason}

-- the last literal of the resolvent
module _ (c : After-var) where
  abbrev s : PropagationState
  s = state_of c.args.assignment.now c.args.graph.now c.args.trail.now

  abbrev p : ℕ
  p = c.last_flagged-place.result

  last : IsLastFlagged s c.args.analysis.now.flags p c.args.before
  last = last_place s c.args.analysis.now.flags p c.args.before c.trail-lits.result.now c.trail-lits.ensures.lits c.last_flagged-place.ensures.within c.last_flagged-place.ensures.flagged c.last_flagged-place.ensures.others

  here : variable (lit_at s p) < length c.args.analysis.now.flags
  here = place_variable s (current_level s) c.args.analysis.now c.args.before p c.requires.can.agrees c.requires.resolving.marks last.before

  lit_is : c.index-lits-place.result ≡ lit_at s p
  lit_is =
      get_or_read c.trail-lits.result.now p c.index-lits-place.result (omega (arith, c.requires.resolving.marks.within, last.before, ap (λ (xs : List ℕ). length xs) c.trail-lits.ensures.lits)) c.index-lits-place.is 0
      ∙ ap (λ (xs : List ℕ). get_or xs p 0) c.trail-lits.ensures.lits

  took : Taken c.args.clauses.now s c.args.analysis.now p c.args.before
  took = taken c.args.clauses.now s c.args.analysis.now p c.args.before c.requires.can c.requires.resolving.marks c.requires.two last here

-- its reason
module _ (c : After-reason-reason) where
  abbrev x : After-var
  x = (goal.at.After-reason-reason c).After-var

  reason_is : c.reason-reason.result ≡ (node (s x) (lit_at (s x) (p x))).reason
  reason_is = c.reason-reason.ensures ∙ ap (λ v. (node_of c.args.graph.now v).reason) (c.var.ensures ∙ ap (λ l. variable l) (lit_is x))

pub last_flagged-place-requires-clause-some : goal.last_flagged-place-requires-clause-some
last_flagged-place-requires-clause-some c =
    let s : PropagationState = state_of c.args.assignment.now c.args.graph.now c.args.trail.now in
    some_flagged s (current_level s) c.args.analysis.now c.args.before c.trail-lits.result.now c.trail-lits.ensures.lits c.requires.resolving.marks c.requires.resolving.some

pub lits-requires-clause-clause : goal.lits-requires-clause-clause
lits-requires-clause-clause c = λ o is.
    let r = (goal.at.lits-requires-clause-clause c).After-reason-reason in
    (taken_stands _ _ _ o _ c.requires.can (took (x r)).first (took (x r)).within (reason_is r) is).0

pub lits-requires-clause-some : goal.lits-requires-clause-some
lits-requires-clause-some c = λ o is.
    let r = (goal.at.lits-requires-clause-some c).After-reason-reason in
    (taken_stands _ _ _ o _ c.requires.can (took (x r)).first (took (x r)).within (reason_is r) is).1

pub add_all-requires-clause-nodes : goal.add_all-requires-clause-nodes
add_all-requires-clause-nodes c = λ k lt.
    let r = (goal.at.add_all-requires-clause-nodes c).After-reason-reason in
    before_nodes _ _ _ k c.lits.result c.requires.can (took (x r)).first (took (x r)).within (c.lits.ensures ∙ ap (λ (y : Reason). reason_lits c.args.clauses.now y) (reason_is r)) lt

pub returns : goal.returns
returns c =
    let r = (goal.at.returns c).After-reason-reason in
    let y = x r in
    let t = took y in
    let l = lit_at (s y) (p y) in
    let e : c.add_all.new.analysis ≡ with_seen_literals c.args.graph.now (current_level (s y)) (causes_at c.args.clauses.now (s y) l) (with_reason_used (node (s y) l).reason l c.args.analysis.now) =
    rw (c.in_ok-add_all.ensures, c.current_level.ensures.level, c.lits.ensures, c.in_ok-use_reason.ensures, lit_is y, reason_is r) refl in
    record {
      next = (
        (last y).before,
        subst (λ (w : AnalysisState). ResolutionInvariant c.args.clauses.now (s y) (conflict_lits c.args.clauses.now c.args.conflict.now) w (p y)) (sym e)
            (resolved _ _ _ c.args.analysis.now _ _ c.requires.can c.requires.resolving c.requires.two (last y) (here y)),
        subst (λ (w : AnalysisState). CollectionInvariant c.args.clauses.now (s y) c.args.conflict.now w (p y)) (sym e)
            (collecting_taken _ _ _ c.args.analysis.now _ _ c.requires.can.agrees c.requires.collecting (last y) c.requires.resolving.marks.within c.requires.resolving.marks.size
            (λ k lt. c.requires.can.before (p y) k t.first t.within lt) t.other),
      );
    }
