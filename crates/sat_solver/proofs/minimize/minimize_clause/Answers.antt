use Rattle.std.proofs.Common.{ℕ, ◌≡◌, ◌+◌, ◌<◌, List, false, length, take, set, get_or, refl, sym, ap, ◌∙◌, subst, arith, take-append-drop, length-take, get_or-take}
use Rattle.std.proofs.lemmas.Bool.{MatchBool-at_true, MatchBool-at_false}
use Rattle.std.proofs.lemmas.List.{get_or_read}
use Rattle.sat_base.specs.values.Literals.{variable, negated}
use Rattle.sat_parts.specs.declared.prop.graph.Reason.{Reason}
use Rattle.sat_parts.specs.prop.Graphs.{node_of, has_no_clause}
use Rattle.sat_parts.specs.prop.ReasonLits.{conflict_lits}
use Rattle.sat_parts.specs.prop.Ready.{state_of}
use Rattle.sat_parts.specs.prop.State.{PropagationState, node}
use Rattle.sat_solver.specs.analyze_conflict.AnalysisState.{AnalysisState}
use Rattle.sat_solver.specs.analyze_conflict.Minimization.{MinimizationInvariant, AddsMarks, SameAnalysis, with_used, CanStartSearch}
use Rattle.sat_solver.proofs.lemmas.analyze_conflict.Minimized.{minimal_start, may_start, minimal_grounds, false_variable}
use Rattle.sat_solver.proofs.lemmas.analyze_conflict.Loops.{HasAccepted, Goes, split, in_rest, not_first, lower_here, same_itself, goes_kept, goes_dropped, front_refl, minimal_asserting, minimal_among, minimal_cut}
use Rattle.sat_solver.proofs.minimize.minimize_clause.Goals as goal
use Rattle.sat_solver.proofs.minimize.minimize_clause.Goals.{After-var, then-is_unit, then-is_unit-via-then-is_unit, then-is_unit-via-else-is_unit+in_ok-is_implied+then-not-branch, else-is_unit+in_ok-is_implied+else-not-branch}

-- what a search that succeeded says
abbrev Implied : (words : List ℕ) (s : PropagationState) (conflict : List ℕ) (low : ℕ) (w new : AnalysisState) (lit : ℕ) → Type 0
Implied words s conflict low w new lit = AddsMarks (with_used (negated lit) w) new × MinimizationInvariant words s conflict (get_or w.clause 0 0) low new (length new.used)

-- the literal of this iteration
module _ (c : After-var) where
  abbrev s : PropagationState
  s = state_of c.args.assignment.now c.args.graph.now c.args.trail.now

  abbrev conflict : List ℕ
  conflict = conflict_lits c.args.clauses.now c.args.conflict.now

  abbrev first : ℕ
  first = get_or c.args.analysis.now.clause 0 0

  abbrev low : ℕ
  low = length c.used-low.result.now

  abbrev lit : ℕ
  lit = get_or c.loop-at.analysis.clause c.loop-at.at 0

  accepted : HasAccepted c.args.clauses.now s conflict first low c.loop-at.kept c.loop-at.at c.loop-at.analysis.clause c.loop-at.analysis
  accepted = record {
    minimal = c.loop-at.invariant.minimal;
    some = c.loop-at.invariant.some;
    following = c.loop-at.invariant.following;
    within = omega (arith, c.loop-at-test.true, ap (λ (xs : List ℕ). length xs) c.clause-at-end.ensures, c.loop-at.invariant.size);
    head = c.loop-at.invariant.first;
  }

  lit_is : c.index-clause-at.result ≡ lit
  lit_is =
      get_or_read c.clause-in-loop-at.result.now c.loop-at.at c.index-clause-at.result (omega (arith, accepted.within, ap (λ (xs : List ℕ). length xs) c.clause-in-loop-at.ensures)) c.index-clause-at.is 0
      ∙ ap (λ (xs : List ℕ). get_or xs c.loop-at.at 0) c.clause-in-loop-at.ensures

pub loop-at-init : goal.loop-at-init
loop-at-init c = record {
  front = front_refl c.args.analysis.now;
  minimal = rw (ap (λ (xs : List ℕ). length xs) c.used-low.ensures, take-append-drop 1 c.args.analysis.now.clause) (minimal_start _ _ _ c.args.analysis.now c.requires.resolved);
  some = omega arith;
  following = omega arith;
  size = refl;
  first = refl;
}

pub reason-reason-requires : goal.reason-reason-requires
reason-reason-requires c =
    let x = (goal.at.reason-reason-requires c).After-var in
    omega (arith, false_variable (s x) (lit x) (lower_here _ _ _ _ _ _ _ _ _ (accepted x)).fails, c.requires.can.agrees.nodes, c.var.ensures, ap (λ l. variable l) (lit_is x))

pub is_implied-requires-clause-may : goal.is_implied-requires-clause-may
is_implied-requires-clause-may c =
    let x = (goal.at.is_implied-requires-clause-may c).After-var in
    let h = accepted x in
    let r_is : c.reason-reason.result ≡ (node (s x) (lit x)).reason = c.reason-reason.ensures ∙ ap (λ v. (node_of c.args.graph.now v).reason) (c.var.ensures ∙ ap (λ l. variable l) (lit_is x)) in
    let caused : has_no_clause (node (s x) (lit x)).reason ≡ false = ap (λ (r : Reason). has_no_clause r) (sym r_is) ∙ sym c.is_unit.ensures ∙ c.if-is_unit.false in
    subst (λ l. CanStartSearch (s x) c.loop-at.analysis l) (sym (lit_is x))
    (may_start _ _ _ _ _ _ _ _ c.requires.can.agrees (split _ _ _ _ _ _ _ _ _ h) (in_rest _ _ _ h.following h.within) (not_first _ _ _ _ _ _ _ _ _ h) caused)

pub loop-at-preserved : goal.loop-at-preserved
loop-at-preserved c =
    let x = (goal.at.loop-at-preserved c).After-var in
    let w : AnalysisState = c.loop-at.analysis in
    let g : Goes c.args.clauses.now (s x) (conflict x) (first x) (low x) c.if-is_unit.kept (c.loop-at.at + 1) (length w.clause) c.args.analysis.now c.if-is_unit.analysis = elim c.if-is_unit.branch [
      | then-is_unit v ↦
          let same : SameAnalysis w v.then-is_unit.analysis = elim v.then-is_unit.branch [
            | then-is_unit-via-then-is_unit u ↦ rw u.analysis-is (same_itself w)
            | then-is_unit-via-else-is_unit+in_ok-is_implied+then-not-branch u ↦
                rw u.analysis-is (MatchBool-at_false (Implied c.args.clauses.now (s x) (conflict x) (low x) w u.is_implied.new.analysis c.index-clause-at.result) (SameAnalysis w u.is_implied.new.analysis) u.if-not-branch.true u.in_ok-is_implied.ensures)
          ] in
          let kept_is = v.set_clause_lit.ensures ∙ ap (λ l. record v.then-is_unit.analysis { clause = set v.then-is_unit.analysis.clause c.loop-at.kept l }) (lit_is x) in
          rw (v.kept-is, v.analysis-is) (goes_kept _ _ _ _ _ _ _ c.args.analysis.now w v.then-is_unit.analysis v.set_clause_lit.new.self c.loop-at.invariant.front (accepted x) same kept_is)
      | else-is_unit+in_ok-is_implied+else-not-branch v ↦
          let new : AnalysisState = v.is_implied.new.analysis in
          let both = MatchBool-at_true (Implied c.args.clauses.now (s x) (conflict x) (low x) w new c.index-clause-at.result) (SameAnalysis w new) v.if-not-branch.false v.in_ok-is_implied.ensures in
          let more = subst (λ l. AddsMarks (with_used (negated l) w) new) (lit_is x) both.0 in
          let searching = subst (λ z. MinimizationInvariant c.args.clauses.now (s x) (conflict x) z (low x) new (length new.used)) c.loop-at.invariant.first both.1 in
          rw (v.kept-is, v.analysis-is) (goes_dropped _ _ _ _ _ _ _ c.args.analysis.now w new c.loop-at.invariant.front (accepted x) more searching)
    ] in
    record {
      front = g.front;
      minimal = g.minimal;
      some = g.some;
      following = g.following;
      size = g.length_is ∙ c.loop-at.invariant.size;
      first = g.head;
    }

pub returns-clause-asserting : goal.returns-clause-asserting
returns-clause-asserting c =
    let w : AnalysisState = c.loop-at.analysis in
    let m = minimal_cut _ _ _ _ _ c.loop-at.kept c.loop-at.at w.clause w (omega (arith, c.loop-at-test.false, ap (λ (xs : List ℕ). length xs) c.clause-at-end.ensures, c.loop-at.invariant.size)) c.loop-at.invariant.minimal in
    let start = c.requires.resolved.asserting in
    let some : 0 < length (take c.loop-at.kept w.clause) = omega (arith, c.loop-at.invariant.size, start.some, c.loop-at.invariant.some, length-take c.loop-at.kept w.clause) in
    rw c.cut.ensures (minimal_asserting _ _ _ _ _ _ w m (start.fails 0 start.some) some (get_or-take c.loop-at.kept w.clause 0 0 (omega (arith, c.loop-at.invariant.some)) ∙ c.loop-at.invariant.first))

pub returns-clause-grounds : goal.returns-clause-grounds
returns-clause-grounds c =
    let w : AnalysisState = c.loop-at.analysis in
    let m = minimal_cut _ _ _ _ _ c.loop-at.kept c.loop-at.at w.clause w (omega (arith, c.loop-at-test.false, ap (λ (xs : List ℕ). length xs) c.clause-at-end.ensures, c.loop-at.invariant.size)) c.loop-at.invariant.minimal in
    let start = c.requires.resolved.asserting in
    rw c.cut.ensures (minimal_grounds _ _ _ _ _ _ w c.requires.can c.requires.fails (start.fails 0 start.some) m)

pub returns-clause-among : goal.returns-clause-among
returns-clause-among c =
    let w : AnalysisState = c.loop-at.analysis in
    let m = minimal_cut _ _ _ _ _ c.loop-at.kept c.loop-at.at w.clause w (omega (arith, c.loop-at-test.false, ap (λ (xs : List ℕ). length xs) c.clause-at-end.ensures, c.loop-at.invariant.size)) c.loop-at.invariant.minimal in
    minimal_among _ _ _ _ _ _ w c.cut.new.self m (ap (λ (x : AnalysisState). x.clause) c.cut.ensures) (ap (λ (x : AnalysisState). x.used) c.cut.ensures) (ap (λ (x : AnalysisState). x.flags) c.cut.ensures)
