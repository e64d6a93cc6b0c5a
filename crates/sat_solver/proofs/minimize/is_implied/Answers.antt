use Rattle.std.proofs.Common.{ℕ, ◌≡◌, ◌<◌, List, length, get_or, refl, sym, ap, ◌∙◌, subst, arith}
use Rattle.std.proofs.lemmas.List.{get_or_read, length_push}
use Rattle.sat_base.specs.values.Literals.{variable, negated}
use Rattle.sat_parts.specs.declared.prop.graph.Reason.{Reason}
use Rattle.sat_parts.specs.prop.ReasonLits.{reason_lits, conflict_lits}
use Rattle.sat_parts.specs.prop.Graphs.{node_of}
use Rattle.sat_parts.specs.prop.Ready.{state_of}
use Rattle.sat_parts.specs.prop.State.{PropagationState, node}
use Rattle.sat_solver.specs.analyze_conflict.AnalysisState.{AnalysisState}
use Rattle.sat_solver.specs.analyze_conflict.Marks.{causes_at, IsReasoned}
use Rattle.sat_solver.specs.analyze_conflict.Minimization.{AreExplainedByMarks, UndoesMarks, with_used, MarkingResult, marked_reasons}
use Rattle.sat_solver.proofs.lemmas.analyze_conflict.Minimizing.{Follows, front_at, more_refl, more_trans, searching_start, searching_next, search_step}
use Rattle.sat_solver.proofs.lemmas.analyze_conflict.Sums.{total, followed_total}
use Rattle.sat_solver.proofs.lemmas.analyze_conflict.Undoing.{undone}
use Rattle.sat_solver.proofs.lemmas.analyze_conflict.Codes.{reasoned_stands, reasoned_nodes, reasoned_variable}
use Rattle.sat_solver.proofs.minimize.is_implied.Goals as goal
use Rattle.sat_solver.proofs.minimize.is_implied.Goals.{After-var, After-reason-reason, In_ok-mark_reason}

-- the used literal of this iteration
module _ (c : After-var) where
  abbrev s : PropagationState
  s = state_of c.args.assignment.now c.args.graph.now c.args.trail.now

  abbrev next : ℕ
  next = get_or c.loop-at.analysis.used c.loop-at.at 0

  within : c.loop-at.at < length c.loop-at.analysis.used
  within = omega (arith, c.loop-at-test.true, ap (λ (xs : List ℕ). length xs) c.used.ensures)

  reasoned : IsReasoned s 0 next
  reasoned = c.loop-at.invariant.searching.reasons c.loop-at.at within

  var_is : c.var.result ≡ variable next
  var_is =
      c.var.ensures ∙ ap (λ l. variable l) (get_or_read c.used-in-loop-at.result.now c.loop-at.at c.index-used-at.result (omega (arith, within, ap (λ (xs : List ℕ). length xs) c.used-in-loop-at.ensures)) c.index-used-at.is 0
      ∙ ap (λ (xs : List ℕ). get_or xs c.loop-at.at 0) c.used-in-loop-at.ensures)

-- its reason
module _ (c : After-reason-reason) where
  abbrev x : After-var
  x = (goal.at.After-reason-reason c).After-var

  abbrev ls : List ℕ
  ls = causes_at c.args.clauses.now (s x) (next x)

  reason_is : c.reason-reason.result ≡ (node (s x) (next x)).reason
  reason_is = c.reason-reason.ensures ∙ ap (λ v. (node_of c.args.graph.now v).reason) (var_is x)

  causes_are : reason_lits c.args.clauses.now c.reason-reason.result ≡ ls
  causes_are = ap (λ (r : Reason). reason_lits c.args.clauses.now r) reason_is

-- what following its causes gave
module _ (c : In_ok-mark_reason) where
  abbrev r : After-reason-reason
  r = (goal.at.In_ok-mark_reason c).After-reason-reason

  abbrev f : MarkingResult
  f = record { work = c.mark_reason.new.analysis; whole = c.in_ok-mark_reason.field-0 }

  f_is : marked_reasons c.args.graph.now c.args.levels.now (ls r) c.loop-at.analysis ≡ f
  f_is = ap (λ (xs : List ℕ). marked_reasons c.args.graph.now c.args.levels.now xs c.loop-at.analysis) (sym (c.lits.ensures ∙ causes_are r)) ∙ c.in_ok-mark_reason.ensures

  gave : Follows c.args.clauses.now (s (x r)) (conflict_lits c.args.clauses.now c.args.conflict.now) (get_or c.args.analysis.now.clause 0 0) c.args.low c.loop-at.at c.loop-at.analysis (ls r) f
  gave = subst (Follows _ _ _ _ _ _ _ (ls r)) f_is (search_step _ _ _ _ _ _ c.args.levels.now c.loop-at.analysis c.requires.can c.loop-at.invariant.searching (within (x r)))

pub loop-at-init : goal.loop-at-init
loop-at-init c =
    let n_is = ap (λ (xs : List ℕ). length xs) c.used-top.ensures in
    let e = c.in_ok-add_used.ensures ∙ ap (λ l. with_used l c.args.analysis.now) c.not.ensures in
    record {
      searching = rw (n_is, e) (searching_start _ _ _ _ _ c.args.analysis.now c.args.lit c.requires.searching c.requires.may);
      more = rw e (more_refl (with_used (negated c.args.lit) c.args.analysis.now));
      top = n_is;
    }

pub reason-reason-requires : goal.reason-reason-requires
reason-reason-requires c =
    let x = (goal.at.reason-reason-requires c).After-var in
    omega (arith, reasoned_variable (s x) (next x) c.requires.can.agrees (reasoned x), c.requires.can.agrees.nodes, var_is x)

pub lits-requires-clause-clause : goal.lits-requires-clause-clause
lits-requires-clause-clause c = λ o is.
    let r = (goal.at.lits-requires-clause-clause c).After-reason-reason in
    (reasoned_stands _ _ _ o _ c.requires.can (reasoned (x r)) (reason_is r) is).0

pub lits-requires-clause-some : goal.lits-requires-clause-some
lits-requires-clause-some c = λ o is.
    let r = (goal.at.lits-requires-clause-some c).After-reason-reason in
    (reasoned_stands _ _ _ o _ c.requires.can (reasoned (x r)) (reason_is r) is).1

pub mark_reason-requires-clause-nodes : goal.mark_reason-requires-clause-nodes
mark_reason-requires-clause-nodes c = λ k b.
    let r = (goal.at.mark_reason-requires-clause-nodes c).After-reason-reason in
    reasoned_nodes _ _ _ k c.lits.result c.requires.can (reasoned (x r)) (c.lits.ensures ∙ causes_are r) b

pub undo-requires-clause-top : goal.undo-requires-clause-top
undo-requires-clause-top c =
    omega (arith, c.loop-at.invariant.top, c.loop-at.invariant.more.longer, (gave (goal.at.undo-requires-clause-top c).In_ok-mark_reason).more.longer, length_push c.args.analysis.now.used (negated c.args.lit))

pub undo-requires-clause-flags : goal.undo-requires-clause-flags
undo-requires-clause-flags c = λ k b.
    let y = (gave (goal.at.undo-requires-clause-flags c).In_ok-mark_reason).searching in
    omega (arith, reasoned_variable _ (get_or c.mark_reason.new.analysis.used k 0) c.requires.can.agrees (y.reasons k b), y.size)

pub returns-then-not-branch : goal.returns-then-not-branch
returns-then-not-branch c =
    let more = more_trans (with_used (negated c.args.lit) c.args.analysis.now) c.loop-at.analysis c.mark_reason.new.analysis c.loop-at.invariant.more (gave (goal.at.returns-then-not-branch c).In_ok-mark_reason).more in
    undone (negated c.args.lit) c.args.analysis.now c.mark_reason.new.analysis c.undo.new.self more (subst (λ n. UndoesMarks n c.mark_reason.new.analysis c.undo.new.self) c.loop-at.invariant.top c.undo.ensures)

pub loop-at-smaller : goal.loop-at-smaller
loop-at-smaller c =
    let y = (goal.at.loop-at-smaller c).In_ok-mark_reason in
    let z = x (r y) in
    let same : total c.mark_reason.new.analysis ≡ total c.loop-at.analysis = ap (λ (g : MarkingResult). total g.work) (sym (f_is y))
    ∙ followed_total c.args.graph.now c.args.levels.now (ls (r y)) c.loop-at.analysis (λ k b. omega (arith, reasoned_nodes c.args.clauses.now (s z) (next z) k (ls (r y)) c.requires.can (reasoned z) refl b, c.loop-at.invariant.searching.size, c.requires.can.agrees.nodes)) in
    omega (arith, same, within z)

pub loop-at-preserved : goal.loop-at-preserved
loop-at-preserved c =
    let o = (goal.at.loop-at-preserved c).In_ok-mark_reason in
    let y = gave o in
    let lt = within (x (r o)) in
    let new : AnalysisState = c.mark_reason.new.analysis in
    let there = front_at c.loop-at.analysis new c.loop-at.at 0 y.more lt in
    record {
      searching = searching_next _ _ _ _ _ new c.loop-at.at y.searching (omega (arith, lt, y.more.longer)) (subst (λ l. AreExplainedByMarks (s (x (r o))) (get_or c.args.analysis.now.clause 0 0) new (causes_at c.args.clauses.now (s (x (r o))) l)) (sym there) (y.whole c.if-not-branch.false));
      more = more_trans (with_used (negated c.args.lit) c.args.analysis.now) c.loop-at.analysis new c.loop-at.invariant.more y.more;
      top = c.loop-at.invariant.top;
    }
