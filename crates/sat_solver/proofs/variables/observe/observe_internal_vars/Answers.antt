use Rattle.std.proofs.Common.{◌+◌, sym, subst, arith}
use Rattle.sat_solver.specs.variables.Observing.{IsHidden, NamesHidden}
use Rattle.sat_solver.proofs.lemmas.variables.ObservingLemmas.{Observing, observing_passes, observing_goes, observing_ends}
use Rattle.sat_solver.proofs.variables.observe.observe_internal_vars.Goals as goal

pub loop-index-preserved-then-not-is_hidden : goal.loop-index-preserved-then-not-is_hidden
loop-index-preserved-then-not-is_hidden g c = (
  observing_passes c.args.variables.now c.loop-index.variables (g.W.StepLog.steps c.args.writer.now) (g.W.StepLog.steps c.loop-index.writer) c.loop-index.users.items c.loop-index.index c.loop-index.invariant.0
      (subst (λ v. IsHidden c.loop-index.variables v → ⊥) c.from_index-global.ensures (c.is_hidden.ensures.shown c.if-not-is_hidden.true)),
  c.loop-index.invariant.1,
  c.loop-index.invariant.2,
)

pub loop-index-preserved : goal.loop-index-preserved
loop-index-preserved g c = (
  subst (λ us. Observing c.args.variables.now c.observe_var.new.variables (g.W.StepLog.steps c.args.writer.now) (g.W.StepLog.steps c.observe_var.new.writer) us (c.loop-index.index + 1)) (sym c.in_ok-push.ensures.items)
      (observing_goes c.args.variables.now c.loop-index.variables c.observe_var.new.variables (g.W.StepLog.steps c.args.writer.now) (g.W.StepLog.steps c.loop-index.writer) (g.W.StepLog.steps c.observe_var.new.writer) c.loop-index.users.items c.loop-index.index c.in_ok-user.user c.loop-index.invariant.0
      (subst (λ v. IsHidden c.loop-index.variables v) c.from_index-global.ensures (c.is_hidden.ensures.hidden c.if-not-is_hidden.false))
      (subst (λ v. NamesHidden c.loop-index.variables c.observe_var.new.variables (g.W.StepLog.steps c.loop-index.writer) (g.W.StepLog.steps c.observe_var.new.writer) v c.in_ok-user.user) c.from_index-global.ensures c.in_ok-user.ensures.names)),
  c.in_ok-user.ensures.keeps,
  λ w t. c.in_ok-user.ensures.emits w (c.loop-index.invariant.2 w t),
)

pub returns-clause-names : goal.returns-clause-names
returns-clause-names g c =
    observing_ends c.args.variables.now c.loop-index.variables (g.W.StepLog.steps c.args.writer.now) (g.W.StepLog.steps c.loop-index.writer) c.loop-index.users.items c.loop-index.index c.loop-index.invariant.0
    (let a = c.loop-index-test.false in let e = c.used_count-count.ensures in omega arith)
