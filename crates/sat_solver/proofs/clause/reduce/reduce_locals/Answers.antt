use Rattle.std.proofs.lemmas.Grind.{common_steps}
use Rattle.std.proofs.Common.{◌≡◌, ◌∙◌, Ok, drop, get_or, refl, arith}
use Rattle.std.proofs.lemmas.Result.{err_from_is_err_and}
use Rattle.sat_parts.proofs.lemmas.parts.WordSteps.{default_free}
use Rattle.sat_solver.specs.proof.ProofView.{session_of}
use Rattle.sat_solver.specs.clause.Reduced.{TriesToDelete, ReductionEffect, ReducesLocals}
use Rattle.sat_parts.specs.clause.Db.{live_refs}
use Rattle.std.specs.List.{Contains}
use Rattle.sat_solver.proofs.lemmas.cdcl.GoingLemmas.{goes_none, goes_starved, goes_then, goes_then_fails, goes_on}
use Rattle.sat_solver.proofs.lemmas.cdcl.DeletingLemmas.{halving_none, halving_step, halved_enough, halved_all, drop_end}
use Rattle.sat_solver.proofs.lemmas.clause.ReducingLemmas.{clause_stands, locals_learned, reduced_refl, reduced_trans, reduced_deleted}
use Rattle.sat_solver.proofs.clause.reduce.reduce_locals.Goals as goal

pub returns-then-not-is_due : goal.returns-then-not-is_due
returns-then-not-is_due g c =
    goes_none g.W.CountedWrite.seen tt c.args.proof.now _ c.requires.keeps (reduced_refl (session_of c.args.proof.now) c.args.search.now c.requires.search, rw c.if-not-is_due.true (refl {a = c.args.search.now.parts}))

pub returns-in_err-list_locals : goal.returns-in_err-list_locals
returns-in_err-list_locals g c = grind (arith, common_steps, err_from_is_err_and, goes_starved)

pub loop-at-init : goal.loop-at-init
loop-at-init g c = record {
  came = goes_none g.W.CountedWrite.seen tt c.args.proof.now _ c.requires.keeps (reduced_refl (session_of c.args.proof.now) c.args.search.now c.requires.search);
  halving = halving_none c.args.search.now.parts c.list_locals.new.list.items _ (omega (arith, c.len-left.ensures))
      (λ o k. record { clause = clause_stands c.args.search.now.parts o c.requires.search.valid.holds k; header = refl; lits = refl });
  once = c.in_ok-list_locals.ensures.once;
  learnt = λ k from lt. locals_learned c.args.search.now.parts c.list_locals.new.list.items c.in_ok-list_locals.ensures.locals c.in_ok-list_locals.ensures.live k lt;
}

pub returns-in_err-deleted : goal.returns-in_err-deleted
returns-in_err-deleted g c = grind (arith, common_steps, err_from_is_err_and, goes_then_fails)

pub loop-at-preserved : goal.loop-at-preserved
loop-at-preserved g c =
    let i = c.loop-at.invariant in
    let d : TriesToDelete c.in_ok-deleted.deleted c.index.result.now (session_of c.delete_learned.new.proof) c.loop-at.search c.delete_learned.new.search = c.in_ok-deleted.ensures.ends in
    let at : c.index.result.now ≡ get_or c.list_locals.new.list.items c.loop-at.at 0 = c.index.ensures ∙ default_free c.list_locals.new.list.items c.loop-at.at c.index.result.now 0 (omega arith) in
    let here : Contains (live_refs c.loop-at.search.parts.clauses c.loop-at.search.parts.db.refs) c.index.result.now = rw at (i.learnt c.loop-at.at (omega arith) (omega arith)).live in
    record {
      came = goes_then g.W.CountedWrite.seen tt (Ok tt) c.args.proof.now c.loop-at.proof c.delete_learned.new.proof _ (λ _ _. TriesToDelete c.in_ok-deleted.deleted c.index.result.now (session_of c.delete_learned.new.proof) c.loop-at.search c.delete_learned.new.search) _ i.came
          (goes_on g.W.CountedWrite.seen c.in_ok-deleted.deleted tt c.loop-at.proof c.delete_learned.new.proof _ _ (λ steps x. x) c.in_ok-deleted.ensures)
          (λ xs ys y a b. reduced_trans (session_of c.loop-at.proof) (session_of c.delete_learned.new.proof) c.args.search.now c.loop-at.search c.delete_learned.new.search a
          (reduced_deleted c.in_ok-deleted.deleted c.index.result.now (session_of c.delete_learned.new.proof) c.loop-at.search c.delete_learned.new.search b));
      halving = halving_step c.args.search.now.parts c.loop-at.search.parts c.delete_learned.new.search.parts c.list_locals.new.list.items c.loop-at.at c.index.result.now c.loop-at.left c.left_after-left.result c.in_ok-deleted.deleted
          i.halving (omega arith) at (omega arith) here d.tried c.left_after-left.ensures;
      once = i.once;
      learnt = λ k from lt.
          d.others (get_or c.list_locals.new.list.items k 0)
          (λ e. let q : k ≡ c.loop-at.at = i.once k c.loop-at.at lt (omega arith) (e ∙ at) in omega arith) (i.learnt k (omega arith) lt);
    }

pub returns-then-left-eq0 : goal.returns-then-left-eq0
returns-then-left-eq0 g c =
    let i = c.loop-at.invariant in
    let l = c.in_ok-list_locals.ensures in
    goes_on g.W.CountedWrite.seen tt tt c.args.proof.now c.loop-at.proof (λ _ _. ReductionEffect (session_of c.loop-at.proof) c.args.search.now c.loop-at.search) (λ _ _. ReductionEffect (session_of c.loop-at.proof) c.args.search.now c.loop-at.search × ReducesLocals c.args.is_due c.args.search.now.parts c.loop-at.search.parts)
    (λ steps x. (x, rw c.if-not-is_due.false (halved_enough c.args.search.now.parts c.loop-at.search.parts c.list_locals.new.list.items l.locals l.rising (drop c.loop-at.at c.list_locals.new.list.items) c.loop-at.left (omega arith) i.halving)))
    i.came

pub returns : goal.returns
returns g c =
    let i = c.loop-at.invariant in
    let l = c.in_ok-list_locals.ensures in
    goes_on g.W.CountedWrite.seen tt tt c.args.proof.now c.loop-at.proof (λ _ _. ReductionEffect (session_of c.loop-at.proof) c.args.search.now c.loop-at.search) (λ _ _. ReductionEffect (session_of c.loop-at.proof) c.args.search.now c.loop-at.search × ReducesLocals c.args.is_due c.args.search.now.parts c.loop-at.search.parts)
    (λ steps x. (
      x,
      rw c.if-not-is_due.false (halved_all c.args.search.now.parts c.loop-at.search.parts c.list_locals.new.list.items l.locals l.rising (drop c.loop-at.at c.list_locals.new.list.items) c.loop-at.left
          (drop_end c.list_locals.new.list.items c.loop-at.at (omega arith)) i.halving),
    ))
    i.came
