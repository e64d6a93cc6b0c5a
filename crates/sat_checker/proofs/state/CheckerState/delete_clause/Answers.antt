use Rattle.std.proofs.Common.{◌+◌, ◌*◌, ◌≤◌, ◌≡◌, false, refl, ◌∙◌, arith}
use Rattle.sat_base.specs.steps.Steps.{DeleteClause}
use Rattle.sat_base.specs.steps.StepViews.{deletion_of}
use Rattle.sat_checker.specs.Accepts.{effect}
use Rattle.sat_checker.specs.Looks.{stored_literal_count}
use Rattle.sat_checker.specs.Stored.{Stored}
use Rattle.sat_checker.specs.inner.StateView.{RepresentsStored}
use Rattle.sat_checker.proofs.lemmas.state.Deleted.{count_deleted, one_pass}
use Rattle.sat_checker.proofs.lemmas.state.Keeping.{deleted_kept}
use Rattle.sat_checker.proofs.lemmas.variables.Keeping.{match_true, match_false}
use Rattle.sat_checker.proofs.state.CheckerState.delete_clause.Goals as goal
use Rattle.sat_checker.proofs.state.CheckerState.delete_clause.Goals.{After-delete}

-- by then, at most four passes over the stored literals were made
module _ (c : After-delete) (failed : c.delete_given.result ≡ false) where
  risen : c.args.looks.now ≤ c.delete.new.looks
  risen = omega (arith, c.rehash_if_needed.ensures.looks.rise, c.delete_given.ensures.looks.rise, c.deletion-deletion.ensures.looks.rise, c.delete.ensures.looks.rise)

  passes : (f : Stored) → RepresentsStored c.args.self.now f → c.delete.new.looks ≤ c.args.looks.now + 4 * stored_literal_count f
  passes f k =
      let mid = c.rehash_if_needed.ensures.kept f k.formula in
      let kept = match_false _ _ _ (c.delete_given.ensures.decides f mid) failed in
      let one = one_pass c.args.notes.now.listening c.rehash_if_needed.new.looks c.delete_given.new.looks c.deletion-deletion.new.looks (stored_literal_count f) (λ h. c.delete_given.ensures.quiet (c.has_listener.ensures ∙ h)) (c.delete_given.ensures.looks.most f mid) c.deletion-deletion.ensures.quiet (c.deletion-deletion.ensures.looks.most f kept) in
      omega (arith, one, c.rehash_if_needed.ensures.looks.most f k.formula, c.delete.ensures.looks.most f kept)

pub returns-then-delete_given-clause-decides : goal.returns-then-delete_given-clause-decides
returns-then-delete_given-clause-decides c = λ f k.
    let step = DeleteClause c.args.clause.now (deletion_of c.args.proof) in
    let gone = match_true _ _ _ (c.delete_given.ensures.decides f (c.rehash_if_needed.ensures.kept f k.formula)) c.if-delete_given.true in
    (gone.0, deleted_kept c.args.self.now _ f c.args.clause.now (deletion_of c.args.proof) k (c.in_ok-compact.ensures.kept (effect step f) gone.1) refl refl)

pub returns-then-delete_given-clause-looks : goal.returns-then-delete_given-clause-looks
returns-then-delete_given-clause-looks c = record {
  rise = omega (arith, c.rehash_if_needed.ensures.looks.rise, c.delete_given.ensures.looks.rise, c.compact.ensures.looks.rise);
  most = λ f k.
      let step = DeleteClause c.args.clause.now (deletion_of c.args.proof) in
      let mid = c.rehash_if_needed.ensures.kept f k.formula in
      let gone = match_true _ _ _ (c.delete_given.ensures.decides f mid) c.if-delete_given.true in
      omega (arith, c.rehash_if_needed.ensures.looks.most f k.formula, c.delete_given.ensures.looks.most f mid, c.compact.ensures.looks.most (effect step f) gone.1, count_deleted f c.args.clause.now (deletion_of c.args.proof));
}

pub returns-in_err-compact-clause-looks : goal.returns-in_err-compact-clause-looks
returns-in_err-compact-clause-looks c = record {
  rise = omega (arith, c.rehash_if_needed.ensures.looks.rise, c.delete_given.ensures.looks.rise, c.compact.ensures.looks.rise);
  most = λ f k.
      let step = DeleteClause c.args.clause.now (deletion_of c.args.proof) in
      let mid = c.rehash_if_needed.ensures.kept f k.formula in
      let gone = match_true _ _ _ (c.delete_given.ensures.decides f mid) c.if-delete_given.true in
      omega (arith, c.rehash_if_needed.ensures.looks.most f k.formula, c.delete_given.ensures.looks.most f mid, c.compact.ensures.looks.most (effect step f) gone.1, count_deleted f c.args.clause.now (deletion_of c.args.proof));
}

pub returns-clause-decides : goal.returns-clause-decides
returns-clause-decides c = λ f k.
    let step = DeleteClause c.args.clause.now (deletion_of c.args.proof) in
    let still = match_false _ _ _ (c.delete_given.ensures.decides f (c.rehash_if_needed.ensures.kept f k.formula)) c.if-delete_given.false in
    let gone = match_true _ _ _ (c.delete.ensures.decides f still) c.if-not-delete.false in
    (gone.0, deleted_kept c.args.self.now _ f c.args.clause.now (deletion_of c.args.proof) k (c.in_ok-compact-2.ensures.kept (effect step f) gone.1) refl refl)

pub returns-clause-looks : goal.returns-clause-looks
returns-clause-looks c =
    let x = (goal.at.returns-clause-looks c).After-delete in
    record {
      rise = omega (arith, risen x c.if-delete_given.false, c.compact-2.ensures.looks.rise);
      most = λ f k.
          let step = DeleteClause c.args.clause.now (deletion_of c.args.proof) in
          let still = match_false _ _ _ (c.delete_given.ensures.decides f (c.rehash_if_needed.ensures.kept f k.formula)) c.if-delete_given.false in
          let gone = match_true _ _ _ (c.delete.ensures.decides f still) c.if-not-delete.false in
          omega (arith, passes x c.if-delete_given.false f k, c.compact-2.ensures.looks.most (effect step f) gone.1, count_deleted f c.args.clause.now (deletion_of c.args.proof));
    }

pub returns-in_err-compact-2-clause-looks : goal.returns-in_err-compact-2-clause-looks
returns-in_err-compact-2-clause-looks c =
    let x = (goal.at.returns-in_err-compact-2-clause-looks c).After-delete in
    record {
      rise = omega (arith, risen x c.if-delete_given.false, c.compact-2.ensures.looks.rise);
      most = λ f k.
          let step = DeleteClause c.args.clause.now (deletion_of c.args.proof) in
          let still = match_false _ _ _ (c.delete_given.ensures.decides f (c.rehash_if_needed.ensures.kept f k.formula)) c.if-delete_given.false in
          let gone = match_true _ _ _ (c.delete.ensures.decides f still) c.if-not-delete.false in
          omega (arith, passes x c.if-delete_given.false f k, c.compact-2.ensures.looks.most (effect step f) gone.1, count_deleted f c.args.clause.now (deletion_of c.args.proof));
    }
