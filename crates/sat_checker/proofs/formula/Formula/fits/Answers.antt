use Rattle.std.proofs.Common.{◌∙◌, sym, ap}
use Rattle.sat_checker.specs.inner.FormulaView.{StoredStatus, rehashed_in}
use Rattle.sat_checker.specs.inner.AssumedRoom.{LiteralsAndRoom}
use Rattle.sat_checker.proofs.lemmas.state.InRoom.{marks_kept, stays_through, judged_over, exact_over}
use Rattle.sat_checker.proofs.lemmas.state.Models.{reached_fits}
use Rattle.sat_checker.proofs.lemmas.variables.Keeping.{match_true}
use Rattle.sat_checker.proofs.formula.Formula.fits.Goals as goal

pub returns-then-apart-clause-exact : goal.returns-then-apart-clause-exact
returns-then-apart-clause-exact c = λ f k.
    reached_fits c.is_model.result f c.args.literals.now (sym (ap (λ (s : StoredStatus). s.unsat) k.status) ∙ c.if-self.false) (match_true _ _ _ c.in-Ok.ensures.exact c.if-apart.true).0
    (c.is_model.ensures.reached f (marks_kept c.args.self.now c.assume_apart.new.assigned f (stays_through c.args.self.now.marks c.allow.new.self c.undo_to.new.self c.assume_apart.new.assigned.room c.allow.ensures (ap (λ (t : LiteralsAndRoom). t.room) c.undo_to.ensures) c.in-Ok.ensures.stays) k))

pub returns-then-apart-clause-looks : goal.returns-then-apart-clause-looks
returns-then-apart-clause-looks c = record { rise = c.is_model.ensures.looks.rise; most = λ f k. c.is_model.ensures.looks.most f (marks_kept c.args.self.now c.assume_apart.new.assigned f (stays_through c.args.self.now.marks c.allow.new.self c.undo_to.new.self c.assume_apart.new.assigned.room c.allow.ensures (ap (λ (t : LiteralsAndRoom). t.room) c.undo_to.ensures) c.in-Ok.ensures.stays) k) }

pub returns-in-Err-clause-exact : goal.returns-in-Err-clause-exact
returns-in-Err-clause-exact c =
    exact_over c.fail_if_model.result (rehashed_in c.args.self.now) (rehashed_in (record c.args.self.now { marks = c.assume_apart.new.assigned })) c.args.literals.now
    (λ f. marks_kept c.args.self.now c.assume_apart.new.assigned f (stays_through c.args.self.now.marks c.allow.new.self c.undo_to.new.self c.assume_apart.new.assigned.room c.allow.ensures (ap (λ (t : LiteralsAndRoom). t.room) c.undo_to.ensures) c.in-Err.ensures.stays)) c.fail_if_model.ensures.exact

pub returns-in-Err-clause-on_error : goal.returns-in-Err-clause-on_error
returns-in-Err-clause-on_error c =
    judged_over c.fail_if_model.result (rehashed_in c.args.self.now) (rehashed_in (record c.args.self.now { marks = c.assume_apart.new.assigned })) c.args.literals.now
    (λ f. marks_kept c.args.self.now c.assume_apart.new.assigned f (stays_through c.args.self.now.marks c.allow.new.self c.undo_to.new.self c.assume_apart.new.assigned.room c.allow.ensures (ap (λ (t : LiteralsAndRoom). t.room) c.undo_to.ensures) c.in-Err.ensures.stays)) c.fail_if_model.ensures.on_error

pub returns-in-Err-clause-looks : goal.returns-in-Err-clause-looks
returns-in-Err-clause-looks c = record { rise = c.fail_if_model.ensures.looks.rise; most = λ f k. c.fail_if_model.ensures.looks.most f (marks_kept c.args.self.now c.assume_apart.new.assigned f (stays_through c.args.self.now.marks c.allow.new.self c.undo_to.new.self c.assume_apart.new.assigned.room c.allow.ensures (ap (λ (t : LiteralsAndRoom). t.room) c.undo_to.ensures) c.in-Err.ensures.stays) k) }
