use Rattle.std.proofs.Common.{refl}
use Rattle.sat_checker.proofs.lemmas.store.Entries.{on_err}
use Rattle.sat_hints.proofs.lemmas.Taken.{gone_taken, gone_may}
use Rattle.sat_hints.proofs.line_checking.LineChecker.removed.Goals as goal

pub returns-then-branch-clause-takes : goal.returns-then-branch-clause-takes
returns-then-branch-clause-takes c =
    let h = (rw c.if-branch.true at c.in_ok-remove.ensures).takes in
    gone_taken c.args.self.now _ c.args.id c.remove.new.self c.requires h.0 h.1 refl

pub returns-in_err-remove-clause-on_error : goal.returns-in_err-remove-clause-on_error
returns-in_err-remove-clause-on_error c = on_err c.from_residual.result _ (gone_may c.args.self.now c.args.id c.in_err-remove.ensures.on_error)
