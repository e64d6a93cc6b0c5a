use Rattle.std.proofs.Common.{sym, subst, ◌∙◌, arith}
use Rattle.std.proofs.lemmas.Bool.{true≢false}
use Rattle.std.proofs.lemmas.Result.{err_from_is_err_and}
use Rattle.sat_checker.specs.inner.FormulaView.{NotesExplainCheck}
use Rattle.sat_checker.proofs.lemmas.state.Refiled.{loosened}
use Rattle.sat_checker.proofs.lemmas.state.Checks.{checks_as, kept_beside}
use Rattle.sat_checker.proofs.lemmas.state.Keeping.{within_assumed}
use Rattle.std.proofs.lemmas.Grind.{common_steps}
use Rattle.sat_checker.proofs.state.CheckerState.failed_assumptions.Goals as goal

pub note_core-requires-clause-explained : goal.note_core-requires-clause-explained
note_core-requires-clause-explained c = λ whole.
    (c.args.hashes.now, subst (λ ls. NotesExplainCheck c.check.new.self ls c.args.hashes.now) (sym (c.deref.ensures.value ∙ c.in_ok-copy_negated.ensures)) (c.in_ok-check.ensures.explained c.if-not-branch.false whole))

pub returns-then-not-has_all-clause-decides : goal.returns-then-not-has_all-clause-decides
returns-then-not-has_all-clause-decides c = grind (arith, common_steps, true≢false, within_assumed)

pub returns-then-not-branch-clause-decides : goal.returns-then-not-branch-clause-decides
returns-then-not-branch-clause-decides c = λ f k p.
    true≢false (sym ((c.in_ok-check.ensures.exact f (checks_as c.rehash_if_needed.new.self f (c.rehash_if_needed.ensures.kept f k.formula))).1 p.1) ∙ c.if-not-branch.true)

pub returns-clause-decides : goal.returns-clause-decides
returns-clause-decides c = grind (arith, common_steps, loosened, checks_as, kept_beside, within_assumed)

pub returns-in_err-check-clause-decides : goal.returns-in_err-check-clause-decides
returns-in_err-check-clause-decides c =
    let p = err_from_is_err_and c.from_residual.result c.from_residual.ensures.1 in rw (p.1, p.2) (λ f k. absurd (c.in_err-check.ensures.short f (checks_as c.rehash_if_needed.new.self f (c.rehash_if_needed.ensures.kept f k.formula))))

pub returns-in_err-copy_negated-clause-decides : goal.returns-in_err-copy_negated-clause-decides
returns-in_err-copy_negated-clause-decides c = let p = err_from_is_err_and c.from_residual-in_err-copy_negated.result c.from_residual-in_err-copy_negated.ensures.1 in rw (p.1, p.2) (λ f k. (sym (within_assumed c.has_all.result c.args.core.now f.assumed c.args.self.now.assumed k.assumed c.has_all.ensures) ∙ c.if-not-has_all.false, (c.in_ok-check.ensures.exact f (checks_as c.rehash_if_needed.new.self f (c.rehash_if_needed.ensures.kept f k.formula))).0 c.if-not-branch.false))

pub returns-in_err-note_core-clause-decides : goal.returns-in_err-note_core-clause-decides
returns-in_err-note_core-clause-decides c = let p = err_from_is_err_and c.from_residual-in_err-note_core.result c.from_residual-in_err-note_core.ensures.1 in rw (p.1, p.2) (λ f k. (sym (within_assumed c.has_all.result c.args.core.now f.assumed c.args.self.now.assumed k.assumed c.has_all.ensures) ∙ c.if-not-has_all.false, (c.in_ok-check.ensures.exact f (checks_as c.rehash_if_needed.new.self f (c.rehash_if_needed.ensures.kept f k.formula))).0 c.if-not-branch.false))

pub returns-clause-noted : goal.returns-clause-noted
returns-clause-noted c = λ t f k long. c.in_ok-note_core.ensures.noted f c.args.hashes.now (kept_beside c.rehash_if_needed.new.self c.check.new.self f c.check.ensures.rest (c.rehash_if_needed.ensures.kept f k.formula))
    (λ whole. subst (λ ls. NotesExplainCheck c.check.new.self ls c.args.hashes.now) (sym (c.deref.ensures.value ∙ c.in_ok-copy_negated.ensures)) (c.in_ok-check.ensures.explained c.if-not-branch.false whole))
