use Rattle.std.proofs.Common.{[], ◌∷◌, arith}
use Rattle.std.proofs.lemmas.Result.{err_from_is_err_and}
use Rattle.sat_checker.proofs.lemmas.state.Checks.{checks_as, kept_beside, checked_beside}
use Rattle.sat_checker.proofs.lemmas.state.Keeping.{decides_err}
use Rattle.sat_checker.proofs.lemmas.store.Entries.{on_err}
use Rattle.std.proofs.lemmas.Grind.{common_steps}
use Rattle.sat_checker.proofs.formula.Formula.store_checked.Goals as goal

pub note_unit-requires : goal.note_unit-requires
note_unit-requires c = record { explained = λ whole. (c.args.hash ∷ [], c.in_ok-check.ensures.explained c.if-not-branch.false whole) }

pub returns-in_err-store_unit_clause-clause-decides : goal.returns-in_err-store_unit_clause-clause-decides
returns-in_err-store_unit_clause-clause-decides c = grind (arith, common_steps, err_from_is_err_and, checks_as, kept_beside, decides_err)

pub returns-clause-decides : goal.returns-clause-decides
returns-clause-decides c = λ f k. ((c.in_ok-check.ensures.exact f (checks_as c.args.self.now f k)).0 c.if-not-branch.false, c.in_ok-store_unit_clause.ensures.stored f (kept_beside c.args.self.now c.check.new.self f c.check.ensures.rest k))

pub returns-clause-noted : goal.returns-clause-noted
returns-clause-noted c = λ t f k long. c.in_ok-note_unit.ensures.noted f (c.args.hash ∷ []) (kept_beside c.args.self.now c.check.new.self f c.check.ensures.rest k) long (c.in_ok-check.ensures.explained c.if-not-branch.false)

pub returns-in_err-note_unit-clause-kept : goal.returns-in_err-note_unit-clause-kept
returns-in_err-note_unit-clause-kept c = on_err c.from_residual-in_err-note_unit.result _ (λ f a. checked_beside c.args.self.now c.check.new.self f c.check.ensures.rest a)

pub returns-in_err-store_unit_clause-clause-kept : goal.returns-in_err-store_unit_clause-clause-kept
returns-in_err-store_unit_clause-clause-kept c = on_err c.from_residual-in_err-store_unit_clause.result _ (λ f a. c.in_err-store_unit_clause.ensures.kept f (checked_beside c.args.self.now c.check.new.self f c.check.ensures.rest a))
