use Rattle.std.proofs.Common.{sym, ◌∙◌, arith}
use Rattle.std.proofs.lemmas.Bool.{true≢false}
use Rattle.std.proofs.lemmas.Result.{err_from_is_err_and}
use Rattle.sat_checker.proofs.lemmas.state.Checks.{checks_as, kept_beside}
use Rattle.sat_checker.proofs.lemmas.state.Keeping.{decides_err}
use Rattle.sat_checker.proofs.lemmas.listeners.Noting.{looks_noted}
use Rattle.std.proofs.lemmas.Grind.{common_steps}
use Rattle.sat_checker.proofs.state.CheckerState.at_clause.Goals as goal

pub store_derived-requires : goal.store_derived-requires
store_derived-requires c = λ whole. (c.args.hashes.now, c.in_ok-check.ensures.explained c.if-not-branch.false whole)

pub returns-then-not-branch-clause-decides : goal.returns-then-not-branch-clause-decides
returns-then-not-branch-clause-decides c = λ f k p. true≢false (sym ((c.in_ok-check.ensures.exact f (checks_as c.rehash_if_needed.new.self f (c.rehash_if_needed.ensures.kept f k.formula))).1 p) ∙ c.if-not-branch.true)

pub returns-clause-decides : goal.returns-clause-decides
returns-clause-decides c = λ f k. (
  (c.in_ok-check.ensures.exact f (checks_as c.rehash_if_needed.new.self f (c.rehash_if_needed.ensures.kept f k.formula))).0 c.if-not-branch.false,
  c.in_ok-store_derived.ensures.stored f (record { formula = kept_beside c.rehash_if_needed.new.self c.check.new.self f c.check.ensures.rest (c.rehash_if_needed.ensures.kept f k.formula); variables = k.variables; assumed = k.assumed }),
)

pub returns-in_err-store_derived-clause-decides : goal.returns-in_err-store_derived-clause-decides
returns-in_err-store_derived-clause-decides c = grind (arith, common_steps, err_from_is_err_and, checks_as, kept_beside, decides_err)

pub returns-in_err-store_derived-clause-looks : goal.returns-in_err-store_derived-clause-looks
returns-in_err-store_derived-clause-looks c = grind (arith, common_steps, checks_as, kept_beside, looks_noted, common_steps)

pub returns-clause-looks : goal.returns-clause-looks
returns-clause-looks c = grind (arith, common_steps, checks_as, kept_beside, looks_noted, common_steps)

pub returns-clause-noted : goal.returns-clause-noted
returns-clause-noted c = λ t f k long.
    c.in_ok-store_derived.ensures.noted f c.args.hashes.now (record { formula = kept_beside c.rehash_if_needed.new.self c.check.new.self f c.check.ensures.rest (c.rehash_if_needed.ensures.kept f k.formula); variables = k.variables; assumed = k.assumed }) long (c.in_ok-check.ensures.explained c.if-not-branch.false)
