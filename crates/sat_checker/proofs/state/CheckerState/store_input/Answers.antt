use Rattle.std.proofs.Common.{sym, subst}
use Rattle.std.proofs.lemmas.Result.{err_from_is_err_and}
use Rattle.sat_checker.specs.Storing.{with_literals_known}
use Rattle.sat_checker.specs.inner.Marks.{IsIncreasing}
use Rattle.sat_checker.proofs.lemmas.sets.Canonical.{canonical_increasing}
use Rattle.sat_checker.proofs.lemmas.state.Keeping.{input_kept, fails_then}
use Rattle.sat_checker.proofs.state.CheckerState.store_input.Goals as goal

pub note_input-requires : goal.note_input-requires
note_input-requires c = subst IsIncreasing (sym c.in_ok-literals.ensures.set) (canonical_increasing c.args.clause.now)

pub store_input-requires : goal.store_input-requires
store_input-requires c = subst IsIncreasing (sym c.in_ok-literals.ensures.set) (canonical_increasing c.args.clause.now)

pub returns-clause-stored : goal.returns-clause-stored
returns-clause-stored c = λ f k.
    input_kept _ f c.args.clause.now (c.in_ok-store_input.ensures.stored c.args.clause.now c.in_ok-literals.ensures.set (with_literals_known c.args.clause.now f) k.formula) (c.in_ok-learn.ensures.ok f.variables k.variables) k.assumed

pub returns-in_err-store_input-clause-stored : goal.returns-in_err-store_input-clause-stored
returns-in_err-store_input-clause-stored c =
    let p = err_from_is_err_and c.from_residual-in_err-store_input.result c.from_residual-in_err-store_input.ensures.1 in
    rw (p.1, p.2) (λ f k. fails_then c.in_err-store_input.field-0.0 _ _ _ (c.in_err-store_input.ensures.stored c.args.clause.now c.in_ok-literals.ensures.set (with_literals_known c.args.clause.now f) k.formula))
