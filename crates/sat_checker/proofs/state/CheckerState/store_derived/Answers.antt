use Rattle.std.proofs.Common.{sym, subst}
use Rattle.std.proofs.lemmas.Result.{err_from_is_err_and}
use Rattle.sat_checker.specs.Storing.{with_literals_known}
use Rattle.sat_checker.specs.inner.Marks.{IsIncreasing}
use Rattle.sat_checker.proofs.lemmas.sets.Canonical.{canonical_increasing}
use Rattle.sat_checker.proofs.lemmas.state.Keeping.{derived, fails_then}
use Rattle.sat_checker.proofs.state.CheckerState.store_derived.Goals as goal

pub store_derived-requires : goal.store_derived-requires
store_derived-requires c = subst IsIncreasing (sym c.in_ok-literals.ensures.set) (canonical_increasing c.args.clause.now)

pub returns-clause-stored : goal.returns-clause-stored
returns-clause-stored c = λ f k.
    derived _ f c.args.redundant c.args.clause.now (c.in_ok-store_derived.ensures.stored c.args.clause.now c.in_ok-literals.ensures.set (with_literals_known c.args.clause.now f) k.formula) (c.in_ok-learn.ensures.ok f.variables k.variables) k.assumed

pub returns-in_err-store_derived-clause-stored : goal.returns-in_err-store_derived-clause-stored
returns-in_err-store_derived-clause-stored c =
    let p = err_from_is_err_and c.from_residual-in_err-store_derived.result c.from_residual-in_err-store_derived.ensures.1 in
    rw (p.1, p.2) (λ f k. fails_then c.in_err-store_derived.field-0.0 _ _ _ (c.in_err-store_derived.ensures.stored c.args.clause.now c.in_ok-literals.ensures.set (with_literals_known c.args.clause.now f) k.formula))
