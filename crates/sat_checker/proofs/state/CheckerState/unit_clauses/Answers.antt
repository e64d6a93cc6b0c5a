use Rattle.sat_base.specs.steps.Steps.{UnitClauses}
use Rattle.sat_checker.specs.inner.StateView.{LooksWithin}
use Rattle.sat_checker.proofs.lemmas.state.Units.{units_stored}
use Rattle.sat_checker.proofs.lemmas.variables.Keeping.{match_true}
use Rattle.std.proofs.Common.{arith}
use Rattle.sat_checker.proofs.state.CheckerState.unit_clauses.Goals as goal
use Rattle.sat_checker.proofs.state.CheckerState.unit_clauses.Goals.{After-store_units}

module _ (c : After-store_units) where
  looked : LooksWithin c.args.self.now (UnitClauses c.args.units.now) c.args.looks.now c.store_units.new.looks
  looked = record {
    rise = omega (arith, c.rehash_if_needed.ensures.looks.rise, c.store_units.ensures.looks.rise);
    most = λ f k. omega (arith, c.rehash_if_needed.ensures.looks.most f k.formula, c.store_units.ensures.looks.most f (c.rehash_if_needed.ensures.kept f k.formula));
  }

pub returns-clause-decides : goal.returns-clause-decides
returns-clause-decides c = λ f k.
    let m = match_true _ _ _ (c.in_ok-store_units.ensures.decides f (c.rehash_if_needed.ensures.kept f k.formula)) c.if-not-branch.false in
    (m.0, units_stored _ f c.args.units.now m.1 (c.in_ok-learn_units.ensures.ok f.variables k.variables) k.assumed)
