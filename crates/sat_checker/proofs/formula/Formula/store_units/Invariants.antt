use Rattle.std.proofs.Common.{◌≤◌, ◌+◌, ◌*◌, drop}
use Rattle.sat_checker.specs.Looks.{stored_literal_count}
use Rattle.sat_checker.specs.Stored.{Stored}
use Rattle.sat_checker.specs.inner.FormulaView.{RepresentsFormula}
use Rattle.sat_checker.specs.listeners.AnnouncingView.{HasNoStoredUnitClause}
use Rattle.sat_checker.proofs.lemmas.state.Units.{Left}
use Rattle.sat_checker.proofs.lemmas.listeners.NotedUnits.{Noted}
use Rattle.sat_checker.proofs.formula.Formula.store_units.Given as goal

-- adding the remaining units to the current formula gives the result for all units
abbrev pub invariant-loop-place : goal.invariant-loop-place
invariant-loop-place l = record {
  left : (f : Stored) → RepresentsFormula l.fn.self f → Left l.self f l.units (drop l.place l.units);
  noted : (f : Stored) → RepresentsFormula l.fn.self f → HasNoStoredUnitClause f → Noted l.self f l.units (drop l.place l.units) l.fn.notes l.notes;
  looks : (f : Stored) → RepresentsFormula l.fn.self f → l.looks ≤ l.fn.looks + l.place * (2 * stored_literal_count f);
  rise : l.fn.looks ≤ l.looks;
}
