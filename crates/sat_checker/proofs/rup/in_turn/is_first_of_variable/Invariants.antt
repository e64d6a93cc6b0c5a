use Rattle.std.proofs.Common.{◌≡◌, drop}
use Rattle.sat_checker.specs.inner.InTurn.{is_first_of_variable}
use Rattle.sat_checker.proofs.lemmas.state.InTurn.{firsts}
use Rattle.sat_checker.proofs.rup.in_turn.is_first_of_variable.Given as goal

-- the result depends only on the remaining units
abbrev pub invariant-loop-unit : goal.invariant-loop-unit
invariant-loop-unit l = is_first_of_variable (firsts l.units) l.lit ≡ is_first_of_variable (firsts (drop l.unit-index l.units)) l.lit
