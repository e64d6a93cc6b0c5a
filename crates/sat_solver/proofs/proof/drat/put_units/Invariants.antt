use Rattle.std.proofs.Common.{◌≡◌, ◌++◌, drop}
use Rattle.sat_solver.specs.proof.DratText.{unit_lines, drat_lines_text}
use Rattle.sat_solver.proofs.proof.drat.put_units.Given as goal

abbrev pub invariant-loop-unit : goal.invariant-loop-unit
invariant-loop-unit l = l.text.items ++ drat_lines_text l.binary (unit_lines (drop l.unit-index l.units)) ≡ l.fn.text.items ++ drat_lines_text l.binary (unit_lines l.units)
