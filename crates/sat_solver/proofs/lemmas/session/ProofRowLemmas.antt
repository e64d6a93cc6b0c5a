-- Worked examples of widths and DRAT lines, computed.
use Rattle.std.proofs.Common.{refl}
use Rattle.sat_base.specs.steps.StepBytes.{groups_of_seven_bits}
use Rattle.sat_solver.specs.proof.Counting.{widened_bits, narrowed_bits}
use Rattle.sat_solver.specs.proof.ProofRows.{WidthRows, CountRow, LineRows}

pub width_rows : WidthRows
unfolding widened_bits narrowed_bits
width_rows = (refl, refl, refl, refl, refl, refl, refl)

pub count_row : CountRow
unfolding widened_bits
count_row = refl

pub line_rows : LineRows
unfolding groups_of_seven_bits
line_rows = (refl, refl, refl)
