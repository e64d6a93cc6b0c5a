use Rattle.sat_solver.proofs.lemmas.session.ProofRowLemmas.{width_rows, count_row, line_rows}
use Rattle.sat_solver.proofs.session.laws.rows_of_proofs.Goals as goal

pub returns : goal.returns
returns c = record { widths = width_rows; count = count_row; lines = line_rows }
