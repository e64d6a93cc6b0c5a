use Rattle.sat_base.proofs.lemmas.dimacs.DimacsRowsComputed.{clean_rows, fault_rows, header_rows, part_rows}
use Rattle.sat_base.proofs.law_dimacs.dimacs_rows.Goals as goal

pub returns : goal.returns
returns c = record { clean = clean_rows; faults = fault_rows; headers = header_rows; parts = part_rows }
