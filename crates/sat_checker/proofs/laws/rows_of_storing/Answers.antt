use Rattle.sat_checker.proofs.lemmas.rows.Accepted.{of_one_two, end_alone, named, four_clauses, stored_twice, unit_conflict, unit_after}
use Rattle.sat_checker.proofs.laws.rows_of_storing.Goals as goal

pub returns : goal.returns
returns c = record { hashes = of_one_two; end = end_alone; named = named; four = four_clauses; twice = stored_twice; conflict = unit_conflict; unit_after = unit_after }
