use Rattle.sat_checker.proofs.lemmas.rows.Others.{witness_added, hidden_added, name_taken, named_over, hidden_named, no_name}
use Rattle.sat_checker.proofs.laws.rows_of_names.Goals as goal

pub returns : goal.returns
returns c = record { witness = witness_added; hidden = hidden_added; taken = name_taken; twice = named_over; hidden_named = hidden_named; none = no_name }
