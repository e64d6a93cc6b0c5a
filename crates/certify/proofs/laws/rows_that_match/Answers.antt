use Rattle.certify.proofs.lemmas.laws.Rows as rows
use Rattle.certify.proofs.laws.rows_that_match.Goals as goal

pub returns-clause-model : goal.returns-clause-model
returns-clause-model c = rows.clause_and_ask_right

pub returns-clause-model_steps : goal.returns-clause-model_steps
returns-clause-model_steps c = rows.clause_and_ask_steps

pub returns-clause-core_steps : goal.returns-clause-core_steps
returns-clause-core_steps c = rows.two_units_steps

pub returns-clause-empty : goal.returns-clause-empty
returns-clause-empty c = rows.empty_matches

pub returns-clause-model_bytes : goal.returns-clause-model_bytes
returns-clause-model_bytes c = rows.clause_and_ask_matches

pub returns-clause-core_bytes : goal.returns-clause-core_bytes
returns-clause-core_bytes c = rows.two_units_matches
