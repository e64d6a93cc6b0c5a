use Rattle.certify.proofs.lemmas.laws.Rows as rows
use Rattle.certify.proofs.laws.rows_of_text.Goals as goal

pub returns-clause-clause_and_ask : goal.returns-clause-clause_and_ask
returns-clause-clause_and_ask c = rows.clause_and_ask_says

pub returns-clause-witness : goal.returns-clause-witness
returns-clause-witness c = rows.witness_refused_text

pub returns-clause-malformed : goal.returns-clause-malformed
returns-clause-malformed c = rows.malformed_text
