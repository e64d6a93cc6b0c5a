use Rattle.certify.proofs.lemmas.laws.Rows as rows
use Rattle.certify.proofs.laws.rows_that_fail.Goals as goal

pub returns-clause-old_variable : goal.returns-clause-old_variable
returns-clause-old_variable c = rows.name_on_old_variable

pub returns-clause-extra : goal.returns-clause-extra
returns-clause-extra c = rows.answers_twice
