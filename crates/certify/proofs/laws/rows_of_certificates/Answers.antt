use Rattle.certify.proofs.lemmas.laws.CertifiedRows as rows
use Rattle.certify.proofs.laws.rows_of_certificates.Goals as goal

pub returns-clause-model : goal.returns-clause-model
returns-clause-model c = rows.clause_and_ask

pub returns-clause-left_out : goal.returns-clause-left_out
returns-clause-left_out c = rows.left_out_row

pub returns-clause-derived : goal.returns-clause-derived
returns-clause-derived c = rows.chain

pub returns-clause-core : goal.returns-clause-core
returns-clause-core c = rows.core

pub returns-clause-end_alone : goal.returns-clause-end_alone
returns-clause-end_alone c = rows.end_alone

pub returns-clause-clause_needed : goal.returns-clause-clause_needed
returns-clause-clause_needed c = rows.clause_needed

pub returns-clause-model_needed : goal.returns-clause-model_needed
returns-clause-model_needed c = rows.model_needed

pub returns-clause-following_end : goal.returns-clause-following_end
returns-clause-following_end c = rows.following_end

pub returns-clause-unknown : goal.returns-clause-unknown
returns-clause-unknown c = rows.unknown

pub returns-clause-without_rounds : goal.returns-clause-without_rounds
returns-clause-without_rounds c = rows.without_rounds

pub returns-clause-early : goal.returns-clause-early
returns-clause-early c = rows.early
