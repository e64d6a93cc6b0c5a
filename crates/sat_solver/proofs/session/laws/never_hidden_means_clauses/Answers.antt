use Rattle.sat_solver.proofs.lemmas.session.NamedLemmas.{none_hidden_means}
use Rattle.sat_solver.proofs.session.laws.never_hidden_means_clauses.Goals as goal

pub returns : goal.returns
returns c = none_hidden_means
