use Rattle.sat_base.proofs.lemmas.dimacs.DimacsSpellings.{one_formula, clean_if_spelled}
use Rattle.sat_base.proofs.law_dimacs.dimacs_laws.Goals as goal

pub returns : goal.returns
returns c = record { one = one_formula; spelled = clean_if_spelled }
