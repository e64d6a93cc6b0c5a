use Rattle.sat_base.proofs.lemmas.values.FlatLemmas.{lists_in_order}
use Rattle.sat_base.proofs.formula.CnfFormula.iter.Goals as goal

pub returns-clause-runs : goal.returns-clause-runs
returns-clause-runs c = lists_in_order
