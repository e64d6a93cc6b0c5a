use Rattle.sat_solver.proofs.lemmas.variables.Searched.{searches_preserve_names, searches_agree}
use Rattle.sat_solver.proofs.variables.laws.searches_preserve_names.Goals as goal

pub returns : goal.returns
returns c = record { stand = searches_preserve_names; agree = searches_agree }
