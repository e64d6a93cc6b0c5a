use Rattle.sat_checker.proofs.lemmas.meaning.Answers.{formula_is_fold, unsat_means_none}
use Rattle.sat_checker.proofs.laws.stored_formula_is_fold.Goals as goal

pub returns : goal.returns
returns c = record { fold = formula_is_fold; unsat = unsat_means_none }
