use Rattle.std.proofs.Common.{arith}
use Rattle.sat_checker.proofs.lemmas.sets.Canonical.{canonical_tautology}
use Rattle.sat_checker.proofs.lemmas.formula.Storing.{stored_signs, stored_apart}
use Rattle.std.proofs.lemmas.Grind.{common_steps}
use Rattle.sat_checker.proofs.formula.Formula.store_clause.Goals as goal

pub returns-then-has_both_signs-clause-stored : goal.returns-then-has_both_signs-clause-stored
returns-then-has_both_signs-clause-stored c = grind (arith, common_steps, canonical_tautology, stored_signs)

pub returns-clause-stored : goal.returns-clause-stored
returns-clause-stored c = grind (arith, common_steps, canonical_tautology, stored_apart)
