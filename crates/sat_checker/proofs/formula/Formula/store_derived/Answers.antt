use Rattle.std.proofs.Common.{arith}
use Rattle.std.proofs.lemmas.Grind.{common_steps}
use Rattle.sat_checker.proofs.lemmas.sets.Canonical.{canonical_tautology}
use Rattle.sat_checker.proofs.lemmas.listeners.Noting.{derived_noted}
use Rattle.sat_checker.proofs.formula.Formula.store_derived.Goals as goal

pub returns-clause-noted : goal.returns-clause-noted
returns-clause-noted c = grind (arith, common_steps, canonical_tautology, derived_noted)
