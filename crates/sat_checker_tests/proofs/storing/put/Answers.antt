use Rattle.std.proofs.Common.{◌∙◌, sym, subst}
use Rattle.sat_checker.specs.SortedSets.{IsIncreasing}
use Rattle.sat_checker.proofs.lemmas.sets.Canonical.{canonical_increasing}
use Rattle.sat_checker_tests.proofs.storing.put.Goals as goal

pub store_clause-requires : goal.store_clause-requires
store_clause-requires c = subst IsIncreasing (sym (c.deref-2.ensures.value ∙ c.in_ok-copy_canonical.ensures.set)) (canonical_increasing c.deref.result.now)
