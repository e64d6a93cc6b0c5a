use Rattle.std.proofs.Common.{sym, ◌∙◌, subst}
use Rattle.sat_checker.specs.SortedSets.{IsIncreasing}
use Rattle.sat_checker.proofs.lemmas.sets.Canonical.{canonical_increasing}
use Rattle.certify.proofs.lemmas.confirm.Sets.{part_reports}
use Rattle.certify.proofs.confirm.literals.are_among.Goals as goal

pub is_subset-requires-clause-subset : goal.is_subset-requires-clause-subset
is_subset-requires-clause-subset c = subst IsIncreasing (sym (c.deref.ensures.value ∙ c.in_ok-copy_canonical.ensures.set)) (canonical_increasing c.args.literals.now)

pub is_subset-requires-clause-superset : goal.is_subset-requires-clause-superset
is_subset-requires-clause-superset c = subst IsIncreasing (sym (c.deref-2.ensures.value ∙ c.in_ok-copy_canonical-2.ensures.set)) (canonical_increasing c.args.others.now)

pub returns : goal.returns
returns c = part_reports c.args.literals.now c.args.others.now c.deref.result.now c.deref-2.result.now c.is_subset.result (c.deref.ensures.value ∙ c.in_ok-copy_canonical.ensures.set) (c.deref-2.ensures.value ∙ c.in_ok-copy_canonical-2.ensures.set) c.is_subset.ensures
