use Rattle.std.proofs.Common.{sym, ◌∙◌, subst}
use Rattle.sat_checker.specs.SortedSets.{IsIncreasing}
use Rattle.sat_checker.proofs.lemmas.sets.Canonical.{canonical_increasing}
use Rattle.certify.specs.confirm.SpeltLiterals.{AllAmong}
use Rattle.certify.proofs.lemmas.confirm.LiteralSets.{both_so, first_not}
use Rattle.certify.proofs.lemmas.confirm.Sets.{part_reports}
use Rattle.certify.proofs.confirm.literals.are_same.Goals as goal

pub is_subset-requires-clause-subset : goal.is_subset-requires-clause-subset
is_subset-requires-clause-subset c = subst IsIncreasing (sym (c.deref.ensures.value ∙ c.in_ok-copy_canonical.ensures.set)) (canonical_increasing c.args.xs.now)

pub is_subset-requires-clause-superset : goal.is_subset-requires-clause-superset
is_subset-requires-clause-superset c = subst IsIncreasing (sym (c.deref-2.ensures.value ∙ c.in_ok-copy_canonical-2.ensures.set)) (canonical_increasing c.args.ys.now)

pub is_subset-requires-2-clause-subset : goal.is_subset-requires-2-clause-subset
is_subset-requires-2-clause-subset c = subst IsIncreasing (sym (c.deref-3.ensures.value ∙ c.in_ok-copy_canonical-2.ensures.set)) (canonical_increasing c.args.ys.now)

pub is_subset-requires-2-clause-superset : goal.is_subset-requires-2-clause-superset
is_subset-requires-2-clause-superset c = subst IsIncreasing (sym (c.deref-4.ensures.value ∙ c.in_ok-copy_canonical.ensures.set)) (canonical_increasing c.args.xs.now)

pub returns-then-not-is_subset : goal.returns-then-not-is_subset
returns-then-not-is_subset c = λ both.
    let xs = c.args.xs.now in
    let ys = c.args.ys.now in
    first_not (AllAmong xs ys) (AllAmong ys xs) c.is_subset.result c.if-not-is_subset.true
    (part_reports xs ys c.deref.result.now c.deref-2.result.now c.is_subset.result (c.deref.ensures.value ∙ c.in_ok-copy_canonical.ensures.set) (c.deref-2.ensures.value ∙ c.in_ok-copy_canonical-2.ensures.set) c.is_subset.ensures) both

pub returns : goal.returns
returns c =
    let xs = c.args.xs.now in
    let ys = c.args.ys.now in
    both_so (AllAmong xs ys) (AllAmong ys xs) c.is_subset.result c.is_subset-2.result c.if-not-is_subset.false
    (part_reports xs ys c.deref.result.now c.deref-2.result.now c.is_subset.result (c.deref.ensures.value ∙ c.in_ok-copy_canonical.ensures.set) (c.deref-2.ensures.value ∙ c.in_ok-copy_canonical-2.ensures.set) c.is_subset.ensures)
    (part_reports ys xs c.deref-3.result.now c.deref-4.result.now c.is_subset-2.result (c.deref-3.ensures.value ∙ c.in_ok-copy_canonical-2.ensures.set) (c.deref-4.ensures.value ∙ c.in_ok-copy_canonical.ensures.set) c.is_subset-2.ensures)
