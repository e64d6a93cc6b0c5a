use Rattle.std.proofs.Common.{reverse, sym, ◌∙◌, subst}
use Rattle.std.proofs.lemmas.List.{reverse-reverse}
use Rattle.sat_checker.specs.inner.Marks.{NoRepeats}
use Rattle.sat_checker.proofs.lemmas.sets.Distinct.{once_reversed}
use Rattle.sat_checker.proofs.units.assigned.Assigned.literals.Goals as goal

pub returns-clause-once : goal.returns-clause-once
returns-clause-once c = subst NoRepeats (reverse-reverse c.self.inside.trail.items ∙ sym c.as_slice.ensures.value) (once_reversed (reverse c.self.inside.trail.items) c.self.invariant.0.once)
