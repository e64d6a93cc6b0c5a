use Rattle.std.proofs.Common.{sym, subst, arith}
use Rattle.sat_checker.specs.inner.Marks.{IsIncreasing}
use Rattle.sat_checker.proofs.lemmas.formula.Numbering.{strict_same, strict_part}
use Rattle.sat_checker.proofs.lemmas.store.Ids.{numbered_standing, standing_length}
use Rattle.sat_checker.proofs.lemmas.store.Keeping.{length_same}
use Rattle.sat_checker.proofs.lemmas.state.Living.{at_place}
use Rattle.std.proofs.lemmas.Grind.{common_steps}
use Rattle.sat_checker.proofs.store.Store.has_part_assumed.Goals as goal

pub is_strictly_assumed-requires : goal.is_strictly_assumed-requires
is_strictly_assumed-requires c = subst IsIncreasing (sym c.literals.ensures.lent) (at_place c.args.self.now.clauses c.in-Some.place c.len-count.ensures.increasing c.in-Some.ensures.found.inside)

pub returns-clause-part : goal.returns-clause-part
returns-clause-part c = grind (arith, common_steps, strict_same, strict_part, numbered_standing)

pub returns-clause-looks : goal.returns-clause-looks
returns-clause-looks c = grind (arith, common_steps, standing_length, length_same, common_steps)
