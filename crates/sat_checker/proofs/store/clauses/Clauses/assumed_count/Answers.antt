use Rattle.std.proofs.Common.{sym, subst, arith}
use Rattle.sat_checker.specs.inner.Marks.{IsIncreasing}
use Rattle.sat_checker.proofs.lemmas.state.Living.{at_place}
use Rattle.sat_checker.proofs.store.clauses.Clauses.assumed_count.Goals as goal

pub has_just_assumed-requires : goal.has_just_assumed-requires
has_just_assumed-requires c = subst IsIncreasing (sym c.literals.ensures.lent) (at_place c.self.inside.slots c.loop-place.place c.len-place-end.ensures.increasing (omega (arith, c.len-place-end.ensures.count)))
