use Rattle.std.proofs.Common.{refl}
use Rattle.sat_solver.proofs.lemmas.clause.BumpingLemmas.{bumped_same}
use Rattle.sat_solver.proofs.clause.activity.bump_seen_vars.Goals as goal

pub bump_variables-requires-clause-there : goal.bump_variables-requires-clause-there
bump_variables-requires-clause-there c = rw c.seen.ensures c.requires.there

pub returns-clause-bumped : goal.returns-clause-bumped
returns-clause-bumped c = λ s search. bumped_same s c.args.search.now _ search refl refl refl refl c.bump_variables.ensures.holds c.bump_variables.ensures.same.0 c.bump_variables.ensures.same.1 c.bump_variables.ensures.word
