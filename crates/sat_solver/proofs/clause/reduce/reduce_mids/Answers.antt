use Rattle.std.proofs.Common.{refl}
use Rattle.sat_solver.proofs.lemmas.clause.ReducingLemmas.{reduced_headed}
use Rattle.sat_solver.proofs.clause.reduce.reduce_mids.Goals as goal

pub returns-clause-reduced : goal.returns-clause-reduced
returns-clause-reduced c = λ s search. reduced_headed s c.args.search.now _ search refl refl refl refl c.reduce_mids.ensures.holds c.reduce_mids.ensures.headed c.reduce_mids.ensures.word
