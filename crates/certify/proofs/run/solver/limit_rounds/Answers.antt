use Rattle.std.proofs.Common.{refl}
use Rattle.certify.proofs.lemmas.run.SolverCalls.{limited}
use Rattle.certify.proofs.run.solver.limit_rounds.Goals as goal

pub returns : goal.returns
returns g c =
    let k = rw c.unwrap.ensures at c.config.ensures in
    limited _ c.args.budget c.args.solver.now c.config.new.self refl c.requires k
