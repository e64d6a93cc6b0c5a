use Rattle.sat_solver.proofs.lemmas.facade.LawLemmas.{calls_go_on}
use Rattle.sat_solver.proofs.facade.laws.calls_go_on.Goals as goal

pub returns : goal.returns
returns g c = calls_go_on c.args._old.now c.args._new.now
