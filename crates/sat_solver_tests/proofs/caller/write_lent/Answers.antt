use Rattle.sat_solver_tests.proofs.CallingLemmas.{lent_calls}
use Rattle.sat_solver_tests.proofs.caller.write_lent.Goals as goal

pub returns-in-Some : goal.returns-in-Some
returns-in-Some g c =
    lent_calls g.C.CountedWrite.seen c.args.target.now _ c.in-Some.lent.now _ c.in-Some.lent.ghost_name c.write_owned-lent.result.1
    c.target-1.given.1 (rw c.in-Some.is at c.write_owned-lent.ensures)

pub returns-in-None : goal.returns-in-None
returns-in-None g c = absurd (rw c.in-None.is at c.write_owned-lent.ensures)
