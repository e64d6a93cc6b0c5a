use Rattle.certify.proofs.lemmas.run.ProofPrefixes.{returned_prefix}
use Rattle.sat_solver.specs.proof.ProofView.{returned_writer}
use Rattle.std.proofs.Common.{ap}
use Rattle.certify.proofs.run.end.return_writer.Goals as goal

pub returns-clause-front : goal.returns-clause-front
returns-clause-front g c =
    returned_prefix c.args.solver (returned_writer g.C.CountedWrite.seen c.into_target.result) (g.C.CountedWrite.seen c.in-Some.certificate) (ap (returned_writer g.C.CountedWrite.seen) c.in-Some.is) c.into_target.ensures.front
