use Rattle.std.proofs.Common.{arith}
use Rattle.std.proofs.lemmas.Grind.{common_steps}
use Rattle.std.proofs.lemmas.Result.{err_from_is_err_and}
use Rattle.sat_solver.proofs.lemmas.session.ProofLemmas.{close_fails, close_gives}
use Rattle.sat_solver.proofs.proof.Proof.close_proof.Goals as goal

pub returns-in_err-flush_proof-clause-closes : goal.returns-in_err-flush_proof-clause-closes
returns-in_err-flush_proof-clause-closes g c = grind (arith, common_steps, err_from_is_err_and, close_fails)

pub returns-clause-closes : goal.returns-clause-closes
returns-clause-closes g c = grind (arith, common_steps, close_gives)
