use Rattle.std.proofs.Common.{[], ap}
use Rattle.sat_solver.specs.declared.proof.hash_bits.Counting.{Counting}
use Rattle.sat_solver.proofs.lemmas.session.CheckedLemmas.{fed_first}
use Rattle.sat_solver.proofs.proof.checker.Checked.new.Goals as goal

pub returns : goal.returns
returns g c = fed_first g.P.ProofProcessor.takes _ [] (ap (λ (k : Counting). k.bits) c.new.ensures) c.notifying.ensures.valid c.notifying.ensures.goes_on c.notifying.ensures.settled c.notifying.ensures.listeners
