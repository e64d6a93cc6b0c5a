use Rattle.std.proofs.Common.{◌≡◌, drop}
use Rattle.std.specs.Int.Bits.{bit_xor}
use Rattle.sat_base.specs.values.Hashes.{hash_of}
use Rattle.sat_solver.proofs.proof.map_step.long_hash.Given as goal

abbrev pub invariant-loop-at : goal.invariant-loop-at
invariant-loop-at l = bit_xor l.hash (hash_of (drop l.at l.lits)) ≡ hash_of l.lits
