use Rattle.std.proofs.Common.{◌≡◌, drop}
use Rattle.std.specs.Int.Bits.{bit_xor}
use Rattle.sat_base.specs.values.Hashes.{hash_of}
use Rattle.sat_solver.proofs.proof.map_step.own_hash.Given as goal

abbrev pub invariant-loop-lit : goal.invariant-loop-lit
invariant-loop-lit l = bit_xor l.hash (hash_of (drop l.lit-index l.lits)) ≡ hash_of l.lits
