use Rattle.std.proofs.Common.{◌≡◌, drop, map}
use Rattle.std.specs.Int.Bits.{bit_xor}
use Rattle.sat_base.specs.values.Hashes.{hash_of}
use Rattle.sat_checker.specs.Stored.{solver_literal}
use Rattle.sat_checker.specs.HasherView.{solver_name_of}
use Rattle.sat_checker.proofs.hash.ClauseHasher.clause_hash.Given as goal

-- the hash so far, combined with the hash of the remaining literals, is the hash of all literals
abbrev pub invariant-loop-lit : goal.invariant-loop-lit
invariant-loop-lit l =
    let solver = map (solver_literal (solver_name_of l.self)) in bit_xor l.hash (hash_of (solver (drop l.lit-index l.lits))) ≡ hash_of (solver l.lits)
