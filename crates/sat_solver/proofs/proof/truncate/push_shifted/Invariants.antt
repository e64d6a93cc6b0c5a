use Rattle.std.proofs.Common.{◌≡◌, ◌+◌, ◌-◌, ◌≤◌, ◌++◌, length, map, drop, vec_len, vec_capacity}
use Rattle.sat_solver.specs.proof.Widths.{kept_bits}
use Rattle.sat_solver.proofs.proof.truncate.push_shifted.Given as goal

abbrev pub invariant-loop-hash : goal.invariant-loop-hash
invariant-loop-hash l = record {
  room : vec_len l.narrowed + length l.hashes ≤ vec_capacity l.narrowed + l.hash-index;
  left : l.narrowed.items ++ map (kept_bits (64 - l.shift)) (drop l.hash-index l.hashes) ≡ l.fn.narrowed.items ++ map (kept_bits (64 - l.shift)) l.hashes;
}
