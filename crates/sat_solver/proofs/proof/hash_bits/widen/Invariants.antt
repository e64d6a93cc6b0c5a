use Rattle.std.proofs.Common.{◌≡◌, ◌≤◌, ◌-◌}
use Rattle.sat_solver.specs.proof.Counting.{widened_bits}
use Rattle.sat_solver.proofs.proof.hash_bits.widen.Given as goal

abbrev pub invariant-loop : goal.invariant-loop
invariant-loop l = (widened_bits (32 - l.counter) l.clauses l.bits ≡ widened_bits 32 l.clauses l.fn.from) × (l.bits ≤ 64)
