use Rattle.std.proofs.Common.{◌≡◌, ◌≤◌, ◌-◌}
use Rattle.sat_solver.specs.proof.Counting.{narrowed_bits}
use Rattle.sat_solver.proofs.proof.hash_bits.shorten.Given as goal

abbrev pub invariant-loop : goal.invariant-loop
invariant-loop l = (narrowed_bits (32 - l.counter) l.clauses l.bits ≡ narrowed_bits 32 l.clauses l.fn.from) × (l.bits ≤ 64)
