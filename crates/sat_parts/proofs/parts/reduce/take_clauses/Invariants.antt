use Rattle.std.proofs.Common.{ℕ, ◌≡◌, take, map}
use Rattle.sat_parts.proofs.parts.reduce.take_clauses.Given as goal

abbrev pub invariant-loop-pair : goal.invariant-loop-pair
invariant-loop-pair l = l.list.items ≡ map (λ (x : ℕ × ℕ). x.1) (take l.pair-index l.ranks)
