use Rattle.std.proofs.Common.{◌≡◌, ℕ, ◌-◌, ◌^◌, min, List, length, take}
use Rattle.std.specs.List.{sum_by}
use Rattle.sat_parts.proofs.binary.BinaryClauses.implications.Given as goal

abbrev pub invariant-loop-code : goal.invariant-loop-code
invariant-loop-code l = l.all ≡ min (sum_by (λ (ls : List ℕ). length ls) (take l.code l.fn.self.implied)) (2 ^ 64 - 1)
