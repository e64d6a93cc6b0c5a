use Rattle.std.proofs.Common.{ℕ, length, ap}
use Rattle.std.proofs.iter.runs.Sources.{from_front}
use Rattle.std.specs.Map.Iter.{TakesFirst}
use Rattle.sat_parts.proofs.clause.iter.clauses_iter.Goals as goal

pub returns-clause-runs : goal.returns-clause-runs
returns-clause-runs c = from_front (TakesFirst (λ (x : ℕ). x)) (λ (x : ℕ). x) (λ s. s) (λ s t h. ap length h.0) (λ s x t h. h)
