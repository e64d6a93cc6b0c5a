-- What settling a pending unit conflict leaves unchanged.
use Rattle.std.proofs.Common.{ℕ, ◌≡◌, Option, Some, None, refl}
use Rattle.sat_checker.specs.Stored.{Stored}
use Rattle.sat_checker.specs.Storing.{with_conflict_settled, settled_by}

-- settling a conflict does not change whether unsat is recorded
pub settled_unsat : (f : Stored) → (with_conflict_settled f).unsat ≡ f.unsat
settled_unsat f = go f.conflict
  where
    go : (x : Option (ℕ × ℕ)) → (settled_by x f).unsat ≡ f.unsat
    go None = refl
    go (Some units) = refl
