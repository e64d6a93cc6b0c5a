-- What names and a search share.
use Rattle.std.specs.Prelude.{ℕ, ◌≡◌, ◌<◌, ◌≤◌, Some, length, slice_index_or as get_or}
use Rattle.sat_solver.specs.variables.Variables.{global_at, indices_used}
use Rattle.sat_solver.specs.declared.variables.Variables.{Variables}
use Rattle.sat_solver.specs.declared.context.Search.{Search}

-- `SharesIndices n c` holds if every index that a proof variable has by the names `n` exists in the search `c`, which
-- lists the same variable for it; the search has no more indices than were ever used
pub record SharesIndices (n : Variables) (c : Search) : Type 0 where
  pub size : length c.parts.assignment.current ≡ length c.globals.items
  pub few : length c.globals.items ≤ indices_used n
  pub below : (x v : ℕ) → global_at n x ≡ Some v → x < length c.globals.items
  pub same : (x v : ℕ) → global_at n x ≡ Some v → get_or c.globals.items x 0 ≡ v
