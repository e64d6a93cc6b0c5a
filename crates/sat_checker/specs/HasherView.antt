-- What a hasher has: solver names by variable, and a width.
use Rattle.std.specs.Prelude.{ℕ, Option, None}
use Rattle.sat_base.specs.values.Tables.{value_at}
use Rattle.sat_checker.specs.declared.hash.ClauseHasher.{ClauseHasher}

-- The solver name under which a variable is hashed, or `None` if the variable's own index is hashed.
abbrev pub solver_name_of : ClauseHasher → ℕ → Option ℕ
solver_name_of h v = value_at None h.solver_names v

-- The width at which the hasher computes hashes, in bits.
abbrev pub width_of : ClauseHasher → ℕ
width_of h = h.bits
