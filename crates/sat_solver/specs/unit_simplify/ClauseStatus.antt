-- The status of a clause at level 0.
use Rattle.std.specs.Prelude.{ℕ, ◌<◌}
use Rattle.sat_parts.specs.clause.Stored.{lit_of, size_of}
use Rattle.sat_parts.specs.prop.Values.{IsTrueLit, IsFalseLit, IsUnassignedLit}
use Rattle.sat_parts.specs.declared.parts.SearchState.{SearchState}
use Rattle.sat_solver.specs.declared.unit_simplify.clause_status.ClauseStatus.{ClauseStatus}
use Rattle.sat_solver.specs.declared.unit_simplify.clause_status.ClauseStatus.TheVariants.{Satisfied, Whole, Shorter}

-- `HasTrue p o` holds if a literal of the clause at position `o` of the buffer is true
abbrev pub HasTrue : SearchState → ℕ → Type 0
HasTrue p o = (k : ℕ) × ((k < size_of p.clauses o) × IsTrueLit p.assignment.current (lit_of p.clauses o k))

-- `HasFalse p o` holds if a literal of the clause at position `o` of the buffer is false
abbrev pub HasFalse : SearchState → ℕ → Type 0
HasFalse p o = (k : ℕ) × ((k < size_of p.clauses o) × IsFalseLit p.assignment.current (lit_of p.clauses o k))

-- `HasNoAssignedLit p o` holds if no literal of the clause at position `o` of the buffer has a value
abbrev pub HasNoAssignedLit : SearchState → ℕ → Type 0
HasNoAssignedLit p o = (k : ℕ) → k < size_of p.clauses o → IsUnassignedLit p.assignment.current (lit_of p.clauses o k)

-- `HasClauseStatus status p o` holds if the clause at `o` is as the status says: `Satisfied` if a literal is true,
-- `Whole` if no literal has a value, `Shorter` if none is true and some are false
abbrev pub HasClauseStatus : ClauseStatus → SearchState → ℕ → Type 0
HasClauseStatus Satisfied p o = HasTrue p o
HasClauseStatus Whole p o = HasNoAssignedLit p o
HasClauseStatus Shorter p o = (HasTrue p o → ⊥) × HasFalse p o
