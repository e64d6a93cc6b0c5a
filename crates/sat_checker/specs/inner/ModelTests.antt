-- Bool functions on whether a list of literals satisfies clauses.
use Rattle.std.specs.Prelude.{ℕ, ◌+◌, ◌==◌, Bool, true, ◌||◌, ◌&&◌, List, [], ◌∷◌, length, if◌then◌else◌}
use Rattle.std.specs.List.{list_any}
use Rattle.sat_checker.specs.LiteralSets.{is_among}
use Rattle.sat_checker.specs.Stored.{StoredClause}

-- `are_all_true ls cs` is true if every clause that is stored as irredundant has one of the literals.
abbrev pub are_all_true : List ℕ → List StoredClause → Bool
are_all_true ls [] = true
are_all_true ls (c ∷ cs) = (c.irredundant == 0 || list_any (is_among ls) c.literals) && are_all_true ls cs

-- The number of literals of the clauses that are stored as irredundant.
abbrev pub irredundant_length : List StoredClause → ℕ
irredundant_length [] = 0
irredundant_length (c ∷ cs) = (if c.irredundant == 0 then 0 else length c.literals) + irredundant_length cs
