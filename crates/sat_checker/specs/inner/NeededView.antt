-- What the backward pass has marked, and the ids that it has listed.
use Rattle.std.specs.Prelude.{ℕ, ◌≡◌, map, reverse}
use Rattle.sat_checker.specs.LiteralSets.{is_among}
use Rattle.sat_checker.specs.announcements.Needed.{ConflictCauses}
use Rattle.sat_checker.specs.declared.rup.needed.Needed.{Needed}

-- `MarksCauses needed g` holds if exactly the literals of the causes `g` are marked as needed, and the listed ids are
-- those of the clauses of `g`, the falsified clause first.
pub record MarksCauses (needed : Needed) (g : ConflictCauses) : Type 0 where
  pub marked : (m : ℕ) → is_among needed.marked.literals m ≡ is_among g.literals m
  pub ids : needed.ids.items ≡ reverse (map (λ c. c.id) g.clauses)
