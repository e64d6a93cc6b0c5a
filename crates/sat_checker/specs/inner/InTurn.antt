-- Units that are checked one after another, without allocating for the earlier ones.
use Rattle.std.specs.Prelude.{ℕ, ◌==◌, ◌≡◌, Bool, true, false, not, ◌&&◌, List, [], ◌∷◌, if◌then◌else◌}
use Rattle.sat_base.specs.values.Literals.{negated}
use Rattle.sat_checker.specs.LiteralSets.{is_among}
use Rattle.sat_checker.specs.Stored.{Stored, is_unit, unit_literals}
use Rattle.sat_checker.specs.Storing.{with_unit}
use Rattle.sat_checker.specs.Accepts.{UnitsPassInTurn}
use Rattle.sat_checker.specs.inner.AssumedRoom.{LiteralsAndRoom, AgreeWithinRoom}

-- The assumed literals after a unit: it is assumed if there is room for it, and neither it nor its negation is assumed.
abbrev pub with_assumed : ℕ → LiteralsAndRoom → List ℕ
with_assumed l t = if is_among t.room l && not (is_among t.literals l) && not (is_among t.literals (negated l)) then l ∷ t.literals else t.literals

-- `is_first_of_variable ls l` is true if `l` is the first literal of its variable in the list.
abbrev pub is_first_of_variable : List ℕ → ℕ → Bool
is_first_of_variable [] l = false
is_first_of_variable (m ∷ ms) l = if m == l then true else if m == negated l then false else is_first_of_variable ms l

-- `AssumesUnits trail before f` holds if, of the literals with room, exactly the units of `f` are assumed. A literal
-- without room is a unit of `f` exactly when it is in `before`, the units added earlier, and its negation is not there
-- before it.
pub record AssumesUnits (trail : LiteralsAndRoom) (before : List ℕ) (f : Stored) : Type 0 where
  pub agrees : AgreeWithinRoom trail.room trail.literals (unit_literals f)
  pub others : (l : ℕ) → is_among trail.room l ≡ false → is_unit f l ≡ is_first_of_variable before l

-- `OtherUnitsPassInTurn f units` holds if all of `units` (literals with hashes) but the first pass the check in turn,
-- once the first is stored as a unit.
abbrev pub OtherUnitsPassInTurn : Stored → List (ℕ × ℕ) → Type 0
OtherUnitsPassInTurn f [] = Unit {0}
OtherUnitsPassInTurn f (u ∷ us) = UnitsPassInTurn (with_unit u.0 f) us
