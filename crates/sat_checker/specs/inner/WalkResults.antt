-- What the results of the walk's functions mean.
use Rattle.std.specs.Prelude.{ℕ, ◌≡◌, ◌≢◌, ◌-◌, ◌≤◌, List, [], length, drop, None, Some}
use Rattle.sat_checker.specs.inner.AssumedRoom.{LiteralsAndRoom, RoomIsKept}
use Rattle.sat_checker.specs.inner.Walk.{walk}
pub use Rattle.sat_checker.specs.ClauseStates.{clause_state_of}
use Rattle.sat_checker.specs.declared.rup.Walked.{Walked}
use Rattle.sat_checker.specs.declared.rup.Walked.TheVariants.{Empty, Conflict, Open}

-- `AssumesMore old new` holds if `new` has the assumed literals of `old` and newer ones before them, and no literal has
-- lost its room.
pub record AssumesMore (old new : LiteralsAndRoom) : Type 0 where
  pub longer : length old.literals ≤ length new.literals
  pub below : drop (length new.literals - length old.literals) new.literals ≡ old.literals
  pub room : RoomIsKept old.room new.room

-- `WalksBucket walked clauses old new` holds if visiting the clauses of a bucket, from the assumed literals `old`,
-- ended as `walked` says: the bucket is empty (`Empty`), a clause was falsified (`Conflict`), or the literals `new` are
-- now assumed (`Open`).
abbrev pub WalksBucket : Walked → List (List ℕ) → List ℕ → List ℕ → Type 0
WalksBucket Empty clauses old new = (clauses ≡ []) × (new ≡ old)
WalksBucket Conflict clauses old new = (clauses ≢ []) × (walk old clauses ≡ None)
WalksBucket Open clauses old new = (clauses ≢ []) × (walk old clauses ≡ Some new)
