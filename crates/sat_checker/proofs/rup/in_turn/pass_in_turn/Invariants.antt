use Rattle.std.proofs.Common.{ℕ, ◌≡◌, ◌+◌, ◌-◌, ◌*◌, ◌≤◌, length}
use Rattle.sat_checker.specs.LiteralSets.{is_among}
use Rattle.sat_checker.specs.Looks.{stored_literal_count}
use Rattle.sat_checker.specs.Stored.{Stored, is_unit}
use Rattle.sat_checker.specs.inner.WalkResults.{AssumesMore}
use Rattle.sat_checker.specs.inner.AssumedRoom.{HasStoredRoom}
use Rattle.sat_checker.specs.inner.StoreView.{RepresentsClauses}
use Rattle.sat_checker.proofs.lemmas.state.InTurn.{Passing}
use Rattle.sat_checker.proofs.rup.in_turn.pass_in_turn.Given as goal

-- the units before `place - 1` were added, and the unit at `place - 1` passed
abbrev pub invariant-loop-place : goal.invariant-loop-place
invariant-loop-place l = record {
  some : 1 ≤ l.place;
  within : l.place - 1 ≤ length l.units - 1;
  passing : (f : Stored) → RepresentsClauses l.store f → ((k : ℕ) → is_among l.fn.assigned.literals k ≡ is_unit f k) → HasStoredRoom l.fn.assigned.room f.clauses
      → Passing l.store l.fn.assigned.room f l.units (l.place - 1) l.assigned;
  same : (f : Stored) → RepresentsClauses l.store f → HasStoredRoom l.fn.assigned.room f.clauses → l.assigned.room ≡ l.fn.assigned.room;
  extends : AssumesMore l.fn.assigned l.assigned;
  looks : (f : Stored) → RepresentsClauses l.store f → l.looks ≤ l.fn.looks + (l.place - 1) * stored_literal_count f;
  rise : l.fn.looks ≤ l.looks;
}
