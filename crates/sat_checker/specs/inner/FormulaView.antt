-- How the parts of the stored formula represent the definition's state.
use Rattle.std.specs.Prelude.{ℕ, ◌≡◌, ◌<◌, ◌≤◌, Bool, List, map, Option, Result, Ok, Err}
use Rattle.std.specs.List.{AllByRecursion}
use Rattle.std.specs.Bool.{MatchBool}
use Rattle.sat_checker.specs.Stored.{Stored, StoredClause, StoredUnit, LastIrredundant, NoneYet, Empty, UnitClause, LongClause, unit_literals}
use Rattle.sat_base.specs.steps.Steps.{Step}
use Rattle.sat_checker.specs.Accepts.{Accepts, effect}
use Rattle.sat_checker.specs.Counters.{CountersExhausted}
use Rattle.sat_checker.specs.inner.Reasons.{ExplainsCheck}
use Rattle.sat_checker.specs.inner.AssumedRoom.{RoomIsKept, HasStoredRoom}
use Rattle.sat_checker.specs.inner.SlotView.{slot_ids}
use Rattle.sat_checker.specs.inner.StoreView.{RepresentsClauses, StoresHashed, AreIdsInOrder, rehashed}
use Rattle.sat_checker.specs.declared.store.StoreError.{StoreError}
use Rattle.sat_checker.specs.declared.store.StoreError.TheVariants.{OutOfMemory, CounterEnd}
use Rattle.sat_checker.specs.declared.state.status.LastClause.{LastClause}
use Rattle.sat_checker.specs.declared.state.status.LastClause.TheVariants as code
use Rattle.sat_checker.specs.declared.state.status.Status.{Status}
use Rattle.sat_checker.specs.declared.formula.Formula.{Formula}

-- What is recorded besides clauses, units and variables: unsat, a pending unit conflict, the last irredundant clause,
-- the next id, the end, and the deletion of a variable.
pub record StoredStatus : Type 0 where
  pub unsat : Bool
  pub conflict : Option (ℕ × ℕ)
  pub last : LastIrredundant
  pub next_id : ℕ
  pub ended : Bool
  pub var_deleted : Bool

-- What `f` records besides clauses, units and variables.
abbrev pub status_of : Stored → StoredStatus
status_of f = record { unsat = f.unsat; conflict = f.conflict; last = f.last; next_id = f.next_id; ended = f.ended; var_deleted = f.var_deleted }

-- The last irredundant clause stored, as the code represents it.
abbrev pub last_in : LastClause → LastIrredundant
last_in code.NoneYet = NoneYet
last_in (code.Empty id) = Empty id
last_in (code.Single id l) = UnitClause id
last_in (code.Long id) = LongClause id

-- What the code's status records.
abbrev pub status_in_code : Status → StoredStatus
status_in_code s = record { unsat = s.unsat; conflict = s.conflict; last = last_in s.last; next_id = s.next_id; ended = s.ended; var_deleted = s.var_deleted }

-- `IsIdOfUnit id l u` holds if the unit `u` has the literal `l` when its id is `id`, and has an id of at least `id`
-- when its literal is `l`.
abbrev pub IsIdOfUnit : ℕ → ℕ → StoredUnit → Type 0
IsIdOfUnit id l u = (u.id ≡ id → u.literal ≡ l) × (u.literal ≡ l → id ≤ u.id)

-- `LastUnitHasId last units next_id` holds if, when the last irredundant clause is a unit, its id is below `next_id`,
-- and no stored unit has this id with another literal, or its literal with a lower id.
abbrev pub LastUnitHasId : LastClause → List StoredUnit → ℕ → Type 0
LastUnitHasId code.NoneYet units next_id = Unit {0}
LastUnitHasId (code.Empty id) units next_id = Unit {0}
LastUnitHasId (code.Single id l) units next_id = (id < next_id) × AllByRecursion (IsIdOfUnit id l) units
LastUnitHasId (code.Long id) units next_id = Unit {0}

-- `AreNumbered ids units last next_id` holds if the ids of the clauses, by place, and those of the units increase and
-- are below `next_id`, and so is the id of the last irredundant clause if it is a unit, as `LastUnitHasId` says.
pub record AreNumbered (ids : List ℕ) (units : List StoredUnit) (last : LastClause) (next_id : ℕ) : Type 0 where
  pub of_clauses : AreIdsInOrder ids next_id
  pub of_units : AreIdsInOrder (map (λ u. u.id) units) next_id
  pub put : LastUnitHasId last units next_id

-- `RepresentsParts formula kept solver_names bits stored recorded` holds if the formula has the clauses `kept`, hashed
-- with these solver names at this width, the units `stored`, and the records `recorded`. Both the units and the marks
-- have room for all literals of the clauses.
pub record RepresentsParts (formula : Formula) (kept : List StoredClause) (solver_names : ℕ → Option ℕ) (bits : ℕ) (stored : List StoredUnit) (recorded : StoredStatus) : Type 0 where
  pub clauses : StoresHashed formula.store kept solver_names bits
  pub units : formula.units.units ≡ stored
  pub status : status_in_code formula.status ≡ recorded
  pub numbered : AreNumbered (slot_ids formula.store.clauses) stored formula.status.last recorded.next_id
  pub room : HasStoredRoom formula.units.room kept
  pub marks : HasStoredRoom formula.marks.room kept

-- `RepresentsFormula formula f` holds if the code's formula represents `f`, except for the variables and the
-- assumptions, and all clauses are filed under their current hashes.
abbrev pub RepresentsFormula : Formula → Stored → Type 0
RepresentsFormula formula f = RepresentsParts formula f.clauses f.solver_names f.width f.units (status_of f)

-- The formula with all clauses filed by their current hashes.
abbrev pub rehashed_in : Formula → Formula
rehashed_in formula = record formula { store = rehashed formula.store }

-- `ChangeResult result kept g` holds if `kept` holds after `Ok`, and a number of `g`, what would be stored, does not
-- fit in 64 bits after `CounterEnd`. Nothing is required after `OutOfMemory`.
abbrev pub ChangeResult : {T : Type 0} → Result T StoreError → Type 0 → Stored → Type 0
ChangeResult (Ok x) kept g = kept
ChangeResult (Err OutOfMemory) kept g = Unit {0}
ChangeResult (Err CounterEnd) kept g = CountersExhausted g

-- `FormulaEffect result old change new` holds if, for every `f` that `old` represents, `new` represents `change f`
-- after `Ok`, and a number of `change f` does not fit in 64 bits after `CounterEnd`.
abbrev pub FormulaEffect : {T : Type 0} → Result T StoreError → Formula → (Stored → Stored) → Formula → Type 0
FormulaEffect result old change new = (f : Stored) → RepresentsFormula old f → ChangeResult result (RepresentsFormula new (change f)) (change f)

-- `DecidesChange result accepts kept g` holds if the change is accepted and made (`Ok(true)`), is refused
-- (`Ok(false)`), or would be accepted but fails (`Err`). `CounterEnd` also means that `g` exhausts the counters.
abbrev pub DecidesChange : Result Bool StoreError → Type 0 → Type 0 → Stored → Type 0
DecidesChange (Ok accepted) accepts kept g = MatchBool accepted (accepts × kept) (accepts → ⊥)
DecidesChange (Err OutOfMemory) accepts kept g = accepts
DecidesChange (Err CounterEnd) accepts kept g = accepts × CountersExhausted g

-- `HasCheckData formula f` holds if the formula has the clauses of `f`, the literals of its units under any ids, and
-- room for the clauses' literals. A propagation check needs nothing else.
pub record HasCheckData (formula : Formula) (f : Stored) : Type 0 where
  pub clauses : RepresentsClauses formula.store f
  pub units : map (λ u. u.literal) formula.units.units ≡ unit_literals f
  pub room : HasStoredRoom formula.units.room f.clauses

-- `DiffersInNotesAndRoom old new` holds if the formulas differ at most in notes, assumed literals, marks and room, and
-- no literal has lost its room. So they store the same.
pub record DiffersInNotesAndRoom (old new : Formula) : Type 0 where
  pub store : new.store ≡ old.store
  pub status : new.status ≡ old.status
  pub units : new.units.units ≡ old.units.units
  pub room : RoomIsKept old.units.room new.units.room
  pub marks : RoomIsKept old.marks.room new.marks.room

-- `DeletionIsAccepted new f step` holds if the rules accept the step when `f` is stored, and `new` represents its
-- effect on `f`.
abbrev pub DeletionIsAccepted : Formula → Stored → Step → Type 0
DeletionIsAccepted new f step = Accepts f step × RepresentsFormula new (effect step f)

-- `DeletionEffect accepted old step new` holds if, whatever `old` represents, the rules accept the deletion and `new`
-- represents its effect when `accepted` is true, and the rules refuse it otherwise.
abbrev pub DeletionEffect : Bool → Formula → Step → Formula → Type 0
DeletionEffect accepted old step new = (f : Stored) → RepresentsFormula old f → MatchBool accepted (DeletionIsAccepted new f step) (Accepts f step → ⊥)

-- `NotesExplainCheck formula clause hashes` holds if the notes of the last walk give the causes of the conflict by
-- which the clause passes the check under these hashes, unless it is a tautology or a unit satisfies it.
abbrev pub NotesExplainCheck : Formula → List ℕ → List ℕ → Type 0
NotesExplainCheck formula clause hashes = ExplainsCheck formula.store.clauses formula.passed (map (λ u. u.literal) formula.units.units) clause hashes
