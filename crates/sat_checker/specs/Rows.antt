-- Worked examples: steps in the order of a certificate, whether they are accepted, and what is stored after them.
use Rattle.std.specs.Prelude.{ℕ, ◌≡◌, true, false, Option, Some, None, List, [], ◌∷◌, ◌++◌, map}
use Rattle.sat_base.specs.values.Hashes.{hash_of}
use Rattle.sat_base.specs.steps.Steps.{Redundant, Simplified, Satisfied, Step, SolverVarName, UserVarName, DeleteVar, ChangeSamplingMode, AddClause, AtClause, UnitClauses, DeleteClause, ChangeHashBits, Model, Assumptions, FailedAssumptions, End}
use Rattle.sat_checker.specs.Stored.{Stored, Witness, UnitClause, clause_hash_by, is_known, mode_of}
use Rattle.sat_checker.specs.Accepts.{Accepts, AcceptsAll, stored_after, ready_after}

-- All steps, the newest first, when `steps`, given the oldest first, come after `earlier`, given the newest first.
abbrev pub in_certificate_order : List Step → List Step → List Step
in_certificate_order [] earlier = earlier
in_certificate_order (step ∷ steps) earlier = in_certificate_order steps (step ∷ earlier)

-- What is stored after these steps, given the oldest first. A unit conflict of the last step is still pending.
abbrev pub stored_by : List Step → Stored
stored_by steps = stored_after (in_certificate_order steps [])

-- What is stored after these steps, given the oldest first, with a pending unit conflict settled: what the next step is
-- checked against.
abbrev pub ready_by : List Step → Stored
ready_by steps = ready_after (in_certificate_order steps [])

-- `AllAccepted steps` holds if every step, the oldest first, is accepted after the steps before it.
abbrev pub AllAccepted : List Step → Type 0
AllAccepted steps = AcceptsAll (in_certificate_order steps [])

-- `LastRefused steps last` holds if the steps, the oldest first, are accepted, and the step `last` after them is not.
abbrev pub LastRefused : List Step → Step → Type 0
LastRefused steps last = AllAccepted steps × (Accepts (ready_by (steps)) last → ⊥)

-- The solver names when no variable has one.
abbrev pub no_names : ℕ → Option ℕ
no_names v = None

-- `HashesOfOneTwo` holds if the hash of [1, 2] without solver names is 0x449114950295082a at width 64, 0x44 at width 8,
-- 17 at width 6 and 0 at width 0.
abbrev pub HashesOfOneTwo : Type 0
HashesOfOneTwo = map (λ width. clause_hash_by no_names width (0 ∷ 2 ∷ [])) (64 ∷ 8 ∷ 6 ∷ 0 ∷ []) ≡ 0x449114950295082a ∷ 0x44 ∷ 17 ∷ 0 ∷ []

-- `OnlyEndIsAccepted` holds if a proof that consists only of an `End` step is accepted, and the end is recorded, but
-- not unsat.
abbrev pub OnlyEndIsAccepted : Type 0
OnlyEndIsAccepted = AllAccepted (End ∷ []) × ((stored_by (End ∷ [])).ended ≡ true) × ((stored_by (End ∷ [])).unsat ≡ false)

-- Steps that give variable 1 a name, add [1], remove the name, set mode sample, give the same name again, add [-1], and
-- end. The variable stays known, so its unit stays stored.
abbrev pub name_given_again : List Step
name_given_again =
    UserVarName 0 (Some 0) ∷ AddClause (0 ∷ []) ∷ UserVarName 0 None ∷ ChangeSamplingMode 0 true ∷ UserVarName 0 (Some 0) ∷ AddClause (1 ∷ []) ∷ End ∷ []

-- `NameGivenAgain` holds if steps that name variable 1, add [1], remove the name and give it again, and add [-1] are
-- accepted, and unsat is recorded, since the unit [1] is still stored.
abbrev pub NameGivenAgain : Type 0
NameGivenAgain = AllAccepted name_given_again × ((stored_by name_given_again).unsat ≡ true)

-- The input clauses [1, 2], [1, -2], [-1, 2] and [-1, -2].
abbrev pub four_clauses : List Step
four_clauses = AddClause (0 ∷ 2 ∷ []) ∷ AddClause (0 ∷ 3 ∷ []) ∷ AddClause (1 ∷ 2 ∷ []) ∷ AddClause (1 ∷ 3 ∷ []) ∷ []

-- `FourClauses` holds if the input clauses [1, 2], [1, -2], [-1, 2] and [-1, -2] are accepted and have the ids 0 to 3.
abbrev pub FourClauses : Type 0
FourClauses = AllAccepted four_clauses × (map (λ c. c.id) (stored_by four_clauses).clauses ≡ 0 ∷ 1 ∷ 2 ∷ 3 ∷ [])

-- Steps that add [1, 2], [1, -2], [-1, 2] and [-1, -2], derive [1] with the hashes of the first two, and then the empty
-- clause with the hashes of the last two.
abbrev pub refuted : List Step
refuted =
    four_clauses ++ AtClause false (0 ∷ []) (hash_of (0 ∷ 2 ∷ []) ∷ hash_of (0 ∷ 3 ∷ []) ∷ []) ∷ AtClause false [] (hash_of (1 ∷ 2 ∷ []) ∷ hash_of (1 ∷ 3 ∷ []) ∷ []) ∷ []

-- `DerivesUnitThenEmpty steps` holds if all steps, the oldest first, are accepted, and afterwards the unit [1] is the
-- only unit and has id 4, unsat is recorded, and the next id is 6.
abbrev pub DerivesUnitThenEmpty : List Step → Type 0
DerivesUnitThenEmpty steps = AllAccepted steps × ((stored_by steps).units ≡ record { id = 4; literal = 0 } ∷ []) × ((stored_by steps).unsat ≡ true) × ((stored_by steps).next_id ≡ 6)

-- `Refuted` holds if after [1, 2], [1, -2], [-1, 2] and [-1, -2], deriving [1] and then the empty clause is accepted at
-- width 64: [1] is the only unit and has id 4, unsat is recorded, and the next id is 6.
abbrev pub Refuted : Type 0
Refuted = DerivesUnitThenEmpty refuted

-- `RefutedAtWidthZero` holds if after [1, 2], [1, -2], [-1, 2] and [-1, -2], deriving [1] and then the empty clause is
-- also accepted at width 0, where all clauses are in the bucket of hash 0, given once each time.
abbrev pub RefutedAtWidthZero : Type 0
RefutedAtWidthZero = DerivesUnitThenEmpty (four_clauses ++ ChangeHashBits 0 ∷ AtClause false (0 ∷ []) (0 ∷ []) ∷ AtClause false [] (0 ∷ []) ∷ [])

-- `StoredTwice` holds if after the input clauses [1, 2] and [2, 1, 1], the only stored clause is [1, 2] with id 0 and
-- the irredundant count 2, the next id is 2, and deriving [3] without hashes is refused.
abbrev pub StoredTwice : Type 0
StoredTwice = let steps : List Step = AddClause (0 ∷ 2 ∷ []) ∷ AddClause (2 ∷ 0 ∷ 0 ∷ []) ∷ [] in
    LastRefused steps (AtClause false (4 ∷ []) [])
    × ((stored_by steps).clauses ≡ record { id = 0; literals = 0 ∷ 2 ∷ []; irredundant = 2; redundant = 0 } ∷ [])
    × ((stored_by steps).next_id ≡ 2)

-- Steps that set width 0 and add [-2, 3, 4], [1, 2] and [-2, -4]. To derive [1, 3], the only bucket must be visited
-- twice.
abbrev pub three_at_width_zero : List Step
three_at_width_zero = ChangeHashBits 0 ∷ AddClause (3 ∷ 4 ∷ 6 ∷ []) ∷ AddClause (0 ∷ 2 ∷ []) ∷ AddClause (3 ∷ 7 ∷ []) ∷ []

-- `HashGivenOnce` holds if after [-2, 3, 4], [1, 2] and [-2, -4] at width 0, deriving [1, 3] is refused when the hash 0
-- of their bucket is given once.
abbrev pub HashGivenOnce : Type 0
HashGivenOnce = LastRefused three_at_width_zero (AtClause false (0 ∷ 4 ∷ []) (0 ∷ []))

-- Steps that add [-2, 3, 4], [1, 2] and [-2, -4] at width 0, and derive [1, 3] with the hash 0 of their bucket given
-- twice.
abbrev pub hash_given_twice : List Step
hash_given_twice = three_at_width_zero ++ AtClause false (0 ∷ 4 ∷ []) (0 ∷ 0 ∷ []) ∷ []

-- `HashGivenTwice` holds if after [-2, 3, 4], [1, 2] and [-2, -4] at width 0, deriving [1, 3] is accepted when the hash
-- 0 of their bucket is given twice, and the clauses have the ids 0 to 3.
abbrev pub HashGivenTwice : Type 0
HashGivenTwice = AllAccepted hash_given_twice × (map (λ c. c.id) (stored_by hash_given_twice).clauses ≡ 0 ∷ 1 ∷ 2 ∷ 3 ∷ [])

-- Steps that name variables 1 and 2, add [1, 2], [1, -2], [-1, 2] and [-1, -2], and at width 8, where hashes collide,
-- derive [1], the unit [2] and the empty clause, between two empty lists of assumptions, and end.
abbrev pub colliding_hashes : List Step
colliding_hashes =
    UserVarName 0 (Some 0) ∷ SolverVarName 0 (Some 0) ∷ UserVarName 1 (Some 1) ∷ SolverVarName 1 (Some 1) ∷ four_clauses
    ++ Assumptions [] ∷ ChangeHashBits 8 ∷ AtClause false (0 ∷ []) (0x44 ∷ 0xe6 ∷ []) ∷ UnitClauses ((2, 0xe6) ∷ []) ∷ AtClause false [] (0x44 ∷ []) ∷ Assumptions [] ∷ End ∷ []

-- `CollidingHashes` holds if a complete refutation of [1, 2], [1, -2], [-1, 2] and [-1, -2] at width 8, where hashes
-- collide, is accepted, and unsat and the end are recorded.
abbrev pub CollidingHashes : Type 0
CollidingHashes = AllAccepted colliding_hashes × ((stored_by colliding_hashes).unsat ≡ true) × ((stored_by colliding_hashes).ended ≡ true)

-- `SolverNameChangesHash` holds if after [1, 2], the solver name with index 5 for variable 1, and [-1], deriving [2] as
-- redundant is refused with the hash that [1, 2] had without that solver name.
abbrev pub SolverNameChangesHash : Type 0
SolverNameChangesHash = LastRefused (AddClause (0 ∷ 2 ∷ []) ∷ SolverVarName 0 (Some 5) ∷ AddClause (1 ∷ []) ∷ []) (AtClause true (2 ∷ []) (hash_of (0 ∷ 2 ∷ []) ∷ []))

-- `UnitConflict` holds if after [1] and [-1], only [1] is stored, with id 0; [-1] has got id 1, unsat is recorded, the
-- pending conflict is of the ids 0 and 1, and settling it gives id 2 to the empty clause.
abbrev pub UnitConflict : Type 0
UnitConflict = let steps : List Step = AddClause (0 ∷ []) ∷ AddClause (1 ∷ []) ∷ [] in
    AllAccepted steps × ((stored_by steps).units ≡ record { id = 0; literal = 0 } ∷ []) × ((stored_by steps).unsat ≡ true)
    × ((stored_by steps).conflict ≡ Some (0, 1)) × ((stored_by steps).next_id ≡ 2) × ((ready_by steps).next_id ≡ 3)

-- Steps that set width 0, add [1], [-1, 2] and [-1, -2], and derive the units -1, -1 and 3 in one step.
abbrev pub conflict_and_unit : List Step
conflict_and_unit =
    ChangeHashBits 0 ∷ AddClause (0 ∷ []) ∷ AddClause (1 ∷ 2 ∷ []) ∷ AddClause (1 ∷ 3 ∷ []) ∷ UnitClauses ((1, 0) ∷ (1, 0) ∷ (4, 0) ∷ []) ∷ []

-- `ConflictAndUnit` holds if after [1], [-1, 2] and [-1, -2], deriving the units -1, -1 and 3 in one step is accepted:
-- only the first conflict, of ids 0 and 3, is recorded, [3] has id 5, and the empty clause gets id 6.
abbrev pub ConflictAndUnit : Type 0
ConflictAndUnit = AllAccepted conflict_and_unit × ((stored_by conflict_and_unit).units ≡ record { id = 0; literal = 0 } ∷ record { id = 5; literal = 4 } ∷ [])
    × ((stored_by conflict_and_unit).conflict ≡ Some (0, 3)) × ((ready_by conflict_and_unit).next_id ≡ 7)

-- `SimplifiedBySubset` holds if after [1, 2, 3] and [1, 2], [1, 2, 3] is deleted as simplified at width 8, with its
-- literals given as [3, 2, 1], and only [1, 2] remains, with id 1.
abbrev pub SimplifiedBySubset : Type 0
SimplifiedBySubset = let steps : List Step = AddClause (0 ∷ 2 ∷ 4 ∷ []) ∷ AddClause (0 ∷ 2 ∷ []) ∷ ChangeHashBits 8 ∷ DeleteClause (4 ∷ 2 ∷ 0 ∷ []) Simplified ∷ [] in
    AllAccepted steps × ((stored_by steps).clauses ≡ record { id = 1; literals = 0 ∷ 2 ∷ []; irredundant = 1; redundant = 0 } ∷ [])

-- `SimplifiedByItself` holds if after [1, 2] alone, deleting [1, 2] as simplified is refused, since the last
-- irredundant clause is no strict subset of it.
abbrev pub SimplifiedByItself : Type 0
SimplifiedByItself = LastRefused (AddClause (0 ∷ 2 ∷ []) ∷ []) (DeleteClause (0 ∷ 2 ∷ []) Simplified)

-- `SimplifiedByRemoved` holds if after [1], [1, 2, 3] and [1, 2], and the deletion of [1, 2] as satisfied, deleting [1,
-- 2, 3] as simplified is refused, since [1, 2] is no longer stored.
abbrev pub SimplifiedByRemoved : Type 0
SimplifiedByRemoved = LastRefused (AddClause (0 ∷ []) ∷ AddClause (0 ∷ 2 ∷ 4 ∷ []) ∷ AddClause (0 ∷ 2 ∷ []) ∷ DeleteClause (0 ∷ 2 ∷ []) Satisfied ∷ []) (DeleteClause (0 ∷ 2 ∷ 4 ∷ []) Simplified)

-- `NoRedundantCount` holds if after the input clause [1, 2], deleting [1, 2] as redundant is refused.
abbrev pub NoRedundantCount : Type 0
NoRedundantCount = LastRefused (AddClause (0 ∷ 2 ∷ []) ∷ []) (DeleteClause (0 ∷ 2 ∷ []) Redundant)

-- `UnitForgotten` holds if [1], the deletion of variable 1, and then [-1] are accepted: [-1] is the only unit, with id
-- 1, the deletion is recorded, and unsat is not.
abbrev pub UnitForgotten : Type 0
UnitForgotten = let steps : List Step = AddClause (0 ∷ []) ∷ DeleteVar 0 ∷ AddClause (1 ∷ []) ∷ [] in
    AllAccepted steps × ((stored_by steps).units ≡ record { id = 1; literal = 1 } ∷ []) × ((stored_by steps).unsat ≡ false) × ((stored_by steps).var_deleted ≡ true)

-- `DeletesVarInClause` holds if after [1, 2], deleting variable 1 is refused, since a stored clause has it.
abbrev pub DeletesVarInClause : Type 0
DeletesVarInClause = LastRefused (AddClause (0 ∷ 2 ∷ []) ∷ []) (DeleteVar 0)

-- `DeletesNamedVar` holds if after variable 1 got the name with index 7, deleting the variable is refused.
abbrev pub DeletesNamedVar : Type 0
DeletesNamedVar = LastRefused (UserVarName 0 (Some 7) ∷ []) (DeleteVar 0)

-- `DeletesAssumedVar` holds if after the assumption -1, deleting variable 1 is refused.
abbrev pub DeletesAssumedVar : Type 0
DeletesAssumedVar = LastRefused (Assumptions (1 ∷ []) ∷ []) (DeleteVar 0)

-- `DeletesUnknownVar` holds if deleting variable 1 as the first step is refused, since no step has made it known.
abbrev pub DeletesUnknownVar : Type 0
DeletesUnknownVar = LastRefused [] (DeleteVar 0)

-- `AddsWitnessVar` holds if the input clause [1, 2] is refused when variable 1 has mode witness.
abbrev pub AddsWitnessVar : Type 0
AddsWitnessVar = LastRefused (Assumptions (0 ∷ []) ∷ ChangeSamplingMode 0 false ∷ []) (AddClause (0 ∷ 2 ∷ []))

-- `AddsHiddenVar` holds if the input clause [1, 2] is refused after variable 1 got a name and lost it, so that it is
-- hidden.
abbrev pub AddsHiddenVar : Type 0
AddsHiddenVar = LastRefused (UserVarName 0 (Some 0) ∷ UserVarName 0 None ∷ []) (AddClause (0 ∷ 2 ∷ []))

-- `NameTaken` holds if variable 2 is refused the name with index 7 while variable 1 has it.
abbrev pub NameTaken : Type 0
NameTaken = LastRefused (UserVarName 0 (Some 7) ∷ []) (UserVarName 1 (Some 7))

-- `SecondNameRefused` holds if variable 1, which has the name with index 7, is refused the name with index 8.
abbrev pub SecondNameRefused : Type 0
SecondNameRefused = LastRefused (UserVarName 0 (Some 7) ∷ []) (UserVarName 0 (Some 8))

-- `HiddenVarGetsNoName` holds if variable 1, hidden after the removal of its name, with index 7, is refused that name.
abbrev pub HiddenVarGetsNoName : Type 0
HiddenVarGetsNoName = LastRefused (UserVarName 0 (Some 7) ∷ UserVarName 0 None ∷ []) (UserVarName 0 (Some 7))

-- `NamelessLosesNoName` holds if after [1], removing the name of variable 1, which has none, is refused.
abbrev pub NamelessLosesNoName : Type 0
NamelessLosesNoName = LastRefused (AddClause (0 ∷ []) ∷ []) (UserVarName 0 None)

-- Steps that add [1, 2] and [3], and derive [3, 4] as redundant. A model then needs a literal of [1, 2] and must not
-- contain -3.
abbrev pub before_model : List Step
before_model = AddClause (0 ∷ 2 ∷ []) ∷ AddClause (4 ∷ []) ∷ AtClause true (4 ∷ 6 ∷ []) [] ∷ []

-- `ModelAccepted` holds if after [1, 2], [3] and the redundant [3, 4], the model -1, 2 is accepted, since 2 satisfies
-- [1, 2].
abbrev pub ModelAccepted : Type 0
ModelAccepted = AllAccepted (before_model ++ Model (1 ∷ 2 ∷ []) ∷ [])

-- `ModelAgainstUnit` holds if after [1, 2], [3] and the redundant [3, 4], the model -1, 2, -3 is refused, since -3
-- contradicts the unit [3].
abbrev pub ModelAgainstUnit : Type 0
ModelAgainstUnit = LastRefused before_model (Model (1 ∷ 2 ∷ 5 ∷ []))

-- `ModelMissesClause` holds if after [1, 2], [3] and the redundant [3, 4], the model -1 is refused, since it has no
-- literal of [1, 2].
abbrev pub ModelMissesClause : Type 0
ModelMissesClause = LastRefused before_model (Model (1 ∷ []))

-- `ModelWithBothSigns` holds if after [1, 2], [3] and the redundant [3, 4], the model 1, -1 is refused.
abbrev pub ModelWithBothSigns : Type 0
ModelWithBothSigns = LastRefused before_model (Model (0 ∷ 1 ∷ []))

-- `CoreWithBothSigns` holds if after the assumptions 1, -1, the core 1, -1 is accepted without hashes.
abbrev pub CoreWithBothSigns : Type 0
CoreWithBothSigns = AllAccepted (Assumptions (0 ∷ 1 ∷ []) ∷ FailedAssumptions (0 ∷ 1 ∷ []) [] ∷ [])

-- `CoreNotAssumed` holds if after the assumption 1, the core 1, -1 is refused, since -1 is not assumed.
abbrev pub CoreNotAssumed : Type 0
CoreNotAssumed = LastRefused (Assumptions (0 ∷ []) ∷ []) (FailedAssumptions (0 ∷ 1 ∷ []) [])

-- Steps that add [1, 2], give variable 1 the solver name with index 5, add [-1], and derive [2] as redundant with the
-- hash of [6, 2], which is the hash of [1, 2] over solver names.
abbrev pub found_by_solver_name : List Step
found_by_solver_name = AddClause (0 ∷ 2 ∷ []) ∷ SolverVarName 0 (Some 5) ∷ AddClause (1 ∷ []) ∷ AtClause true (2 ∷ []) (hash_of (10 ∷ 2 ∷ []) ∷ []) ∷ []

-- `FoundBySolverName` holds if after [1, 2], the solver name with index 5 for variable 1, and [-1], deriving [2] is
-- accepted with the hash of [6, 2], by which [1, 2] is then found.
abbrev pub FoundBySolverName : Type 0
FoundBySolverName = AllAccepted found_by_solver_name

-- `DeletedKeepsSolverName` holds if variable 1 keeps its solver name, with index 5, when it is deleted: after [1, 2]
-- and [-1] are added later, deriving [2] with the hash of [6, 2] is accepted.
abbrev pub DeletedKeepsSolverName : Type 0
DeletedKeepsSolverName = AllAccepted (AddClause (0 ∷ []) ∷ SolverVarName 0 (Some 5) ∷ DeleteVar 0 ∷ AddClause (0 ∷ 2 ∷ []) ∷ AddClause (1 ∷ []) ∷ AtClause true (2 ∷ []) (hash_of (10 ∷ 2 ∷ []) ∷ []) ∷ [])

-- Steps that add [-1, 2], [-2, 3] and [1], from which the units 2 and 3 follow.
abbrev pub before_units : List Step
before_units = AddClause (1 ∷ 2 ∷ []) ∷ AddClause (3 ∷ 4 ∷ []) ∷ AddClause (0 ∷ []) ∷ []

-- Steps that add [-1, 2], [-2, 3] and [1], and in one step derive the units 2, with the hash of [-1, 2], and 3, with
-- the hash of [-2, 3].
abbrev pub two_units : List Step
two_units = before_units ++ UnitClauses ((2, hash_of (1 ∷ 2 ∷ [])) ∷ (4, hash_of (3 ∷ 4 ∷ [])) ∷ []) ∷ []

-- `TwoUnits` holds if after [-1, 2], [-2, 3] and [1], deriving the units 2 and 3 in one step is accepted, the ids of
-- the units 1, 2 and 3 are 2, 3 and 4, and the last irredundant clause is still [1].
abbrev pub TwoUnits : Type 0
TwoUnits = AllAccepted two_units × (map (λ u. u.id) (stored_by two_units).units ≡ 2 ∷ 3 ∷ 4 ∷ []) × ((stored_by two_units).last ≡ UnitClause 2)

-- `UnitsInWrongOrder` holds if after [-1, 2], [-2, 3] and [1], one step that derives first the unit 3 and then the unit
-- 2 is refused.
abbrev pub UnitsInWrongOrder : Type 0
UnitsInWrongOrder = LastRefused before_units (UnitClauses ((4, hash_of (3 ∷ 4 ∷ [])) ∷ (2, hash_of (1 ∷ 2 ∷ [])) ∷ []))

-- `DuplicateBecomesLast` holds if after [1, 2], [1, 2, 3] and [1, 2] once more, deleting [1, 2, 3] as simplified is
-- accepted, since the repeated [1, 2] is the last irredundant clause.
abbrev pub DuplicateBecomesLast : Type 0
DuplicateBecomesLast = AllAccepted (AddClause (0 ∷ 2 ∷ []) ∷ AddClause (0 ∷ 2 ∷ 4 ∷ []) ∷ AddClause (2 ∷ 0 ∷ []) ∷ DeleteClause (0 ∷ 2 ∷ 4 ∷ []) Simplified ∷ [])

-- Steps that add [1] and [1, 2], derive [1, 2] as redundant, and then delete its irredundant count as satisfied.
abbrev pub with_both_counts : List Step
with_both_counts = AddClause (0 ∷ []) ∷ AddClause (0 ∷ 2 ∷ []) ∷ AtClause true (0 ∷ 2 ∷ []) [] ∷ DeleteClause (0 ∷ 2 ∷ []) Satisfied ∷ []

-- `TwoCounts` holds if [1, 2], stored both as irredundant and as redundant, stays stored with id 1 when it is deleted
-- as satisfied (by [1]), and is removed when it is then deleted as redundant.
abbrev pub TwoCounts : Type 0
TwoCounts = AllAccepted (with_both_counts ++ DeleteClause (0 ∷ 2 ∷ []) Redundant ∷ [])
    × ((stored_by with_both_counts).clauses ≡ record { id = 1; literals = 0 ∷ 2 ∷ []; irredundant = 0; redundant = 1 } ∷ []) × ((stored_by (with_both_counts ++ DeleteClause (0 ∷ 2 ∷ []) Redundant ∷ [])).clauses ≡ [])

-- `LastWithOneCount` holds if [1, 2, 3] can be deleted as simplified to the last irredundant clause [1, 2] even after
-- [1, 2] was deleted as satisfied, because [1, 2] is still stored as redundant.
abbrev pub LastWithOneCount : Type 0
LastWithOneCount = AllAccepted (AddClause (0 ∷ []) ∷ AddClause (0 ∷ 2 ∷ 4 ∷ []) ∷ AddClause (0 ∷ 2 ∷ []) ∷ AtClause true (0 ∷ 2 ∷ []) [] ∷ DeleteClause (0 ∷ 2 ∷ []) Satisfied ∷ DeleteClause (0 ∷ 2 ∷ 4 ∷ []) Simplified ∷ [])

-- `AddedAfterUnsat` holds if after the empty input clause, the input clause [1] is accepted without effect: the next id
-- is still 1, and variable 1 is unknown.
abbrev pub AddedAfterUnsat : Type 0
AddedAfterUnsat = let steps : List Step = AddClause [] ∷ AddClause (0 ∷ []) ∷ [] in AllAccepted steps × ((stored_by steps).next_id ≡ 1) × (is_known 0 (stored_by steps) ≡ false)

-- `Tautologies` holds if the first step [1, -1] uses up id 0 as an input clause, and [2, -2] uses no id as a derived
-- clause. The variable becomes known each time, and nothing is stored.
abbrev pub Tautologies : Type 0
Tautologies = let input : List Step = AddClause (0 ∷ 1 ∷ []) ∷ [] in let derived : List Step = AtClause false (2 ∷ 3 ∷ []) [] ∷ [] in
    AllAccepted input × ((stored_by input).next_id ≡ 1) × (is_known 0 (stored_by input) ≡ true) × ((stored_by input).clauses ≡ [])
    × AllAccepted derived × ((stored_by derived).next_id ≡ 0) × (is_known 1 (stored_by derived) ≡ true) × ((stored_by derived).clauses ≡ [])

-- `WitnessGetsName` holds if variable 1, made known by an assumption and then a witness, may get the name with index 7,
-- and is still a witness.
abbrev pub WitnessGetsName : Type 0
WitnessGetsName = let steps : List Step = Assumptions (0 ∷ []) ∷ ChangeSamplingMode 0 false ∷ UserVarName 0 (Some 7) ∷ [] in AllAccepted steps × (mode_of 0 (stored_by steps) ≡ Witness)

-- `UnknownVarGetsNoMode` holds if setting the mode of variable 1 to sample as the first step is refused, since it is
-- unknown.
abbrev pub UnknownVarGetsNoMode : Type 0
UnknownVarGetsNoMode = LastRefused [] (ChangeSamplingMode 0 true)

-- The input clauses [1, 2] and [1, -2], from which [1] follows.
abbrev pub two_clauses : List Step
two_clauses = AddClause (0 ∷ 2 ∷ []) ∷ AddClause (0 ∷ 3 ∷ []) ∷ []

-- `EmptyBucketAfterConflict` holds if after [1, 2] and [1, -2], deriving [1] is accepted with the hashes of both
-- clauses followed by the hash 5, which no clause has: it comes after the conflict.
abbrev pub EmptyBucketAfterConflict : Type 0
EmptyBucketAfterConflict = AllAccepted (two_clauses ++ AtClause false (0 ∷ []) (hash_of (0 ∷ 2 ∷ []) ∷ hash_of (0 ∷ 3 ∷ []) ∷ 5 ∷ []) ∷ [])

-- `EmptyBucketFirst` holds if after [1, 2] and [1, -2], deriving [1] is refused with the hash 5, which no clause has,
-- before the hashes of both clauses.
abbrev pub EmptyBucketFirst : Type 0
EmptyBucketFirst = LastRefused two_clauses (AtClause false (0 ∷ []) (5 ∷ hash_of (0 ∷ 2 ∷ []) ∷ hash_of (0 ∷ 3 ∷ []) ∷ []))

-- `ContradictionKeepsLast` holds if after [1], [2, 3, 4], [2, 3] and [-1], deleting [2, 3, 4] as simplified is
-- accepted: [-1] contradicts [1] and is not stored, so [2, 3] is still the last irredundant clause.
abbrev pub ContradictionKeepsLast : Type 0
ContradictionKeepsLast = AllAccepted (AddClause (0 ∷ []) ∷ AddClause (2 ∷ 4 ∷ 6 ∷ []) ∷ AddClause (2 ∷ 4 ∷ []) ∷ AddClause (1 ∷ []) ∷ DeleteClause (2 ∷ 4 ∷ 6 ∷ []) Simplified ∷ [])

-- `LastUnitIsNoSubset` holds if after [2, 3], [1] and [-1], deleting [2, 3] as simplified is refused: the last
-- irredundant clause is [1], which is no subset of it.
abbrev pub LastUnitIsNoSubset : Type 0
LastUnitIsNoSubset = LastRefused (AddClause (2 ∷ 4 ∷ []) ∷ AddClause (0 ∷ []) ∷ AddClause (1 ∷ []) ∷ []) (DeleteClause (2 ∷ 4 ∷ []) Simplified)
