-- Worked examples: what accepted steps announce, in the order of a certificate, and the transcript of it.
use Rattle.std.specs.Prelude.{◌≡◌, true, false, Some, None, List, [], ◌∷◌, ◌++◌, map}
use Rattle.sat_base.specs.values.Hashes.{hash_of}
use Rattle.sat_base.specs.steps.Steps.{Step, Redundant, Simplified, Satisfied, SolverVarName, UserVarName, DeleteVar, ChangeSamplingMode, ChangeHashBits, End}
use Rattle.sat_base.specs.steps.Steps as steps
use Rattle.sat_checker.specs.Rows.{in_certificate_order, four_clauses, refuted, hash_given_twice, colliding_hashes, conflict_and_unit, AllAccepted}
use Rattle.sat_checker.specs.announcements.Announcements.{Announcement, UserVar, AddClause, DuplicatedClause, TautologicalClause, AtClause, MakeIrredundant, DeleteClause, DeleteAtClause, Model, Assumptions, FailedAssumptions, Notice, notices_after, all_notices_after}
use Rattle.sat_checker.specs.announcements.Announcements as announcements
use Rattle.sat_checker.specs.announcements.Transcripts.{Transcribed, transcripts}
use Rattle.sat_checker.specs.announcements.Transcripts as transcript

-- The announcements of the notices, without the variables that can be looked up.
abbrev pub announcements_of : List Notice → List Announcement
announcements_of = map (λ t. t.announcement)

-- What has been announced after these steps, given the oldest first, without the empty clause of a pending unit
-- conflict.
abbrev pub announcements_by : List Step → List Announcement
announcements_by ss = announcements_of (notices_after (in_certificate_order ss []))

-- What has been announced after these steps, given the oldest first, including the empty clause of a pending unit
-- conflict.
abbrev pub all_announcements_by : List Step → List Announcement
all_announcements_by ss = announcements_of (all_notices_after (in_certificate_order ss []))

-- The transcript of these steps, given the oldest first, including the empty clause of a pending unit conflict.
abbrev pub transcribed_by : List Step → List Transcribed
transcribed_by ss = transcripts (all_notices_after (in_certificate_order ss []))

-- `LastAnnounces before last reported` holds if the steps `before`, the oldest first, and then `last` are accepted, and
-- `last` makes exactly the announcements `reported`.
abbrev pub LastAnnounces : List Step → Step → List Announcement → Type 0
LastAnnounces before last reported = AllAccepted (before ++ last ∷ []) × (announcements_by (before ++ last ∷ []) ≡ announcements_by before ++ reported)

-- `LastTranscribes before last read` holds if the steps `before`, the oldest first, and then `last` are accepted, and
-- `last` adds exactly `read` to the transcript.
abbrev pub LastTranscribes : List Step → Step → List Transcribed → Type 0
LastTranscribes before last read = AllAccepted (before ++ last ∷ []) × (transcripts (notices_after (in_certificate_order (before ++ last ∷ []) [])) ≡ transcripts (notices_after (in_certificate_order before [])) ++ read)

-- The announcements of the input clauses [1, 2], [1, -2], [-1, 2] and [-1, -2] under the ids 0 to 3.
abbrev pub four_announced : List Announcement
four_announced = AddClause 0 (0 ∷ 2 ∷ []) ∷ AddClause 1 (0 ∷ 3 ∷ []) ∷ AddClause 2 (1 ∷ 2 ∷ []) ∷ AddClause 3 (1 ∷ 3 ∷ []) ∷ []

-- `RefutedAnnounced` holds if after [1, 2], [1, -2], [-1, 2] and [-1, -2] (ids 0 to 3), the derived [1] is announced
-- under id 4 with the ids 0 and 1, and the empty clause under id 5 with the ids 4, 2 and 3.
abbrev pub RefutedAnnounced : Type 0
RefutedAnnounced = announcements_by refuted ≡ four_announced ++ AtClause 4 false (0 ∷ []) (0 ∷ 1 ∷ []) ∷ AtClause 5 false [] (4 ∷ 2 ∷ 3 ∷ []) ∷ []

-- `RefutedAtWidthZeroAnnounced` holds if the derived [1] and empty clause of [1, 2], [1, -2], [-1, 2] and [-1, -2] are
-- announced at width 0 as at width 64: under id 4 with the ids 0 and 1, and under id 5 with the ids 4, 2 and 3.
abbrev pub RefutedAtWidthZeroAnnounced : Type 0
RefutedAtWidthZeroAnnounced = announcements_by (four_clauses ++ ChangeHashBits 0 ∷ steps.AtClause false (0 ∷ []) (0 ∷ []) ∷ steps.AtClause false [] (0 ∷ []) ∷ [])
    ≡ four_announced ++ AtClause 4 false (0 ∷ []) (0 ∷ 1 ∷ []) ∷ AtClause 5 false [] (4 ∷ 2 ∷ 3 ∷ []) ∷ []

-- `HashGivenTwiceAnnounced` holds if after [-2, 3, 4], [1, 2] and [-2, -4] at width 0, the derived [1, 3] is announced
-- with the ids 1, 2, 0: in the only bucket, given twice, [1, 2] and [-2, -4] are unit, and then [-2, 3, 4] is
-- falsified.
abbrev pub HashGivenTwiceAnnounced : Type 0
HashGivenTwiceAnnounced = announcements_by hash_given_twice
    ≡ AddClause 0 (3 ∷ 4 ∷ 6 ∷ []) ∷ AddClause 1 (0 ∷ 2 ∷ []) ∷ AddClause 2 (3 ∷ 7 ∷ []) ∷ AtClause 3 false (0 ∷ 4 ∷ []) (1 ∷ 2 ∷ 0 ∷ []) ∷ []

-- `CollidingAnnounced` holds if the announcements of a refutation of [1, 2], [1, -2], [-1, 2] and [-1, -2] at width 8
-- list only needed ids, although a bucket has other clauses: [1] by 0 and 1, [2] by 4 and 2, the empty clause by 4, 5
-- and 3.
abbrev pub CollidingAnnounced : Type 0
CollidingAnnounced = announcements_by colliding_hashes
    ≡ UserVar 0 (Some (record { name = 0; sampling = true; is_new = true })) ∷ UserVar 1 (Some (record { name = 1; sampling = true; is_new = true })) ∷ four_announced
    ++ Assumptions [] ∷ AtClause 4 false (0 ∷ []) (0 ∷ 1 ∷ []) ∷ AtClause 5 false (2 ∷ []) (4 ∷ 2 ∷ []) ∷ AtClause 6 false [] (4 ∷ 5 ∷ 3 ∷ []) ∷ Assumptions [] ∷ []

-- Steps that give the unknown variable 1 a name, and add [1] and [-1].
abbrev pub contradicting : List Step
contradicting = UserVarName 0 (Some 0) ∷ steps.AddClause (0 ∷ []) ∷ steps.AddClause (1 ∷ []) ∷ []

-- The announcements of variable 1 with its new name, of [1] under id 0, and of [-1] under id 1.
abbrev pub contradiction_announced : List Announcement
contradiction_announced = UserVar 0 (Some (record { name = 0; sampling = true; is_new = true })) ∷ AddClause 0 (0 ∷ []) ∷ AddClause 1 (1 ∷ []) ∷ []

-- The announcement of the empty clause under id 2, which follows from the units with ids 0 and 1.
abbrev pub empty_announced : List Announcement
empty_announced = AtClause 2 false [] (0 ∷ 1 ∷ []) ∷ []

-- `Contradiction` holds if after [1] and [-1], the empty clause, with the ids 0 and 1, is announced before an
-- `Assumptions` step or at the end of the steps, and is `Unsat` in the transcript.
abbrev pub Contradiction : Type 0
Contradiction = AllAccepted contradicting × (announcements_by contradicting ≡ contradiction_announced) × (all_announcements_by contradicting ≡ contradiction_announced ++ empty_announced)
    × (announcements_by (contradicting ++ steps.Assumptions [] ∷ []) ≡ contradiction_announced ++ empty_announced ++ Assumptions [] ∷ [])
    × (all_announcements_by (contradicting ++ End ∷ []) ≡ contradiction_announced ++ empty_announced)
    × (transcribed_by contradicting ≡ transcript.AddClause (0 ∷ []) ∷ transcript.AddClause (1 ∷ []) ∷ transcript.Unsat ∷ [])

-- `ConflictAndUnitAnnounced` holds if after [1], [-1, 2] and [-1, -2], a step that derives the units -1, -1 and 3
-- announces all three, under the ids 3 to 5, and the empty clause is announced last, under id 6, with the ids 0 and 3.
abbrev pub ConflictAndUnitAnnounced : Type 0
ConflictAndUnitAnnounced = all_announcements_by conflict_and_unit
    ≡ AddClause 0 (0 ∷ []) ∷ AddClause 1 (1 ∷ 2 ∷ []) ∷ AddClause 2 (1 ∷ 3 ∷ []) ∷ AtClause 3 false (1 ∷ []) (1 ∷ 2 ∷ []) ∷ AtClause 4 false (1 ∷ []) (1 ∷ 2 ∷ [])
    ∷ AtClause 5 false (4 ∷ []) (0 ∷ 1 ∷ 2 ∷ []) ∷ AtClause 6 false [] (0 ∷ 3 ∷ []) ∷ []

-- `InputNew` holds if the input clause [2, 1, 1], as the first step, is announced as added, as [1, 2] under id 0.
abbrev pub InputNew : Type 0
InputNew = LastAnnounces [] (steps.AddClause (2 ∷ 0 ∷ 0 ∷ [])) (AddClause 0 (0 ∷ 2 ∷ []) ∷ [])

-- `InputDuplicate` holds if after [1, 2], the input clause [2, 1, 1] is announced under id 1 as a duplicate of id 0.
abbrev pub InputDuplicate : Type 0
InputDuplicate = LastAnnounces (steps.AddClause (0 ∷ 2 ∷ []) ∷ []) (steps.AddClause (2 ∷ 0 ∷ 0 ∷ [])) (DuplicatedClause 1 0 (0 ∷ 2 ∷ []) ∷ [])

-- Steps that add [1], and derive [1, 2] as redundant, which gets id 1.
abbrev pub as_redundant : List Step
as_redundant = steps.AddClause (0 ∷ []) ∷ steps.AtClause true (0 ∷ 2 ∷ []) [] ∷ []

-- `InputRedundant` holds if after [1] and the derived redundant [1, 2] (id 1), the input clause [1, 2] is announced
-- under id 2 as a duplicate of id 1.
abbrev pub InputRedundant : Type 0
InputRedundant = LastAnnounces as_redundant (steps.AddClause (0 ∷ 2 ∷ [])) (DuplicatedClause 2 1 (0 ∷ 2 ∷ []) ∷ [])

-- `InputUnitAgain` holds if after [1], the input clause [1, 1] is announced under id 1 as a duplicate of id 0.
abbrev pub InputUnitAgain : Type 0
InputUnitAgain = LastAnnounces (steps.AddClause (0 ∷ []) ∷ []) (steps.AddClause (0 ∷ 0 ∷ [])) (DuplicatedClause 1 0 (0 ∷ []) ∷ [])

-- `InputTautology` holds if the input clause [2, -1, 1], as the first step, is announced as the tautology [1, -1, 2]
-- under id 0.
abbrev pub InputTautology : Type 0
InputTautology = LastAnnounces [] (steps.AddClause (2 ∷ 1 ∷ 0 ∷ [])) (TautologicalClause 0 (0 ∷ 1 ∷ 2 ∷ []) ∷ [])

-- `InputAfterUnsat` holds if after the empty input clause, nothing is announced for the input clause [1, -1].
abbrev pub InputAfterUnsat : Type 0
InputAfterUnsat = LastAnnounces (steps.AddClause [] ∷ []) (steps.AddClause (0 ∷ 1 ∷ [])) []

-- `DerivedNew` holds if after [1] (id 0), the redundant derived clause [2, 1] is announced under id 1, as [1, 2] and
-- with only the id 0 of the unit that satisfies it.
abbrev pub DerivedNew : Type 0
DerivedNew = LastAnnounces (steps.AddClause (0 ∷ []) ∷ []) (steps.AtClause true (2 ∷ 0 ∷ []) []) (AtClause 1 true (0 ∷ 2 ∷ []) (0 ∷ []) ∷ [])

-- `DerivedIrredundant` holds if after [1] and the derived redundant [1, 2] (id 1), deriving [2, 1] as irredundant
-- announces that id 1 becomes irredundant.
abbrev pub DerivedIrredundant : Type 0
DerivedIrredundant = LastAnnounces as_redundant (steps.AtClause false (2 ∷ 0 ∷ []) []) (MakeIrredundant 1 (0 ∷ 2 ∷ []) ∷ [])

-- `DerivedRedundantAgain` holds if after [1] and the derived redundant [1, 2], nothing is announced when [2, 1] is
-- derived as redundant.
abbrev pub DerivedRedundantAgain : Type 0
DerivedRedundantAgain = LastAnnounces as_redundant (steps.AtClause true (2 ∷ 0 ∷ []) []) []

-- `DerivedIrredundantAgain` holds if after the input clauses [1] and [1, 2], nothing is announced when [1, 2] is
-- derived as irredundant.
abbrev pub DerivedIrredundantAgain : Type 0
DerivedIrredundantAgain = LastAnnounces (steps.AddClause (0 ∷ []) ∷ steps.AddClause (0 ∷ 2 ∷ []) ∷ []) (steps.AtClause false (0 ∷ 2 ∷ []) []) []

-- `DerivedUnitAgain` holds if nothing is announced when [1] is derived as irredundant after the input clause [1].
abbrev pub DerivedUnitAgain : Type 0
DerivedUnitAgain = LastAnnounces (steps.AddClause (0 ∷ []) ∷ []) (steps.AtClause false (0 ∷ []) []) []

-- `DerivedTautology` holds if nothing is announced when [1, -1] is derived as irredundant in the first step.
abbrev pub DerivedTautology : Type 0
DerivedTautology = LastAnnounces [] (steps.AtClause false (0 ∷ 1 ∷ []) []) []

-- `RedundantDeleted` holds if after [1] and the derived redundant [1, 2] (id 1), deleting [2, 1] as redundant announces
-- the deletion of id 1.
abbrev pub RedundantDeleted : Type 0
RedundantDeleted = LastAnnounces as_redundant (steps.DeleteClause (2 ∷ 0 ∷ []) Redundant) (DeleteClause 1 (0 ∷ 2 ∷ []) ∷ [])

-- `IrredundantCountLeft` holds if after [1], and [1, 2] derived as redundant and as irredundant, deleting [1, 2] as
-- redundant announces nothing, since its irredundant count is left.
abbrev pub IrredundantCountLeft : Type 0
IrredundantCountLeft = LastAnnounces (as_redundant ++ steps.AtClause false (0 ∷ 2 ∷ []) [] ∷ []) (steps.DeleteClause (0 ∷ 2 ∷ []) Redundant) []

-- `SatisfiedDeleted` holds if after [2], [1] (id 1) and [2, 1] (id 2), deleting [2, 1] as satisfied announces the
-- deletion of id 2 with the id 1, that of the unit of its lowest literal.
abbrev pub SatisfiedDeleted : Type 0
SatisfiedDeleted = LastAnnounces (steps.AddClause (2 ∷ []) ∷ steps.AddClause (0 ∷ []) ∷ steps.AddClause (2 ∷ 0 ∷ []) ∷ []) (steps.DeleteClause (2 ∷ 0 ∷ []) Satisfied) (DeleteAtClause 2 false (0 ∷ 2 ∷ []) (1 ∷ []) ∷ [])

-- `KeptAsRedundant` holds if after [1], and [1, 2] derived as redundant and as irredundant (id 1), deleting [1, 2] as
-- satisfied announces that id 1 is kept as redundant, with the unit's id 0.
abbrev pub KeptAsRedundant : Type 0
KeptAsRedundant = LastAnnounces (as_redundant ++ steps.AtClause false (0 ∷ 2 ∷ []) [] ∷ []) (steps.DeleteClause (0 ∷ 2 ∷ []) Satisfied) (DeleteAtClause 1 true (0 ∷ 2 ∷ []) (0 ∷ []) ∷ [])

-- `SimplifiedDeleted` holds if after [1, 2, 3] (id 0) and [1, 2] (id 1), deleting [3, 2, 1] as simplified announces the
-- deletion of id 0 with the id 1 of the last irredundant clause.
abbrev pub SimplifiedDeleted : Type 0
SimplifiedDeleted = LastAnnounces (steps.AddClause (0 ∷ 2 ∷ 4 ∷ []) ∷ steps.AddClause (0 ∷ 2 ∷ []) ∷ []) (steps.DeleteClause (4 ∷ 2 ∷ 0 ∷ []) Simplified) (DeleteAtClause 0 false (0 ∷ 2 ∷ 4 ∷ []) (1 ∷ []) ∷ [])

-- `SimplifiedByEmpty` holds if a deletion as simplified is announced with the id of an empty clause: of [1, 2] after
-- the empty input clause, with id 1, and of [1, -2] after the empty clause derived from the four clauses over 1 and 2,
-- with id 5.
abbrev pub SimplifiedByEmpty : Type 0
SimplifiedByEmpty = LastAnnounces (steps.AddClause (0 ∷ 2 ∷ []) ∷ steps.AddClause [] ∷ []) (steps.DeleteClause (2 ∷ 0 ∷ []) Simplified) (DeleteAtClause 0 false (0 ∷ 2 ∷ []) (1 ∷ []) ∷ [])
    × LastAnnounces refuted (steps.DeleteClause (0 ∷ 3 ∷ []) Simplified) (DeleteAtClause 1 false (0 ∷ 3 ∷ []) (5 ∷ []) ∷ [])

-- `OneIrredundantCountLeft` holds if after [1] and twice [1, 2], deleting [1, 2] as satisfied announces nothing, since
-- one of its two irredundant counts is left.
abbrev pub OneIrredundantCountLeft : Type 0
OneIrredundantCountLeft = LastAnnounces (steps.AddClause (0 ∷ []) ∷ steps.AddClause (0 ∷ 2 ∷ []) ∷ steps.AddClause (0 ∷ 2 ∷ []) ∷ []) (steps.DeleteClause (0 ∷ 2 ∷ []) Satisfied) []

-- `NameOfUnknown` holds if giving variable 1 the name with index 7 in the first step announces it as a new sample
-- variable.
abbrev pub NameOfUnknown : Type 0
NameOfUnknown = LastAnnounces [] (UserVarName 0 (Some 7)) (UserVar 0 (Some (record { name = 7; sampling = true; is_new = true })) ∷ [])

-- Steps after which variable 1, made known by an assumption, has mode witness and no name.
abbrev pub as_witness : List Step
as_witness = steps.Assumptions (0 ∷ []) ∷ ChangeSamplingMode 0 false ∷ []

-- A step that gives variable 1 the name with index 7.
abbrev pub named_seven : List Step
named_seven = UserVarName 0 (Some 7) ∷ []

-- `NameOfKnown` holds if giving variable 1, a known witness without a name, the name with index 7 announces it as a
-- witness and not as new.
abbrev pub NameOfKnown : Type 0
NameOfKnown = LastAnnounces (as_witness) (UserVarName 0 (Some 7)) (UserVar 0 (Some (record { name = 7; sampling = false; is_new = false })) ∷ [])

-- `NameRemoved` holds if after variable 1 got the name with index 7, removing the name is announced, as variable 1
-- without a name.
abbrev pub NameRemoved : Type 0
NameRemoved = LastAnnounces named_seven (UserVarName 0 None) (UserVar 0 None ∷ [])

-- `SolverNameSet` holds if nothing is announced when variable 1 gets the solver name with index 7.
abbrev pub SolverNameSet : Type 0
SolverNameSet = LastAnnounces [] (SolverVarName 0 (Some 7)) []

-- `ModeChanged` holds if variable 1, which has the name with index 7, is announced as a witness and not as new when its
-- mode is set to witness.
abbrev pub ModeChanged : Type 0
ModeChanged = LastAnnounces named_seven (ChangeSamplingMode 0 false) (UserVar 0 (Some (record { name = 7; sampling = false; is_new = false })) ∷ [])

-- `ModeUnchanged` holds if nothing is announced when the mode of variable 1, which has a name, is set to sample, as it
-- is already.
abbrev pub ModeUnchanged : Type 0
ModeUnchanged = LastAnnounces named_seven (ChangeSamplingMode 0 true) []

-- `ModeOfNameless` holds if nothing is announced when the mode of variable 1, known but without a name, is set to
-- witness.
abbrev pub ModeOfNameless : Type 0
ModeOfNameless = LastAnnounces (steps.Assumptions (0 ∷ []) ∷ []) (ChangeSamplingMode 0 false) []

-- `ModelAnnounced` holds if after [1, 2], the model 2, -1 is announced with its literals in this order.
abbrev pub ModelAnnounced : Type 0
ModelAnnounced = LastAnnounces (steps.AddClause (0 ∷ 2 ∷ []) ∷ []) (steps.Model (2 ∷ 1 ∷ [])) (Model (2 ∷ 1 ∷ []) ∷ [])

-- `AssumedAnnounced` holds if the assumptions 2, 1, 2 are announced as they are, with the repeat and in this order.
abbrev pub AssumedAnnounced : Type 0
AssumedAnnounced = LastAnnounces [] (steps.Assumptions (2 ∷ 0 ∷ 2 ∷ [])) (Assumptions (2 ∷ 0 ∷ 2 ∷ []) ∷ [])

-- `CoreAnnounced` holds if after [-1, -2] (id 0) and the assumptions 2, 1, the core 2, 1, 2 is announced as the sorted
-- set 1, 2 with the id 0 of the clause that it falsifies.
abbrev pub CoreAnnounced : Type 0
CoreAnnounced = LastAnnounces (steps.AddClause (1 ∷ 3 ∷ []) ∷ steps.Assumptions (2 ∷ 0 ∷ []) ∷ []) (steps.FailedAssumptions (2 ∷ 0 ∷ 2 ∷ []) (hash_of (1 ∷ 3 ∷ []) ∷ [])) (FailedAssumptions (0 ∷ 2 ∷ []) (0 ∷ []) ∷ [])

-- `CoreOfBothSigns` holds if after [-1] and the assumptions 1, -1, the core -1, 1 is announced as the sorted set 1, -1
-- without ids.
abbrev pub CoreOfBothSigns : Type 0
CoreOfBothSigns = LastAnnounces (steps.AddClause (1 ∷ []) ∷ steps.Assumptions (0 ∷ 1 ∷ []) ∷ []) (steps.FailedAssumptions (1 ∷ 0 ∷ []) []) (FailedAssumptions (0 ∷ 1 ∷ []) [] ∷ [])

-- `OthersAnnounce` holds if setting width 8 and ending the proof, each as the first step, announce nothing, and
-- deleting variable 1 after [1] is announced.
abbrev pub OthersAnnounce : Type 0
OthersAnnounce = LastAnnounces [] (ChangeHashBits 8) [] × LastAnnounces [] End [] × LastAnnounces (steps.AddClause (0 ∷ []) ∷ []) (DeleteVar 0) (announcements.DeleteVar 0 ∷ [])

-- Steps that add the units 1 and 2 with ids 0 and 1, and the clauses [-2, 3, 5], [-1, 4], [6, 7] and [-3, -4, 5] with
-- ids 2 to 5, and then set width 0.
abbrev pub units_and_clauses : List Step
units_and_clauses = steps.AddClause (0 ∷ []) ∷ steps.AddClause (2 ∷ []) ∷ steps.AddClause (3 ∷ 4 ∷ 8 ∷ []) ∷ steps.AddClause (1 ∷ 6 ∷ []) ∷ steps.AddClause (10 ∷ 12 ∷ []) ∷ steps.AddClause (5 ∷ 7 ∷ 8 ∷ []) ∷ ChangeHashBits 0 ∷ []

-- `UnitsFirst` holds if after `units_and_clauses`, the derived [5, 8] is announced with the ids 0, 1, 2, 3 and 5: the
-- needed units by increasing id, and then the needed clauses. [6, 7] (id 4) is left out.
abbrev pub UnitsFirst : Type 0
UnitsFirst = LastAnnounces units_and_clauses (steps.AtClause true (8 ∷ 14 ∷ []) (0 ∷ [])) (AtClause 6 true (8 ∷ 14 ∷ []) (0 ∷ 1 ∷ 2 ∷ 3 ∷ 5 ∷ []) ∷ [])

-- `AssumedUnitsLeftOut` holds if after `units_and_clauses`, the derived [5, -1, -2] is announced with only the ids 2, 3
-- and 5: the units 1 and 2 are left out, since the negated clause contains 1 and 2 itself.
abbrev pub AssumedUnitsLeftOut : Type 0
AssumedUnitsLeftOut = LastAnnounces units_and_clauses (steps.AtClause true (8 ∷ 1 ∷ 3 ∷ []) (0 ∷ [])) (AtClause 6 true (1 ∷ 3 ∷ 8 ∷ []) (2 ∷ 3 ∷ 5 ∷ []) ∷ [])

-- `UnneededClauseLeftOut` holds if after `units_and_clauses`, the derived [5, 6] is announced without the id 4 of [6,
-- 7], which implies 7 under the negated clause, since the conflict does not need it.
abbrev pub UnneededClauseLeftOut : Type 0
UnneededClauseLeftOut = LastAnnounces units_and_clauses (steps.AtClause true (8 ∷ 10 ∷ []) (0 ∷ [])) (AtClause 6 true (8 ∷ 10 ∷ []) (0 ∷ 1 ∷ 2 ∷ 3 ∷ 5 ∷ []) ∷ [])

-- `OnlyLowestUnit` holds if after [2] (id 0), [1] (id 1) and [-1, -2], the derived [3, 2, 1], which both units satisfy,
-- is announced with only the id 1, that of the unit of the lower literal, 1.
abbrev pub OnlyLowestUnit : Type 0
OnlyLowestUnit = LastAnnounces (steps.AddClause (2 ∷ []) ∷ steps.AddClause (0 ∷ []) ∷ steps.AddClause (1 ∷ 3 ∷ []) ∷ []) (steps.AtClause true (4 ∷ 2 ∷ 0 ∷ []) (hash_of (1 ∷ 3 ∷ []) ∷ [])) (AtClause 3 true (0 ∷ 2 ∷ 4 ∷ []) (1 ∷ []) ∷ [])

-- `NameOfUnknownTranscribed` holds if giving variable 1 a name in the first step adds nothing to the transcript.
abbrev pub NameOfUnknownTranscribed : Type 0
NameOfUnknownTranscribed = LastTranscribes [] (UserVarName 0 (Some 7)) []

-- `NameOfKnownTranscribed` holds if giving variable 1, a known witness, the name with index 7 adds `ObserveInternalVar`
-- of that name to the transcript.
abbrev pub NameOfKnownTranscribed : Type 0
NameOfKnownTranscribed = LastTranscribes as_witness (UserVarName 0 (Some 7)) (transcript.ObserveInternalVar 7 ∷ [])

-- `NameRemovedTranscribed` holds if removing the name of variable 1, with index 7, adds `HideVar` of that name to the
-- transcript.
abbrev pub NameRemovedTranscribed : Type 0
NameRemovedTranscribed = LastTranscribes named_seven (UserVarName 0 None) (transcript.HideVar 7 ∷ [])

-- `ModesTranscribed` holds if for variable 1, which has the name with index 7, setting mode witness adds `WitnessVar`
-- of that name to the transcript, and setting mode sample again adds `SampleVar`.
abbrev pub ModesTranscribed : Type 0
ModesTranscribed = LastTranscribes named_seven (ChangeSamplingMode 0 false) (transcript.WitnessVar 7 ∷ [])
    × LastTranscribes (named_seven ++ ChangeSamplingMode 0 false ∷ []) (ChangeSamplingMode 0 true) (transcript.SampleVar 7 ∷ [])

-- `InputsTranscribed` holds if the transcript gets every input clause, as a sorted set: [2, 1, 1] as a new clause and
-- after [1, 2], the tautology [2, -1, 1], and the empty clause.
abbrev pub InputsTranscribed : Type 0
InputsTranscribed = LastTranscribes [] (steps.AddClause (2 ∷ 0 ∷ 0 ∷ [])) (transcript.AddClause (0 ∷ 2 ∷ []) ∷ [])
    × LastTranscribes (steps.AddClause (0 ∷ 2 ∷ []) ∷ []) (steps.AddClause (2 ∷ 0 ∷ 0 ∷ [])) (transcript.AddClause (0 ∷ 2 ∷ []) ∷ [])
    × LastTranscribes [] (steps.AddClause (2 ∷ 1 ∷ 0 ∷ [])) (transcript.AddClause (0 ∷ 1 ∷ 2 ∷ []) ∷ [])
    × LastTranscribes [] (steps.AddClause []) (transcript.AddClause [] ∷ [])

-- `RefutedTranscribed` holds if the transcript of a refutation of [1, 2], [1, -2], [-1, 2] and [-1, -2] has these four
-- clauses, and then `Unsat` for the derived empty clause.
abbrev pub RefutedTranscribed : Type 0
RefutedTranscribed = transcribed_by refuted ≡ transcript.AddClause (0 ∷ 2 ∷ []) ∷ transcript.AddClause (0 ∷ 3 ∷ []) ∷ transcript.AddClause (1 ∷ 2 ∷ []) ∷ transcript.AddClause (1 ∷ 3 ∷ []) ∷ transcript.Unsat ∷ []

-- `OthersTranscribed` holds if nothing is added to the transcript when the redundant [1, 2] becomes irredundant or is
-- deleted, when it is kept as redundant, and when variable 1 is deleted after [1].
abbrev pub OthersTranscribed : Type 0
OthersTranscribed = LastTranscribes as_redundant (steps.AtClause false (2 ∷ 0 ∷ []) []) [] × LastTranscribes as_redundant (steps.DeleteClause (2 ∷ 0 ∷ []) Redundant) []
    × LastTranscribes (as_redundant ++ steps.AtClause false (0 ∷ 2 ∷ []) [] ∷ []) (steps.DeleteClause (0 ∷ 2 ∷ []) Satisfied) []
    × LastTranscribes (steps.AddClause (0 ∷ []) ∷ []) (DeleteVar 0) []

-- Steps that give variable 1 the name with index 7, and make variable 2 a witness without a name.
abbrev pub name_and_witness : List Step
name_and_witness = UserVarName 0 (Some 7) ∷ steps.Assumptions (2 ∷ []) ∷ ChangeSamplingMode 1 false ∷ []

-- `AnswersTranscribed` holds if in the transcript of a model, assumptions and a core, variable 1 has its name, with
-- index 7, variable 3, a sample variable without a name, has its own index, and literals of variable 2, a witness
-- without a name, are dropped.
abbrev pub AnswersTranscribed : Type 0
AnswersTranscribed = LastTranscribes name_and_witness (steps.Model (1 ∷ 3 ∷ 5 ∷ [])) (transcript.Model (15 ∷ 5 ∷ []) ∷ [])
    × LastTranscribes name_and_witness (steps.Assumptions (4 ∷ 2 ∷ 0 ∷ [])) (transcript.Assume (4 ∷ 14 ∷ []) ∷ [])
    × LastTranscribes (name_and_witness ++ steps.Assumptions (0 ∷ 1 ∷ 3 ∷ []) ∷ []) (steps.FailedAssumptions (0 ∷ 1 ∷ 3 ∷ []) []) (transcript.FailedAssumptions (14 ∷ 15 ∷ []) ∷ [])
