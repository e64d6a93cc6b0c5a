-- What a walk notes about the clauses that it visits, and how the notes give the causes of its conflict.
use Rattle.std.specs.Prelude.{ℕ, ◌≡◌, ◌+◌, ◌<◌, Bool, true, false, List, [], ◌∷◌, ◌++◌, map, filter, Option, None, Some, length}
use Rattle.std.specs.List.{AllByRecursion, list_any}
use Rattle.sat_base.specs.values.Literals.{negated}
use Rattle.sat_checker.specs.LiteralSets.{is_among, is_tautology}
use Rattle.sat_checker.specs.Looks.{total_length}
use Rattle.sat_checker.specs.Stored.{StoredClause}
use Rattle.sat_checker.specs.announcements.Needed.{ConflictCauses, conflict_causes}
use Rattle.sat_checker.specs.announcements.Promises.{Reason}
use Rattle.sat_checker.specs.announcements.Following.{with_causes}
use Rattle.sat_checker.specs.inner.SlotView.{Slot, slot_at, literals_at, is_filed}
use Rattle.sat_checker.specs.inner.WalkNotes.{WalkNotes}
use Rattle.sat_checker.specs.declared.rup.passed.Reason as noted
use Rattle.sat_checker.specs.declared.rup.Walked.{Walked}
use Rattle.sat_checker.specs.declared.rup.Walked.TheVariants.{Empty, Conflict, Open}

-- The clause at `place`.
abbrev pub clause_at : List Slot → ℕ → StoredClause
clause_at slots place = (slot_at slots place).clause

-- The clauses with this hash that are not removed.
abbrev pub clauses_by_hash : ℕ → List Slot → List StoredClause
clauses_by_hash hash slots = map (λ s. s.clause) (filter (is_filed hash) slots)

-- The clauses with these hashes that are not removed, in the order of the hashes.
abbrev pub clauses_by_hashes : List ℕ → List Slot → List StoredClause
clauses_by_hashes [] slots = []
clauses_by_hashes (hash ∷ hashes) slots = clauses_by_hash hash slots ++ clauses_by_hashes hashes slots

-- A note of the code as a reason: the clause at the place, and the literal that it implied.
abbrev pub reason_in : List Slot → noted.Reason → Reason
reason_in slots r = record { clause = clause_at slots r.place; literal = r.lit }

-- The clauses that implied a literal, in the order visited.
abbrev pub reasons_in : List Slot → WalkNotes → List Reason
reasons_in slots passed = map (reason_in slots) passed.reasons

-- The causes of a conflict before any reason is followed: the falsified clause and the negations of its literals.
abbrev pub conflict_at : List Slot → Option ℕ → ConflictCauses
conflict_at slots None = record { literals = []; clauses = [] }
conflict_at slots (Some place) = record { literals = map negated (clause_at slots place).literals; clauses = clause_at slots place ∷ [] }

-- `AreNotedPlaces slots passed` holds if every place that the notes give for a reason exists.
abbrev pub AreNotedPlaces : List Slot → WalkNotes → Type 0
AreNotedPlaces slots passed = AllByRecursion (λ r. r.place < length slots) passed.reasons

-- `IsConflictPlace slots conflict` holds if a falsified clause was noted, and its place exists.
abbrev pub IsConflictPlace : List Slot → Option ℕ → Type 0
IsConflictPlace slots None = ⊥
IsConflictPlace slots (Some place) = place < length slots

-- The number of literals of the falsified clause, or 0 if none was noted.
abbrev pub conflict_length : List Slot → Option ℕ → ℕ
conflict_length slots None = 0
conflict_length slots (Some place) = length (literals_at slots place)

-- The number of literals of all noted clauses: the reasons and the falsified clause.
abbrev pub noted_length : List Slot → WalkNotes → ℕ
noted_length slots passed = total_length (map (λ r. literals_at slots r.place) passed.reasons) + conflict_length slots passed.conflict

-- `PreservesCauses slots old assumed clauses new more left` holds if the walk from the notes `old`, the assumed
-- literals and `clauses` to the notes `new`, the literals `more` and the clauses `left` does not change the causes of a
-- later conflict. Noted places exist in `new` if they do in `old`.
pub record PreservesCauses (slots : List Slot) (old : WalkNotes) (assumed : List ℕ) (clauses : List StoredClause) (new : WalkNotes) (more : List ℕ) (left : List StoredClause) : Type 0 where
  pub same : (rest : List StoredClause) →
      with_causes (reasons_in slots old) (conflict_causes assumed (clauses ++ rest)) ≡ with_causes (reasons_in slots new) (conflict_causes more (left ++ rest))
  pub there : AreNotedPlaces slots old → AreNotedPlaces slots new

-- `ReachesConflict slots old assumed clauses new` holds if the walk over these clauses, from the notes `old` and the
-- assumed literals, falsified a clause, and the notes `new` give its causes. Noted places exist in `new` if they do in
-- `old`.
pub record ReachesConflict (slots : List Slot) (old : WalkNotes) (assumed : List ℕ) (clauses : List StoredClause) (new : WalkNotes) : Type 0 where
  pub same : (rest : List StoredClause) →
      with_causes (reasons_in slots old) (conflict_causes assumed (clauses ++ rest)) ≡ with_causes (reasons_in slots new) (conflict_at slots new.conflict)
  pub there : AreNotedPlaces slots old → AreNotedPlaces slots new
  pub reached : IsConflictPlace slots new.conflict

-- `NotesReasons slots conflict old assumed clauses new more` holds if the notes `new` are correct after the walk over
-- all clauses: they give the causes of its conflict if `conflict` is true, and otherwise those of any later conflict,
-- with `more` assumed.
abbrev pub NotesReasons : List Slot → Bool → WalkNotes → List ℕ → List StoredClause → WalkNotes → List ℕ → Type 0
NotesReasons slots true old assumed clauses new more = ReachesConflict slots old assumed clauses new
NotesReasons slots false old assumed clauses new more = PreservesCauses slots old assumed clauses new more []

-- `RecordsWalk slots walked old assumed clauses new more` holds if the notes `new` are correct after the walk over a
-- bucket: they give the causes of its conflict (`Conflict`), or those of any later one, with `more` assumed (`Open`).
-- Nothing is required for an empty bucket.
abbrev pub RecordsWalk : List Slot → Walked → WalkNotes → List ℕ → List StoredClause → WalkNotes → List ℕ → Type 0
RecordsWalk slots Empty old assumed clauses new more = Unit {0}
RecordsWalk slots Conflict old assumed clauses new more = ReachesConflict slots old assumed clauses new
RecordsWalk slots Open old assumed clauses new more = PreservesCauses slots old assumed clauses new more []

-- `ExplainsConflict slots passed whole` holds if following the notes back from their conflict gives the causes `whole`,
-- and all noted places exist.
pub record ExplainsConflict (slots : List Slot) (passed : WalkNotes) (whole : ConflictCauses) : Type 0 where
  pub same : whole ≡ with_causes (reasons_in slots passed) (conflict_at slots passed.conflict)
  pub there : AreNotedPlaces slots passed
  pub reached : IsConflictPlace slots passed.conflict

-- `ExplainsUnlessSatisfied slots passed units clause whole` holds if the notes `passed` give the causes `whole`, unless
-- the clause has both signs of a variable or contains one of the literals `units`.
abbrev pub ExplainsUnlessSatisfied : List Slot → WalkNotes → List ℕ → List ℕ → ConflictCauses → Type 0
ExplainsUnlessSatisfied slots passed units clause whole = list_any (is_among units) clause ≡ false → is_tautology clause ≡ false → ExplainsConflict slots passed whole

-- `ExplainsCheck slots passed assumed clause hashes` holds if the notes `passed` give the causes of the conflict when
-- the clause is checked by these hashes under the assumed literals, unless it contains one of these or both signs of a
-- variable.
abbrev pub ExplainsCheck : List Slot → WalkNotes → List ℕ → List ℕ → List ℕ → Type 0
ExplainsCheck slots passed assumed clause hashes = ExplainsUnlessSatisfied slots passed assumed clause (conflict_causes (map negated clause ++ assumed) (clauses_by_hashes hashes slots))
