-- Guarantees about announcements.
use Rattle.std.specs.Prelude.{ℕ, ◌≡◌, ◌≢◌, ◌⊎◌, ◌↔◌, true, false, Some, List, [], ◌∷◌, ◌++◌, map, filter}
use Rattle.std.specs.List.{AllByRecursion, list_any}
use Rattle.sat_base.specs.values.Literals.{negated}
use Rattle.sat_base.specs.steps.Steps.{Step, DeleteClause, Simplified, Satisfied}
use Rattle.sat_checker.specs.LiteralSets.{is_among, is_subset_of, is_tautology, canonical}
use Rattle.sat_checker.specs.inner.Marks.{IsIncreasing}
use Rattle.sat_checker.specs.Propagation.{IsFalsified, IsUnit, UnitInTurn}
use Rattle.sat_checker.specs.Stored.{StoredClause, StoredUnit, LastIrredundant, Empty, Stored, unit_literals}
use Rattle.sat_checker.specs.Storing.{with_units}
use Rattle.sat_checker.specs.Accepts.{PassesByHashes, Accepts, AcceptsAll, stored_after, ready_after}
use Rattle.sat_checker.specs.announcements.Needed.{ConflictCauses, conflict_causes, clauses_of_hashes, conflict_ids, satisfying_unit, propagations}
use Rattle.sat_checker.specs.announcements.Announcements.{Announcement, AddClause, AtClause, option_to_list, last_id, announced, delayed_announcement, Notice, notices_of, notices_after, all_notices_after}

-- `IsOneOf x list` holds if `x` is in the list.
abbrev pub IsOneOf : {A : Type 0} → A → List A → Type 0
IsOneOf x [] = ⊥
IsOneOf x (y ∷ ys) = (x ≡ y) ⊎ IsOneOf x ys

-- `FollowsByPropagation f clause ids` holds if `ids` lists ids of stored units, increasing, and then ids of stored
-- clauses, and these units and clauses are unit in turn under the negated clause, the last one falsified.
pub record FollowsByPropagation (f : Stored) (clause ids : List ℕ) : Type 0 where
  pub units : List StoredUnit
  pub clauses : List StoredClause
  pub are : ids ≡ map (λ u. u.id) units ++ map (λ c. c.id) clauses
  pub units_stored : AllByRecursion (λ u. IsOneOf u f.units) units
  pub clauses_stored : AllByRecursion (λ c. IsOneOf c f.clauses) clauses
  pub increasing : IsIncreasing (map (λ u. u.id) units)
  pub conflict : UnitInTurn (map negated clause) (map (λ u. u.literal ∷ []) units ++ map (λ c. c.literals) clauses)

-- `PropagationsInTurn` holds if, after accepted steps and any further units, every clause that passes the check and is
-- no tautology follows by propagation from the units and clauses that `propagations` lists, in that order.
abbrev pub PropagationsInTurn : Type 0
PropagationsInTurn = (steps : List Step) (front clause hashes : List ℕ) → AcceptsAll steps → PassesByHashes (with_units front (ready_after steps)) clause hashes → is_tautology clause ≡ false →
    FollowsByPropagation (with_units front (ready_after steps)) clause (propagations (with_units front (ready_after steps)) clause hashes)

-- A clause that was unit, and the literal that it implied.
pub record Reason : Type 0 where
  pub clause : StoredClause
  pub literal : ℕ

-- `ClauseWalk assumed clauses reasons last` holds if `last` is the first falsified clause when the clauses are visited
-- in order, under the assumed literals, and `reasons` are the unit clauses before it. The literal that a unit clause
-- implies is true for the clauses after it. Any other clause is skipped.
pub data ClauseWalk : List ℕ → List StoredClause → List Reason → StoredClause → Type 0 where
  is_conflict : (assumed : List ℕ) (c : StoredClause) (cs : List StoredClause) → IsFalsified assumed c.literals → ClauseWalk assumed (c ∷ cs) [] c
  is_unit : (assumed : List ℕ) (c : StoredClause) (cs : List StoredClause) (l : ℕ) (reasons : List Reason) (last : StoredClause) →
      IsUnit assumed c.literals l → ClauseWalk (l ∷ assumed) cs reasons last → ClauseWalk assumed (c ∷ cs) (record { clause = c; literal = l } ∷ reasons) last
  is_neither : (assumed : List ℕ) (c : StoredClause) (cs : List StoredClause) (reasons : List Reason) (last : StoredClause) →
      (IsFalsified assumed c.literals → ⊥) → ((l : ℕ) → IsUnit assumed c.literals l → ⊥) → ClauseWalk assumed cs reasons last → ClauseWalk assumed (c ∷ cs) reasons last

-- `IsNeededLiteral reasons last m` holds if the conflict in `last`, followed backwards, needs the literal `m`: it is
-- the negation of a literal of `last`, or of another literal of a clause that implied a needed literal.
pub data IsNeededLiteral (reasons : List Reason) (last : StoredClause) : ℕ → Type 0 where
  of_last : (l : ℕ) → is_among last.literals l ≡ true → IsNeededLiteral reasons last (negated l)
  of_reason : (r : Reason) (l : ℕ) → IsOneOf r reasons → IsNeededLiteral reasons last r.literal → is_among r.clause.literals l ≡ true → l ≢ r.literal → IsNeededLiteral reasons last (negated l)

-- `IsConflictCauses assumed cs g` holds if `g` has exactly the needed literals and the needed clauses of the walk over
-- `cs` under the assumed literals. A needed clause implied a needed literal. The clauses are in the order visited, the
-- falsified clause last.
pub record IsConflictCauses (assumed : List ℕ) (cs : List StoredClause) (g : ConflictCauses) : Type 0 where
  pub reasons : List Reason
  pub last : StoredClause
  pub passing : ClauseWalk assumed cs reasons last
  pub literals : (m : ℕ) → (is_among g.literals m ≡ true) ↔ IsNeededLiteral reasons last m
  pub clauses : g.clauses ≡ map (λ r. r.clause) (filter (λ r. is_among g.literals r.literal) reasons) ++ last ∷ []

-- `ConflictIsFollowedBackwards` holds if, for every clause that passes the check, is no tautology and is satisfied by
-- no unit, `propagations` lists exactly the units and clauses that its conflict needs, as `IsConflictCauses` defines.
abbrev pub ConflictIsFollowedBackwards : Type 0
ConflictIsFollowedBackwards = (steps : List Step) (front clause hashes : List ℕ) → AcceptsAll steps → PassesByHashes (with_units front (ready_after steps)) clause hashes →
    is_tautology clause ≡ false → list_any (is_among (unit_literals (with_units front (ready_after steps)))) clause ≡ false →
    (let f : Stored = with_units front (ready_after steps) in
    let assumed : List ℕ = map negated clause ++ unit_literals f in
    (propagations f clause hashes ≡ conflict_ids (map negated clause) (conflict_causes assumed (clauses_of_hashes hashes f)) f.units) × IsConflictCauses assumed (clauses_of_hashes hashes f) (conflict_causes assumed (clauses_of_hashes hashes f)))

-- `TautologiesNeedNoIds` holds if `propagations` lists no ids for any clause with both signs of a variable.
abbrev pub TautologiesNeedNoIds : Type 0
TautologiesNeedNoIds = (f : Stored) (clause hashes : List ℕ) → is_tautology clause ≡ true → propagations f clause hashes ≡ []

-- `IsNotEmptyClause last` holds if the last irredundant clause stored is not an empty clause.
abbrev pub IsNotEmptyClause : LastIrredundant → Type 0
IsNotEmptyClause last = (id : ℕ) → last ≢ Empty id

-- `DeletedFollowByPropagation` holds if, after accepted steps, every clause that may be deleted as satisfied follows by
-- propagation from a unit that satisfies it, and every one that may be deleted as simplified from the last irredundant
-- clause, unless that is empty.
abbrev pub DeletedFollowByPropagation : Type 0
DeletedFollowByPropagation = (steps : List Step) (clause : List ℕ) → AcceptsAll steps →
    (Accepts (ready_after steps) (DeleteClause clause Satisfied) → FollowsByPropagation (ready_after steps) clause (option_to_list (satisfying_unit (canonical clause) (ready_after steps).units)))
    × (Accepts (ready_after steps) (DeleteClause clause Simplified) → IsNotEmptyClause (ready_after steps).last → FollowsByPropagation (ready_after steps) clause (option_to_list (last_id (ready_after steps).last)))

-- `NoticesAreAppended` holds if the announcements of every step come after all earlier and delayed ones, and if no
-- announcement is delayed once a pending unit conflict is settled.
abbrev pub NoticesAreAppended : Type 0
NoticesAreAppended = (steps : List Step) (step : Step) →
    (notices_after (step ∷ steps) ≡ all_notices_after steps ++ notices_of (ready_after steps) (announced (ready_after steps) step)) × (delayed_announcement (ready_after steps) ≡ [])

-- `IsAnnouncedAs id clause announcement` holds if the announcement introduces the clause under this id, as an input
-- clause (`AddClause`) or as a derived clause (`AtClause`).
abbrev pub IsAnnouncedAs : ℕ → List ℕ → Announcement → Type 0
IsAnnouncedAs id clause (AddClause i ls) = (i ≡ id) × (ls ≡ clause)
IsAnnouncedAs id clause (AtClause i redundant ls ids) = (i ≡ id) × (ls ≡ clause)
IsAnnouncedAs id clause other = ⊥

-- `IsAnnounced id clause reported` holds if one of these notices announces the clause under this id.
abbrev pub IsAnnounced : ℕ → List ℕ → List Notice → Type 0
IsAnnounced id clause reported = (t : Notice) × IsOneOf t reported × IsAnnouncedAs id clause t.announcement

-- `AreAnnounced f reported` holds if all stored clauses and units, and the last irredundant clause if it is empty, were
-- announced under their ids. Of a pending unit conflict, the first id is a stored unit's, and its negation was
-- announced under the second.
pub record AreAnnounced (f : Stored) (reported : List Notice) : Type 0 where
  pub clauses : AllByRecursion (λ c. IsAnnounced c.id c.literals reported) f.clauses
  pub units : AllByRecursion (λ u. IsAnnounced u.id (u.literal ∷ []) reported) f.units
  pub last : (id : ℕ) → f.last ≡ Empty id → IsAnnounced id [] reported
  pub conflict : (ids : ℕ × ℕ) → f.conflict ≡ Some ids → (u : StoredUnit) × IsOneOf u f.units × (u.id ≡ ids.0) × IsAnnounced ids.1 (negated u.literal ∷ []) reported

-- `IdsAreAnnounced` holds if after all steps, accepted or not, everything stored was announced under its id, as
-- `AreAnnounced` says.
abbrev pub IdsAreAnnounced : Type 0
IdsAreAnnounced = (steps : List Step) → AreAnnounced (stored_after steps) (notices_after steps)

-- `ConflictIsAnnounced` holds if whenever the empty clause of a unit conflict is still to be announced, it lists the
-- ids of two units that were announced, one the negation of the other.
abbrev pub ConflictIsAnnounced : Type 0
ConflictIsAnnounced = (steps : List Step) (id i j : ℕ) → delayed_announcement (stored_after steps) ≡ AtClause id false [] (i ∷ j ∷ []) ∷ [] →
    (l : ℕ) × IsAnnounced i (l ∷ []) (notices_after steps) × IsAnnounced j (negated l ∷ []) (notices_after steps)

-- `SimplifiedIsAnnounced` holds if for every clause that may be deleted as simplified, the last irredundant clause has
-- an id under which a subset of the clause was announced, possibly the empty clause.
abbrev pub SimplifiedIsAnnounced : Type 0
SimplifiedIsAnnounced = (steps : List Step) (clause : List ℕ) → Accepts (ready_after steps) (DeleteClause clause Simplified) →
    (id : ℕ) × (part : List ℕ) × (option_to_list (last_id (ready_after steps).last) ≡ id ∷ []) × (is_subset_of part clause ≡ true) × IsAnnounced id part (all_notices_after steps)
