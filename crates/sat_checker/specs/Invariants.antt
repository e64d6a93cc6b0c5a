-- Invariants of what is stored, and what steps leave unchanged.
use Rattle.std.specs.Prelude.{ℕ, ◌+◌, ◌<◌, ◌≤◌, ◌≡◌, ◌⊎◌, ◌↔◌, Bool, true, false, ◌&&◌, None, Some, List, [], ◌∷◌, map, length}
use Rattle.std.specs.List.{AllByRecursion, list_any}
use Rattle.sat_base.specs.values.Literals.{variable}
use Rattle.sat_base.specs.values.Clauses.{Valuation, AllClausesTrue}
use Rattle.sat_base.specs.steps.Steps.{Step, SolverVarName, UserVarName, ChangeSamplingMode, AtClause, ChangeHashBits, Model, Assumptions, FailedAssumptions, End}
use Rattle.sat_checker.specs.LiteralSets.{is_among, is_tautology, canonical, same_literals}
use Rattle.sat_checker.specs.SortedSets.{IsIncreasing}
use Rattle.sat_checker.specs.Stored.{StoredClause, LastIrredundant, NoneYet, Empty, UnitClause, LongClause, Stored, unit_literals, long_clauses, is_known}
use Rattle.sat_checker.specs.Storing.{clause_with, clause_with_id, irredundant_count, without_clause, with_conflict_settled, last_literals}
use Rattle.sat_checker.specs.Accepts.{VariablesDistinct, Accepts, AcceptsAll, effect, ready_after}
use Rattle.sat_checker.specs.Fold.{Holds}
use Rattle.sat_checker.specs.Contents.{count_of, same_flag, minus_one_if, contents, contents_after, contents_of}

-- `AreDistinctSets clauses` holds if no set of literals is stored twice.
abbrev pub AreDistinctSets : List StoredClause → Type 0
AreDistinctSets [] = Unit {0}
AreDistinctSets (c ∷ cs) = (clause_with c.literals cs ≡ None) × AreDistinctSets cs

-- `HaveCounts clauses` holds if every clause has a count above 0.
abbrev pub HaveCounts : List StoredClause → Type 0
HaveCounts = AllByRecursion (λ c. 0 < c.irredundant + c.redundant)

-- `IdsIncrease f` holds if the clauses of two or more literals are in order of their ids, all different and below the
-- next id.
pub record IdsIncrease (f : Stored) : Type 0 where
  pub rising : IsIncreasing (map (λ c. c.id) f.clauses)
  pub given : AllByRecursion (λ id. id < f.next_id) (map (λ c. c.id) f.clauses)

-- `IsProperClause literals` holds if a clause of these literals has at least two of them, sorted and distinct, and does
-- not contain both signs of a variable.
pub record IsProperClause (literals : List ℕ) : Type 0 where
  pub two : 2 ≤ length literals
  pub sorted : IsIncreasing literals
  pub apart : is_tautology literals ≡ false

-- `VariablesAreKnown f literals` holds if the variables of these literals are known.
abbrev pub VariablesAreKnown : Stored → List ℕ → Type 0
VariablesAreKnown f = AllByRecursion (λ l. is_known (variable l) f ≡ true)

-- `StoredInvariant f` holds if the clauses are sorted sets of two or more literals, no tautologies, each stored once,
-- with a count above 0 and in order of ids, no two units have the same variable, and the variables of clauses, units
-- and assumptions are known.
pub record StoredInvariant (f : Stored) : Type 0 where
  pub proper : AllByRecursion IsProperClause (long_clauses f)
  pub once : AreDistinctSets f.clauses
  pub counted : HaveCounts f.clauses
  pub ids : IdsIncrease f
  pub units_apart : VariablesDistinct (unit_literals f)
  pub clauses_known : AllByRecursion (VariablesAreKnown f) (long_clauses f)
  pub units_known : VariablesAreKnown f (unit_literals f)
  pub assumed_known : VariablesAreKnown f f.assumed

-- `StoredInvariantHolds` holds if `StoredInvariant` does after every list of accepted steps.
abbrev pub StoredInvariantHolds : Type 0
StoredInvariantHolds = (steps : List Step) → AcceptsAll steps → StoredInvariant (ready_after steps)

-- `UnsatIsPermanent` holds if every step leaves unsat recorded once it is recorded.
abbrev pub UnsatIsPermanent : Type 0
UnsatIsPermanent = (f : Stored) (step : Step) → f.unsat ≡ true → (effect step f).unsat ≡ true

-- `PendingConflictIsIgnored` holds if a pending unit conflict does not affect which steps are accepted.
abbrev pub PendingConflictIsIgnored : Type 0
PendingConflictIsIgnored = (f : Stored) (step : Step) → Accepts f step ↔ Accepts (with_conflict_settled f) step

-- `AllClausesHold` holds if every valuation that accepted steps allow satisfies all stored clauses of two or more
-- literals, redundant ones included.
abbrev pub AllClausesHold : Type 0
AllClausesHold = (steps : List Step) (a : Valuation) → AcceptsAll steps → Holds steps a → AllClausesTrue a (long_clauses (ready_after steps))

-- `EffectChangesContents` holds if the effect of every step, accepted or not, changes the contents as `contents_after`
-- says, provided that no set of literals is stored twice.
abbrev pub EffectChangesContents : Type 0
EffectChangesContents = (f : Stored) (step : Step) → AreDistinctSets f.clauses → contents (effect step f) ≡ contents_after step (contents f)

-- `SettlingKeepsContents` holds if settling a unit conflict does not change the contents.
abbrev pub SettlingKeepsContents : Type 0
SettlingKeepsContents = (f : Stored) → contents (with_conflict_settled f) ≡ contents f

-- `ContentsAfterSteps` holds if `contents_of` gives the contents of what is stored after any steps, accepted or not.
abbrev pub ContentsAfterSteps : Type 0
ContentsAfterSteps = (steps : List Step) → contents (ready_after steps) ≡ contents_of steps

-- `RemovalLowersCount` holds if removing one count of a set of literals lowers that count by 1, unless it is 0, and
-- changes no other count, provided that no set is stored twice.
abbrev pub RemovalLowersCount : Type 0
RemovalLowersCount = (redundant side : Bool) (set other : List ℕ) (cs : List StoredClause) → AreDistinctSets cs →
    count_of side other (without_clause redundant set cs) ≡ minus_one_if (same_flag redundant side && same_literals set other) (count_of side other cs)

-- `StoredIffCounted` holds if a set of literals is stored exactly when one of its counts is above 0, provided that
-- every clause has a count above 0.
abbrev pub StoredIffCounted : Type 0
StoredIffCounted = (set : List ℕ) (cs : List StoredClause) → HaveCounts cs → (clause_with set cs ≡ None) ↔ (count_of false set cs + count_of true set cs ≡ 0)

-- `DerivedIsLast` holds if every accepted irredundant derived clause of two or more literals that is no tautology is
-- the last irredundant clause stored after its step.
abbrev pub DerivedIsLast : Type 0
DerivedIsLast = (steps : List Step) (clause hashes : List ℕ) → AcceptsAll (AtClause false clause hashes ∷ steps) → is_tautology clause ≡ false → 2 ≤ length (canonical clause) →
    last_literals (ready_after (AtClause false clause hashes ∷ steps)).last (ready_after (AtClause false clause hashes ∷ steps)) ≡ Some (canonical clause)

-- `keeps_last_clause step` is true if the step is of a kind that neither stores nor removes a clause or a unit.
abbrev pub keeps_last_clause : Step → Bool
keeps_last_clause (SolverVarName v name) = true
keeps_last_clause (UserVarName v name) = true
keeps_last_clause (ChangeSamplingMode v sample) = true
keeps_last_clause (ChangeHashBits bits) = true
keeps_last_clause (Model ls) = true
keeps_last_clause (Assumptions ls) = true
keeps_last_clause (FailedAssumptions core hashes) = true
keeps_last_clause End = true
keeps_last_clause step = false

-- `LastClauseIsKept` holds if every step of a kind that neither stores nor removes clauses or units
-- (`keeps_last_clause`) leaves the literals of the last irredundant clause as they were.
abbrev pub LastClauseIsKept : Type 0
LastClauseIsKept = (f : Stored) (step : Step) → keeps_last_clause step ≡ true → last_literals (effect step f).last (effect step f) ≡ last_literals f.last f

-- `SettlingKeepsLastClause` holds if settling a unit conflict leaves the literals of the last irredundant clause stored
-- as they were.
abbrev pub SettlingKeepsLastClause : Type 0
SettlingKeepsLastClause = (f : Stored) → last_literals (with_conflict_settled f).last (with_conflict_settled f) ≡ last_literals f.last f

-- `IsSatisfiedOrIrredundant us cs ls` holds if one of the literals `us` is in the clause `ls`, or if the clause has an
-- irredundant count in `cs`.
abbrev pub IsSatisfiedOrIrredundant : List ℕ → List StoredClause → List ℕ → Type 0
IsSatisfiedOrIrredundant us cs ls = (list_any (is_among us) ls ≡ true) ⊎ (0 < irredundant_count (clause_with ls cs))

-- `LastClauseHolds last unsat us cs` holds if unsat is recorded when the last irredundant clause is empty; when it has
-- two or more literals and is still stored, it has an irredundant count or one of the units `us`. Otherwise nothing is
-- required.
abbrev pub LastClauseHolds : LastIrredundant → Bool → List ℕ → List StoredClause → Type 0
LastClauseHolds NoneYet unsat us cs = Unit {0}
LastClauseHolds (Empty id) unsat us cs = unsat ≡ true
LastClauseHolds (UnitClause id) unsat us cs = Unit {0}
LastClauseHolds (LongClause id) unsat us cs = (ls : List ℕ) → clause_with_id id cs ≡ Some ls → IsSatisfiedOrIrredundant us cs ls

-- `LastIdIsBelow n last` holds if the id of the last irredundant clause stored is below `n`, unless there is none or it
-- is a unit.
abbrev pub LastIdIsBelow : ℕ → LastIrredundant → Type 0
LastIdIsBelow n NoneYet = Unit {0}
LastIdIsBelow n (Empty id) = id < n
LastIdIsBelow n (UnitClause id) = Unit {0}
LastIdIsBelow n (LongClause id) = id < n

-- `OrderInvariant f` holds if the ids of the clauses increase and are below the next id. So is that of the last
-- irredundant clause, unless it is a unit, and it is still implied by unsat, a unit or a count, as `LastClauseHolds`
-- says.
pub record OrderInvariant (f : Stored) : Type 0 where
  pub increasing : IsIncreasing (map (λ c. c.id) f.clauses)
  pub below : AllByRecursion (λ i. i < f.next_id) (map (λ c. c.id) f.clauses)
  pub last_below : LastIdIsBelow f.next_id f.last
  pub last_holds : LastClauseHolds f.last f.unsat (unit_literals f) f.clauses

-- `OrderInvariantHolds` holds if `OrderInvariant` does after every list of accepted steps.
abbrev pub OrderInvariantHolds : Type 0
OrderInvariantHolds = (steps : List Step) → AcceptsAll steps → OrderInvariant (ready_after steps)

-- `SameVariables f g` holds if `f` and `g` have the same variables, the same record of deleted variables, and the same
-- assumptions.
pub record SameVariables (f g : Stored) : Type 0 where
  pub variables : g.variables ≡ f.variables
  pub deleted : g.var_deleted ≡ f.var_deleted
  pub assumed : g.assumed ≡ f.assumed
