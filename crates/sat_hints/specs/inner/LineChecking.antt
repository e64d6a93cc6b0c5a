-- The state of a checker after the lines that it has accepted.
use Rattle.std.specs.Prelude.{ℕ, ◌≡◌, ◌⊎◌, ◌+◌, Option, None, Some, List, [], ◌∷◌, length}
use Rattle.sat_base.specs.text.Tokenizing.{capped}
use Rattle.sat_checker.specs.LiteralSets.{canonical}
use Rattle.sat_checker.specs.inner.AssumedRoom.{RoomIsKept}
use Rattle.sat_hints.specs.Lines.{Line}
use Rattle.sat_hints.specs.Hints.{clause_under, least_id, derives_empty, core_count, FollowsLines}
use Rattle.sat_hints.specs.Checks.{IsFaultOf}
use Rattle.sat_hints.specs.inner.Clauses.{IdsBelow}
use Rattle.sat_hints.specs.inner.ActiveClauses.{active_clause, active_clauses, AddsActiveClause, HasRoomForPresent, ActiveClausesInvariant, UnitBoundsWithin}
use Rattle.sat_hints.specs.inner.Refutation.{refutation_failure, WhyNoConflict}
use Rattle.sat_hints.specs.declared.answer.HintWhy.{HintWhy}
use Rattle.sat_hints.specs.declared.answer.HintWhy.TheVariants.{UnknownId}
use Rattle.sat_hints.specs.declared.active_clauses.ActiveClauses.{ActiveClauses}
use Rattle.sat_hints.specs.declared.line_checking.LineChecker.{LineChecker}

-- `IsReadyChecker j` holds if the checker can check the next line: its invariant holds, its ids are below the least id,
-- it assumes no literals, and it has room for those of every present clause.
pub record IsReadyChecker (j : LineChecker) : Type 0 where
  pub active : ActiveClausesInvariant j.active
  pub below : IdsBelow j.active.present.ids.items j.least_id
  pub unit_bounds : UnitBoundsWithin j.active j.least_id
  pub nothing : j.assumed.literals ≡ []
  pub room : HasRoomForPresent j.assumed.room j.active

-- `HasAcceptedLines j lines` holds if the checker's present clauses, its least id, its counts of cores and lines
-- (capped at 2^64-1), and whether it has an empty derived clause are those after these lines, the newest first.
pub record HasAcceptedLines (j : LineChecker) (lines : List Line) : Type 0 where
  pub clauses : (id : ℕ) → active_clause j.active id ≡ clause_under id lines
  pub least : j.least_id ≡ least_id lines
  pub says_empty : j.empty ≡ derives_empty lines
  pub counts_cores : j.cores ≡ capped (core_count lines)
  pub counts_lines : j.lines ≡ capped (length lines)

-- `SameExceptRoom old new` holds if the checker is unchanged and assumes no literals, but may have more room for them.
pub record SameExceptRoom (old new : LineChecker) : Type 0 where
  pub active : new.active ≡ old.active
  pub nothing : new.assumed.literals ≡ []
  pub room : RoomIsKept old.assumed.room new.assumed.room
  pub least : new.least_id ≡ old.least_id
  pub empty : new.empty ≡ old.empty
  pub cores : new.cores ≡ old.cores
  pub lines : new.lines ≡ old.lines

-- `WhyNotRefuted s assumed ids why` holds if `why` is the reason why the assumed literals and the clauses under these
-- ids do not conflict (`UnknownId` if one is not present), or `None` if they do.
abbrev pub WhyNotRefuted : ActiveClauses → List ℕ → List ℕ → Option HintWhy → Type 0
WhyNotRefuted s assumed ids why =
    ((active_clauses s ids ≡ None) × (why ≡ Some UnknownId)) ⊎ ((clauses : List (List ℕ)) × (active_clauses s ids ≡ Some clauses) × WhyNoConflict assumed clauses why)

-- the reason why the clauses do not lead to a conflict under the assumed literals, or `None` if they do; `UnknownId` if
-- not all clauses are present
abbrev pub refutation_failure_of : List ℕ → Option (List (List ℕ)) → Option HintWhy
refutation_failure_of assumed None = Some UnknownId
refutation_failure_of assumed (Some clauses) = refutation_failure assumed clauses

-- `StoresClause old new id clause` holds if the clause was stored under the id, as a sorted set, no literals are
-- assumed, the least id is now the next, and the counts and `empty` are unchanged.
pub record StoresClause (old new : LineChecker) (id : ℕ) (clause : List ℕ) : Type 0 where
  pub adds : AddsActiveClause old.active new.active id (canonical clause)
  pub nothing : new.assumed.literals ≡ []
  pub room : HasRoomForPresent new.assumed.room new.active
  pub least : new.least_id ≡ id + 1
  pub empty : new.empty ≡ old.empty
  pub cores : new.cores ≡ old.cores
  pub lines : new.lines ≡ old.lines

-- `FollowsAccepted old line` holds if the line may follow the lines that the checker has accepted, whatever they are.
abbrev pub FollowsAccepted : LineChecker → Line → Type 0
FollowsAccepted old line = (lines : List Line) → HasAcceptedLines old lines → FollowsLines lines line

-- `HasAcceptedUncounted old new lines line` holds if the line may follow these lines, and the checker has accepted it,
-- but has not counted it yet.
pub record HasAcceptedUncounted (old new : LineChecker) (lines : List Line) (line : Line) : Type 0 where
  pub follows : FollowsLines lines line
  pub clauses : (id : ℕ) → active_clause new.active id ≡ clause_under id (line ∷ lines)
  pub least : new.least_id ≡ least_id (line ∷ lines)
  pub says_empty : new.empty ≡ derives_empty (line ∷ lines)
  pub counts_cores : new.cores ≡ capped (core_count (line ∷ lines))

-- `UncountedLineResult why old new line` holds if the checker has accepted the line (`None`), but has not counted it
-- yet, or the line is at fault for this reason; whatever lines were accepted before.
abbrev pub UncountedLineResult : Option HintWhy → LineChecker → LineChecker → Line → Type 0
UncountedLineResult None old new line = IsReadyChecker new × (new.lines ≡ old.lines) × ((lines : List Line) → HasAcceptedLines old lines → HasAcceptedUncounted old new lines line)
UncountedLineResult (Some why) old new line = (new.lines ≡ old.lines) × ((lines : List Line) → HasAcceptedLines old lines → IsFaultOf lines line why)

-- `LineResultAfter why old new lines line` holds if `why` is the result for the line after these lines. If it is
-- `None`, the line may follow them, and the checker has accepted and counted it. Otherwise the line is at fault for
-- this reason, and is not counted.
abbrev pub LineResultAfter : Option HintWhy → LineChecker → LineChecker → List Line → Line → Type 0
LineResultAfter None old new lines line = FollowsLines lines line × HasAcceptedLines new (line ∷ lines)
LineResultAfter (Some why) old new lines line = IsFaultOf lines line why × (new.lines ≡ old.lines)

-- `LineResult why old new line` holds if, whatever lines the checker `old` has accepted, `why` is the reason why the
-- line is at fault after them and is not counted, or `None` if the checker has accepted and counted the line.
abbrev pub LineResult : Option HintWhy → LineChecker → LineChecker → Line → Type 0
LineResult why old new line = (lines : List Line) → HasAcceptedLines old lines → LineResultAfter why old new lines line
