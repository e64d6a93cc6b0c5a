-- Literals that there is room for, so that assuming them does not allocate.
use Rattle.std.specs.Prelude.{ℕ, ◌≡◌, Bool, true, false, List, ◌∷◌, ◌++◌, map, MatchBool, if◌then◌else◌}
use Rattle.std.specs.List.{AllByRecursion, list_any}
use Rattle.sat_base.specs.values.Literals.{negated}
use Rattle.sat_checker.specs.LiteralSets.{is_among, is_tautology}
use Rattle.sat_checker.specs.Stored.{StoredClause}

-- The assumed literals, the newest first, and the literals that can be assumed without allocating.
pub record LiteralsAndRoom : Type 0 where
  pub literals : List ℕ
  pub room : List ℕ

-- The literals with room, and also `l` and its negation, unless `l` has room already.
abbrev pub with_room : ℕ → List ℕ → List ℕ
with_room l room = if is_among room l then room else l ∷ negated l ∷ room

-- `AssumesOnce l old new` holds if `new` is `old` with the literal `l` assumed, and with room for it and its negation.
-- If `l` is assumed in `old`, `new` equals `old`.
abbrev pub AssumesOnce : ℕ → LiteralsAndRoom → LiteralsAndRoom → Type 0
AssumesOnce l old new = MatchBool (is_among old.literals l) (new ≡ old) (new ≡ record { literals = l ∷ old.literals; room = with_room l old.room })

-- `RoomIsKept old new` holds if every literal with room in `old` has room in `new`.
abbrev pub RoomIsKept : List ℕ → List ℕ → Type 0
RoomIsKept old new = (l : ℕ) → is_among old l ≡ true → is_among new l ≡ true

-- `HasClauseRoom room clause` holds if there is room for every literal of the clause, and for its negation.
abbrev pub HasClauseRoom : List ℕ → List ℕ → Type 0
HasClauseRoom room = AllByRecursion (λ l. (is_among room l ≡ true) × (is_among room (negated l) ≡ true))

-- `HasClausesRoom room clauses` holds if there is room for every literal of these clauses, and for its negation.
abbrev pub HasClausesRoom : List ℕ → List (List ℕ) → Type 0
HasClausesRoom room = AllByRecursion (HasClauseRoom room)

-- `HasStoredRoom room clauses` holds if there is room for every literal of these stored clauses, and for its negation.
abbrev pub HasStoredRoom : List ℕ → List StoredClause → Type 0
HasStoredRoom room = AllByRecursion (λ c. HasClauseRoom room c.literals)

-- `AgreeWithinRoom room xs ys` holds if `xs` and `ys` contain the same of the literals in `room`; others do not matter.
abbrev pub AgreeWithinRoom : List ℕ → List ℕ → List ℕ → Type 0
AgreeWithinRoom room xs ys = (l : ℕ) → is_among room l ≡ true → is_among xs l ≡ is_among ys l

-- The literals or, if `negate` is true, their negations.
abbrev pub signed : Bool → List ℕ → List ℕ
signed negate literals = if negate then map negated literals else literals

-- `NegationsAssumedInRoom old clause new` holds if the negations of the clause's literals are assumed in addition to
-- those in `old`, as far as `old` has room for them. The clause is no tautology, and none of its literals is assumed in
-- `old`.
pub record NegationsAssumedInRoom (old : LiteralsAndRoom) (clause : List ℕ) (new : LiteralsAndRoom) : Type 0 where
  pub agrees : AgreeWithinRoom old.room new.literals (map negated clause ++ old.literals)
  pub no_unit : list_any (is_among old.literals) clause ≡ false
  pub no_tautology : is_tautology clause ≡ false
