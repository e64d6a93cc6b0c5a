-- What the lines of a hint text mean, and when they are a derivation. Lists of lines have the newest first.
use Rattle.std.specs.Prelude.{ℕ, ◌+◌, ◌==◌, ◌≤◌, ◌≡◌, ◌⊎◌, Bool, true, false, ◌||◌, Option, None, Some, List, [], ◌∷◌, map, if◌then◌else◌}
use Rattle.sat_base.specs.values.Literals.{variable, negated}
use Rattle.sat_checker.specs.LiteralSets.{mentions, canonical, is_tautology}
use Rattle.sat_checker.specs.Propagation.{UnitInTurn}
use Rattle.sat_hints.specs.Lines.{Line, Input, Derived, Removed, Core, Fresh}

-- `is_unit_of_variable v clause` is true if the clause is a unit over the variable `v`.
abbrev pub is_unit_of_variable : ℕ → List ℕ → Bool
is_unit_of_variable v [] = false
is_unit_of_variable v (l ∷ []) = variable l == v
is_unit_of_variable v (l ∷ m ∷ ls) = false

-- the clause, if there is one and it is not a unit over the variable
abbrev pub unless_unit_of_variable : ℕ → Option (List ℕ) → Option (List ℕ)
unless_unit_of_variable v None = None
unless_unit_of_variable v (Some clause) = if is_unit_of_variable v clause then None else Some clause

-- the clause under an id after these lines, as a sorted set, or `None` if no line added it, a later line removed it, or
-- it is a unit whose variable a later line made new
abbrev pub clause_under : ℕ → List Line → Option (List ℕ)
clause_under id [] = None
clause_under id (Input i clause ∷ earlier) = if id == i then Some (canonical clause) else clause_under id earlier
clause_under id (Derived i clause ids ∷ earlier) = if id == i then Some (canonical clause) else clause_under id earlier
clause_under id (Removed i ∷ earlier) = if id == i then None else clause_under id earlier
clause_under id (Core core ids ∷ earlier) = clause_under id earlier
clause_under id (Fresh v ∷ earlier) = unless_unit_of_variable v (clause_under id earlier)

-- the clause and then the other clauses, or `None` if one of them is not present
abbrev pub and_clauses : Option (List ℕ) → Option (List (List ℕ)) → Option (List (List ℕ))
and_clauses None cs = None
and_clauses (Some c) None = None
and_clauses (Some c) (Some cs) = Some (c ∷ cs)

-- the clauses under these ids, in their order, or `None` if one of them is not present
abbrev pub clauses_under : List ℕ → List Line → Option (List (List ℕ))
clauses_under [] earlier = Some []
clauses_under (id ∷ ids) earlier = and_clauses (clause_under id earlier) (clauses_under ids earlier)

-- the least id that the next clause may have: one more than the id of the last clause added, or 0 for the first clause
abbrev pub least_id : List Line → ℕ
least_id [] = 0
least_id (Input id clause ∷ earlier) = id + 1
least_id (Derived id clause ids ∷ earlier) = id + 1
least_id (Removed id ∷ earlier) = least_id earlier
least_id (Core core ids ∷ earlier) = least_id earlier
least_id (Fresh v ∷ earlier) = least_id earlier

-- `IsInOrder earlier line` holds if the line adds no clause, or its clause's id is above that of the last clause added.
abbrev pub IsInOrder : List Line → Line → Type 0
IsInOrder earlier (Input id clause) = least_id earlier ≤ id
IsInOrder earlier (Derived id clause ids) = least_id earlier ≤ id
IsInOrder earlier (Removed id) = Unit {0}
IsInOrder earlier (Core core ids) = Unit {0}
IsInOrder earlier (Fresh v) = Unit {0}

-- the ids of the earlier clauses that a line names: those of a `Derived` or `Core` line, in order, and that of a
-- `Removed` line
abbrev pub named_ids : Line → List ℕ
named_ids (Input id clause) = []
named_ids (Derived id clause ids) = ids
named_ids (Removed id) = id ∷ []
named_ids (Core core ids) = ids
named_ids (Fresh v) = []

-- the literals under which the named clauses must conflict: a derived clause's negation, or a core; otherwise `None`
abbrev pub assumed_by : Line → Option (List ℕ)
assumed_by (Input id clause) = None
assumed_by (Derived id clause ids) = Some (map negated clause)
assumed_by (Removed id) = None
assumed_by (Core core ids) = Some core
assumed_by (Fresh v) = None

-- `Conflicts assumed clauses` holds if both signs of a variable are assumed, or the clauses are unit in turn and the
-- last is falsified.
abbrev pub Conflicts : List ℕ → List (List ℕ) → Type 0
Conflicts assumed clauses = (is_tautology assumed ≡ true) ⊎ UnitInTurn assumed clauses

-- `ConflictsIf assumed clauses` holds if `assumed` is `None`, or both signs of a variable are assumed, or the clauses
-- are unit in turn under the assumed literals, and the last is falsified.
abbrev pub ConflictsIf : Option (List ℕ) → List (List ℕ) → Type 0
ConflictsIf None clauses = Unit {0}
ConflictsIf (Some assumed) clauses = Conflicts assumed clauses

-- `is_long clause` is true if the clause has two or more literals.
abbrev pub is_long : List ℕ → Bool
is_long [] = false
is_long (l ∷ []) = false
is_long (l ∷ m ∷ ls) = true

-- `IsInLongClause v earlier` holds if a present clause of two or more literals contains the variable.
pub record IsInLongClause (v : ℕ) (earlier : List Line) : Type 0 where
  pub id : ℕ
  pub clause : List ℕ
  pub present : clause_under id earlier ≡ Some clause
  pub long : is_long clause ≡ true
  pub within : mentions clause v ≡ true

-- `RenewsUsedVariable earlier line` holds if the line makes a variable new (`Fresh`) that a present clause of two or
-- more literals contains. Such a line is at fault.
abbrev pub RenewsUsedVariable : List Line → Line → Type 0
RenewsUsedVariable earlier (Input id clause) = ⊥
RenewsUsedVariable earlier (Derived id clause ids) = ⊥
RenewsUsedVariable earlier (Removed id) = ⊥
RenewsUsedVariable earlier (Core core ids) = ⊥
RenewsUsedVariable earlier (Fresh v) = IsInLongClause v earlier

-- `FollowsLines earlier line` holds if the line may follow the earlier lines: its id is in order, and the clauses that
-- it names are present. For a derived clause or a core, they conflict with the literals that the line assumes. If the
-- line makes a variable new, no present clause of two or more literals contains this variable.
pub record FollowsLines (earlier : List Line) (line : Line) : Type 0 where
  pub in_order : IsInOrder earlier line
  pub clauses : List (List ℕ)
  pub present : clauses_under (named_ids line) earlier ≡ Some clauses
  pub conflict : ConflictsIf (assumed_by line) clauses
  pub unused : RenewsUsedVariable earlier line → ⊥

-- `IsHintDerivation lines` holds if every line, the newest first, may follow the lines before it, as `FollowsLines`
-- says.
abbrev pub IsHintDerivation : List Line → Type 0
IsHintDerivation [] = Unit {0}
IsHintDerivation (line ∷ earlier) = IsHintDerivation earlier × FollowsLines earlier line

-- `is_empty clause` is true if the clause has no literals.
abbrev pub is_empty : List ℕ → Bool
is_empty [] = true
is_empty (l ∷ ls) = false

-- `derives_empty lines` is true if a `Derived` line has an empty clause; an empty input clause does not count.
abbrev pub derives_empty : List Line → Bool
derives_empty [] = false
derives_empty (Input id clause ∷ earlier) = derives_empty earlier
derives_empty (Derived id clause ids ∷ earlier) = is_empty clause || derives_empty earlier
derives_empty (Removed id ∷ earlier) = derives_empty earlier
derives_empty (Core core ids ∷ earlier) = derives_empty earlier
derives_empty (Fresh v ∷ earlier) = derives_empty earlier

-- the number of lines with a core
abbrev pub core_count : List Line → ℕ
core_count [] = 0
core_count (Input id clause ∷ earlier) = core_count earlier
core_count (Derived id clause ids ∷ earlier) = core_count earlier
core_count (Removed id ∷ earlier) = core_count earlier
core_count (Core core ids ∷ earlier) = 1 + core_count earlier
core_count (Fresh v ∷ earlier) = core_count earlier
