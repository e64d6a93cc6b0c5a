-- How clauses, units and variables are added and removed.
use Rattle.std.specs.Prelude.{ℕ, ◌+◌, ◌-◌, ◌==◌, Bool, true, false, not, ◌&&◌, max, Option, None, Some, is_some, List, [], ◌∷◌, ◌++◌, map, filter, find, if◌then◌else◌}
use Rattle.sat_base.specs.values.Literals.{variable, negated}
use Rattle.sat_checker.specs.LiteralSets.{is_among, is_tautology, canonical, same_literals}
use Rattle.sat_checker.specs.Stored.{StoredClause, StoredUnit, Variable, initial_variable, LastIrredundant, NoneYet, Empty, UnitClause, LongClause, Stored, is_unit}

-- The stored clause with one more count: redundant if the flag is true, otherwise irredundant.
abbrev pub with_count : Bool → StoredClause → StoredClause
with_count redundant c = if redundant then record c { redundant = c.redundant + 1 } else record c { irredundant = c.irredundant + 1 }

-- The stored clause with this id and these literals that is stored once: as redundant if the flag is true, otherwise as
-- irredundant.
abbrev pub new_clause : Bool → ℕ → List ℕ → StoredClause
new_clause redundant id literals = with_count redundant (record { id = id; literals = literals; irredundant = 0; redundant = 0 })

-- The clauses with one more count of the clause with these literals: redundant if the flag is true, otherwise
-- irredundant. A clause that is not stored yet is appended with this id.
abbrev pub with_stored_clause : Bool → ℕ → List ℕ → List StoredClause → List StoredClause
with_stored_clause redundant id literals [] = new_clause redundant id literals ∷ []
with_stored_clause redundant id literals (c ∷ cs) =
    if same_literals c.literals literals then with_count redundant c ∷ cs else c ∷ with_stored_clause redundant id literals cs

-- The stored clause with these literals, or `None`.
abbrev pub clause_with : List ℕ → List StoredClause → Option StoredClause
clause_with literals = find (λ c. same_literals c.literals literals)

-- How often a clause is stored as irredundant, or 0 if it is not stored.
abbrev pub irredundant_count : Option StoredClause → ℕ
irredundant_count None = 0
irredundant_count (Some c) = c.irredundant

-- How often a clause is stored as redundant, or 0 if it is not stored.
abbrev pub redundant_count : Option StoredClause → ℕ
redundant_count None = 0
redundant_count (Some c) = c.redundant

-- The stored clause with one fewer count: redundant if the flag is true, otherwise irredundant. A count of 0 stays 0.
abbrev pub without_count : Bool → StoredClause → StoredClause
without_count redundant c = if redundant then record c { redundant = c.redundant - 1 } else record c { irredundant = c.irredundant - 1 }

-- The list of only this clause, or the empty list if both its counts are 0.
abbrev pub unless_removed : StoredClause → List StoredClause
unless_removed c = if c.irredundant == 0 && c.redundant == 0 then [] else c ∷ []

-- The clauses with one fewer count of the clause with these literals: redundant if the flag is true, otherwise
-- irredundant. The clause is removed if no count of either kind is left; nothing changes if it is not stored.
abbrev pub without_clause : Bool → List ℕ → List StoredClause → List StoredClause
without_clause redundant literals [] = []
without_clause redundant literals (c ∷ cs) =
    if same_literals c.literals literals then unless_removed (without_count redundant c) ++ cs else c ∷ without_clause redundant literals cs

-- The id under which a literal is stored as a unit, or `None`.
abbrev pub unit_id : ℕ → List StoredUnit → Option ℕ
unit_id l [] = None
unit_id l (u ∷ us) = if u.literal == l then Some u.id else unit_id l us

-- `first_conflict pending stored id` is the unit conflict to record: the pending one if there is one, otherwise the ids
-- of the stored unit and of the unit that contradicts it. It is `None` if `pending` and `stored` are.
abbrev pub first_conflict : Option (ℕ × ℕ) → Option ℕ → ℕ → Option (ℕ × ℕ)
first_conflict (Some pending) stored id = Some pending
first_conflict None None id = None
first_conflict None (Some stored) id = Some (stored, id)

-- What is stored after the unit of literal `l` whose negation is stored. The unit gets an id but is not stored, unsat
-- is recorded, and so is a unit conflict, unless one is pending already.
abbrev pub with_contradiction : ℕ → Stored → Stored
with_contradiction l f =
    record f { unsat = true; conflict = first_conflict f.conflict (unit_id (negated l) f.units) f.next_id; next_id = f.next_id + 1 }

-- What is stored after the unit of literal `l` gets the next id and is appended. Neither the unit nor its negation was
-- stored.
abbrev pub with_new_unit : ℕ → Stored → Stored
with_new_unit l f = record f { units = f.units ++ (record { id = f.next_id; literal = l }) ∷ []; next_id = f.next_id + 1 }

-- What is stored after the unit of literal `l`: nothing changes if it is stored already. If its negation is stored,
-- unsat and a unit conflict are recorded; otherwise the unit is stored under the next id.
abbrev pub with_unit : ℕ → Stored → Stored
with_unit l f = if is_unit f l then f else (if is_unit f (negated l) then with_contradiction l f else with_new_unit l f)

-- What is stored once the empty clause of this unit conflict, if any, gets the next id.
abbrev pub settled_by : Option (ℕ × ℕ) → Stored → Stored
settled_by None f = f
settled_by (Some units) f = record f { conflict = None; next_id = f.next_id + 1 }

-- What is stored once the empty clause of a pending unit conflict has got the next id; unchanged if no unit conflict is
-- pending.
abbrev pub with_conflict_settled : Stored → Stored
with_conflict_settled f = settled_by f.conflict f

-- What is stored after a sorted set of two or more literals, as redundant (true) or as irredundant. It gets the next id
-- if it is new, and one more count.
abbrev pub with_long_clause : Bool → List ℕ → Stored → Stored
with_long_clause redundant literals f = record f {
  clauses = with_stored_clause redundant f.next_id literals f.clauses;
  next_id = (if is_some (clause_with literals f.clauses) then f.next_id else f.next_id + 1);
}

-- What is stored after a clause, given as a sorted set, as redundant (true) or as irredundant. Every empty clause gets
-- an id, and unsat is recorded.
abbrev pub with_sorted_set : Bool → List ℕ → Stored → Stored
with_sorted_set redundant [] f = record f { unsat = true; next_id = f.next_id + 1 }
with_sorted_set redundant (l ∷ []) f = with_unit l f
with_sorted_set redundant (l ∷ m ∷ ls) f = with_long_clause redundant (l ∷ m ∷ ls) f

-- The stored unit of literal `l`, by its id, as the last irredundant clause; or `otherwise` if it is not stored.
abbrev pub last_unit_or : ℕ → List StoredUnit → LastIrredundant → LastIrredundant
last_unit_or l [] otherwise = otherwise
last_unit_or l (u ∷ us) otherwise = if u.literal == l then UnitClause u.id else last_unit_or l us otherwise

-- The stored clause that was found, by its id, as the last irredundant clause; or `otherwise` if none was found.
abbrev pub last_long_or : Option StoredClause → LastIrredundant → LastIrredundant
last_long_or None otherwise = otherwise
last_long_or (Some c) otherwise = LongClause c.id

-- The clause of these literals, a sorted set, as the last irredundant clause: `id` is the id if it is empty; a longer
-- clause has the id under which it is stored in `f`, and `otherwise` is the result if it is not stored.
abbrev pub last_clause_or : ℕ → List ℕ → Stored → LastIrredundant → LastIrredundant
last_clause_or id [] f otherwise = Empty id
last_clause_or id (l ∷ []) f otherwise = last_unit_or l f.units otherwise
last_clause_or id (l ∷ m ∷ ls) f otherwise = last_long_or (clause_with (l ∷ m ∷ ls) f.clauses) otherwise

-- What is stored after a clause, given as a sorted set, as redundant (true) or as irredundant. If it is irredundant and
-- stored afterwards, new or not, it becomes the last irredundant clause.
abbrev pub with_canonical : Bool → List ℕ → Stored → Stored
with_canonical redundant literals f =
    let g : Stored = with_sorted_set redundant literals f in if redundant then g else record g { last = last_clause_or f.next_id literals g f.last }

-- What is stored after a clause, in any order and with repeats, as redundant (true) or as irredundant; a tautology
-- changes nothing.
abbrev pub with_stored : Bool → List ℕ → Stored → Stored
with_stored redundant clause f = if is_tautology clause then f else with_canonical redundant (canonical clause) f

-- What is stored after an input clause, as irredundant. It uses an id up even if it is a tautology or was stored
-- before.
abbrev pub with_input : List ℕ → Stored → Stored
with_input clause f = let g : Stored = with_stored false clause f in record g { next_id = max g.next_id (f.next_id + 1) }

-- What is stored after these units, from left to right.
abbrev pub with_units : List ℕ → Stored → Stored
with_units [] f = f
with_units (l ∷ ls) f = with_units ls (with_unit l f)

-- What is stored after variable `v` gets the data `x`: whether it is known, its mode, and its name.
abbrev pub with_variable : ℕ → Variable → Stored → Stored
with_variable v x f = record f { variables = λ w. if w == v then x else f.variables w }

-- What is stored after these variables become known; their modes and names are unchanged.
abbrev pub with_known : List ℕ → Stored → Stored
with_known vs f = record f { variables = λ v. if is_among vs v then record (f.variables v) { known = true } else f.variables v }

-- What is stored after the variables of these literals become known.
abbrev pub with_literals_known : List ℕ → Stored → Stored
with_literals_known ls = with_known (map variable ls)

-- What is stored after variable `v` gets the solver name `name`, or loses its own if `name` is `None`.
abbrev pub with_solver_name : ℕ → Option ℕ → Stored → Stored
with_solver_name v name f = record f { solver_names = λ w. if w == v then name else f.solver_names w }

-- What is stored after variable `v` is deleted: its unit is removed, it is unknown, with mode sample and without a
-- name, and the deletion is recorded. Its solver name is unchanged.
abbrev pub without_variable : ℕ → Stored → Stored
without_variable v f = record (with_variable v initial_variable f) { units = filter (λ u. not (variable u.literal == v)) f.units; var_deleted = true }

-- The literals of the clause with this id, or `None`.
abbrev pub clause_with_id : ℕ → List StoredClause → Option (List ℕ)
clause_with_id id [] = None
clause_with_id id (c ∷ cs) = if c.id == id then Some c.literals else clause_with_id id cs

-- The literal of the unit with this id, as a clause of one literal, or `None`.
abbrev pub unit_with_id : ℕ → List StoredUnit → Option (List ℕ)
unit_with_id id [] = None
unit_with_id id (u ∷ us) = if u.id == id then Some (u.literal ∷ []) else unit_with_id id us

-- The literals of the last irredundant clause, or `None` if there is none or it is no longer stored. A clause that is
-- now stored only as redundant counts as stored; an empty clause always does.
abbrev pub last_literals : LastIrredundant → Stored → Option (List ℕ)
last_literals NoneYet f = None
last_literals (Empty id) f = Some []
last_literals (UnitClause id) f = unit_with_id id f.units
last_literals (LongClause id) f = clause_with_id id f.clauses
