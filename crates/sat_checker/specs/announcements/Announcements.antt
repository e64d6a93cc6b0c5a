-- What the checker announces. Lists of steps have the newest first, lists of announcements the oldest.
use Rattle.std.specs.Prelude.{ℕ, ◌==◌, nat_lt, Bool, true, false, not, ◌&&◌, List, [], ◌∷◌, ◌++◌, map, Option, None, Some, if◌then◌else◌}
use Rattle.sat_base.specs.values.Literals.{negated}
use Rattle.sat_base.specs.steps.Steps.{Step, Redundant, Simplified, Satisfied}
use Rattle.sat_base.specs.steps.Steps as steps
use Rattle.sat_checker.specs.LiteralSets.{is_tautology, canonical}
use Rattle.sat_checker.specs.Stored.{StoredClause, Mode, Sample, Witness, Hide, Variable, LastIrredundant, NoneYet, Empty, UnitClause, LongClause, Stored}
use Rattle.sat_checker.specs.Storing.{clause_with, unit_id, with_unit}
use Rattle.sat_checker.specs.Accepts.{stored_after, ready_after}
use Rattle.sat_checker.specs.announcements.Needed.{satisfying_unit, propagations}

-- What is announced about a variable that has a name: the index of the name, whether its mode is sample, and whether
-- the variable was unknown before.
pub record UserVariable : Type 0 where
  pub name : ℕ
  pub sampling : Bool  -- false is witness
  pub is_new : Bool

-- An announcement. Clauses and cores are sorted sets. Propagations are the ids of the units and clauses from which a
-- clause follows.
pub data Announcement : Type 0 where
  UserVar : ℕ → Option UserVariable → Announcement  -- a variable, and its name or none
  DeleteVar : ℕ → Announcement  -- its unit is forgotten
  AddClause : ℕ → List ℕ → Announcement
  DuplicatedClause : ℕ → ℕ → List ℕ → Announcement  -- its id, the id of the equal clause, the clause
  TautologicalClause : ℕ → List ℕ → Announcement
  AtClause : ℕ → Bool → List ℕ → List ℕ → Announcement  -- its id, whether it is redundant, the clause, propagations
  MakeIrredundant : ℕ → List ℕ → Announcement
  DeleteClause : ℕ → List ℕ → Announcement
  DeleteAtClause : ℕ → Bool → List ℕ → List ℕ → Announcement  -- its id, whether it is kept as redundant, the clause, propagations
  DeleteRatClause : ℕ → Bool → List ℕ → Announcement  -- never made
  Model : List ℕ → Announcement
  Assumptions : List ℕ → Announcement
  FailedAssumptions : List ℕ → List ℕ → Announcement  -- the core, propagations

-- `is_sample mode` is true if a variable of this mode is announced as a sampling one.
abbrev pub is_sample : Mode → Bool
is_sample Sample = true
is_sample Witness = false
is_sample Hide = false

-- `has_witness_mode mode` is true if the mode is witness; the mode of a hidden variable is not.
abbrev pub has_witness_mode : Mode → Bool
has_witness_mode Sample = false
has_witness_mode Witness = true
has_witness_mode Hide = false

-- The announcement that variable `v`, with the data `x` so far, gets the name `name`. The variable is announced as new
-- if it was not known.
abbrev pub announced_name : ℕ → ℕ → Variable → List Announcement
announced_name v name x = UserVar v (Some (record { name = name; sampling = is_sample x.mode; is_new = not x.known })) ∷ []

-- The announcement that variable `v`, with the data `x` so far, gets this name, or that its name is removed (`None`).
abbrev pub announced_name_change : ℕ → Option ℕ → Variable → List Announcement
announced_name_change v (Some name) x = announced_name v name x
announced_name_change v None x = UserVar v None ∷ []

-- The announcement that the mode of variable `v` is set to sample (`sampling` true) or witness (false). There is none
-- if the variable has no name, or if `mode`, its mode so far, is that already.
abbrev pub announced_mode_change : ℕ → Bool → Mode → Option ℕ → List Announcement
announced_mode_change v sampling mode None = []
announced_mode_change v sampling mode (Some name) =
    if (if sampling then is_sample mode else has_witness_mode mode) then [] else UserVar v (Some (record { name = name; sampling = sampling; is_new = false })) ∷ []

-- The id of a stored clause, or `None` if there is no clause.
abbrev pub id_of : Option StoredClause → Option ℕ
id_of None = None
id_of (Some c) = Some c.id

-- The id under which `f` stores a sorted set, as a unit or as a longer clause, or `None`. An empty clause never counts
-- as stored.
abbrev pub id_of_set : List ℕ → Stored → Option ℕ
id_of_set [] f = None
id_of_set (l ∷ []) f = unit_id l f.units
id_of_set (l ∷ m ∷ ls) f = id_of (clause_with (l ∷ m ∷ ls) f.clauses)

-- The announcement of an input clause, a sorted set, under this id: as added if the last argument is `None`, otherwise
-- as a duplicate of the stored clause with the id that it gives.
abbrev pub announced_input_set : ℕ → List ℕ → Option ℕ → List Announcement
announced_input_set id literals None = AddClause id literals ∷ []
announced_input_set id literals (Some same) = DuplicatedClause id same literals ∷ []

-- The announcement of an input clause when `f` is stored: as a tautology, as a duplicate of a stored clause or unit, or
-- as added, in each case under the next id and as a sorted set.
abbrev pub announced_input : List ℕ → Stored → List Announcement
announced_input clause f =
    let literals : List ℕ = canonical clause in if is_tautology clause then TautologicalClause f.next_id literals ∷ [] else announced_input_set f.next_id literals (id_of_set literals f)

-- `is_only_redundant clause` is true if the clause is stored, and only as redundant.
abbrev pub is_only_redundant : Option StoredClause → Bool
is_only_redundant None = false
is_only_redundant (Some c) = c.irredundant == 0

-- The announcement of a derived sorted set: as derived from `ids` if it is new (the last argument, its stored id, is
-- `None`); as made irredundant if it was stored only as redundant and `redundant` is false; otherwise none.
abbrev pub announced_derived_set : Bool → List ℕ → List ℕ → Stored → Option ℕ → List Announcement
announced_derived_set redundant literals ids f None = AtClause f.next_id redundant literals ids ∷ []
announced_derived_set redundant literals ids f (Some id) = if not redundant && is_only_redundant (clause_with literals f.clauses) then MakeIrredundant id literals ∷ [] else []

-- The announcement of a derived clause that passes the check under these hashes, when `f` is stored: it is new, or
-- becomes irredundant. Nothing is announced for a tautology, or if neither is so.
abbrev pub announced_derived : Bool → List ℕ → List ℕ → Stored → List Announcement
announced_derived redundant clause hashes f =
    let literals : List ℕ = canonical clause in if is_tautology clause then [] else announced_derived_set redundant literals (propagations f clause hashes) f (id_of_set literals f)

-- The announcements of derived units, each a literal and a hash, from left to right. Each is derived after the units
-- before it are stored.
abbrev pub announced_derived_units : List (ℕ × ℕ) → Stored → List Announcement
announced_derived_units [] f = []
announced_derived_units (u ∷ us) f = announced_derived false (u.0 ∷ []) (u.1 ∷ []) f ++ announced_derived_units us (with_unit u.0 f)

-- The announcement when a stored clause loses one redundant count: its deletion, if that was its only count of either
-- kind; otherwise none.
abbrev pub redundant_deletion : Option StoredClause → List Announcement
redundant_deletion None = []
redundant_deletion (Some c) = if c.irredundant == 0 && c.redundant == 1 then DeleteClause c.id c.literals ∷ [] else []

-- The announcement when a stored clause, which follows from `ids`, loses one irredundant count. If that was its only
-- one, the clause is deleted or, if it has a redundant count, kept as redundant; otherwise nothing is announced.
abbrev pub irredundant_deletion : List ℕ → Option StoredClause → List Announcement
irredundant_deletion ids None = []
irredundant_deletion ids (Some c) = if c.irredundant == 1 then DeleteAtClause c.id (nat_lt 0 c.redundant) c.literals ids ∷ [] else []

-- The list of only this id, or no id.
abbrev pub option_to_list : Option ℕ → List ℕ
option_to_list None = []
option_to_list (Some id) = id ∷ []

-- The id of the last irredundant clause stored, or `None`.
abbrev pub last_id : LastIrredundant → Option ℕ
last_id NoneYet = None
last_id (Empty id) = Some id
last_id (UnitClause id) = Some id
last_id (LongClause id) = Some id

-- The announcements of an accepted step when `f` is stored before it, if no unit conflict was pending.
abbrev pub announced : Stored → Step → List Announcement
announced f (steps.SolverVarName v name) = []
announced f (steps.UserVarName v user) = announced_name_change v user (f.variables v)
announced f (steps.DeleteVar v) = DeleteVar v ∷ []
announced f (steps.ChangeSamplingMode v sampling) = announced_mode_change v sampling (f.variables v).mode (f.variables v).name
-- once unsat is recorded, an input clause has no effect
announced f (steps.AddClause clause) = if f.unsat then [] else announced_input clause f
announced f (steps.AtClause redundant clause hashes) = announced_derived redundant clause hashes f
announced f (steps.UnitClauses us) = announced_derived_units us f
announced f (steps.DeleteClause clause Redundant) = redundant_deletion (clause_with (canonical clause) f.clauses)
announced f (steps.DeleteClause clause Satisfied) = irredundant_deletion (option_to_list (satisfying_unit (canonical clause) f.units)) (clause_with (canonical clause) f.clauses)
announced f (steps.DeleteClause clause Simplified) = irredundant_deletion (option_to_list (last_id f.last)) (clause_with (canonical clause) f.clauses)
announced f (steps.ChangeHashBits bits) = []
announced f (steps.Model ls) = Model ls ∷ []
announced f (steps.Assumptions ls) = Assumptions ls ∷ []
announced f (steps.FailedAssumptions core hashes) = FailedAssumptions (canonical core) (propagations f (map negated core) hashes) ∷ []
announced f steps.End = []

-- The announcement of the empty clause, under this id, that follows from the two units of this unit conflict; none for
-- `None`.
abbrev pub delayed_empty_clause : ℕ → Option (ℕ × ℕ) → List Announcement
delayed_empty_clause id None = []
delayed_empty_clause id (Some units) = AtClause id false [] (units.0 ∷ units.1 ∷ []) ∷ []

-- The announcement of the empty clause of a pending unit conflict, under the next id; none if no unit conflict is
-- pending.
abbrev pub delayed_announcement : Stored → List Announcement
delayed_announcement f = delayed_empty_clause f.next_id f.conflict

-- An announcement, and the variables that can be looked up during it: those from before the step.
pub record Notice : Type 0 where
  pub announcement : Announcement
  pub variables : ℕ → Variable

-- Announcements as notices: the variables that can be looked up during each are those of `f`.
abbrev pub notices_of : Stored → List Announcement → List Notice
notices_of f = map (λ a. record { announcement = a; variables = f.variables })

-- What is announced for accepted steps, the oldest announcement first. The empty clause of a unit conflict comes just
-- before the announcements of the next step, so it is missing while the conflict is pending.
abbrev pub notices_after : List Step → List Notice
notices_after [] = []
notices_after (step ∷ earlier) = notices_after earlier ++ notices_of (stored_after earlier) (delayed_announcement (stored_after earlier)) ++ notices_of (ready_after earlier) (announced (ready_after earlier) step)

-- All announcements of these steps, the oldest first, including at the end the empty clause of a pending unit conflict.
abbrev pub all_notices_after : List Step → List Notice
all_notices_after steps = notices_after steps ++ notices_of (stored_after steps) (delayed_announcement (stored_after steps))
