-- What the checker stores. A clause is a list of literal codes. Variables and names are given by their indices.
use Rattle.std.specs.Prelude.{ℕ, ◌+◌, ◌-◌, ◌*◌, ◌/◌, ◌%◌, ◌^◌, ◌==◌, ◌≡◌, ◌⊎◌, Bool, true, false, Option, None, unwrap_or, List, [], map, filter}
use Rattle.std.specs.List.{AllByRecursion}
use Rattle.sat_base.specs.values.Literals.{variable}
use Rattle.sat_base.specs.values.Clauses.{Valuation, clause_true, AllLitsTrue}
use Rattle.sat_base.specs.values.Hashes.{hash_of}
use Rattle.sat_checker.specs.LiteralSets.{is_among}

-- A clause of two or more literals, its id, and how often it is stored as irredundant and as redundant. The literals
-- are sorted, without repeats, and no tautology.
pub record StoredClause : Type 0 where
  pub id : ℕ
  pub literals : List ℕ
  pub irredundant : ℕ
  pub redundant : ℕ

-- A clause of one literal, under its id.
pub record StoredUnit : Type 0 where
  pub id : ℕ
  pub literal : ℕ

-- The mode of a variable: steps set sample and witness, and a variable whose name is removed is hidden.
pub data Mode : Type 0 where
  Sample : Mode
  Witness : Mode
  Hide : Mode

-- The data of a variable: whether it is known, its mode, and its user's name, if any.
pub record Variable : Type 0 where
  pub known : Bool
  pub mode : Mode
  pub name : Option ℕ

-- The initial data of every variable: not known, with mode sample, and without a name.
abbrev pub initial_variable : Variable
initial_variable = record { known = false; mode = Sample; name = None }

-- The last irredundant clause stored: none yet, or the id of an empty clause, a unit or a longer clause.
pub data LastIrredundant : Type 0 where
  NoneYet : LastIrredundant
  Empty : ℕ → LastIrredundant
  UnitClause : ℕ → LastIrredundant
  LongClause : ℕ → LastIrredundant

-- What is stored after accepted steps: clauses, units and variables, and some records.
pub record Stored : Type 0 where
  pub clauses : List StoredClause  -- in order of their ids
  pub units : List StoredUnit
  pub unsat : Bool
  pub conflict : Option (ℕ × ℕ)  -- the ids of a unit and of one that contradicts it, while the empty clause of their conflict has no id yet
  pub variables : ℕ → Variable
  pub solver_names : ℕ → Option ℕ  -- by variable, known or not
  pub width : ℕ  -- of the hashes that steps name, in bits
  pub assumed : List ℕ
  pub last : LastIrredundant
  pub next_id : ℕ
  pub ended : Bool
  pub var_deleted : Bool

-- What is stored before the first step.
abbrev pub nothing_stored : Stored
nothing_stored = record {
  clauses = [];
  units = [];
  unsat = false;
  conflict = None;
  variables = λ v. initial_variable;
  solver_names = λ v. None;
  width = 64;
  assumed = [];
  last = NoneYet;
  next_id = 0;
  ended = false;
  var_deleted = false;
}

-- `is_known v f` is true if a step made the variable known and no step has deleted it since.
abbrev pub is_known : ℕ → Stored → Bool
is_known v f = (f.variables v).known

-- The mode of a variable, initially sample.
abbrev pub mode_of : ℕ → Stored → Mode
mode_of v f = (f.variables v).mode

-- The user's name of a variable, or `None`.
abbrev pub name_of : ℕ → Stored → Option ℕ
name_of v f = (f.variables v).name

-- The literals stored as units, in order of their ids.
abbrev pub unit_literals : Stored → List ℕ
unit_literals f = map (λ u. u.literal) f.units

-- `is_unit f l` is true if the literal is a stored unit.
abbrev pub is_unit : Stored → ℕ → Bool
is_unit f = is_among (unit_literals f)

-- The literal `l` with its variable replaced by the variable's solver name, by `names`; `l` itself if there is none.
abbrev pub solver_literal : (ℕ → Option ℕ) → ℕ → ℕ
solver_literal names l = 2 * unwrap_or (names (variable l)) (variable l) + l % 2

-- The top `width` bits of the 64-bit hash of a clause whose variables are replaced by their solver names, by `names`.
abbrev pub clause_hash_by : (ℕ → Option ℕ) → ℕ → List ℕ → ℕ
clause_hash_by names width clause = hash_of (map (solver_literal names) clause) / 2 ^ (64 - width)

-- The literals of every stored clause of two or more literals, in order of ids.
abbrev pub long_clauses : Stored → List (List ℕ)
long_clauses f = map (λ c. c.literals) f.clauses

-- The bucket of a hash: the literals of all stored clauses of two or more literals that have this hash at the current
-- width, in order of ids.
abbrev pub bucket : Stored → ℕ → List (List ℕ)
bucket f hash = filter (λ c. clause_hash_by f.solver_names f.width c == hash) (long_clauses f)

-- `Satisfies f a` holds if the valuation satisfies every unit and every clause with an irredundant count, and unsat is
-- not recorded.
pub record Satisfies (f : Stored) (a : Valuation) : Type 0 where
  pub consistent : f.unsat ≡ false
  pub kept : AllByRecursion (λ c. (c.irredundant ≡ 0) ⊎ (clause_true a c.literals ≡ true)) f.clauses
  pub units : AllLitsTrue a (unit_literals f)
