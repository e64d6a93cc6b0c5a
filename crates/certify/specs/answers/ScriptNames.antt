-- The state after the commands of a script, in as few definitions as possible. A law states that it agrees with that of
-- `sat_base`.
use Rattle.std.specs.Prelude.{ℕ, zero, suc, ◌+◌, ◌-◌, ◌==◌, ◌≡◌, max, Bool, true, false, not, Option, Some, None, List, [], ◌∷◌, map, nat_lt, is_some, unwrap_or, ◌&&◌, if◌then◌else◌}
use Rattle.std.specs.List.{filter, AllByRecursion}
use Rattle.sat_base.specs.values.Literals.{mk_lit, var_limit}
use Rattle.sat_base.specs.values.Clauses.{Valuation, AllLitsTrue, AllClausesTrue}
use Rattle.sat_base.specs.script.Script.{Literal, Command, Clause, Ask, Hide, Witness, Sample, names_of, Among, AreSortedLiterals}
use Rattle.sat_base.specs.script.ScriptState.{Refusal, PastLimit, WitnessName, names_from}
use Rattle.sat_checker.specs.matching.Expected.{Outcome, Sat, Unsat, Unknown}

-- A name in use: the identity of its variable, which is a number that is never reused, and whether its mode is witness.
-- A clause or an ask with a name of mode witness is refused. Nothing else depends on modes, in particular no model and
-- no core.
pub record Named : Type 0 where
  pub name : ℕ
  pub identity : ℕ
  pub witness : Bool

-- The state of a script between two commands. Every name in use refers to one variable, given by its identity. Hiding a
-- name frees it; when the name is next used, it gets a new variable with a new identity. Clauses keep the old identity.
pub record ScriptState : Type 0 where
  pub first_unused : ℕ  -- the lowest name never used
  pub in_use : List Named  -- in increasing order of name
  pub identity_count : ℕ  -- the number of variables so far, including hidden ones; the next identity
  pub clauses : List (List ℕ)  -- the accepted clauses, newest first; a literal is twice its identity, plus 1 if negated

-- the state before the first command
abbrev pub initial_state : ScriptState
initial_state = record { first_unused = 1; in_use = []; identity_count = 0; clauses = [] }

-- the identity of a name in a list of names in use, or `None` if the name is not in the list
abbrev pub identity_in : List Named → ℕ → Option ℕ
identity_in [] name = None
identity_in (n ∷ ns) name = if n.name == name then Some n.identity else identity_in ns name

-- the list with `new` inserted, in increasing order of name
abbrev pub insert_by_name : Named → List Named → List Named
insert_by_name new [] = new ∷ []
insert_by_name new (n ∷ ns) = if nat_lt n.name new.name then n ∷ insert_by_name new ns else new ∷ n ∷ ns

-- the state after `name` gets a new variable; its mode is not witness
abbrev pub with_name : ℕ → ScriptState → ScriptState
with_name name state = record {
  first_unused = max state.first_unused (name + 1);
  in_use = insert_by_name (record { name = name; identity = state.identity_count; witness = false }) state.in_use;
  identity_count = state.identity_count + 1;
  clauses = state.clauses;
}

-- The names that get a new variable when `name` is used: none if `name` is in use, and only `name` if it is hidden. If
-- `name` was never used, it and all smaller names that were never used get one. So a first clause `5 0` introduces 1 to
-- 5.
abbrev pub new_names : ℕ → ScriptState → List ℕ
new_names name state =
    if nat_lt name state.first_unused
    then (if is_some (identity_in state.in_use name) then [] else name ∷ [])
    else names_from (name + 1 - state.first_unused) state.first_unused

-- the state after `f` is applied for each of these names, from left to right
abbrev pub for_each : (ℕ → ScriptState → ScriptState) → List ℕ → ScriptState → ScriptState
for_each f [] state = state
for_each f (name ∷ names) state = for_each f names (f name state)

-- the state after `name` is introduced: all of its `new_names` are then in use
abbrev pub introduce : ℕ → ScriptState → ScriptState
introduce name state = for_each with_name (new_names name state) state

-- the state after `name` is hidden: it is no longer in use, and clauses keep its variable
abbrev pub without_name : ℕ → ScriptState → ScriptState
without_name name state = record state { in_use = filter (λ n. not (n.name == name)) state.in_use }

-- the list in which the mode of `name` is witness, or, if `witness` is false, is not
abbrev pub set_witness : Bool → ℕ → List Named → List Named
set_witness witness name [] = []
set_witness witness name (n ∷ ns) = if n.name == name then record n { witness = witness } ∷ ns else n ∷ set_witness witness name ns

-- the state in which the mode of `name` is witness, or, if `witness` is false, is not
abbrev pub with_mode : Bool → ℕ → ScriptState → ScriptState
with_mode witness name state = record state { in_use = set_witness witness name state.in_use }

-- The literal with its variable's identity instead of its name. The default 0 is never needed, because the name is
-- always in use: an ask and a clause introduce their names first, a model lists the names in use, and a core consists
-- of literals of the ask.
abbrev pub identity_lit : ScriptState → Literal → ℕ
identity_lit state l = mk_lit (unwrap_or (identity_in state.in_use l.name) 0) l.positive

-- the state with one more clause, all of whose names are in use
abbrev pub with_clause : List Literal → ScriptState → ScriptState
with_clause ls state = record state { clauses = map (identity_lit state) ls ∷ state.clauses }

-- The state after an accepted command. `Clause` and `Ask` introduce their names from left to right; `Clause` then adds
-- the clause. `Hide`, `Witness` and `Sample` process one name at a time: they introduce it, then hide it or set its
-- mode.
abbrev pub state_after_accepted : Command → ScriptState → ScriptState
state_after_accepted (Clause ls) state = with_clause ls (for_each introduce (names_of ls) state)
state_after_accepted (Ask ls) state = for_each introduce (names_of ls) state
state_after_accepted (Hide names) state = for_each (λ name s. without_name name (introduce name s)) names state
state_after_accepted (Witness names) state = for_each (λ name s. with_mode true name (introduce name s)) names state
state_after_accepted (Sample names) state = for_each (λ name s. with_mode false name (introduce name s)) names state

-- `is_witness names name` is true if the name is in the list, and its mode is witness.
abbrev pub is_witness : List Named → ℕ → Bool
is_witness [] name = false
is_witness (n ∷ ns) name = if n.name == name then n.witness else is_witness ns name

-- Why a command with these names is refused, or `None`. The leftmost name that is past the limit, or whose mode is
-- witness, determines the reason. If `may_witness` is true, modes are ignored.
abbrev pub first_refusal : Bool → ScriptState → List ℕ → Option Refusal
first_refusal may_witness state [] = None
first_refusal may_witness state (name ∷ names) =
    if nat_lt var_limit name then Some PastLimit
    else (if not may_witness && is_witness state.in_use name then Some (WitnessName name) else first_refusal may_witness state names)

-- Why a command is refused, or `None` if it is accepted. Only a clause or an ask is refused because the mode of a name
-- is witness.
abbrev pub refusal_of : ScriptState → Command → Option Refusal
refusal_of state (Clause ls) = first_refusal false state (names_of ls)
refusal_of state (Ask ls) = first_refusal false state (names_of ls)
refusal_of state (Hide names) = first_refusal true state names
refusal_of state (Witness names) = first_refusal true state names
refusal_of state (Sample names) = first_refusal true state names

-- the state after a command, which is unchanged if the command is refused
abbrev pub after_command : Command → ScriptState → ScriptState
after_command command state = if is_some (refusal_of state command) then state else state_after_accepted command state

-- `IsRightModel state ask line` holds if `line` is a correct model of `ask`. `state` is the state after the names of
-- `ask` were introduced.
pub record IsRightModel (state : ScriptState) (ask line : List Literal) : Type 0 where
  -- `line` has one literal for every name in use, in increasing order
  pub names : names_of line ≡ map (λ n. n.name) state.in_use
  -- some valuation that agrees with `line` satisfies the accepted clauses and the literals of `ask`
  pub valuation : Valuation
  pub agrees : AllLitsTrue valuation (map (identity_lit state) line)
  pub clauses : AllClausesTrue valuation state.clauses
  pub asked : AllLitsTrue valuation (map (identity_lit state) ask)

-- `IsRightCore state ask core` holds if `core` is a correct core of `ask`: some of its literals, sorted and without
-- repeats, that cannot all be true if the accepted clauses hold. It need not be minimal. `state` is the state after the
-- names of `ask` were introduced.
pub record IsRightCore (state : ScriptState) (ask core : List Literal) : Type 0 where
  pub order : AreSortedLiterals core
  pub among : AllByRecursion (λ l. Among l ask) core
  -- no valuation satisfies both the core and the accepted clauses
  pub none : (a : Valuation) → AllLitsTrue a (map (identity_lit state) core) → AllClausesTrue a state.clauses → ⊥

-- `IsRight state ask o` holds if `o` is a correct outcome of `ask`; unknown always is. `state` is the state after the
-- names of `ask` were introduced.
abbrev pub IsRight : ScriptState → List Literal → Outcome → Type 0
IsRight state ask (Sat line) = IsRightModel state ask line
IsRight state ask (Unsat core) = IsRightCore state ask core
IsRight state ask Unknown = Unit {0}
