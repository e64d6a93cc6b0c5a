-- The state after the commands of a script: names, their variables, modes and clauses. No result of a search is part of
-- it.
use Rattle.std.specs.Prelude.{ℕ, zero, suc, ◌+◌, ◌-◌, ◌==◌, ◌≡◌, max, Bool, true, false, not, Option, Some, None, List, [], ◌∷◌, ◌++◌, map, set, get_or, nat_lt, is_some, unwrap_or, ◌&&◌, if◌then◌else◌}
use Rattle.std.specs.List.{filter, AllByRecursion}
use Rattle.sat_base.specs.values.Literals.{mk_lit, var_limit}
use Rattle.sat_base.specs.values.Clauses.{Valuation, AllLitsTrue, AllClausesTrue}
use Rattle.sat_base.specs.script.Script.{Literal, Command, Clause, Ask, Hide, Witness, Sample, names_of, Among, AreSortedLiterals}

-- The mode of a variable. A new variable has mode sample; `w` and `s` change its mode. A clause or an ask that contains
-- a variable of mode witness is refused. Nothing else depends on modes, in particular no model and no core.
pub data NameMode : Type 0 where
  Sampled : NameMode
  Witnessed : NameMode

-- a name in use, and the identity of its variable, which is a number that is never reused
pub record Named : Type 0 where
  pub name : ℕ
  pub identity : ℕ

-- The state of a script between two commands. Every name in use refers to one variable, given by its identity. Hiding a
-- name frees it; when the name is next used, it gets a new variable with a new identity. Clauses keep the old identity.
pub record ScriptState : Type 0 where
  pub first_unused : ℕ  -- the lowest name never used
  pub in_use : List Named  -- in increasing order of name
  pub modes : List NameMode  -- the mode of every identity, in order
  pub identity_count : ℕ
  pub clauses : List (List ℕ)  -- the accepted clauses, newest first; a literal is twice its identity, plus 1 if negated

-- the state before the first command
abbrev pub initial_state : ScriptState
initial_state = record { first_unused = 1; in_use = []; modes = []; identity_count = 0; clauses = [] }

-- the identity of a name in a list of names in use, or `None` if the name is not in the list
abbrev pub identity_in : List Named → ℕ → Option ℕ
identity_in [] name = None
identity_in (n ∷ ns) name = if n.name == name then Some n.identity else identity_in ns name

-- the identity of the variable that has this name now, or `None` if the name is not in use
abbrev pub identity_of : ScriptState → ℕ → Option ℕ
identity_of j name = identity_in j.in_use name

-- the list with `new` inserted, in increasing order of name
abbrev pub insert_by_name : Named → List Named → List Named
insert_by_name new [] = new ∷ []
insert_by_name new (n ∷ ns) = if nat_lt n.name new.name then n ∷ insert_by_name new ns else new ∷ n ∷ ns

-- the state after `name` gets a new variable, of mode sample
abbrev pub with_name : ℕ → ScriptState → ScriptState
with_name name j = record {
  first_unused = max j.first_unused (name + 1);
  in_use = insert_by_name (record { name = name; identity = j.identity_count }) j.in_use;
  modes = j.modes ++ Sampled ∷ [];
  identity_count = j.identity_count + 1;
  clauses = j.clauses;
}

-- `count` consecutive names, starting with `name`
abbrev pub names_from : ℕ → ℕ → List ℕ
names_from zero name = []
names_from (suc count) name = name ∷ names_from count (name + 1)

-- The names that get a new variable when `name` is used: none if `name` is in use, and only `name` if it is hidden. If
-- `name` was never used, it and all smaller names that were never used get one. So a first clause `5 0` introduces 1 to
-- 5.
abbrev pub new_names : ℕ → ScriptState → List ℕ
new_names name j =
    if nat_lt name j.first_unused
    then (if is_some (identity_of j name) then [] else name ∷ [])
    else names_from (name + 1 - j.first_unused) j.first_unused

-- the state after `f` is applied for each of the names, from left to right
abbrev pub for_each : (ℕ → ScriptState → ScriptState) → List ℕ → ScriptState → ScriptState
for_each f [] j = j
for_each f (name ∷ names) j = for_each f names (f name j)

-- the state after `name` was introduced: if it was not in use, it has a new variable; so have smaller names that were
-- never used, if it was never used itself
abbrev pub introduce : ℕ → ScriptState → ScriptState
introduce name j = for_each with_name (new_names name j) j

-- the state after `name` is hidden: it is no longer in use
abbrev pub without_name : ℕ → ScriptState → ScriptState
without_name name j = record j { in_use = filter (λ n. not (n.name == name)) j.in_use }

-- The literal with its variable's identity instead of its name. The default 0 is never needed, because the name is
-- always in use. An ask and a clause introduce their names first. A model lists the names in use, and a core consists
-- of literals of the ask. Law `judge_laws` states this (`NamesAreInUse`).
abbrev pub identity_lit : ScriptState → Literal → ℕ
identity_lit j l = mk_lit (unwrap_or (identity_of j l.name) 0) l.positive

-- the state after the variable of `name`, which is in use, gets this mode
abbrev pub with_mode : NameMode → ℕ → ScriptState → ScriptState
with_mode mode name j = record j { modes = set j.modes (unwrap_or (identity_of j name) 0) mode }

-- the state with the clause `ls`, all of whose names must be in use, added as the newest
abbrev pub with_clause : List Literal → ScriptState → ScriptState
with_clause ls j = record j { clauses = map (identity_lit j) ls ∷ j.clauses }

-- The state after an accepted command. `Clause` and `Ask` introduce their names from left to right; `Clause` then adds
-- the clause. `Hide`, `Witness` and `Sample` process one name at a time: they introduce it, then hide it or set its
-- variable's mode.
abbrev pub state_after_accepted : Command → ScriptState → ScriptState
state_after_accepted (Clause ls) j = with_clause ls (for_each introduce (names_of ls) j)
state_after_accepted (Ask ls) j = for_each introduce (names_of ls) j
state_after_accepted (Hide names) j = for_each (λ name i. without_name name (introduce name i)) names j
state_after_accepted (Witness names) j = for_each (λ name i. with_mode Witnessed name (introduce name i)) names j
state_after_accepted (Sample names) j = for_each (λ name i. with_mode Sampled name (introduce name i)) names j

-- why a command is refused: a name is past the limit, or the mode of this name is witness
pub data Refusal : Type 0 where
  PastLimit : Refusal
  WitnessName : ℕ → Refusal

-- `is_witness mode` is true if the mode is witness, so that a clause or an ask with a variable of this mode is refused.
abbrev pub is_witness : NameMode → Bool
is_witness Sampled = false
is_witness Witnessed = true

-- `has_witness j identity` is true if there is an identity, and the mode of its variable is witness.
abbrev pub has_witness : ScriptState → Option ℕ → Bool
has_witness j None = false
has_witness j (Some identity) = is_witness (get_or j.modes identity Sampled)

-- Why a command with these names is refused, or `None`. The leftmost name that is past the limit, or whose mode is
-- witness, determines the reason. If `may_witness` is true, modes are ignored. A name that is not in use has no mode.
abbrev pub first_refusal : Bool → ScriptState → List ℕ → Option Refusal
first_refusal may_witness j [] = None
first_refusal may_witness j (name ∷ names) =
    if nat_lt var_limit name then Some PastLimit
    else (if not may_witness && has_witness j (identity_of j name) then Some (WitnessName name) else first_refusal may_witness j names)

-- Why a command is refused, or `None` if it is accepted. Only a clause or an ask is refused because the mode of a name
-- is witness.
abbrev pub refusal_of : ScriptState → Command → Option Refusal
refusal_of j (Clause ls) = first_refusal false j (names_of ls)
refusal_of j (Ask ls) = first_refusal false j (names_of ls)
refusal_of j (Hide names) = first_refusal true j names
refusal_of j (Witness names) = first_refusal true j names
refusal_of j (Sample names) = first_refusal true j names

-- the state after a command, which is unchanged if the command is refused
abbrev pub after_command : Command → ScriptState → ScriptState
after_command command j = if is_some (refusal_of j command) then j else state_after_accepted command j

-- the state after these commands, from left to right
abbrev pub after_script : List Command → ScriptState → ScriptState
after_script [] j = j
after_script (command ∷ commands) j = after_script commands (after_command command j)

-- the accepted commands, in order
abbrev pub accepted_commands : ScriptState → List Command → List Command
accepted_commands j [] = []
accepted_commands j (command ∷ commands) =
    if is_some (refusal_of j command) then accepted_commands j commands else command ∷ accepted_commands (state_after_accepted command j) commands

-- `IsRightModel j ask line` holds if `line` is a correct model of `ask`: it has one literal for each name in use, by
-- increasing name, and some valuation that agrees with it satisfies the accepted clauses and the literals of `ask`. `j`
-- is the state after the names of `ask` were introduced.
pub record IsRightModel (j : ScriptState) (ask line : List Literal) : Type 0 where
  -- `line` has one literal for every name in use, in increasing order
  pub names : names_of line ≡ map (λ n. n.name) j.in_use
  -- some valuation that agrees with `line` satisfies the accepted clauses and the literals of `ask`
  pub valuation : Valuation
  pub agrees : AllLitsTrue valuation (map (identity_lit j) line)
  pub clauses : AllClausesTrue valuation j.clauses
  pub asked : AllLitsTrue valuation (map (identity_lit j) ask)

-- `IsRightCore j ask core` holds if `core` is a correct core of `ask`: some of its literals, sorted and without
-- repeats, that cannot all be true if the accepted clauses hold; not necessarily minimal. `j` is the state after the
-- names of `ask` were introduced.
pub record IsRightCore (j : ScriptState) (ask core : List Literal) : Type 0 where
  pub order : AreSortedLiterals core
  pub among : AllByRecursion (λ l. Among l ask) core
  -- no valuation satisfies both the core and the accepted clauses
  pub none : (a : Valuation) → AllLitsTrue a (map (identity_lit j) core) → AllClausesTrue a j.clauses → ⊥

-- Further definitions that laws and dependent crates use:

-- the state after every one of these names gets a new variable, from left to right
abbrev pub with_names : List ℕ → ScriptState → ScriptState
with_names names j = for_each with_name names j

-- the state after these names are introduced, from left to right
abbrev pub introduce_all : List ℕ → ScriptState → ScriptState
introduce_all names j = for_each introduce names j

-- the state after these names are introduced and hidden, one by one
abbrev pub hide_all : List ℕ → ScriptState → ScriptState
hide_all names j = for_each (λ name i. without_name name (introduce name i)) names j

-- the state after these names are introduced and the modes of their variables are set, one by one
abbrev pub set_mode_all : NameMode → List ℕ → ScriptState → ScriptState
set_mode_all mode names j = for_each (λ name i. with_mode mode name (introduce name i)) names j

-- why a clause or an ask with these names is refused, or `None`
abbrev pub refusal_of_names : ScriptState → List ℕ → Option Refusal
refusal_of_names j names = first_refusal false j names
