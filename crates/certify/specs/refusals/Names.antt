-- How a table of names and modes represents a script state.
use Rattle.std.specs.Prelude.{ℕ, suc, zero, ◌+◌, ◌≤◌, ◌<◌, ◌≡◌, Bool, true, false, Option, Some, None, List, [], ◌∷◌, ◌++◌, length, get_or, if◌then◌else◌}
use Rattle.std.specs.List.{AllByRecursion}
use Rattle.sat_base.specs.values.Literals.{var_limit}
use Rattle.sat_base.specs.values.Tables.{value_at}
use Rattle.sat_base.specs.declared.table.Table.{Table}
use Rattle.sat_base.specs.script.Script.{Command, names_of}
use Rattle.certify.specs.answers.AnswerForms.{named_literals}
use Rattle.sat_base.specs.script.ScriptState.{ScriptState, NameMode, Sampled, Witnessed, identity_of, introduce, new_names, without_name, with_mode, Refusal, PastLimit, WitnessName, refusal_of}
use Rattle.sat_base.specs.script.Language.{Kind, OfClause, OfAsk, OfHide, OfWitness, OfSample}
use Rattle.certify.specs.script.Commands.{RepresentsCommand}
use Rattle.certify.specs.declared.script.Command.{Command as Lent}
use Rattle.certify.specs.declared.refusals.NameState.{NameState}
use Rattle.certify.specs.declared.refusals.NameState.TheVariants as state
use Rattle.certify.specs.declared.refusals.Refusal.{Refusal as CodeRefusal}
use Rattle.certify.specs.declared.refusals.Refusal.TheVariants as code
use Rattle.certify.specs.declared.refusals.names.Names.{Names}

-- the state of a name (hidden, or in use with its mode), in a list that begins with name 1; a name that is not in the
-- list is hidden
abbrev pub name_state_in : List NameState → ℕ → NameState
name_state_in states zero = state.Hidden
name_state_in states (suc index) = get_or states index state.Hidden

-- the state of a name in use, given its mode: sampled or witnessed
abbrev pub state_of_mode : NameMode → NameState
state_of_mode Sampled = state.Sampled
state_of_mode Witnessed = state.Witnessed

-- the state of a name with this identity: its mode in `modes`, which are indexed by identity; a name without identity
-- (`None`) is hidden
abbrev pub state_of_identity : List NameMode → Option ℕ → NameState
state_of_identity modes None = state.Hidden
state_of_identity modes (Some identity) = state_of_mode (get_or modes identity Sampled)

-- the states of the first `n` names, starting with name 1, in a table that is indexed from 0
abbrev pub first_states : Table NameState → ℕ → List NameState
first_states states zero = []
first_states states (suc n) = first_states states n ++ value_at state.Sampled states n ∷ []

-- the states of all names that were ever used, starting with name 1
abbrev pub states_of : Names → List NameState
states_of names = first_states names.states names.used

-- `UnusedHaveDefaultState names` holds if the table still has its default entry, `Sampled`, for every name that was
-- never used.
abbrev pub UnusedHaveDefaultState : Names → Type 0
UnusedHaveDefaultState names = (v : ℕ) → names.used ≤ v → value_at state.Sampled names.states v ≡ state.Sampled

-- `NamesHaveState names j` holds if the table `names` has the names in use and the modes of the script state `j`, and
-- no name ever used is past the limit. Each name in use has an identity of its own.
pub record NamesHaveState (names : Names) (j : ScriptState) : Type 0 where
  pub first : j.first_unused ≡ names.used + 1
  pub limit : j.first_unused ≤ var_limit + 1
  pub each : (name : ℕ) → state_of_identity j.modes (identity_of j name) ≡ name_state_in (states_of names) name
  pub fresh : UnusedHaveDefaultState names
  -- each name in use has an identity of its own, which has a mode
  pub given : AllByRecursion (λ n. n.identity < j.identity_count) j.in_use
  pub modes : length j.modes ≡ j.identity_count
  pub apart : (m n i : ℕ) → identity_of j m ≡ Some i → identity_of j n ≡ Some i → m ≡ n

-- `is_hidden state` is true if a name in this state is not in use.
abbrev pub is_hidden : NameState → Bool
is_hidden state.Hidden = true
is_hidden state.Sampled = false
is_hidden state.Witnessed = false

-- the names in use, in increasing order, given the states of all names from `name` on
abbrev pub names_in_use_from : ℕ → List NameState → List ℕ
names_in_use_from name [] = []
names_in_use_from name (s ∷ ss) = if is_hidden s then names_in_use_from (name + 1) ss else name ∷ names_in_use_from (name + 1) ss

-- the names in use, in increasing order, given the states of all names from 1 on
abbrev pub names_in_use : List NameState → List ℕ
names_in_use states = names_in_use_from 1 states

-- `ListsNamesInUse names codes` holds if the literals with these codes, of either sign, have exactly the names in use,
-- one for each, in increasing order.
abbrev pub ListsNamesInUse : Names → List ℕ → Type 0
ListsNamesInUse names codes = names_of (named_literals codes) ≡ names_in_use (states_of names)

-- the refusal that the code's value represents; names are counted from 0 in the code, and from 1 here
abbrev pub refusal_of_code : CodeRefusal → Refusal
refusal_of_code code.Limit = PastLimit
refusal_of_code (code.Witness v) = WitnessName (v + 1)

-- the refusal that the code's value represents, or `None` if the command is accepted
abbrev pub refusal_of_option : Option CodeRefusal → Option Refusal
refusal_of_option None = None
refusal_of_option (Some refusal) = Some (refusal_of_code refusal)

-- `ReportsRefusal refusal names lent` holds if `refusal` is why the command that `lent` represents is refused in the
-- script state of the table `names`, or `None` if it is accepted.
abbrev pub ReportsRefusal : Option CodeRefusal → Names → Lent → Type 0
ReportsRefusal refusal names lent = (j : ScriptState) (c : Command) → NamesHaveState names j → RepresentsCommand lent c → refusal_of_option refusal ≡ refusal_of j c

-- the refusal of a command if one of its names is past the limit (`true`), otherwise `None`
abbrev pub limit_refusal : Bool → Option CodeRefusal
limit_refusal false = None
limit_refusal true = Some code.Limit

-- `is_witnessed state` is true if a name in this state is in use, with mode witness.
abbrev pub is_witnessed : NameState → Bool
is_witnessed state.Hidden = false
is_witnessed state.Sampled = false
is_witnessed state.Witnessed = true

-- `IsInUse names name` holds if the name is in use in the table `names`: it was introduced, and is not hidden.
abbrev pub IsInUse : Names → ℕ → Type 0
IsInUse names name = name_state_in (states_of names) name ≡ state.Hidden → ⊥

-- `IsIntroduced old new name` holds if the name is in use in the table `new`, provided that the table `old` has the
-- state of some script (`NamesHaveState`).
abbrev pub IsIntroduced : (old new : Names) → ℕ → Type 0
IsIntroduced old new name = (j : ScriptState) → NamesHaveState old j → IsInUse new name

-- the script state after a name in use is hidden, or gets the mode sample or witness
abbrev pub with_name_state : NameState → ℕ → ScriptState → ScriptState
with_name_state state.Hidden name j = without_name name j
with_name_state state.Sampled name j = with_mode Sampled name j
with_name_state state.Witnessed name j = with_mode Witnessed name j

-- the script state after a command of this kind has processed one of its names, which is in use: `h` hides the name,
-- `w` and `s` set its mode, and a clause or an ask changes nothing
abbrev pub state_after_used_name : Kind → ℕ → ScriptState → ScriptState
state_after_used_name OfClause name j = j
state_after_used_name OfAsk name j = j
state_after_used_name OfHide name j = without_name name j
state_after_used_name OfWitness name j = with_mode Witnessed name j
state_after_used_name OfSample name j = with_mode Sampled name j

-- the script state after a command of this kind has introduced one of its names, and hidden it or set its mode if the
-- kind is `h`, `w` or `s`
abbrev pub state_after_name : Kind → ℕ → ScriptState → ScriptState
state_after_name kind name j = state_after_used_name kind name (introduce name j)

-- `NamesChangeBy old new change` holds if, whenever the table `old` represents a script state, the table `new`
-- represents that state after `change`.
abbrev pub NamesChangeBy : Names → Names → (ScriptState → ScriptState) → Type 0
NamesChangeBy old new change = (j : ScriptState) → NamesHaveState old j → NamesHaveState new (change j)

-- `has_literals kind` is true if a command of this kind is a clause or an ask, which has literals and only introduces
-- names.
abbrev pub has_literals : Kind → Bool
has_literals OfClause = true
has_literals OfAsk = true
has_literals OfHide = false
has_literals OfWitness = false
has_literals OfSample = false

-- `IntroducesNothing kind list names` holds if a command of this kind is a clause or an ask, and using the names in
-- `list` would introduce no name: all of them are in use in the table `names`.
pub record IntroducesNothing (kind : Kind) (list : List ℕ) (names : Names) : Type 0 where
  pub of_literals : has_literals kind ≡ true
  pub known : (j : ScriptState) → NamesHaveState names j → AllByRecursion (λ name. new_names name j ≡ []) list
