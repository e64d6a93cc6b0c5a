-- The steps that the names of a command require.
use Rattle.std.specs.Prelude.{ℕ, ◌≡◌, Result, Ok, Err, List, [], ◌∷◌, ◌++◌, map}
use Rattle.sat_base.specs.script.Script.{Hide, Witness, Sample}
use Rattle.sat_base.specs.script.ScriptState.{ScriptState, Sampled, Witnessed, new_names, introduce_all, state_after_accepted}
use Rattle.sat_base.specs.steps.Steps.{Step}
use Rattle.sat_checker.specs.matching.Expected.{Expected, NewName, NoName, steps_introducing, steps_hiding, steps_setting_mode}
use Rattle.certify.specs.confirm.CertificatePlaces.{MeetsExactly, MeetsNoneOf}
use Rattle.certify.specs.confirm.CertificateStates.{CertificateState}
use Rattle.certify.specs.refusals.Names.{NamesHaveState, state_after_name}
use Rattle.certify.specs.confirm.Awaiting.{CheckerIsAt}
use Rattle.sat_base.specs.script.Language.{Kind, OfClause, OfAsk, OfHide, OfWitness, OfSample}
use Rattle.certify.specs.declared.refusals.names.Names.{Names}
use Rattle.certify.specs.declared.confirm.variables.NamedVars.{NamedVars}
use Rattle.certify.specs.declared.verdict.Why.{Why}

-- `MetBetween pending after old earlier new` holds if exactly the expected steps `pending` were met from `old`, after
-- the steps `earlier`, to `new`. Names then have the variables `after`.
pub record MetBetween (pending : List Expected) (after : NamedVars) (old : CertificateState) (earlier : List Step) (new : CertificateState) : Type 0 where
  pub later : List Step
  pub valid : CheckerIsAt new.checker after later
  pub leads : MeetsExactly earlier old.rest pending later new.rest

-- `MeetsAll pending before after old new result` holds if exactly the expected steps `pending` are met from `old` to
-- `new` or, with an error, cannot be. `before` and `after` are the variables of names in `old` and `new`.
abbrev pub MeetsAll : List Expected → NamedVars → NamedVars → CertificateState → CertificateState → Result (Unit {0}) Why → Type 0
MeetsAll pending before after old new (Ok x) = (earlier : List Step) → CheckerIsAt old.checker before earlier → MetBetween pending after old earlier new
MeetsAll pending before after old new (Err why) = (earlier : List Step) → CheckerIsAt old.checker before earlier → MeetsNoneOf earlier old.rest pending

-- the step that removes the name, if the command is of kind `OfHide`; otherwise no step
abbrev pub hiding_step_of : Kind → ℕ → List Expected
hiding_step_of OfClause name = []
hiding_step_of OfAsk name = []
hiding_step_of OfHide name = NoName name ∷ []
hiding_step_of OfWitness name = []
hiding_step_of OfSample name = []

-- the steps that a command of this kind expects for one of its names, in the state `j`: one for each name that gets a
-- new variable and, for `OfHide`, one that removes the name
abbrev pub expected_for_name : Kind → ℕ → ScriptState → List Expected
expected_for_name kind name j = map NewName (new_names name j) ++ hiding_step_of kind name

-- `MeetsName kind name names before after old new r` holds if the steps that a command of this kind expects for `name`
-- are met from `old` to `new` or, with an error, cannot be. `names` are the names and modes before; `before` and
-- `after` are the variables of names.
abbrev pub MeetsName : Kind → ℕ → Names → NamedVars → NamedVars → CertificateState → CertificateState → Result (Unit {0}) Why → Type 0
MeetsName kind name names before after old new r = (j : ScriptState) → NamesHaveState names j → MeetsAll (expected_for_name kind name j) before after old new r

-- the steps that a command of this kind expects for all of its names, from left to right; `j` is the state before the
-- first
abbrev pub expected_for_names : Kind → List ℕ → ScriptState → List Expected
expected_for_names kind [] j = []
expected_for_names kind (name ∷ names) j = expected_for_name kind name j ++ expected_for_names kind names (state_after_name kind name j)

-- `MeetsNames kind list names before after old new r` holds if the steps that a command of this kind expects for the
-- names `list` are met from `old` to `new` or, with an error, cannot be. `names` are the names and modes before;
-- `before` and `after` are the variables of names.
abbrev pub MeetsNames : Kind → List ℕ → Names → NamedVars → NamedVars → CertificateState → CertificateState → Result (Unit {0}) Why → Type 0
MeetsNames kind list names before after old new r = (j : ScriptState) → NamesHaveState names j → MeetsAll (expected_for_names kind list j) before after old new r

-- the state after a command of this kind has introduced and processed these names, from left to right; a clause is not
-- yet added
abbrev pub state_after_names : Kind → List ℕ → ScriptState → ScriptState
state_after_names kind [] j = j
state_after_names kind (name ∷ names) j = state_after_names kind names (state_after_name kind name j)

-- `NamesAreExpected` holds if `expected_for_names` is the list of steps that each kind of command expects for its
-- names, and `state_after_names` is the state after the command; for a clause or an ask, the state after its names are
-- introduced.
pub record NamesAreExpected : Type 0 where
  pub clauses : (names : List ℕ) (j : ScriptState) → expected_for_names OfClause names j ≡ steps_introducing names j
  pub asks : (names : List ℕ) (j : ScriptState) → expected_for_names OfAsk names j ≡ steps_introducing names j
  pub hides : (names : List ℕ) (j : ScriptState) → expected_for_names OfHide names j ≡ steps_hiding names j
  pub witnesses : (names : List ℕ) (j : ScriptState) → expected_for_names OfWitness names j ≡ steps_setting_mode Witnessed names j
  pub samples : (names : List ℕ) (j : ScriptState) → expected_for_names OfSample names j ≡ steps_setting_mode Sampled names j
  pub left_by_clause : (names : List ℕ) (j : ScriptState) → state_after_names OfClause names j ≡ introduce_all names j
  pub left_by_ask : (names : List ℕ) (j : ScriptState) → state_after_names OfAsk names j ≡ introduce_all names j
  pub left_by_hide : (names : List ℕ) (j : ScriptState) → state_after_names OfHide names j ≡ state_after_accepted (Hide names) j
  pub left_by_witness : (names : List ℕ) (j : ScriptState) → state_after_names OfWitness names j ≡ state_after_accepted (Witness names) j
  pub left_by_sample : (names : List ℕ) (j : ScriptState) → state_after_names OfSample names j ≡ state_after_accepted (Sample names) j
