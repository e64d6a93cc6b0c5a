-- The ordered steps that are expected for a script's commands and their outcomes, in terms of names.
use Rattle.std.specs.Prelude.{ℕ, ◌+◌, ◌≡◌, Bool, false, Option, Some, None, List, [], ◌∷◌, ◌++◌, map}
use Rattle.std.specs.List.{AllByRecursion}
use Rattle.sat_base.specs.values.Literals.{mk_lit}
use Rattle.sat_base.specs.script.Script.{Literal, Command, Clause, Ask, Hide, Witness, Sample, names_of, Among}
use Rattle.sat_base.specs.script.ScriptState.{ScriptState, NameMode, Sampled, Witnessed, new_names, introduce, without_name, with_mode, state_after_accepted}
use Rattle.sat_base.specs.steps.Steps.{Step, UserVarName, AddClause, Model, Assumptions, FailedAssumptions, End}
use Rattle.sat_checker.specs.matching.Checking.{variable_named}

-- The outcome of an ask.
pub data Outcome : Type 0 where
  Sat : List Literal → Outcome  -- with the literals of a model
  Unsat : List Literal → Outcome  -- with the literals of a core
  Unknown : Outcome

-- An ordered step that is expected, in terms of names.
pub data Expected : Type 0 where
  NewName : ℕ → Expected  -- a variable that is not known gets the name
  NoName : ℕ → Expected  -- the name is removed from its variable
  Adds : List Literal → Expected  -- a clause
  Opens : List Literal → Outcome → Expected  -- an ask, with its outcome
  Shows : List ℕ → List Literal → List Literal → Expected  -- a model: the names in use, the ask, the line
  Fails : List Literal → List Literal → Expected  -- a core: the literals of the ask, then those of the core
  Closes : Expected  -- the end of an ask
  Finish : Expected

-- The steps expected in the script state `j` when names are introduced from left to right: `NewName` for each that is
-- not in use.
abbrev pub steps_introducing : List ℕ → ScriptState → List Expected
steps_introducing [] j = []
steps_introducing (name ∷ names) j = map NewName (new_names name j) ++ steps_introducing names (introduce name j)

-- The steps expected in the script state `j` when names are hidden from left to right: for each, `NewName` if it is not
-- in use, and then `NoName`.
abbrev pub steps_hiding : List ℕ → ScriptState → List Expected
steps_hiding [] j = []
steps_hiding (name ∷ names) j = map NewName (new_names name j) ++ (NoName name ∷ steps_hiding names (without_name name (introduce name j)))

-- The steps expected in the script state `j` when the modes of names are set from left to right: `NewName` for each
-- that is not in use, and none for the mode itself.
abbrev pub steps_setting_mode : NameMode → List ℕ → ScriptState → List Expected
steps_setting_mode mode [] j = []
steps_setting_mode mode (name ∷ names) j = map NewName (new_names name j) ++ steps_setting_mode mode names (with_mode mode name (introduce name j))

-- The step that shows the outcome of an ask in the script state `j`: `Shows` with all names in use, or `Fails`, or none
-- if the outcome is unknown.
abbrev pub step_showing : ScriptState → List Literal → Outcome → List Expected
step_showing j ask (Sat line) = Shows (map (λ n. n.name) j.in_use) ask line ∷ []
step_showing j ask (Unsat core) = Fails ask core ∷ []
step_showing j ask Unknown = []

-- The ordered steps expected from the script state `j` on for commands that are not refused, with one outcome for each
-- ask, in order. They end with `Finish`, after the last command or at the first ask without an outcome.
abbrev pub expected_steps : ScriptState → List Command → List Outcome → List Expected
expected_steps j [] outcomes = Finish ∷ []
expected_steps j (Clause ls ∷ commands) outcomes = steps_introducing (names_of ls) j ++ (Adds ls ∷ expected_steps (state_after_accepted (Clause ls) j) commands outcomes)
expected_steps j (Ask ls ∷ commands) [] = Finish ∷ []
expected_steps j (Ask ls ∷ commands) (o ∷ os) =
    steps_introducing (names_of ls) j
    ++ (Opens ls o ∷ (step_showing (state_after_accepted (Ask ls) j) ls o ++ (Closes ∷ expected_steps (state_after_accepted (Ask ls) j) commands os)))
expected_steps j (Hide names ∷ commands) outcomes = steps_hiding names j ++ expected_steps (state_after_accepted (Hide names) j) commands outcomes
expected_steps j (Witness names ∷ commands) outcomes = steps_setting_mode Witnessed names j ++ expected_steps (state_after_accepted (Witness names) j) commands outcomes
expected_steps j (Sample names ∷ commands) outcomes = steps_setting_mode Sampled names j ++ expected_steps (state_after_accepted (Sample names) j) commands outcomes

-- `IsLiteralOf variable_named l code` holds if `code` is the literal of the proof variable that `variable_named` gives
-- for the name of `l`, with its sign.
pub record IsLiteralOf (variable_named : ℕ → Option ℕ) (l : Literal) (code : ℕ) : Type 0 where
  pub variable : ℕ
  pub named : variable_named l.name ≡ Some variable
  pub is : code ≡ mk_lit variable l.positive

-- `EachHasItsLiteral names ls codes` holds if for every literal of `ls`, its code, by the variable that `names` gives
-- for its name, is among the codes.
abbrev pub EachHasItsLiteral : (ℕ → Option ℕ) → List Literal → List ℕ → Type 0
EachHasItsLiteral names ls codes = AllByRecursion (λ l. (code : ℕ) × IsLiteralOf names l code × Among code codes) ls

-- `IsSameLiteralSet names ls codes` holds if the literals `ls`, with the variables that `names` gives for their names,
-- and the codes are the same set.
abbrev pub IsSameLiteralSet : (ℕ → Option ℕ) → List Literal → List ℕ → Type 0
IsSameLiteralSet names ls codes = EachHasItsLiteral names ls codes × AllByRecursion (λ code. (l : Literal) × IsLiteralOf names l code × Among l ls) codes

-- `FitsExpected knows earlier e step` holds if the step, after the steps `earlier`, is the expected `e` with the
-- variables that then have the names. A new name must go to a variable for which `knows` is false.
pub data FitsExpected (knows : ℕ → Bool) (earlier : List Step) : Expected → Step → Type 0 where
  new_name : {name v index : ℕ} → index + 1 ≡ name → knows v ≡ false
      → FitsExpected knows earlier (NewName name) (UserVarName v (Some index))
  no_name : {name v : ℕ} → variable_named earlier name ≡ Some v → FitsExpected knows earlier (NoName name) (UserVarName v None)
  adds : {ls : List Literal} {c : List ℕ} → IsSameLiteralSet (variable_named earlier) ls c → FitsExpected knows earlier (Adds ls) (AddClause c)
  opens : {ls : List Literal} {o : Outcome} {c : List ℕ} → IsSameLiteralSet (variable_named earlier) ls c
      → FitsExpected knows earlier (Opens ls o) (Assumptions c)
  -- the line lists exactly the names in use, the model has its literals, and the literals of the ask are among them
  shows : {names : List ℕ} {ask line : List Literal} {c : List ℕ}
      → names_of line ≡ names → EachHasItsLiteral (variable_named earlier) line c → AllByRecursion (λ l. Among l line) ask
      → FitsExpected knows earlier (Shows names ask line) (Model c)
  fails : {ask core : List Literal} {c hashes : List ℕ} → IsSameLiteralSet (variable_named earlier) core c
      → FitsExpected knows earlier (Fails ask core) (FailedAssumptions c hashes)
  closes : FitsExpected knows earlier Closes (Assumptions [])
  finish : FitsExpected knows earlier Finish End
