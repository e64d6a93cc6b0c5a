-- The steps that a run's solver makes for each command, with hashes at full width. Lists of steps have the newest
-- first.
use Rattle.std.specs.Prelude.{ℕ, ◌+◌, ◌≡◌, Bool, true, false, List, [], ◌∷◌, ◌++◌, if◌then◌else◌}
use Rattle.sat_base.specs.script.Script.{Literal, Command, Clause, Ask, Hide, Witness, Sample, Among, names_of}
use Rattle.sat_base.specs.script.ScriptState.{ScriptState, Sampled, Witnessed, accepted_commands, state_after_accepted}
use Rattle.sat_base.specs.steps.Steps.{Step}
use Rattle.sat_checker.specs.matching.Expected.{Outcome, Sat, Unsat, Unknown, Expected, Adds, Opens, Closes, steps_introducing, steps_hiding, steps_setting_mode, step_showing}
use Rattle.sat_checker.specs.matching.ProofChecking.{checker_rules}
use Rattle.sat_checker.specs.matching.Traces.{HasTrace}
use Rattle.sat_solver.specs.variables.NamingSteps.{IsClauseStep, IsHidingStep, IsModeStep, IsLiteralsStep}
use Rattle.sat_solver.specs.schedule.Solving.{CountsEmpoweringIn}
use Rattle.sat_solver.specs.session.AllowedSteps.{OnlyAllowedSteps, OnlyWidthAfterUnsat}
use Rattle.certify.specs.run.Certifies.{IsKnownUnsat}

-- `MakesExpectedSteps IsAllowedStep from to es` holds if `to` is `from` with further steps, the ordered ones among
-- these are exactly the expected steps `es`, in order, and `IsAllowedStep` holds for every further step, given the
-- steps before it.
pub record MakesExpectedSteps (IsAllowedStep : List Step → Step → Type 0) (from to : List Step) (es : List Expected) : Type 0 where
  pub due : HasTrace checker_rules from to es
  pub comes : OnlyAllowedSteps IsAllowedStep from to

-- COMMANDS OTHER THAN ASKS

-- `IsNoAsk command` holds if the command is not an ask: it is a clause, or a command about names.
abbrev pub IsNoAsk : Command → Type 0
IsNoAsk (Ask ls) = ⊥
IsNoAsk command = Unit {0}

-- the ordered steps expected for a command that is not an ask, in state `j`. If `unsat` is true, unsat is recorded
-- before the command, and a clause only introduces its names.
abbrev pub due_for_command : Bool → Command → ScriptState → List Expected
due_for_command unsat (Clause ls) j = steps_introducing (names_of ls) j ++ (if unsat then [] else Adds ls ∷ [])
due_for_command unsat (Ask ls) j = []
due_for_command unsat (Hide names) j = steps_hiding names j
due_for_command unsat (Witness names) j = steps_setting_mode Witnessed names j
due_for_command unsat (Sample names) j = steps_setting_mode Sampled names j

-- `IsModeStepForSome names sample earlier step` holds if, after the steps `earlier`, `step` is an ordered step at its
-- place, or changes the mode of the variable of one of these names, to sample if `sample` is true and otherwise to
-- witness.
abbrev pub IsModeStepForSome : List ℕ → Bool → List Step → Step → Type 0
IsModeStepForSome names sample earlier step = (name : ℕ) × Among name names × IsModeStep name sample earlier step

-- `IsCommandStep command earlier step` holds if `step` is an ordered step at its place, or allowed for the command: to
-- give its names indices or change the width (clause, ask), to delete the clause right after its step, to delete a
-- variable without index right after `h` removed its name, or to change the mode of its names (`w`, `s`).
abbrev pub IsCommandStep : Command → List Step → Step → Type 0
IsCommandStep (Clause ls) = IsClauseStep (names_of ls)
IsCommandStep (Ask ls) = IsLiteralsStep (names_of ls)
IsCommandStep (Hide names) = IsHidingStep
IsCommandStep (Witness names) = IsModeStepForSome names false
IsCommandStep (Sample names) = IsModeStepForSome names true

-- AN ASK

-- the step expected to show the outcome `o` of an ask: none if `unsat` says that unsat is recorded, or if `o` is
-- unknown
abbrev pub showing_if : Bool → ScriptState → List Literal → Outcome → List Expected
showing_if unsat j ask o = if unsat then [] else step_showing j ask o

-- `LearnsEachRound unsat o rounds learned` holds if the number `learned` of empowering clauses fits an ask that took
-- `rounds` rounds, with outcome `o`: both numbers are the same if `o` is unknown, and `learned` is one less if `o` is a
-- model or a core. If `unsat` is true, both are 0, whatever `o` is.
abbrev pub LearnsEachRound : (unsat : Bool) → Outcome → (rounds learned : ℕ) → Type 0
LearnsEachRound true o rounds learned = (rounds ≡ 0) × (learned ≡ 0)
LearnsEachRound false Unknown rounds learned = rounds ≡ learned
LearnsEachRound false (Sat line) rounds learned = rounds ≡ learned + 1
LearnsEachRound false (Unsat core) rounds learned = rounds ≡ learned + 1

-- `LearnsBetween unsat o rounds opened shown` holds if the number of steps between `opened` and `shown` that derive an
-- empowering clause fits the ask's outcome `o` and its `rounds` (`LearnsEachRound`). `unsat` says whether unsat was
-- recorded before the ask.
pub record LearnsBetween (unsat : Bool) (o : Outcome) (rounds : ℕ) (opened shown : List Step) : Type 0 where
  pub learned : ℕ
  pub times : CountsEmpoweringIn opened shown learned
  pub counts : LearnsEachRound unsat o rounds learned

-- `MakesAskSteps j ls o rounds from to` holds if the steps between `from` and `to` are those of an ask. First its names
-- are introduced, with indices, and it is opened. Then the search may make any unordered steps (only changes of the
-- width once unsat is recorded), and the outcome is shown. Finally the ask is closed.
pub record MakesAskSteps (j : ScriptState) (ls : List Literal) (o : Outcome) (rounds : ℕ) (from to : List Step) : Type 0 where
  pub opened : List Step
  pub shown : List Step
  pub opens : MakesExpectedSteps (IsLiteralsStep (names_of ls)) from opened (steps_introducing (names_of ls) j ++ (Opens ls o ∷ []))
  pub searches : MakesExpectedSteps OnlyWidthAfterUnsat opened shown (showing_if (checker_rules.unsat shown) (state_after_accepted (Ask ls) j) ls o)
  pub closes : MakesExpectedSteps (IsLiteralsStep []) shown to (Closes ∷ [])
  -- If unsat was recorded before the ask, the outcome is the empty core, without a round. If the search records unsat,
  -- the outcome is the empty core, too.
  pub known : checker_rules.unsat opened ≡ true → IsKnownUnsat o rounds
  pub recorded : checker_rules.unsat shown ≡ true → o ≡ Unsat []
  pub learns : LearnsBetween (checker_rules.unsat opened) o rounds opened shown

-- ALL COMMANDS

-- `ServesCommands j from to commands outcomes counts` holds if these commands, none of which is refused, were carried
-- out in order from state `j` on, by the steps between `from` and `to`. `outcomes` and `counts` are the outcomes and
-- the rounds of the asks.
pub data ServesCommands : ScriptState → List Step → List Step → List Command → List Outcome → List ℕ → Type 0 where
  made_none : {j : ScriptState} {s : List Step} → ServesCommands j s s [] [] []
  made_one : {j : ScriptState} {from to : List Step} {c : Command} {cs : List Command} {os : List Outcome} {counts : List ℕ} (mid : List Step)
      → IsNoAsk c → MakesExpectedSteps (IsCommandStep c) from mid (due_for_command (checker_rules.unsat from) c j)
      → ServesCommands (state_after_accepted c j) mid to cs os counts → ServesCommands j from to (c ∷ cs) os counts
  made_ask : {j : ScriptState} {from to : List Step} {ls : List Literal} {o : Outcome} {n : ℕ} {cs : List Command} {os : List Outcome}
      {counts : List ℕ} (mid : List Step) → MakesAskSteps j ls o n from mid
      → ServesCommands (state_after_accepted (Ask ls) j) mid to cs os counts → ServesCommands j from to (Ask ls ∷ cs) (o ∷ os) (n ∷ counts)

-- `ServesFirst j commands from to outcomes counts` holds if the first of these commands, however many, without the
-- refused ones, were served from state `j` on, after the steps `from`; later steps may follow, up to `to`. `outcomes`
-- and `counts` are the outcomes and the rounds of the asks among them.
pub record ServesFirst (j : ScriptState) (commands : List Command) (from to : List Step) (outcomes : List Outcome) (counts : List ℕ) : Type 0 where
  pub first : List Command
  pub left : List Command
  pub whole : commands ≡ first ++ left
  pub mid : List Step
  pub later : List Step
  pub steps : to ≡ later ++ mid
  pub serves : ServesCommands j from mid (accepted_commands j first) outcomes counts
