-- What the answers of a session mean for the names of a script. Lists of steps have the newest first.
use Rattle.std.specs.Prelude.{ℕ, ◌<◌, ◌≡◌, ◌⊎◌, true, Option, Some, List, [], ◌∷◌, map}
use Rattle.std.specs.List.{AllByRecursion}
use Rattle.sat_base.specs.values.Literals.{mk_lit, variable}
use Rattle.sat_base.specs.values.Clauses.{Valuation, AllClausesTrue}
use Rattle.sat_base.specs.script.Script.{Literal, names_of, Among, AreSortedLiterals}
use Rattle.sat_base.specs.script.ScriptState.{ScriptState, identity_of, IsRightModel, IsRightCore}
use Rattle.sat_base.specs.steps.Steps.{Step, DeleteVar, Model, FailedAssumptions}
use Rattle.sat_checker.specs.Fold.{Holds}
use Rattle.sat_solver.specs.session.Session.{AreAllowedSteps, session_after}
use Rattle.sat_solver.specs.session.LiveClauses.{with_var}
use Rattle.sat_solver.specs.session.Promises.{added}

-- `AgreeOn j variable_of a b` holds if the valuation `a` of proof variables and `b` of identities agree on every name
-- in use in `j` that has a proof variable by `variable_of`
abbrev pub AgreeOn : ScriptState → (ℕ → Option ℕ) → Valuation → Valuation → Type 0
AgreeOn j variable_of a b = (name i v : ℕ) → identity_of j name ≡ Some i → variable_of name ≡ Some v → a v ≡ b i

-- `MeansAcceptedClauses j variable_of steps` holds if the steps and the accepted clauses of `j` admit the same
-- valuations of the names in use, whose proof variables are given by `variable_of`
pub record MeansAcceptedClauses (j : ScriptState) (variable_of : ℕ → Option ℕ) (steps : List Step) : Type 0 where
  pub to : (a : Valuation) → Holds steps a → (b : Valuation) × AgreeOn j variable_of a b × AllClausesTrue b j.clauses
  pub back : (b : Valuation) → AllClausesTrue b j.clauses → (a : Valuation) × AgreeOn j variable_of a b × Holds steps a

-- `IsRepresentedBy j variable_of l code` holds if the literal `l` is over a name in use in `j`, and `code` is the
-- literal over the proof variable that `variable_of` gives for the name
pub record IsRepresentedBy (j : ScriptState) (variable_of : ℕ → Option ℕ) (l : Literal) (code : ℕ) : Type 0 where
  pub identity : ℕ
  pub in_use : identity_of j l.name ≡ Some identity
  pub var : ℕ
  pub named : variable_of l.name ≡ Some var
  pub is : code ≡ mk_lit var l.positive

-- `AllRepresentedIn j variable_of ls codes` holds if for every literal over names in `ls`, the literal over its proof
-- variable is in `codes`
abbrev pub AllRepresentedIn : ScriptState → (ℕ → Option ℕ) → List Literal → List ℕ → Type 0
AllRepresentedIn j variable_of ls codes = AllByRecursion (λ l. (code : ℕ) × IsRepresentedBy j variable_of l code × Among code codes) ls

-- `AllRepresent j variable_of codes ls` holds if every literal over proof variables in `codes` is that of a literal
-- over names in `ls`
abbrev pub AllRepresent : ScriptState → (ℕ → Option ℕ) → List ℕ → List Literal → Type 0
AllRepresent j variable_of codes ls = AllByRecursion (λ code. (l : Literal) × IsRepresentedBy j variable_of l code × Among l ls) codes

-- CORRECT ANSWERS

-- `NamedModelsAreRight` holds if a line with one literal for every name in use, all of them in a model that may be
-- written after steps that mean the accepted clauses, and with all literals of the ask, is a correct model
abbrev pub NamedModelsAreRight : Type 0
NamedModelsAreRight = (j : ScriptState) (variable_of : ℕ → Option ℕ) (steps : List Step) (codes : List ℕ) (ask line : List Literal)
    → MeansAcceptedClauses j variable_of steps → AreAllowedSteps (Model codes ∷ steps)
    → names_of line ≡ map (λ n. n.name) j.in_use → AllRepresentedIn j variable_of line codes → AllByRecursion (λ l. Among l line) ask
    → IsRightModel j ask line

-- `NamedCoresAreRight` holds if sorted literals of an ask are a correct core whenever they include all literals of a
-- failed core that may be written, after steps that mean the accepted clauses
abbrev pub NamedCoresAreRight : Type 0
NamedCoresAreRight = (j : ScriptState) (variable_of : ℕ → Option ℕ) (steps : List Step) (codes hashes : List ℕ) (ask core : List Literal)
    → MeansAcceptedClauses j variable_of steps → AreAllowedSteps (FailedAssumptions codes hashes ∷ steps)
    → AreSortedLiterals core → AllByRecursion (λ l. Among l ask) core → AllRepresent j variable_of codes core
    → IsRightCore j ask core

-- `NamedUnsatIsRight` holds if the empty core is correct for every ask, once allowed steps that mean the accepted
-- clauses have recorded unsat
abbrev pub NamedUnsatIsRight : Type 0
NamedUnsatIsRight = (j : ScriptState) (variable_of : ℕ → Option ℕ) (steps : List Step) (ask : List Literal)
    → MeansAcceptedClauses j variable_of steps → AreAllowedSteps steps → (session_after steps).unsat ≡ true → IsRightCore j ask []

-- IF NO NAME WAS EVER HIDDEN

-- `SameLits c d` holds if `c` and `d` have the same literals, in any order and with any repetitions
abbrev pub SameLits : List ℕ → List ℕ → Type 0
SameLits c d = AllByRecursion (λ l. Among l d) c × AllByRecursion (λ l. Among l c) d

-- `DeletesNoVar step` holds if the step deletes no variable
abbrev pub DeletesNoVar : Step → Type 0
DeletesNoVar (DeleteVar v) = ⊥
DeletesNoVar step = Unit {0}

-- `NamesNeverHidden j variable_of steps` holds if every identity has a proof variable of its own, none was deleted, and
-- the added clauses are the accepted clauses of `j`, over proof variables. Once unsat is recorded, accepted clauses may
-- be left out.
pub record NamesNeverHidden (j : ScriptState) (variable_of : ℕ → Option ℕ) (steps : List Step) : Type 0 where
  pub global : ℕ → ℕ  -- the proof variable of an identity
  pub identity : ℕ → ℕ  -- and back
  pub back : (i : ℕ) → i < j.identity_count → identity (global i) ≡ i
  pub named : (name i : ℕ) → identity_of j name ≡ Some i → variable_of name ≡ Some (global i)
  pub below : (name i : ℕ) → identity_of j name ≡ Some i → i < j.identity_count
  pub clauses_below : AllByRecursion (AllByRecursion (λ l. variable l < j.identity_count)) j.clauses
  pub kept : AllByRecursion DeletesNoVar steps
  pub added_from : AllByRecursion (λ c. (d : List ℕ) × Among d j.clauses × SameLits c (map (with_var global) d)) (added steps)
  pub all_added : ((session_after steps).unsat ≡ true) ⊎ AllByRecursion (λ d. (c : List ℕ) × Among c (added steps) × SameLits c (map (with_var global) d)) j.clauses

-- `NeverHiddenMeans` holds if allowed steps under which no variable was deleted and the added clauses are the accepted
-- ones (`NamesNeverHidden`) admit the same valuations of the names in use as the accepted clauses
abbrev pub NeverHiddenMeans : Type 0
NeverHiddenMeans = (j : ScriptState) (variable_of : ℕ → Option ℕ) (steps : List Step) → AreAllowedSteps steps → NamesNeverHidden j variable_of steps → MeansAcceptedClauses j variable_of steps
