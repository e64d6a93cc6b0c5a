-- What callers see of a solver: one record. Public contracts are stated in terms of it.
use Rattle.std.specs.Prelude.{◌≡◌, ℕ, Bool, false, Option, None, List, []}
use Rattle.sat_base.specs.script.ScriptState.{ScriptState, initial_state}
use Rattle.sat_base.specs.steps.Steps.{Step}
use Rattle.sat_solver.specs.proof.Counting.{nothing_counted}
use Rattle.sat_solver.specs.proof.ProofView.{Target, Closed}
use Rattle.sat_solver.specs.Configs.{defaults}
use Rattle.sat_solver.specs.declared.config.SolverConfig.{SolverConfig}
use Rattle.sat_solver.specs.declared.progress.Progress.{Progress}
use Rattle.sat_solver.specs.declared.solver.find.Schedule.{Schedule}
use Rattle.sat_solver.specs.declared.variables.Variables.{Variables}
use Rattle.sat_solver.specs.declared.state.SatState.{SatState}
use Rattle.sat_solver.specs.declared.state.SatState.TheVariants as states

-- what callers see of the solver's own checker, besides its listeners
pub record OwnChecker : Type 0 where
  pub width : ℕ  -- the number of bits of hashes that it was last set to
  pub has_conflict : Bool  -- whether it has a unit conflict that it has not announced yet

-- the width of hashes in the text of the steps, and the solver's own checker
pub record Checking : Type 0 where
  pub width : ℕ  -- the number of bits of hashes in the text of the steps
  pub own : Option OwnChecker  -- `None` without a checker

-- the observable state of a solver, in which the contracts of its calls are stated
pub record SolverView (L : Type 0) : Type 0 where
  pub failed : Bool  -- whether the solver has failed; then every call that returns a `Result` returns `HasFailed`
  pub used : Bool  -- whether a clause, name or assumptions were accepted, or an ask began; then no proof can be opened
  pub answer : SatState  -- what is known about the answer
  pub state : ScriptState  -- the script state: the names in use, their modes, and the accepted clauses
  pub names : Variables  -- the names, and the variables that they refer to
  pub values : List (Option Bool)  -- the values in the search, indexed by index (not by name); `None`: unassigned
  pub assumptions : List ℕ  -- as literal codes over names, 2 * name + sign, names counted from 0
  pub core : List ℕ  -- the last failed core, as literal codes over names
  pub clock : Schedule  -- the number of rounds of all asks, and when restarts are due
  pub parameters : SolverConfig
  pub decay : ℕ  -- the decay of variables that the search uses
  pub clause_decay : ℕ  -- the decay of clauses that the search uses
  pub progress : Progress  -- what `progress` counts: rounds, restarts, indices without a value, stored clauses
  pub words : ℕ  -- the number of words in the clause buffer
  pub steps : List Step  -- all steps but changes of width, which only the text has; the newest first
  pub target : Target  -- where the text of the steps is written
  pub asked : Bool  -- whether an ask has begun since the solver was created or a proof was last opened
  pub listeners : Option (List L)  -- those added to its own checker, or `None` without a checker
  pub lost : Bool  -- whether its own checker has missed a step
  pub checking : Checking  -- the width of hashes, and its own checker

-- `IsInitial v` holds if the solver is as when created: unused, answer unknown, default parameters, no steps, rounds or
-- restarts, no open target, no own checker, and the script state without names and clauses. Nothing is stated of the
-- other fields, such as `progress`.
pub record IsInitial {L : Type 0} (v : SolverView L) : Type 0 where
  pub failed : v.failed ≡ false
  pub used : v.used ≡ false
  pub answer : v.answer ≡ states.Unknown
  pub assumptions : v.assumptions ≡ []
  pub rounds : v.clock.rounds ≡ 0
  pub restarts : v.clock.restarts.count ≡ 0
  pub parameters : v.parameters ≡ defaults
  pub steps : v.steps ≡ []
  pub target : v.target ≡ Closed nothing_counted
  pub listeners : v.listeners ≡ None
  pub asked : v.asked ≡ false
  pub state : v.state ≡ initial_state
