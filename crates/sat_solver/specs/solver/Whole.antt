-- The invariant of the engine between calls.
use Rattle.std.specs.Prelude.{ℕ, ◌<◌, ◌≡◌, true, false, List, [], map}
use Rattle.std.specs.List.{AllByRecursion}
use Rattle.sat_base.specs.script.Script.{Among}
use Rattle.sat_base.specs.steps.Steps.{Step}
use Rattle.sat_base.specs.values.Clauses.{Valuation, AllLitsTrue}
use Rattle.sat_checker.specs.Fold.{Holds}
use Rattle.sat_checker.specs.declared.processing.ProofProcessor.{Ghosts}
use Rattle.sat_parts.specs.parts.Full.{IsBufferFull}
use Rattle.sat_solver.specs.proof.ProofView.{has_missed_step, steps_of, session_of}
use Rattle.sat_solver.specs.session.Session.{Session}
use Rattle.sat_solver.specs.clause.Activity.{DecaysAreInRange}
use Rattle.sat_solver.specs.cdcl.Iterations.{IsComplete}
use Rattle.sat_solver.specs.load.Literals.{user_literal, AreImages, AreGlobalImages}
use Rattle.sat_solver.specs.variables.Calls.{HasScriptState, NamesInvariant}
use Rattle.sat_checker.specs.matching.Checking.{variable_named}
use Rattle.sat_checker.specs.matching.Expected.{IsSameLiteralSet}
use Rattle.sat_solver.specs.declared.variables.Variables.{Variables}
use Rattle.sat_solver.specs.declared.load.literals.MappedLits.{MappedLits}
use Rattle.sat_solver.specs.declared.context.Context.{Context}
use Rattle.sat_solver.specs.declared.solver.Engine.{Engine}
use Rattle.sat_solver.specs.declared.state.SatState.{SatState}
use Rattle.sat_solver.specs.declared.state.SatState.TheVariants as states
use Rattle.sat_solver.specs.solver.Joined.{NamesSearchInvariant}
use Rattle.sat_solver.specs.solver.Answering.{line_of_names}

-- all steps that the solver has made, the newest first
abbrev pub steps_in : {W L : Type 0} {G : Ghosts L} → Engine W L G → List Step
steps_in s = steps_of s.context.proof

-- the session after all steps of the solver
abbrev pub session_in : {W L : Type 0} {G : Ghosts L} → Engine W L G → Session
session_in s = session_of s.context.proof

-- one literal code over names for every name in use, by increasing name, with the value of its variable in the search;
-- a variable without a value is false
abbrev pub engine_line : {W L : Type 0} {G : Ghosts L} → Engine W L G → List ℕ
engine_line s = line_of_names s.names s.context

-- `HasModel c` holds if nothing is left to propagate, every variable of a clause has a value, and the assumptions are
-- true
abbrev pub HasModel : {W L : Type 0} {G : Ghosts L} → Context W L G → Type 0
HasModel c = IsComplete c.search.assumptions.lits.items c.search.parts

-- `HasCore c assumed core` holds if `core` is a failed core over names: assumptions, at least one, and no valuation
-- that the steps admit satisfies all of them
pub record HasCore {W L : Type 0} {G : Ghosts L} (c : Context W L G) (assumed core : List ℕ) : Type 0 where
  pub some : core ≡ [] → ⊥
  pub codes : List ℕ
  pub none : (a : Valuation) → Holds (steps_of c.proof) a → AllLitsTrue a codes → ⊥
  pub same : IsSameLiteralSet (variable_named (steps_of c.proof)) (map user_literal core) codes
  pub among : AllByRecursion (λ l. Among l assumed) core

-- `SearchCanContinue c n asked` holds if the joint invariant of names, proof and search holds, and the search literals
-- in `asked` are the assumptions of the search
pub record SearchCanContinue {W L : Type 0} {G : Ghosts L} (c : Context W L G) (n : Variables) (asked : MappedLits) : Type 0 where
  pub joined : NamesSearchInvariant n c
  pub lits : c.search.assumptions.lits.items ≡ asked.order.items

-- `HoldsInState state c n asked assumed core` holds if the search can continue under the assumptions `asked` and, for
-- `Sat`, is at a model, or, for `UnsatUnderAssumptions`, `core` is a failed core of `assumed`; for `Unsat`, only unsat
-- is recorded
abbrev pub HoldsInState : {W L : Type 0} {G : Ghosts L} → SatState → Context W L G → Variables → MappedLits → (assumed core : List ℕ) → Type 0
HoldsInState states.Unknown c n asked assumed core = SearchCanContinue c n asked
HoldsInState states.Sat c n asked assumed core = SearchCanContinue c n asked × HasModel c
HoldsInState states.UnsatUnderAssumptions c n asked assumed core = SearchCanContinue c n asked × HasCore c assumed core
HoldsInState states.Unsat c n asked assumed core = (session_of c.proof).unsat ≡ true

-- `SolverPartsInvariant c n asked assumed core scale state` holds if a solver's parts are consistent: names `n` with
-- the steps, `asked` with the assumptions `assumed` over names, parameters with the search, and the answer `state` with
-- model or `core`
pub record SolverPartsInvariant {W L : Type 0} {G : Ghosts L} (c : Context W L G) (n : Variables) (asked : MappedLits) (assumed core : List ℕ) (scale : ℕ) (state : SatState) : Type 0 where
  pub valid : NamesInvariant n (steps_of c.proof)
  pub images : AreImages n assumed asked.order.items
  pub spelt : AreGlobalImages n assumed asked.globals.items
  pub globals : asked.globals.items ≡ (session_of c.proof).assumed
  pub positive : 0 < scale
  pub scaled : scale ≡ c.config.luby_restart_interval_scale
  pub decays : DecaysAreInRange c.config
  -- the solver's own checker, if there is one, has received all steps
  pub taking : has_missed_step c.proof ≡ false
  -- names and steps match some script state
  pub judged : HasScriptState n (steps_of c.proof)
  pub says : HoldsInState state c n asked assumed core

-- `SolverInvariant s` holds if the parts of the solver are consistent with each other and with its answer, as they are
-- between calls unless a call failed
abbrev pub SolverInvariant : {W L : Type 0} {G : Ghosts L} → Engine W L G → Type 0
SolverInvariant s = SolverPartsInvariant s.context s.names s.asked s.assumed.items s.reported.failed_core.items s.clock.restarts.scale s.state

-- `EngineHasFullStore s` holds if the clause buffer has more than 2^32-1 words, so that no further clause can be stored
-- in it
abbrev pub EngineHasFullStore : {W L : Type 0} {G : Ghosts L} → Engine W L G → Type 0
EngineHasFullStore s = IsBufferFull s.context.search.parts

-- `EngineInvariant s` holds if a call may be made on the solver: its parts are consistent, or an earlier call failed
abbrev pub EngineInvariant : {W L : Type 0} {G : Ghosts L} → Engine W L G → Type 0
EngineInvariant s = s.failed ≡ false → SolverInvariant s
