-- The result of a search, and how it is reported.
use Rattle.std.specs.Prelude.{ℕ, ◌-◌, ◌≡◌, Option, None, Some, List, MatchResult, Result}
use Rattle.sat_base.specs.device.Device.{Writer}
use Rattle.sat_checker.specs.declared.processing.ProofProcessor.{Ghosts}
use Rattle.sat_solver.specs.declared.schedule.RoundOutcome.{RoundOutcome}
use Rattle.sat_solver.specs.declared.schedule.RoundOutcome.TheVariants as outcomes
use Rattle.sat_solver.specs.declared.error.SolverError.{SolverError}
use Rattle.sat_solver.specs.cdcl.Iterations.{IsComplete, IsFalseAssumption}
use Rattle.sat_solver.specs.schedule.Rounds.{LastRoundAnswers}
use Rattle.sat_solver.specs.schedule.Solving.{AskEnds, RoundsLeadTo, Restarted, ReducedAt, RoundOf}
use Rattle.sat_solver.specs.declared.variables.Variables.{Variables}
use Rattle.sat_solver.specs.declared.context.Context.{Context}
use Rattle.sat_solver.specs.declared.state.SatState.{SatState}
use Rattle.sat_solver.specs.declared.state.SatState.TheVariants as states
use Rattle.sat_solver.specs.solver.Joined.{NamesSearchInvariant}
use Rattle.sat_solver.specs.solver.Answering.{CallFailsWithStoredError, WritesModel, WritesFailedCore}
use Rattle.sat_solver.specs.declared.solver.find.Schedule.{Schedule}
use Rattle.sat_solver.specs.declared.solver.find.LastAnswers.{LastAnswers}

-- `FoundModel seen rounds n m a b` holds if a model was found in the last of `rounds` rounds from `a` (names `n`) on,
-- all others ended in a conflict, and it was then written, which gives `b` (names `m`)
pub record FoundModel {W L : Type 0} {G : Ghosts L} (seen : W → Writer) (rounds : ℕ) (n m : Variables) (a b : Context W L G) : Type 0 where
  pub mid : Context W L G
  pub ended : AskEnds seen a n (rounds - 1) outcomes.Model mid m
  pub shown : WritesModel seen m mid b

-- `FoundCore seen rounds n m a b core` holds if a failed core was found in the last of `rounds` rounds from `a` (names
-- `n`) on, all others ended in a conflict, and it was then written, which gives `b`; `core` has its literals over names
pub record FoundCore {W L : Type 0} {G : Ghosts L} (seen : W → Writer) (rounds : ℕ) (n m : Variables) (a b : Context W L G) (core : List ℕ) : Type 0 where
  pub mid : Context W L G
  pub ended : AskEnds seen a n (rounds - 1) outcomes.Failed mid m
  pub failed : WritesFailedCore seen m mid b core

-- `AnswerFound seen state rounds n m a b core` holds if the answer `state` was found in the last of `rounds` rounds: a
-- model, or a failed core (`core`, over names), and written as a step; or unsat, without such a step. Never for
-- `Unknown`.
abbrev pub AnswerFound : {W L : Type 0} {G : Ghosts L} → (W → Writer) → SatState → (rounds : ℕ) → Variables → Variables → Context W L G → Context W L G → List ℕ → Type 0
AnswerFound seen states.Unknown rounds n m a b core = ⊥
AnswerFound seen states.Sat rounds n m a b core = FoundModel seen rounds n m a b
AnswerFound seen states.UnsatUnderAssumptions rounds n m a b core = FoundCore seen rounds n m a b core
AnswerFound seen states.Unsat rounds n m a b core = AskEnds seen a n (rounds - 1) outcomes.Unsat b m

-- `NoAnswerFound seen rounds n m a b` holds if `rounds` rounds were made from `a` (names `n`) to `b` (names `m`), each
-- ended in a conflict from which a clause was learned, and the search can continue
pub record NoAnswerFound {W L : Type 0} {G : Ghosts L} (seen : W → Writer) (rounds : ℕ) (n m : Variables) (a b : Context W L G) : Type 0 where
  pub joined : NamesSearchInvariant m b
  pub gone : RoundsLeadTo seen a n rounds b m

-- `SearchFindsAnswer seen r rounds n m a b core` holds if `r` is the answer found in the last of `rounds` rounds from
-- `a` to `b`, with `core` as the failed core if there is one, or `r` is `None` and every round learned a clause
abbrev pub SearchFindsAnswer : {W L : Type 0} {G : Ghosts L} → (W → Writer) → Option SatState → (rounds : ℕ) → Variables → Variables → Context W L G → Context W L G → List ℕ → Type 0
SearchFindsAnswer seen None rounds n m a b core = NoAnswerFound seen rounds n m a b
SearchFindsAnswer seen (Some state) rounds n m a b core = AnswerFound seen state rounds n m a b core

-- `ScheduleFindsAnswer seen o before now n m a b reported` holds if `o` is the answer found in the last of the rounds
-- counted between the schedules `before` and `now`, or `None` if every round learned a clause; `reported` has the
-- failed core
abbrev pub ScheduleFindsAnswer : {W L : Type 0} {G : Ghosts L} → (W → Writer) → Option SatState → Schedule → Schedule → Variables → Variables → Context W L G → Context W L G → LastAnswers → Type 0
ScheduleFindsAnswer seen o before now n m a b reported = SearchFindsAnswer seen o (now.rounds - before.rounds) n m a b reported.failed_core.items

-- `OutcomeHolds outcome n c` holds if the search state fits the outcome of a round: everything assigned without
-- conflict for `Model`, a false assumption for `Failed`; nothing is said for `Unsat`, and `Learned` never fits
abbrev pub OutcomeHolds : {W L : Type 0} {G : Ghosts L} → RoundOutcome → Variables → Context W L G → Type 0
OutcomeHolds outcomes.Learned n c = ⊥
OutcomeHolds outcomes.Model n c = NamesSearchInvariant n c × IsComplete c.search.assumptions.lits.items c.search.parts
OutcomeHolds outcomes.Failed n c = NamesSearchInvariant n c × IsFalseAssumption c.search.assumptions.lits.items c.search.parts c.search.failed
OutcomeHolds outcomes.Unsat n c = Unit {0}

-- `ReportEffect seen state outcome n a b core` holds if the outcome of a round was reported as the answer `state`:
-- `Model` as `Sat`, by a step with the model; `Failed` as `UnsatUnderAssumptions`, by a step with the core; `Unsat` as
-- `Unsat`, without a step
abbrev pub ReportEffect : {W L : Type 0} {G : Ghosts L} → (W → Writer) → Option SatState → RoundOutcome → Variables → Context W L G → Context W L G → List ℕ → Type 0
ReportEffect seen (Some states.Sat) outcomes.Model n a b core = WritesModel seen n a b
ReportEffect seen (Some states.UnsatUnderAssumptions) outcomes.Failed n a b core = WritesFailedCore seen n a b core
ReportEffect seen (Some states.Unsat) outcomes.Unsat n a b core = b ≡ a
ReportEffect seen o outcome n a b core = ⊥

-- `ReportsOutcome seen r outcome n a b core` holds if `r` is the answer for this outcome of a round, and the step with
-- the model or failed core was made, or `r` is an error (`StoresError`)
abbrev pub ReportsOutcome : {W L : Type 0} {G : Ghosts L} → (W → Writer) → Result (Option SatState) SolverError → RoundOutcome → Variables → Context W L G → Context W L G → List ℕ → Type 0
ReportsOutcome seen r outcome n a b core = MatchResult r (λ o. ReportEffect seen o outcome n a b core) (λ e. CallFailsWithStoredError seen e a b)

-- the answer, or `Unknown` for `None`
abbrev pub state_found : Option SatState → SatState
state_found None = states.Unknown
state_found (Some state) = state

-- `ReportsLast seen outcome state n a b core` holds if the outcome of the last round was reported as the answer
-- `state`; `state` is `Unknown`, and nothing changed, if `outcome` is `None`: no round, or the last one learned a
-- clause
abbrev pub ReportsLast : {W L : Type 0} {G : Ghosts L} → (W → Writer) → Option RoundOutcome → SatState → Variables → Context W L G → Context W L G → List ℕ → Type 0
ReportsLast seen None states.Unknown n a b core = b ≡ a
ReportsLast seen None state n a b core = ⊥
ReportsLast seen (Some outcome) state n a b core = ReportEffect seen (Some state) outcome n a b core

-- `SearchedBy seen state before now n m a b core` holds if rounds were made from `a` to `b`, as counted from `before`
-- to `now`, and then the answer `state` was reported. Before each round came a restart if the schedule said so, and the
-- reductions due by the parameters.
pub record SearchedBy {W L : Type 0} {G : Ghosts L} (seen : W → Writer) (state : SatState) (before now : Schedule) (n m : Variables) (a b : Context W L G) (core : List ℕ) : Type 0 where
  pub outcome : Option RoundOutcome
  pub found : Context W L G
  pub rounds : LastRoundAnswers Restarted (ReducedAt seen) (RoundOf seen) outcome a n before.restarts before.rounds found m now.restarts now.rounds
  pub reports : ReportsLast seen outcome state m found b core
