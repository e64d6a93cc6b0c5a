-- The outcome of a search is reported.
use Rattle.std.specs.Prelude.{IfOk, IfErr}
use Rattle.std.proofs.Common.{ℕ, ◌-◌, Option, None, Some, Result, Ok, Err, List, ◌++◌, sym, subst}
use Rattle.sat_base.specs.device.Device.{Writer}
use Rattle.sat_checker.specs.declared.processing.ProofProcessor.{Ghosts}
use Rattle.sat_solver.proofs.lemmas.session.ProofLemmas.{gains_adds}
use Rattle.sat_solver.proofs.lemmas.cdcl.GoingLemmas.{loss_later, went_after}
use Rattle.sat_solver.specs.declared.schedule.RoundOutcome.{RoundOutcome}
use Rattle.sat_solver.specs.declared.schedule.RoundOutcome.TheVariants as outcomes
use Rattle.sat_solver.specs.declared.error.SolverError.{SolverError}
use Rattle.sat_solver.specs.declared.variables.Variables.{Variables}
use Rattle.sat_solver.specs.declared.context.Context.{Context}
use Rattle.sat_solver.specs.schedule.Rounds.{LastRoundAnswers}
use Rattle.sat_solver.specs.schedule.Solving.{AskEnds, Restarted, ReducedAt, RoundOf}
use Rattle.sat_solver.specs.declared.state.SatState.{SatState}
use Rattle.sat_solver.specs.declared.state.SatState.TheVariants as states
use Rattle.sat_solver.specs.solver.Joined.{NamesSearchInvariant}
use Rattle.sat_solver.specs.solver.Answering.{CallFailsWithStoredError}
use Rattle.sat_solver.specs.solver.Found.{OutcomeHolds, ReportEffect, ReportsOutcome, SearchFindsAnswer, SearchedBy, state_found}
use Rattle.sat_solver.specs.declared.solver.find.Schedule.{Schedule}
use Rattle.sat_solver.proofs.lemmas.solver.AnsweredLemmas.{joined_by}

module _ {W L : Type 0} {G : Ghosts L} (seen : W → Writer) (n m : Variables) (a : Context W L G) where
  -- what the outcome says holds after the search
  pub comes_to : {k : ℕ} → NamesSearchInvariant n a → (outcome : RoundOutcome) (mid : Context W L G) → AskEnds seen a n k outcome mid m → OutcomeHolds outcome m mid
  comes_to joined outcomes.Learned mid e = e.says
  comes_to joined outcomes.Model mid e = (joined_by n m a mid joined e.config e.keeps e.does.valid e.says.0.search e.says.1, e.says.0.complete)
  comes_to joined outcomes.Failed mid e = (joined_by n m a mid joined e.config e.keeps e.does.valid e.says.0.search e.says.1, e.says.0.failing)
  comes_to joined outcomes.Unsat mid e = tt

  -- the outcome was reported
  pub finds_reported : (outcome : RoundOutcome) (o : Option SatState) (mid b : Context W L G) (core : List ℕ) (rounds : ℕ) → AskEnds seen a n (rounds - 1) outcome mid m → ReportEffect seen o outcome m mid b core → SearchFindsAnswer seen o rounds n m a b core
  finds_reported outcomes.Model (Some states.Sat) mid b core rounds e t = record { mid = mid; ended = e; shown = t }
  finds_reported outcomes.Failed (Some states.UnsatUnderAssumptions) mid b core rounds e t = record { mid = mid; ended = e; failed = t }
  finds_reported outcomes.Unsat (Some states.Unsat) mid b core rounds e t = subst (λ c. AskEnds seen a n (rounds - 1) outcomes.Unsat c m) (sym t) e
  finds_reported outcomes.Learned o mid b core rounds e t = absurd e.says
  finds_reported outcomes.Model None mid b core rounds e t = absurd t
  finds_reported outcomes.Failed None mid b core rounds e t = absurd t
  finds_reported outcomes.Failed (Some states.Unknown) mid b core rounds e t = absurd t
  finds_reported outcomes.Failed (Some states.Sat) mid b core rounds e t = absurd t
  finds_reported outcomes.Failed (Some states.Unsat) mid b core rounds e t = absurd t
  finds_reported outcomes.Unsat None mid b core rounds e t = absurd t
  finds_reported outcomes.Unsat (Some states.Unknown) mid b core rounds e t = absurd t
  finds_reported outcomes.Unsat (Some states.Sat) mid b core rounds e t = absurd t
  finds_reported outcomes.Unsat (Some states.UnsatUnderAssumptions) mid b core rounds e t = absurd t
  finds_reported outcomes.Model (Some x) mid b core rounds e t = absurd t

  -- reporting the outcome failed
  pub breaks_reported : {k : ℕ} → (outcome : RoundOutcome) (e : SolverError) (mid b : Context W L G) → AskEnds seen a n k outcome mid m → CallFailsWithStoredError seen e mid b → CallFailsWithStoredError seen e a b
  breaks_reported outcome e mid b ended k = (record { fault = k.0.fault; steps = k.0.steps ++ ended.steps; went = went_after seen (Unit {0}) e ended.steps k.0.steps a.proof mid.proof b.proof (gains_adds seen ended.steps a.proof mid.proof ended.adds) k.0.went; loss = loss_later e a.proof mid.proof b.proof ended.adds.taking k.0.loss }, k.1)

  -- the result of reporting it
  pub finds_by : (outcome : RoundOutcome) (r : Result (Option SatState) SolverError) (mid b : Context W L G) (core : List ℕ) (rounds : ℕ) → AskEnds seen a n (rounds - 1) outcome mid m → ReportsOutcome seen r outcome m mid b core → IfOk r (λ o. SearchFindsAnswer seen o rounds n m a b core)
  finds_by outcome (Ok o) mid b core rounds e t = finds_reported outcome o mid b core rounds e t
  finds_by outcome (Err x) mid b core rounds e t = tt

  pub breaks_by : {k : ℕ} → (outcome : RoundOutcome) (r : Result (Option SatState) SolverError) (mid b : Context W L G) (core : List ℕ) → AskEnds seen a n k outcome mid m → ReportsOutcome seen r outcome m mid b core → IfErr r (λ x. CallFailsWithStoredError seen x a b)
  breaks_by outcome (Ok o) mid b core e t = tt
  breaks_by outcome (Err x) mid b core e t = breaks_reported outcome x mid b e t

  -- the rounds by which it was found
  pub searched_by : (before now : Schedule) (outcome : RoundOutcome) (r : Result (Option SatState) SolverError) (mid b : Context W L G) (core : List ℕ) →
      LastRoundAnswers Restarted (ReducedAt seen) (RoundOf seen) (Some outcome) a n before.restarts before.rounds mid m now.restarts now.rounds →
      ReportsOutcome seen r outcome m mid b core → IfOk r (λ o. SearchedBy seen (state_found o) before now n m a b core)
  searched_by before now outcome (Ok (Some state)) mid b core rounds t = record { outcome = Some outcome; found = mid; rounds = rounds; reports = t }
  searched_by before now outcome (Ok None) mid b core rounds t = absurd t
  searched_by before now outcome (Err x) mid b core rounds t = tt
