-- A search, and the rounds that it made.
use Rattle.std.proofs.Common.{ℕ, ◌-◌, ◌≡◌, ◌∙◌, true, false, Some, Ok, Err, refl, sym, ap, subst, arith}
use Rattle.std.proofs.lemmas.Bool.{true≢false}
use Rattle.std.specs.Prelude.{unwrap_or}
use Rattle.sat_solver.specs.declared.config.SolverConfigUpdate.{SolverConfigUpdate}
use Rattle.sat_solver.specs.declared.state.SatState.{SatState}
use Rattle.sat_solver.specs.declared.state.SatState.TheVariants as states
use Rattle.sat_solver.specs.declared.error.SolverError.{SolverError}
use Rattle.sat_solver.specs.declared.error.SolverError.TheVariants as errors
use Rattle.sat_solver.specs.facade.Answers.{Answered, Solves, StepsOfAsk}
use Rattle.sat_solver.specs.facade.Calls.{FailsAfterSteps, MakesSteps}
use Rattle.sat_solver.specs.facade.Configuring.{Configured}
use Rattle.sat_solver.specs.facade.Recording.{RecordsAnswer}
use Rattle.sat_solver.specs.solver.Calls.{IsAnswer}
use Rattle.certify.specs.declared.summary.Answer.{Answer}
use Rattle.certify.specs.declared.summary.Answer.TheVariants as kind
use Rattle.certify.specs.run.SolverCalls.{IsAnswerOfState, IsReadySolver, RoundsLimited, Searched, Solved, is_interrupted}
use Rattle.certify.proofs.lemmas.run.NoLines.{ready_still}
use Rattle.certify.specs.run.RunSolver.{Solver}

-- the largest number of rounds was changed, and nothing that a ready solver needs
pub limited : (u : SolverConfigUpdate) (budget : ℕ) (old new : Solver) → u.max_steps ≡ Some budget → IsReadySolver old → Configured u old new → RoundsLimited budget old new
limited u budget old new at ready h = record {
  ready = subst IsReadySolver (sym h.same) (record {
    going = ready.going;
    no_lines = ready.no_lines;
    unchecked = ready.unchecked;
    records = record { allowed = ready.records.allowed; state = ready.records.state; recorded = ready.records.recorded; unrecorded = ready.records.unrecorded };
  });
  limit = ap (λ (s : Solver). s.parameters.max_steps) h.same ∙ ap (λ o. unwrap_or o old.parameters.max_steps) at;
  same = subst (λ (s : Solver). s ≡ record old { parameters = s.parameters; clock = s.clock; decay = s.decay; clause_decay = s.clause_decay }) (sym h.same) refl;
  rounds = ap (λ (s : Solver). s.clock.rounds) h.same;
}

-- the answer that a state of the solver represents
is_sat : (st : SatState) → IsAnswer st true → IsAnswerOfState st kind.Sat
is_sat states.Sat h = refl
is_sat states.Unknown h = absurd h
is_sat st h = absurd (true≢false h)

is_unsat : (st : SatState) → IsAnswer st false → IsAnswerOfState st kind.Unsat
is_unsat states.UnsatUnderAssumptions h = refl
is_unsat states.Unsat h = refl
is_unsat states.Unknown h = absurd h
is_unsat states.Sat h = absurd (true≢false (sym h))

module _ (a b : Solver) (ready : IsReadySolver a) (steps : a.failed ≡ false → b.failed ≡ false → StepsOfAsk a b) (records : b.failed ≡ false → RecordsAnswer b) where
  solved_as : (answer : Answer) → Answered a b → MakesSteps a b → IsAnswerOfState b.answer answer → Solved answer a b
  solved_as answer h took is = record {
    answered = h;
    steps = steps ready.going h.did.failed;
    took = took;
    ready = ready_still a b ready took h.did.failed records;
    answer_is = is;
  }

  -- an ask led to an answer
  pub solved_sat : Solves (Ok true) a b → MakesSteps a b → Solved kind.Sat a b
  solved_sat h took = solved_as kind.Sat h.0 took (is_sat b.answer h.1)

  pub solved_unsat : Solves (Ok false) a b → MakesSteps a b → Solved kind.Unsat a b
  solved_unsat h took = solved_as kind.Unsat h.0 took (is_unsat b.answer h.1)

  -- the rounds of an ask were exhausted
  pub solved_unknown : (e : SolverError) → is_interrupted e ≡ true → Solves (Err e) a b → FailsAfterSteps e a b → Solved kind.Unknown a b
  solved_unknown errors.Interrupted q h t =
      solved_as kind.Unknown h.0 (record { steps = t.steps; history = t.history; listening = t.listening; target = t.target }) (subst (λ st. IsAnswerOfState st kind.Unknown) (sym h.1) refl)
  solved_unknown e q h t = absurd (true≢false (sym q))

-- the result of a search, with its number of rounds
pub searched : (budget : ℕ) (answer : Answer) (old mid new : Solver) (before after : ℕ) → RoundsLimited budget old mid → before ≡ mid.clock.rounds → after ≡ new.clock.rounds → Solved answer mid new
    → Searched budget (record { answer = answer; steps = after - before }) old new
searched budget answer old mid new before after limited at now solved = record {
  mid = mid;
  limited = limited;
  solved = solved;
  spent = record {
    within = let c = solved.answered.counts.on.more in let w = solved.answered.counts.on.within in let l = limited.limit in let r = limited.rounds in omega arith;
    unknown = λ e. let s = solved.answered.counts.spent (unknown_state new.answer answer solved.answer_is e) in let c = solved.answered.counts.on.more in let l = limited.limit in let r = limited.rounds in omega arith;
  };
  rounds = let c = solved.answered.counts.on.more in let r = limited.rounds in omega arith;
}
  where
    unknown_state : (st : SatState) (a : Answer) → IsAnswerOfState st a → a ≡ kind.Unknown → st ≡ states.Unknown
    unknown_state states.Unknown a h e = refl
    unknown_state states.Sat a h e = absurd (let x : kind.Sat ≡ kind.Unknown = sym h ∙ e in apart_sat x)
      where
        apart_sat : kind.Sat ≡ kind.Unknown → ⊥
        apart_sat x = cc
    unknown_state states.UnsatUnderAssumptions a h e = absurd (let x : kind.Unsat ≡ kind.Unknown = sym h ∙ e in apart_unsat x)
      where
        apart_unsat : kind.Unsat ≡ kind.Unknown → ⊥
        apart_unsat x = cc
    unknown_state states.Unsat a h e = absurd (let x : kind.Unsat ≡ kind.Unknown = sym h ∙ e in apart_unsat x)
      where
        apart_unsat : kind.Unsat ≡ kind.Unknown → ⊥
        apart_unsat x = cc
