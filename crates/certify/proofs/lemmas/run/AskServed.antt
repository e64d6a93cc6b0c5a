-- How the calls of the solver serve an ask.
use Rattle.std.proofs.Common.{ℕ, ◌+◌, ◌*◌, ◌^◌, ◌-◌, ◌<◌, ◌≡◌, ◌∙◌, Bool, true, false, None, List, [], ◌∷◌, ◌++◌, map, refl, sym, ap, subst, arith, inl, inr, ◌⊎◌}
use Rattle.std.proofs.lemmas.Bool.{both_ways}
use Rattle.sat_base.specs.script.Script.{Literal, Ask, names_of}
use Rattle.sat_base.specs.script.ScriptState.{IsRightModel, ScriptState, state_after_accepted, introduce_all, refusal_of}
use Rattle.sat_base.specs.steps.Steps.{Step}
use Rattle.sat_checker.specs.LiteralSets.{canonical}
use Rattle.sat_checker.specs.matching.Checking.{variable_named}
use Rattle.sat_checker.specs.matching.Expected.{Outcome, Unsat, Unknown, Expected, Opens, Shows, Fails, Closes, FitsExpected, steps_introducing, step_showing, fails}
use Rattle.sat_checker.specs.matching.ProofChecking.{checker_rules}
use Rattle.sat_solver.specs.declared.state.SatState.{SatState}
use Rattle.sat_solver.specs.declared.state.SatState.TheVariants as states
use Rattle.sat_solver.specs.variables.NamingSteps.{IsLiteralsStep}
use Rattle.sat_checker.specs.matching.Bridge.{LiveVariables}
use Rattle.sat_solver.specs.variables.Refusing.{names_in}
use Rattle.sat_solver.specs.schedule.Solving.{CountsEmpoweringIn}
use Rattle.sat_solver.specs.session.AllowedSteps.{OnlyAllowedSteps, OnlyWidthAfterUnsat}
use Rattle.sat_solver.specs.solver.Adding.{ForgetsAnswer, due_for_assumptions}
use Rattle.sat_solver.specs.solver.Calls.{learned_of, due_between_states}
use Rattle.sat_solver.specs.solver.Lines.{IsCoreOf}
use Rattle.sat_solver.specs.facade.Answers.{IsRightCoreOf, IsRightLine, core_for, model_line}
use Rattle.sat_solver.specs.facade.Recording.{RecordsAnswer}
use Rattle.sat_solver.specs.facade.States.{IsInState}
use Rattle.certify.specs.answers.AnswerForms.{named_literals}
use Rattle.certify.specs.answers.RightAnswers.{OutcomeIsRight}
use Rattle.certify.specs.declared.summary.Answer.{Answer}
use Rattle.certify.specs.declared.summary.Answer.TheVariants as kind
use Rattle.certify.specs.declared.summary.AskReport.{AskReport}
use Rattle.certify.specs.run.FinishedRun.{RoundsAreBounded, SpendsWithinBudget, answer_kind}
use Rattle.certify.specs.run.SolverCalls.{IsAnswerOfState, AssumptionsAccepted, Searched}
use Rattle.certify.specs.run.Certifies.{IsKnownUnsat}
use Rattle.certify.specs.run.BetweenCommands.{AgreesWithState}
use Rattle.sat_checker.proofs.lemmas.matching.Traces.{closed_by_none}
use Rattle.sat_checker.specs.matching.Traces.{HasTrace, no_step, silent, visible}
use Rattle.certify.specs.run.Stretches.{MakesAskSteps, LearnsBetween, LearnsEachRound, showing_if}
use Rattle.certify.specs.run.Reporting.{outcome_for, IsReportedRight}
use Rattle.certify.proofs.lemmas.run.NamesIn.{names_same}
use Rattle.certify.proofs.lemmas.run.Reaching.{makes_from, reaches}
use Rattle.certify.proofs.lemmas.run.Cores.{right_in_order, spelt_in_order}
use Rattle.certify.proofs.lemmas.run.Recorded.{unsat_known}
use Rattle.certify.specs.run.RunSolver.{Solver}

-- a step that fits a core also fits its sorted literals
fails_sorted : (s : List Step) (ask : List Literal) (core : List ℕ) (step : Step) → FitsExpected (checker_rules.knows s) s (Fails ask (named_literals core)) step → FitsExpected (checker_rules.knows s) s (Fails ask (named_literals (canonical core))) step
fails_sorted s ask core step (fails {c = c} h) = fails (spelt_in_order (variable_named s) core c h)

sorted_core : (es : List Expected) (ask : List Literal) (core : List ℕ) {s t : List Step} {xs : List Expected} → HasTrace checker_rules s t xs → xs ≡ Fails ask (named_literals core) ∷ es → HasTrace checker_rules s t (Fails ask (named_literals (canonical core)) ∷ es)
sorted_core es ask core no_step e = absurd (cc)
sorted_core es ask core (silent q m) e = silent q (sorted_core es ask core m e)
sorted_core es ask core {t = t} (visible {s = s} {step = step} {e = x} {es = ys} f m) e =
    let hd : x ≡ Fails ask (named_literals core) = cc in
    let tl : ys ≡ es = cc in
    visible (fails_sorted s ask core step (subst (λ y. FitsExpected (checker_rules.knows s) s y step) hd f)) (subst (HasTrace checker_rules (step ∷ s) t) tl m)

-- the outcome of an ask, given the solver after it
module _ (now : Solver) (ask : List Literal) (asked : named_literals now.assumptions ≡ ask) (j : ScriptState) (live : LiveVariables) (agree : IsInState now j live) where
  model_at : IsRightLine now (model_line now) → IsRightModel j (named_literals now.assumptions) (named_literals (model_line now))
  model_at right = subst (λ (i : ScriptState). IsRightModel i (named_literals now.assumptions) (named_literals (model_line now))) agree.state right

  core_at : IsRightCoreOf now (core_for now.answer now) → IsCoreOf j (named_literals now.assumptions) (named_literals (core_for now.answer now))
  core_at right = subst (λ (i : ScriptState). IsCoreOf i (named_literals now.assumptions) (named_literals (core_for now.answer now))) agree.state right

  line_listed : IsReportedRight kind.Sat now → names_of (named_literals (model_line now)) ≡ map (λ n. n.name) j.in_use
  line_listed right = (model_at right).names

  reported_right : (a : Answer) → IsReportedRight a now → OutcomeIsRight j ask (outcome_for a now)
  reported_right kind.Sat right = subst (λ q. OutcomeIsRight j q (outcome_for kind.Sat now)) asked (model_at right)
  reported_right kind.Unsat right =
      subst (λ q. OutcomeIsRight j q (outcome_for kind.Unsat now)) asked (right_in_order j (named_literals now.assumptions) (core_for now.answer now) (core_at right).among (core_at right).none)
  reported_right kind.Unknown right = tt

-- the reported kind is that of the outcome
pub kind_reported : (a : Answer) (now : Solver) → a ≡ answer_kind (outcome_for a now)
kind_reported kind.Sat now = refl
kind_reported kind.Unsat now = refl
kind_reported kind.Unknown now = refl

-- the state of the solver for each answer
sat_state : (st : SatState) → IsAnswerOfState st kind.Sat → st ≡ states.Sat
sat_state states.Sat h = refl
sat_state e h = absurd (cc)

unsat_state : (st : SatState) → IsAnswerOfState st kind.Unsat → (st ≡ states.UnsatUnderAssumptions) ⊎ (st ≡ states.Unsat)
unsat_state states.UnsatUnderAssumptions h = inl refl
unsat_state states.Unsat h = inr refl
unsat_state states.Unknown h = absurd (cc)
unsat_state states.Sat h = absurd (cc)

unknown_state : (st : SatState) → IsAnswerOfState st kind.Unknown → st ≡ states.Unknown
unknown_state states.Unknown h = refl
unknown_state e h = absurd (cc)

sat_apart : (st : SatState) → st ≡ states.Sat → st ≡ states.Unsat → ⊥
sat_apart st e f = cc

core_apart : (st : SatState) → st ≡ states.UnsatUnderAssumptions → st ≡ states.Unsat → ⊥
core_apart st e f = cc

unknown_apart : (st : SatState) → st ≡ states.Unknown → st ≡ states.Unsat → ⊥
unknown_apart st e f = cc

unsat_apart : (st : SatState) → st ≡ states.Unsat → st ≡ states.Unknown → ⊥
unsat_apart st e f = cc

-- if the solver's state is `Unsat`, the core is empty
unsat_outcome : (now : Solver) (a : Answer) → now.answer ≡ states.Unsat → IsAnswerOfState now.answer a → outcome_for a now ≡ Unsat []
unsat_outcome now kind.Sat e h = absurd (sat_apart now.answer (sat_state now.answer h) e)
unsat_outcome now kind.Unsat e h = ap (λ st. Unsat (named_literals (canonical (core_for st now)))) e
unsat_outcome now kind.Unknown e h = absurd (unknown_apart now.answer (unknown_state now.answer h) e)

-- the step that shows an answer
module _ (now : Solver) (records : RecordsAnswer now) (ask : List Literal) (asked : named_literals now.assumptions ≡ ask) (j : ScriptState) (before : SatState) (s : List Step) where
  abbrev ReportsBetween : SatState → SatState → Type 0
  ReportsBetween b st = HasTrace checker_rules s now.steps (due_between_states b st (model_line now) now.assumptions now.core)

  abbrev Shown : Bool → Outcome → Type 0
  Shown unsat o = HasTrace checker_rules s now.steps (showing_if unsat j ask o)

  -- a search that did not end in state `Unsat` shows its outcome
  shown_going : (o : Outcome) → (now.answer ≡ states.Unsat → ⊥) → HasTrace checker_rules s now.steps (step_showing j ask o) → Shown (checker_rules.unsat now.steps) o
  shown_going o n m = subst (λ b. Shown b o) (sym (records.unrecorded n)) m

  sat_shown : now.answer ≡ states.Sat → before ≡ states.Unknown → names_of (named_literals (model_line now)) ≡ map (λ n. n.name) j.in_use → ReportsBetween before now.answer → Shown (checker_rules.unsat now.steps) (outcome_for kind.Sat now)
  sat_shown e b names w =
      let v : ReportsBetween states.Unknown states.Sat = subst (λ st. ReportsBetween states.Unknown st) e (subst (λ st. ReportsBetween st now.answer) b w) in
      let m = subst (HasTrace checker_rules s now.steps)
      (ap (λ ns. Shows ns (named_literals now.assumptions) (named_literals (model_line now)) ∷ []) names ∙ ap (λ q. Shows (map (λ n. n.name) j.in_use) q (named_literals (model_line now)) ∷ []) asked) v in
      shown_going (outcome_for kind.Sat now) (sat_apart now.answer e) m

  core_shown : now.answer ≡ states.UnsatUnderAssumptions → before ≡ states.Unknown → ReportsBetween before now.answer → Shown (checker_rules.unsat now.steps) (outcome_for kind.Unsat now)
  core_shown e b w =
      let v : ReportsBetween states.Unknown states.UnsatUnderAssumptions = subst (λ st. ReportsBetween states.Unknown st) e (subst (λ st. ReportsBetween st now.answer) b w) in
      let core = now.core in
      let m = subst (HasTrace checker_rules s now.steps) (ap (λ q. Fails q (named_literals core) ∷ []) asked) v in
      let sorted = sorted_core [] ask core m refl in
      shown_going (outcome_for kind.Unsat now) (core_apart now.answer e)
      (subst (λ st. HasTrace checker_rules s now.steps (Fails ask (named_literals (canonical (core_for st now))) ∷ [])) (sym e) sorted)

  none_reported : (b : SatState) → ReportsBetween b states.Unsat → HasTrace checker_rules s now.steps []
  none_reported states.Unknown w = w
  none_reported e w = w

  unsat_shown : now.answer ≡ states.Unsat → ReportsBetween before now.answer → (o : Outcome) → Shown (checker_rules.unsat now.steps) o
  unsat_shown e w o = subst (λ b. Shown b o) (sym (records.recorded e)) (none_reported before (subst (λ st. ReportsBetween before st) e w))

  unknown_shown : now.answer ≡ states.Unknown → before ≡ states.Unknown → ReportsBetween before now.answer → Shown (checker_rules.unsat now.steps) (outcome_for kind.Unknown now)
  unknown_shown e b w = shown_going (outcome_for kind.Unknown now) (unknown_apart now.answer e) (subst (λ st. ReportsBetween states.Unknown st) e (subst (λ st. ReportsBetween st now.answer) b w))

  pub answer_shown : (a : Answer) → IsAnswerOfState now.answer a → ((now.answer ≡ states.Unsat → ⊥) → before ≡ states.Unknown) → (a ≡ kind.Sat → names_of (named_literals (model_line now)) ≡ map (λ n. n.name) j.in_use) → ReportsBetween before now.answer
      → Shown (checker_rules.unsat now.steps) (outcome_for a now)
  answer_shown kind.Sat h b names w = let e = sat_state now.answer h in sat_shown e (b (sat_apart now.answer e)) (names refl) w
  answer_shown kind.Unsat h b names w = elim (unsat_state now.answer h) [ inl e ↦ core_shown e (b (core_apart now.answer e)) w | inr e ↦ unsat_shown e w (outcome_for kind.Unsat now) ]
  answer_shown kind.Unknown h b names w = let e = unknown_state now.answer h in unknown_shown e (b (unknown_apart now.answer e)) w

-- setting assumptions leaves the solver's state `Unknown` or `Unsat`
forgets_either : (a b : SatState) → ForgetsAnswer a b → (b ≡ states.Unknown) ⊎ (b ≡ states.Unsat)
forgets_either a states.Unknown h = inl refl
forgets_either a states.Unsat h = inr refl
forgets_either states.Unsat states.Sat h = absurd (cc)
forgets_either states.Unknown states.Sat h = absurd h
forgets_either states.Sat states.Sat h = absurd h
forgets_either states.UnsatUnderAssumptions states.Sat h = absurd h
forgets_either states.Unsat states.UnsatUnderAssumptions h = absurd (cc)
forgets_either states.Unknown states.UnsatUnderAssumptions h = absurd h
forgets_either states.Sat states.UnsatUnderAssumptions h = absurd h
forgets_either states.UnsatUnderAssumptions states.UnsatUnderAssumptions h = absurd h

-- the number of rounds that derive a clause
none_learned : (st : SatState) → learned_of st 0 ≡ 0
none_learned states.Unknown = refl
none_learned e = refl

less_one : (n : ℕ) → 0 < n → n ≡ n - 1 + 1
less_one n h = omega arith

answer_learns : (now : Solver) (st : SatState) (a : Answer) (n : ℕ) → IsAnswerOfState st a → ((st ≡ states.Unknown → ⊥) → 0 < n) → LearnsEachRound false (outcome_for a now) n (learned_of st n)
answer_learns now states.Unknown kind.Unknown n h f = refl
answer_learns now states.Sat kind.Sat n h f = less_one n (f (λ e. cc))
answer_learns now states.UnsatUnderAssumptions kind.Unsat n h f = less_one n (f (λ e. cc))
answer_learns now states.Unsat kind.Unsat n h f = less_one n (f (λ e. cc))
answer_learns now states.Unknown kind.Unsat n h f = absurd (cc)
answer_learns now states.Sat kind.Unsat n h f = absurd (cc)
answer_learns now states.Sat kind.Unknown n h f = absurd (cc)
answer_learns now states.UnsatUnderAssumptions kind.Unknown n h f = absurd (cc)
answer_learns now states.Unsat kind.Unknown n h f = absurd (cc)
answer_learns now x kind.Sat n h f = absurd (cc)

-- an ask: its literals are assumed, and the solver searches
module _ (old mid now : Solver) (user : List ℕ) (budget : ℕ) (report : AskReport) (opened : AssumptionsAccepted old mid user) (searched : Searched budget report mid now) (right : IsReportedRight report.answer now) where
  o : Outcome
  o = outcome_for report.answer now

  assumed_is : named_literals now.assumptions ≡ named_literals user
  assumed_is = ap named_literals (searched.solved.answered.assumed ∙ ap (λ (x : Solver). x.assumptions) searched.limited.same ∙ opened.replaced.assumed)

  same_steps : searched.mid.steps ≡ mid.steps
  same_steps = ap (λ (x : Solver). x.steps) searched.limited.same

  same_answer : searched.mid.answer ≡ mid.answer
  same_answer = ap (λ (x : Solver). x.answer) searched.limited.same

  unsat_stays : searched.mid.answer ≡ states.Unsat → now.answer ≡ states.Unsat
  unsat_stays e = ap (λ (x : Solver). x.answer) (searched.solved.answered.known (unsat_apart searched.mid.answer e)) ∙ e

  was_unknown : (now.answer ≡ states.Unsat → ⊥) → searched.mid.answer ≡ states.Unknown
  was_unknown n = elim (forgets_either old.answer mid.answer opened.replaced.state) [ inl e ↦ same_answer ∙ e | inr e ↦ absurd (n (unsat_stays (same_answer ∙ e))) ]

  known : checker_rules.unsat mid.steps ≡ true → IsKnownUnsat (outcome_for report.answer now) report.steps
  known u =
      let at = same_answer ∙ unsat_known mid opened.ready.records u in
      let k = searched.solved.answered.known (unsat_apart searched.mid.answer at) in
      let c : now.clock.rounds ≡ searched.mid.clock.rounds = ap (λ (x : Solver). x.clock.rounds) k in
      let r = searched.rounds in let l = searched.limited.rounds in
      record { outcome = unsat_outcome now report.answer (unsat_stays at) searched.solved.answer_is; rounds = omega arith }

  -- the number of rounds, as the search counts them
  count : now.clock.rounds - searched.mid.clock.rounds ≡ report.steps
  count = let r = searched.rounds in let l = searched.limited.rounds in omega arith

  -- an answer that was not known before took a round
  takes_rounds : checker_rules.unsat mid.steps ≡ false → (now.answer ≡ states.Unknown → ⊥) → 0 < report.steps
  takes_rounds g known_now =
      let before : searched.mid.answer ≡ states.Unknown = elim (forgets_either old.answer mid.answer opened.replaced.state) [
        | inl e ↦ same_answer ∙ e
        | inr e ↦ absurd (both_ways (checker_rules.unsat mid.steps) g (opened.ready.records.recorded e))
      ] in
      let c = searched.solved.answered.counts.round before known_now in
      let r = searched.rounds in let l = searched.limited.rounds in
      omega arith

  -- each round derived an empowering clause, except the round that answered
  learns : LearnsBetween (checker_rules.unsat mid.steps) (outcome_for report.answer now) report.steps mid.steps now.steps
  learns = record {
    learned = learned_of now.answer report.steps;
    times =
        subst (λ n. CountsEmpoweringIn mid.steps now.steps (learned_of now.answer n)) count
        (subst (λ ss. CountsEmpoweringIn ss now.steps (learned_of now.answer (now.clock.rounds - searched.mid.clock.rounds))) same_steps searched.solved.steps.times);
    counts = counted (checker_rules.unsat mid.steps) refl;
  }
    where
      counted : (b : Bool) → checker_rules.unsat mid.steps ≡ b → LearnsEachRound b (outcome_for report.answer now) report.steps (learned_of now.answer report.steps)
      counted true u = let k = (known u).rounds in (k, ap (learned_of now.answer) k ∙ none_learned now.answer)
      counted false g = answer_learns now now.answer report.answer report.steps searched.solved.answer_is (takes_rounds g)

  pub ask_spent : SpendsWithinBudget budget old.clock.rounds report
  ask_spent = subst (λ (n : ℕ). SpendsWithinBudget budget n report) (ap (λ (x : _). x.rounds) opened.replaced.clock) searched.spent

  module _ (j : ScriptState) (live : LiveVariables) (means : AgreesWithState old j live) (free : refusal_of j (Ask (named_literals user)) ≡ None) where
    first : (then : LiveVariables) × IsInState mid (introduce_all (names_in user) j) then
    first = reaches old mid (introduce_all (names_in user)) opened.replaced.did opened.ready.records.state j live means.agree

    first_trace : HasTrace checker_rules old.steps mid.steps (steps_introducing (names_in user) j ++ (Opens (named_literals user) (outcome_for report.answer now) ∷ []))
    first_trace = makes_from old mid (due_for_assumptions (outcome_for report.answer now) user) (opened.steps.ordered (outcome_for report.answer now)) j live means.agree

    agree_mid : IsInState mid (state_after_accepted (Ask (named_literals user)) j) first.0
    agree_mid = subst (λ ns. IsInState mid (introduce_all ns j) first.0) (sym (names_same user)) first.1

    agree_at : IsInState searched.mid (state_after_accepted (Ask (named_literals user)) j) first.0
    agree_at = subst (λ m. IsInState m (state_after_accepted (Ask (named_literals user)) j) first.0) (sym searched.limited.same) (record { state = agree_mid.state; agree = agree_mid.agree })

    second : (then : LiveVariables) × IsInState now (state_after_accepted (Ask (named_literals user)) j) then
    second = reaches searched.mid now (λ i. i) searched.solved.answered.did searched.solved.ready.records.state (state_after_accepted (Ask (named_literals user)) j) first.0 agree_at

    named : HasTrace checker_rules old.steps mid.steps (steps_introducing (names_of (named_literals user)) j ++ (Opens (named_literals user) (outcome_for report.answer now) ∷ []))
    named = subst (λ ns. HasTrace checker_rules old.steps mid.steps (steps_introducing ns j ++ (Opens (named_literals user) (outcome_for report.answer now) ∷ []))) (sym (names_same user)) first_trace

    listed : report.answer ≡ kind.Sat → names_of (named_literals (model_line now)) ≡ map (λ n. n.name) (state_after_accepted (Ask (named_literals user)) j).in_use
    listed e = line_listed now (named_literals user) assumed_is (state_after_accepted (Ask (named_literals user)) j) second.0 second.1 (subst (λ a. IsReportedRight a now) e right)

    shown : HasTrace checker_rules mid.steps now.steps (showing_if (checker_rules.unsat now.steps) (state_after_accepted (Ask (named_literals user)) j) (named_literals user) (outcome_for report.answer now))
    shown = answer_shown now searched.solved.ready.records (named_literals user) assumed_is (state_after_accepted (Ask (named_literals user)) j) searched.mid.answer mid.steps report.answer searched.solved.answer_is was_unknown listed
        (subst (λ ss. HasTrace checker_rules ss now.steps (due_between_states searched.mid.answer now.answer (model_line now) now.assumptions now.core)) same_steps searched.solved.steps.ordered)

    pub ask_right : OutcomeIsRight (state_after_accepted (Ask (named_literals user)) j) (named_literals user) (outcome_for report.answer now)
    ask_right = reported_right now (named_literals user) assumed_is (state_after_accepted (Ask (named_literals user)) j) second.0 second.1 report.answer right

    -- the bound on rounds, by the number of identities
    pub ask_bounded : RoundsAreBounded (state_after_accepted (Ask (named_literals user)) j).identity_count budget old.clock.rounds report
    ask_bounded =
        let most : ℕ = 2 ^ (2 * (state_after_accepted (Ask (named_literals user)) j).identity_count + 3) in
        let counted : now.clock.rounds < searched.mid.clock.rounds + most = subst (λ (i : ScriptState). now.clock.rounds < searched.mid.clock.rounds + 2 ^ (2 * i.identity_count + 3)) agree_at.state searched.solved.answered.counts.on.few in
        let r = searched.rounds in let l = searched.limited.rounds in
        let few : report.steps < most = omega arith in
        record { few = few; answered = λ left unknown. let all = ask_spent.unknown unknown in omega arith }

    module _ (new : Solver) (closed : AssumptionsAccepted now new []) where
      third : (then : LiveVariables) × IsInState new (state_after_accepted (Ask (named_literals user)) j) then
      third = reaches now new (introduce_all (names_in [])) closed.replaced.did closed.ready.records.state (state_after_accepted (Ask (named_literals user)) j) second.0 second.1

      shut : HasTrace checker_rules now.steps new.steps (Closes ∷ [])
      shut = closed_by_none Unknown (closed.steps.ordered Unknown)

      pub ask_steps : MakesAskSteps j (named_literals user) (outcome_for report.answer now) report.steps old.steps new.steps
      ask_steps = record {
        opened = mid.steps;
        shown = now.steps;
        opens = record { due = named; comes = subst (λ ns. OnlyAllowedSteps (IsLiteralsStep ns) old.steps mid.steps) (sym (names_same user)) opened.steps.comes };
        searches = record { due = shown; comes = subst (λ ss. OnlyAllowedSteps OnlyWidthAfterUnsat ss now.steps) same_steps searched.solved.steps.comes };
        closes = record { due = shut; comes = closed.steps.comes };
        known = known;
        recorded = λ u. unsat_outcome now report.answer (unsat_known now searched.solved.ready.records u) searched.solved.answer_is;
        learns = learns;
      }

      pub ask_then : (then : LiveVariables) × IsInState new (state_after_accepted (Ask (named_literals user)) j) then
      ask_then = third

  pub ask_rounds : (new : Solver) → AssumptionsAccepted now new [] → old.clock.rounds + report.steps ≡ new.clock.rounds
  ask_rounds new closed =
      let a : mid.clock.rounds ≡ old.clock.rounds = ap (λ (x : _). x.rounds) opened.replaced.clock in
      let b : new.clock.rounds ≡ now.clock.rounds = ap (λ (x : _). x.rounds) closed.replaced.clock in
      let r = searched.rounds in omega arith
