-- The result of a run.
use Rattle.std.proofs.Common.{ℕ, ◌+◌, ◌≤◌, ◌≡◌, ◌∙◌, true, false, Option, Some, None, List, [], ◌∷◌, ◌++◌, map, length, Result, Ok, Err, OnErr, OnOk, IfOk, inl, inr, refl, sym, ap, subst, arith, append-nil, append_assoc}
use Rattle.std.specs.Prelude.{IsErrOf}
use Rattle.std.proofs.Math.Logic.{∥∥₁_elim, ∥∥₁_prop}
use Rattle.sat_base.specs.device.Device.{Reader, Writer, GaveEnough, WriterAccepts, lent_writer, max_reads}
use Rattle.sat_base.specs.device.Reading.{Source, new_source}
use Rattle.sat_base.specs.device.Sink.{empty_sink}
use Rattle.sat_base.specs.script.Script.{Command}
use Rattle.sat_base.specs.script.ScriptState.{accepted_commands, initial_state}
use Rattle.sat_base.specs.steps.Steps.{Step, End}
use Rattle.sat_base.proofs.lemmas.device.Writes as writes
use Rattle.sat_checker.specs.matching.Expected.{Finish, Outcome, expected_steps, finish}
use Rattle.sat_checker.specs.matching.ProofChecking.{checker_rules}
use Rattle.sat_solver.specs.declared.proof.format.ProofFormat.TheVariants.{Varisat}
use Rattle.sat_solver.specs.proof.Counting.{nothing_counted as uncounted}
use Rattle.sat_solver.specs.declared.proof.hash_bits.Counting.{Counting}
use Rattle.sat_solver.specs.proof.OutputView.{text_in}
use Rattle.sat_solver.specs.proof.ProofTexts.{ReceivedText}
use Rattle.sat_solver.specs.proof.ProofView.{Closed, Open, Broken, TargetReceives, TargetFails, ReturnsWriter, TargetReceivesAll, is_open}
use Rattle.sat_solver.specs.session.Session.{AreAllowedSteps}
use Rattle.sat_solver.specs.facade.Calls.{HasFullStore, MakesSteps, ReachesBySteps}
use Rattle.sat_solver.specs.facade.Recording.{FailsWhileWriting}
use Rattle.sat_solver.proofs.lemmas.facade.Steps.{breaks_later, makes_more, reaches_broken, reaches_made}
use Rattle.sat_solver.proofs.lemmas.session.CutsLemmas.{cuts_are_free}
use Rattle.sat_solver.proofs.lemmas.session.ProofLemmas.{closed_is_text}
use Rattle.sat_solver.proofs.lemmas.session.StepLemmas.{sessions_are_accepted}
use Rattle.certify.specs.Devices.{NoWriterCallFailed, OneWriterCallFailed}
use Rattle.certify.specs.answers.Answers.{answers_from, answers_text}
use Rattle.certify.specs.confirm.Streams.{CanBeTotal, rest_in}
use Rattle.certify.specs.declared.fault.RunFault.{RunFault}
use Rattle.certify.specs.declared.fault.RunFault.TheVariants as fault
use Rattle.certify.specs.declared.run.session.RunState.{RunState}
use Rattle.certify.specs.declared.summary.AskReport.{AskReport}
use Rattle.certify.specs.declared.summary.Summary.{Summary}
use Rattle.certify.specs.declared.script.ahead.LastPiece.{LastPiece}
use Rattle.certify.specs.script.LastPiece.{source_in, waiting_bytes}
use Rattle.sat_base.specs.script.Language.{Reading, reading, plain_reading}
use Rattle.certify.specs.run.FinishedRun.{WritesAnswers, AnswersRightly, CertificateGuarantee, ReportsRightly, ReceivedCertificate, rounds_of_asks, identities_given, malformed_at, AreWithinBudget}
use Rattle.certify.specs.run.Running.{ScriptReadsAreFew, FinishesOrFaults, WritesRun}
use Rattle.certify.specs.run.Stopping.{StopsServing}
use Rattle.certify.specs.run.Unfinished.{CounterEnds, ExceedsLimit, ExceedsLimitInPrefix, StepsPrefix, Stopped, StoppedRun, ReceivedStepsPrefix}
use Rattle.certify.specs.run.SolverCalls.{IsCaused, ByWriteFault, IsReadySolver}
use Rattle.certify.specs.run.LackingVariables.{SomeCommandLacks}
use Rattle.certify.specs.run.Certifies.{Certifies, complete, ordered}
use Rattle.certify.specs.run.Ending.{ReturnedWithEnd, EndsRun, ReturnedAfter, ReturnedWithPrefix, HasTarget, HasOpenTarget, SummaryAgrees}
use Rattle.certify.specs.run.BetweenCommands.{run_place}
use Rattle.certify.specs.run.Serving.{RunPlace}
use Rattle.certify.specs.run.Stretches.{ServesCommands, ServesFirst}
use Rattle.certify.specs.run.ServedScript.{ServesScript, RunFails, ServesWholeScript}
use Rattle.certify.proofs.lemmas.run.Unhidden.{none_deletes}
use Rattle.certify.proofs.lemmas.run.Learned.{asks_learn, first_learn}
use Rattle.certify.proofs.lemmas.confirm.Streams.{faulted_front, gave_enough, passed_front, read_fails}
use Rattle.certify.proofs.lemmas.confirm.Joining.{covers_given, took_kept}
use Rattle.certify.proofs.lemmas.laws.Headlines.{same_reports}
use Rattle.certify.proofs.lemmas.run.MadeCertifies.{made_certifies}
use Rattle.certify.proofs.lemmas.run.ProofPrefixes.{broken_front, carried_front, closed_front}
use Rattle.certify.proofs.lemmas.run.Stopping.{stops_whole}
use Rattle.certify.proofs.lemmas.run.Written.{written_certifies}
use Rattle.certify.specs.run.RunSolver.{Solver}

-- `IsNew budget certificate s` holds if the run is before its first command, and its certificate is written to this
-- writer.
pub record IsNew {C : Type 0} (budget : ℕ) (certificate : Writer) (s : RunState C) : Type 0 where
  pub steps : s.solver.steps ≡ []
  pub target : s.solver.target ≡ Open Varisat uncounted (empty_sink certificate)
  pub rounds : s.solver.clock.rounds ≡ 0
  pub budget_is : s.budget ≡ budget
  pub commands : s.commands ≡ 0
  pub refused : s.refused ≡ 0
  pub asks : s.asks.items ≡ []

enough_so : (x y : Reader) (P Q : List ℕ → Type 0) → ((text : List ℕ) → P text → Q text) → GaveEnough x y P → GaveEnough x y Q
enough_so x y P Q f h = record { text = h.text; front = h.front; over = h.over; few = h.few; holds = λ rest k. f (h.text ++ rest) (h.holds rest k) }

-- a reader from which nothing was read ahead
pub fresh_source : {R : Type 0} (seen : R → Reader) (r : R) (a : LastPiece) → waiting_bytes a ≡ [] → a.reads ≡ 0 → source_in seen r a ≡ new_source (seen r)
fresh_source seen r a e f = rw (e, f) refl

-- WHAT A TARGET RECEIVED

some_same : (a b : Writer) → ◌≡◌ {A = Option Writer} (Some a) (Some b) → a ≡ b
some_same a b e = cc

module _ (w : Writer) (p q : Solver) (opened_at : p.target ≡ Open Varisat uncounted (empty_sink w)) where
  -- the target received the steps that were made since
  carried : (t : MakesSteps p q) → TargetReceives (Open Varisat uncounted (empty_sink w)) t.steps q.target
  carried t = subst (λ x. TargetReceives x t.steps q.target) opened_at t.target

  stopped : (t : FailsWhileWriting p q) → TargetFails (Open Varisat uncounted (empty_sink w)) t.steps q.target
  stopped t = subst (λ x. TargetFails x t.steps q.target) opened_at t.target

  pub took_open_target : MakesSteps p q → is_open q.target ≡ true
  took_open_target t = ap is_open (carried t).2

  pub took_target : MakesSteps p q → (c : Counting) → q.target ≡ Closed c → ⊥
  took_target t c e = let x : is_open q.target ≡ true = took_open_target t in let y : is_open (Closed c) ≡ true = subst (λ z. is_open z ≡ true) e x in absurd (cc)

  pub broke_target : FailsWhileWriting p q → (c : Counting) → q.target ≡ Closed c → ⊥
  broke_target t c e = let x : Broken (stopped t).0 ≡ Closed c = sym (stopped t).1 ∙ e in absurd (cc)

  -- if all steps were written, no call of the returned writer failed
  pub given_none : (given : Writer) → MakesSteps p q → ReturnsWriter q.target (Some given) → NoWriterCallFailed w given
  given_none given t g =
      let c = carried t in
      let e : given ≡ c.1.writer = some_same given c.1.writer (subst (λ x. ReturnsWriter x (Some given)) c.2 g) in
      let k = c.3.wrote.sent.takes in
      (ap (λ x. x.failures) e ∙ k.failures, ap (λ x. x.loans) e ∙ k.loans)

  -- if writing a step failed, exactly one call of the returned writer failed
  pub given_one : (given : Writer) → FailsWhileWriting p q → ReturnsWriter q.target (Some given) → OneWriterCallFailed w given
  given_one given t g =
      let c = stopped t in
      let e : given ≡ c.0 = some_same given c.0 (subst (λ x. ReturnsWriter x (Some given)) c.1 g) in
      let k = c.2.breaks in
      (ap (λ x. x.failures) e ∙ k.failures, ap (λ x. x.failed) e ∙ k.failed, ap (λ x. x.loans) e ∙ k.loans)

  -- if the proof was closed, the returned writer received the complete text
  pub closed_text : (given : Writer) (t : MakesSteps p q) → TargetReceivesAll q.target (End ∷ []) given → ReceivedText Varisat w given (End ∷ t.steps)
  closed_text given t g = closed_is_text Varisat w given t.steps End q.target (carried t) g

-- A RUN THAT WAS FINISHED

module _ {C : Type 0} (budget : ℕ) (w : Writer) (s t : RunState C) (fresh : IsNew budget w s) (text : List ℕ) (at : Option ℕ) (summary : Summary) (given u v z : Writer)
    (serves : ServesWholeScript initial_state (reading text) (length (plain_reading text).0) at s t u v) (closed : ReturnedWithEnd t.solver given) (took : WriterAccepts v z []) (sums : SummaryAgrees at t summary) where
  made_all : t.solver.steps ≡ serves.took.steps
  made_all = serves.took.history ∙ ap (λ xs. serves.took.steps ++ xs) fresh.steps ∙ append-nil serves.took.steps

  text_of : ReceivedText Varisat w given (End ∷ serves.took.steps)
  text_of = closed_text w s.solver t.solver fresh.target given serves.took closed.takes

  may : AreAllowedSteps (End ∷ serves.took.steps)
  may = subst (λ (xs : List Step). AreAllowedSteps (End ∷ xs)) made_all closed.may

  asks_are : summary.asks.items ≡ serves.reports
  asks_are = ap (λ (x : _). x.items) sums.asks ∙ serves.asks ∙ ap (λ rs. rs ++ serves.reports) fresh.asks

  says : serves.text ≡ answers_text (reading text).0 (reading text).1 serves.serves.outcomes
  says = sym (ap (λ (n : ℕ). answers_from (n + 1) initial_state (reading text).0 (reading text).1 serves.serves.outcomes) (sym fresh.commands) ∙ serves.serves.says)

  abbrev is_answered : AnswersRightly text budget summary serves.text
  is_answered = record {
    outcomes = serves.serves.outcomes;
    right = serves.serves.right;
    answers = says;
    commands = let a = sums.commands in let b = serves.counted in let c = fresh.commands in omega arith;
    refused = let a = sums.refused in let b = serves.refusals in let c = fresh.refused in let d = serves.serves.refuses in omega arith;
    malformed = sums.ends ∙ serves.ends ∙ ap (λ (n : ℕ). malformed_at n (reading text).1) (let c = fresh.commands in let e : s.commands + length (reading text).0 + 1 ≡ length (reading text).0 + 1 = omega arith in e);
    kinds = ap (λ rs. map (λ (r : AskReport). r.answer) rs) asks_are ∙ serves.serves.kinds;
    spent =
        let given = identities_given initial_state (accepted_commands initial_state (reading text).0) in
        subst (λ rs. AreWithinBudget budget 0 given rs) (sym asks_are)
        (subst (λ n. AreWithinBudget n 0 given serves.reports) fresh.budget_is (subst (λ n. AreWithinBudget s.budget n given serves.reports) fresh.rounds serves.serves.spent));
  }

  followed : ServesCommands initial_state [] t.solver.steps (accepted_commands initial_state (reading text).0) serves.serves.outcomes (rounds_of_asks serves.reports)
  followed = subst (λ (xs : List Step). ServesCommands initial_state xs t.solver.steps (accepted_commands initial_state (reading text).0) serves.serves.outcomes (rounds_of_asks serves.reports)) fresh.steps serves.serves.follows

  certified_made : Certifies checker_rules (End ∷ serves.took.steps) None [] (expected_steps initial_state (accepted_commands initial_state (reading text).0) serves.serves.outcomes) (rounds_of_asks serves.reports)
  certified_made =
      let all = End ∷ serves.took.steps in
      let last : Certifies checker_rules all None t.solver.steps (Finish ∷ []) [] = subst (λ (xs : List Step). Certifies checker_rules all None xs (Finish ∷ []) []) (sym made_all) (ordered tt finish complete) in
      made_certifies all followed (subst AreAllowedSteps (sym made_all) may.0) last

  follows : ServesCommands initial_state [] serves.took.steps (accepted_commands initial_state (reading text).0) serves.serves.outcomes (rounds_of_asks summary.asks.items)
  follows = subst (λ rs. ServesCommands initial_state [] serves.took.steps (accepted_commands initial_state (reading text).0) serves.serves.outcomes (rounds_of_asks rs)) (sym asks_are)
      (subst (λ (xs : List Step). ServesCommands initial_state [] xs (accepted_commands initial_state (reading text).0) serves.serves.outcomes (rounds_of_asks serves.reports)) made_all followed)

  guarantee : CertificateGuarantee text budget summary serves.text (text_in Varisat text_of.written)
  guarantee = record {
    is_answered = is_answered;
    steps = text_of.written;
    certificate = text_of.spells refl;
    accepted = (sessions_are_accepted text_of.written (cuts_are_free (End ∷ serves.took.steps) text_of.written text_of.counting text_of.cuts may).may).0;
    certifies = subst (λ rs. Certifies checker_rules text_of.written None [] (expected_steps initial_state (accepted_commands initial_state (reading text).0) serves.serves.outcomes) (rounds_of_asks rs)) (sym asks_are)
        (written_certifies (End ∷ serves.took.steps) text_of.written text_of.counting (expected_steps initial_state (accepted_commands initial_state (reading text).0) serves.serves.outcomes) (rounds_of_asks serves.reports) text_of.cuts may certified_made);
    made = serves.took.steps;
    follows = follows;
    counting = text_of.counting;
    cuts = text_of.cuts;
    learns = asks_learn uncounted text_of.counting follows text_of.cuts;
    keeps = λ hides. none_deletes follows text_of.cuts hides may.0;
  }

  pub wrote_text : WritesRun text budget summary (u, z) (w, given)
  wrote_text = record {
    answered = serves.text;
    certified = text_in Varisat text_of.written;
    writes_answers = subst (WriterAccepts u z) (append-nil serves.text) (writes.took_more u v z serves.text [] serves.written took);
    certifies = text_of.takes;
    guarantee = guarantee;
  }

  pub flushed_text : given.flushed ≡ true
  flushed_text = text_of.flushed

  pub none_certified : NoWriterCallFailed w given
  none_certified = (text_of.takes.failures, text_of.takes.loans)

-- HOW A RUN ENDS

none_both : (u v w : Writer) → NoWriterCallFailed u v → NoWriterCallFailed v w → NoWriterCallFailed u w
none_both u v w n m = (m.0 ∙ n.0, m.1 ∙ n.1)

one_both : (u v w : Writer) → NoWriterCallFailed u v → OneWriterCallFailed v w → OneWriterCallFailed u w
one_both u v w n m = (let a = n.0 in let b = m.0 in omega arith, m.1, m.2 ∙ n.1)

module _ {C : Type 0} (budget : ℕ) (w : Writer) (s t : RunState C) (fresh : IsNew budget w s) (x : Reader) (b : Source) (bounded : b.reads ≤ max_reads) (given u v z : Writer) where
  -- the script was served, but the run could not be ended
  ended_fault : (e : RunFault) (at : Option ℕ) → ServesScript initial_state reading plain_reading (Ok at) (new_source x) b s t u v → ByWriteFault e (OneWriterCallFailed v z × ReturnedWithEnd t.solver given) (NoWriterCallFailed v z × ReturnedAfter FailsWhileWriting t.solver given) (NoWriterCallFailed v z × ReturnedAfter MakesSteps t.solver given)
      → FinishesOrFaults (Err e) budget (x, b.reader) (u, z) (w, given)
  ended_fault fault.ScriptRead at h f = absurd f
  ended_fault fault.AnswersWrite at h f =
      let k = h.2 b.reader.given (covers_given b) in
      let text = closed_text w s.solver t.solver fresh.target given k.took f.1.takes in
      ((took_kept false (new_source x) b h.0).0, one_both u v z (k.written.failures, k.written.loans) f.0, (text.takes.failures, text.takes.loans))
  ended_fault fault.CertificateWrite at h f =
      let k = h.2 b.reader.given (covers_given b) in
      ((took_kept false (new_source x) b h.0).0, none_both u v z (k.written.failures, k.written.loans) f.0, given_one w s.solver f.1.last fresh.target given (breaks_later s.solver t.solver f.1.last k.took f.1.goes) f.1.gives)
  ended_fault fault.OutOfMemory at h f =
      let k = h.2 b.reader.given (covers_given b) in
      ((took_kept false (new_source x) b h.0).0, none_both u v z (k.written.failures, k.written.loans) f.0, given_none w s.solver f.1.last fresh.target given (makes_more s.solver t.solver f.1.last k.took f.1.goes) f.1.gives)
  ended_fault fault.StoreFull at h f =
      let k = h.2 b.reader.given (covers_given b) in
      ((took_kept false (new_source x) b h.0).0, none_both u v z (k.written.failures, k.written.loans) f.0, given_none w s.solver f.1.last fresh.target given (makes_more s.solver t.solver f.1.last k.took f.1.goes) f.1.gives)
  ended_fault fault.CounterEnd at h f =
      let k = h.2 b.reader.given (covers_given b) in
      ((took_kept false (new_source x) b h.0).0, none_both u v z (k.written.failures, k.written.loans) f.0, given_none w s.solver f.1.last fresh.target given (makes_more s.solver t.solver f.1.last k.took f.1.goes) f.1.gives)

  -- the script was not served to its end
  served_fault : (e : RunFault) → RunFails e (new_source x) b s.solver t.solver u v → z ≡ v → ReturnsWriter t.solver.target (Some given) → FinishesOrFaults (Err e) budget (x, b.reader) (u, z) (w, given)
  served_fault fault.ScriptRead h same g = (read_fails x b h.0.0 bounded h.0.1, subst (NoWriterCallFailed u) (sym same) h.1, given_none w s.solver t.solver fresh.target given h.2 g)
  served_fault fault.AnswersWrite h same g = (h.0.1.failures, subst (OneWriterCallFailed u) (sym same) h.1, given_none w s.solver t.solver fresh.target given h.2 g)
  served_fault fault.CertificateWrite h same g = (h.0.1.failures, subst (NoWriterCallFailed u) (sym same) h.1, given_one w s.solver t.solver fresh.target given h.2 g)
  served_fault e h same g = (h.0.1.failures, subst (NoWriterCallFailed u) (sym same) h.1, given_none w s.solver t.solver fresh.target given h.2 g)

  -- a run that served its script and ended is finished, or failed
  pub runs_so : (served : Result (Option ℕ) RunFault) (r : Result Summary RunFault) → ServesScript initial_state reading plain_reading served (new_source x) b s t u v → EndsRun served r t given v z → FinishesOrFaults r budget (x, b.reader) (u, z) (w, given)
  runs_so (Ok at) (Ok summary) h f =
      let k = h.2 b.reader.given (covers_given b) in
      let all = rest_in b.reader.given (new_source x) in
      let n = none_certified budget w s t fresh all at summary given u v z k f.0.0 f.0.1 f.1 in
      record {
        wrote = gave_enough x b h.0.0.0 (λ text. WritesRun text budget summary (u, z) (w, given)) h.0.0.1 h.0.1
            (λ total c. wrote_text budget w s t fresh (rest_in total (new_source x)) at summary given u v z (h.2 total c) f.0.0 f.0.1 f.1);
        read = (took_kept false (new_source x) b h.0).0;
        answered = none_both u v z (k.written.failures, k.written.loans) (f.0.1.failures, f.0.1.loans);
        certified = n;
        answers_flushed = f.0.2;
        certificate_flushed = flushed_text budget w s t fresh all at summary given u v z k f.0.0 f.0.1 f.1;
      }
  runs_so (Ok at) (Err e) h f = ended_fault e at h f.0
  runs_so (Err e) r h f = subst (λ (q : Result Summary RunFault). FinishesOrFaults q budget (x, b.reader) (u, z) (w, given)) (sym f.0) (served_fault e h.0 f.1 f.2)

  -- before the first command
  abbrev start : RunPlace
  start = record { judge = initial_state; number = 1; steps = []; rounds = 0 }

  starts : run_place s initial_state ≡ start
  starts = ap (λ (k : ℕ). at k s.solver.steps s.solver.clock.rounds) fresh.commands ∙ ap (λ (xs : List Step). at 0 xs s.solver.clock.rounds) fresh.steps ∙ ap (at 0 []) fresh.rounds
    where
      at : ℕ → List Step → ℕ → RunPlace
      at k xs n = record { judge = initial_state; number = k + 1; steps = xs; rounds = n }

  from_start : (script : Reading) (to : List Step) (v : Writer) → StopsServing s.budget (run_place s initial_state) script to u v → StopsServing budget start script to u v
  from_start script to v k = subst (λ (n : ℕ). StopsServing n start script to u v) fresh.budget_is (subst (λ (p : RunPlace). StopsServing s.budget p script to u v) starts k)

  -- `Shown to` holds if the certificate's writer received a prefix of the text of these steps and possibly later ones.
  abbrev Shown : List Step → Type 0
  Shown to = ∥ ((k : StepsPrefix w given) × (later : List Step) × (k.made ≡ later ++ to)) ∥₁

  -- the steps of the answered asks are among them
  stopped_run : (text : List ℕ) (to : List Step) → StopsServing budget start (reading text) to u z → Shown to → StoppedRun budget text (u, z) (w, given)
  stopped_run text to h shown = record {
    answered = h.took;
    certified = ∥∥₁_elim shown ∥∥₁_prop (λ k.
        let f = first_of h.serves k.1 k.2 in
        ∣ record { front = k.0; follows = f; learns = first_learn uncounted k.0.counting f k.0.cuts } ∣₁);
  }
    where
      first_of : {commands : List Command} {made : List Step} {os : List Outcome} {ns : List ℕ} → ServesFirst initial_state commands [] to os ns → (later : List Step) → made ≡ later ++ to → ServesFirst initial_state commands [] made os ns
      first_of f later e = record {
        first = f.first;
        left = f.left;
        whole = f.whole;
        mid = f.mid;
        later = later ++ f.later;
        steps = e ∙ ap (λ (xs : List Step). later ++ xs) f.steps ∙ sym (append_assoc later f.later f.mid);
        serves = f.serves;
      }

  made_since : (q : Solver) (xs : List Step) → q.steps ≡ xs ++ s.solver.steps → q.steps ≡ xs
  made_since q xs e = e ∙ ap (λ ys. xs ++ ys) fresh.steps ∙ append-nil xs

  -- the certificate's writer received a prefix of the text of the steps that were made
  made_by : (q : Solver) → ∥ AreAllowedSteps q.steps ∥₁ → MakesSteps s.solver q → ReturnsWriter q.target (Some given) → ∥ ((k : StepsPrefix w given) × (k.made ≡ q.steps)) ∥₁
  made_by q allowed took gives =
      let all = made_since q took.steps took.history in
      ∥∥₁_elim allowed ∥∥₁_prop (λ may.
      let front = carried_front w given took.steps q.target (subst AreAllowedSteps all may) (carried w s.solver q fresh.target took) gives in
      ∣ (front.0, front.1 ∙ sym all) ∣₁)

  -- what the writer received, if a call of it failed
  broken_by : (q : Solver) → ∥ AreAllowedSteps q.steps ∥₁ → FailsWhileWriting s.solver q → ReturnsWriter q.target (Some given) → ∥ ((k : StepsPrefix w given) × (k.made ≡ q.steps)) ∥₁
  broken_by q allowed broke gives =
      let all = made_since q broke.steps broke.history in
      ∥∥₁_elim allowed ∥∥₁_prop (λ may.
      let front = broken_front w given broke.steps q.target (subst AreAllowedSteps all may) (stopped w s.solver q fresh.target broke) gives in
      ∣ (front.0, front.1 ∙ sym all) ∣₁)

  shown_so : (q : Solver) (to later : List Step) → q.steps ≡ later ++ to → ∥ ((k : StepsPrefix w given) × (k.made ≡ q.steps)) ∥₁ → Shown to
  shown_so q to later e h = ∥∥₁_elim h ∥∥₁_prop (λ k. ∣ (k.0, later, k.1 ∙ e) ∣₁)

  -- the script was not served to its end
  served_shown : (e : RunFault) → RunFails e (new_source x) b s.solver t.solver u v → ReturnsWriter t.solver.target (Some given) → ∥ AreAllowedSteps t.solver.steps ∥₁ → Shown t.solver.steps
  served_shown fault.CertificateWrite h g allowed = shown_so t.solver t.solver.steps [] refl (broken_by t.solver allowed h.2 g)
  served_shown e h g allowed = shown_so t.solver t.solver.steps [] refl (made_by t.solver allowed h.2 g)

  -- the script was served, but the run could not be ended
  ended_shown : (e : RunFault) → MakesSteps s.solver t.solver → ByWriteFault e (OneWriterCallFailed v z × ReturnedWithEnd t.solver given) (NoWriterCallFailed v z × ReturnedAfter FailsWhileWriting t.solver given) (NoWriterCallFailed v z × ReturnedAfter MakesSteps t.solver given) → Shown t.solver.steps
  ended_shown fault.ScriptRead took f = absurd f
  ended_shown fault.AnswersWrite took f =
      let all = made_since t.solver took.steps took.history in
      let k = closed_front w given (End ∷ took.steps) (subst (λ (xs : List Step). AreAllowedSteps (End ∷ xs)) all f.1.may) (closed_text w s.solver t.solver fresh.target given took f.1.takes) in
      ∣ (k.0, End ∷ [], k.1 ∙ ap (λ (xs : List Step). End ∷ xs) (sym all)) ∣₁
  ended_shown fault.CertificateWrite took f =
      let g = f.1 in
      shown_so g.last t.solver.steps g.goes.steps g.goes.history (broken_by g.last g.may (breaks_later s.solver t.solver g.last took g.goes) g.gives)
  ended_shown e took f =
      let g = f.1 in
      shown_so g.last t.solver.steps g.goes.steps g.goes.history (made_by g.last g.may (makes_more s.solver t.solver g.last took g.goes) g.gives)

  served_front : (e : RunFault) → RunFails e (new_source x) b s.solver t.solver u v → ((total : List ℕ) → CanBeTotal b total → StoppedRun budget (rest_in total (new_source x)) (u, z) (w, given)) → Stopped budget (x, b.reader) (u, z) (w, given)
  served_front fault.ScriptRead h f = faulted_front x b h.0.0 (λ text. StoppedRun budget text (u, z) (w, given)) h.0.1 f
  served_front e h f = passed_front 1 x b h.0.0 (λ text. StoppedRun budget text (u, z) (w, given)) h.0.1 f

  -- a run that failed wrote prefixes of correct answers and of its certificate
  pub stopped_so : (served : Result (Option ℕ) RunFault) (r : Result Summary RunFault) → ServesScript initial_state reading plain_reading served (new_source x) b s t u v → EndsRun served r t given v z → OnErr r (Stopped budget (x, b.reader) (u, z) (w, given))
  stopped_so (Ok at) (Ok summary) h f = tt
  stopped_so (Ok at) (Err e) h f =
      let shown = ended_shown e (h.2 b.reader.given (covers_given b)).took f.0 in
      passed_front 1 x b h.0.0.0 (λ text. StoppedRun budget text (u, z) (w, given)) h.0.0.1
      (λ total k.
      let all = h.2 total k in
      let text = rest_in total (new_source x) in
      stopped_run text t.solver.steps
      (from_start (reading text) t.solver.steps z (stops_whole s.budget (run_place s initial_state) (reading text) t.solver.steps all.text all.reports all.refused u v z all.serves all.written f.1)) shown)
  stopped_so (Err e) r h f =
      let shown = served_shown e h.0 f.2 f.3 in
      subst (λ (q : Result Summary RunFault). OnErr q (Stopped budget (x, b.reader) (u, z) (w, given))) (sym f.0)
      (served_front e h.0 (λ total k.
      let text = rest_in total (new_source x) in
      stopped_run text t.solver.steps (from_start (reading text) t.solver.steps z (subst (StopsServing s.budget (run_place s initial_state) (reading text) t.solver.steps u) (sym f.1) (h.1 total k))) shown))

  -- the reason if a counter has ended
  served_end : (e : RunFault) → e ≡ fault.CounterEnd → RunFails e (new_source x) b s.solver t.solver u v → ReturnsWriter t.solver.target (Some given) → ∥ AreAllowedSteps t.solver.steps ∥₁
      → IsCaused e (HasFullStore t.solver) ((total : List ℕ) → CanBeTotal b total → ExceedsLimit s.commands initial_state (reading (rest_in total (new_source x))) t.solver.steps) → CounterEnds (x, b.reader) (w, given)
  served_end fault.CounterEnd q h gives allowed k =
      let front = made_by t.solver allowed h.2 gives in
      passed_front 1 x b h.0.0 (λ text. ExceedsLimitInPrefix (reading text) (w, given)) h.0.1
      (λ total y.
      elim (subst (λ n. ExceedsLimit n initial_state (reading (rest_in total (new_source x))) t.solver.steps) fresh.commands (k total y)) [
        | inl many ↦ inl (omega arith)
        | inr (needs, one) ↦ inr (∥∥₁_elim front ∥∥₁_prop (λ f. ∣ (f.0, needs, subst (SomeCommandLacks initial_state (reading (rest_in total (new_source x))).0) (sym f.1) one) ∣₁))
      ])
  served_end e q h gives allowed k = absurd (cc)

  -- a counter ended only if the script exceeds a limit
  pub counter_so : (served : Result (Option ℕ) RunFault) (r : Result Summary RunFault) → ServesScript initial_state reading plain_reading served (new_source x) b s t u v → EndsRun served r t given v z → IsErrOf r fault.CounterEnd → CounterEnds (x, b.reader) (w, given)
  counter_so (Ok at) (Ok summary) h f q = absurd (cc)
  counter_so (Ok at) (Err e) h f q = let k : e ≡ fault.CounterEnd = cc in absurd (subst (λ i. IsCaused i ⊥ ⊥) k f.2)
  counter_so (Err e) r h f q = let k : ◌≡◌ {A = Result Summary RunFault} (Err e) (Err fault.CounterEnd) = sym f.0 ∙ q in served_end e (cc) h.0 f.2 f.3 h.2

  -- a run that failed reached the solver's state by steps
  fails_went : (e : RunFault) → RunFails e (new_source x) b s.solver t.solver u v → ReachesBySteps s.solver t.solver
  fails_went fault.CertificateWrite h = reaches_broken s.solver t.solver h.2
  fails_went e h = reaches_made s.solver t.solver h.2

  -- whatever happens, the certificate's writer received a prefix of steps
  pub steps_so : (served : Result (Option ℕ) RunFault) → ServesScript initial_state reading plain_reading served (new_source x) b s t u v → ReturnedWithPrefix t.solver given → ReceivedStepsPrefix (w, given)
  steps_so (Ok at) h g = g.front s.solver w fresh.target fresh.steps (reaches_made s.solver t.solver (h.2 b.reader.given (covers_given b)).took)
  steps_so (Err e) h g = g.front s.solver w fresh.target fresh.steps (fails_went e h.0)

  few_by : b.reader.calls + 0 ≡ x.calls + b.reads → ScriptReadsAreFew (x, b.reader)
  few_by e = omega arith

  few_faults : (e : RunFault) → RunFails e (new_source x) b s.solver t.solver u v → ScriptReadsAreFew (x, b.reader)
  few_faults fault.ScriptRead h = few_by h.0.1.calls
  few_faults e h = few_by h.0.1.calls

  pub reads_few : (served : Result (Option ℕ) RunFault) → ServesScript initial_state reading plain_reading served (new_source x) b s t u v → ScriptReadsAreFew (x, b.reader)
  reads_few (Ok at) h = few_by (took_kept false (new_source x) b h.0).1
  reads_few (Err e) h = few_faults e h.0

  -- the target isn't closed yet
  fails_some : (e : RunFault) → RunFails e (new_source x) b s.solver t.solver u v → HasTarget t.solver
  fails_some fault.CertificateWrite h = broke_target w s.solver t.solver fresh.target h.2
  fails_some e h = took_target w s.solver t.solver fresh.target h.2

  pub has_target : (served : Result (Option ℕ) RunFault) → ServesScript initial_state reading plain_reading served (new_source x) b s t u v → HasTarget t.solver
  has_target (Ok at) h = took_target w s.solver t.solver fresh.target (h.2 b.reader.given (covers_given b)).took
  has_target (Err e) h = fails_some e h.0

  pub is_open_yet : (served : Result (Option ℕ) RunFault) → ServesScript initial_state reading plain_reading served (new_source x) b s t u v → OnOk served (HasOpenTarget t.solver)
  is_open_yet (Ok at) h = took_open_target w s.solver t.solver fresh.target (h.2 b.reader.given (covers_given b)).took
  is_open_yet (Err e) h = tt

  pub is_ready : (served : Result (Option ℕ) RunFault) → ServesScript initial_state reading plain_reading served (new_source x) b s t u v → OnOk served (IsReadySolver t.solver)
  is_ready (Ok at) h = h.1
  is_ready (Err e) h = tt

-- A LENT WRITER

unlent_names : (a b : Writer) (given back : ℕ) → (lent_writer back b).loans ≡ (lent_writer given a).loans → given ≡ back
unlent_names a b given back loans = let h : ◌≡◌ {A = List ℕ} (back ∷ b.loans) (given ∷ a.loans) = loans in cc

unlent_loans : (a b : Writer) (given back : ℕ) → (lent_writer back b).loans ≡ (lent_writer given a).loans → b.loans ≡ a.loans
unlent_loans a b given back loans = let h : ◌≡◌ {A = List ℕ} (back ∷ b.loans) (given ∷ a.loans) = loans in cc

unlent_takes : (a b : Writer) (given back : ℕ) (text : List ℕ) → WriterAccepts (lent_writer given a) (lent_writer back b) text → WriterAccepts a b text
unlent_takes a b given back text p = record { taken = p.taken; known_bytes = p.known_bytes; failures = p.failures; calls = p.calls; few = p.few; loans = unlent_loans a b given back p.loans }

module _ (budget : ℕ) (x y : Reader) (u z a b : Writer) (given back : ℕ) where
  unlent_none : NoWriterCallFailed (lent_writer given a) (lent_writer back b) → NoWriterCallFailed a b
  unlent_none p = (p.0, unlent_loans a b given back p.1)

  unlent_one : OneWriterCallFailed (lent_writer given a) (lent_writer back b) → OneWriterCallFailed a b
  unlent_one p = (p.0, p.1, unlent_loans a b given back p.2)

  loans_fault : (e : RunFault) → FinishesOrFaults (Err e) budget (x, y) (u, z) (lent_writer given a, lent_writer back b) → (lent_writer back b).loans ≡ (lent_writer given a).loans
  loans_fault fault.CertificateWrite h = h.2.2
  loans_fault e h = h.2.1

  loans_kept : (r : Result Summary RunFault) → FinishesOrFaults r budget (x, y) (u, z) (lent_writer given a, lent_writer back b) → (lent_writer back b).loans ≡ (lent_writer given a).loans
  loans_kept (Ok s) h = h.certified.1
  loans_kept (Err e) h = loans_fault e h

  unlent_wrote : (text : List ℕ) (s : Summary) → WritesRun text budget s (u, z) (lent_writer given a, lent_writer back b) → WritesRun text budget s (u, z) (a, b)
  unlent_wrote text s h = record {
    answered = h.answered;
    certified = h.certified;
    writes_answers = h.writes_answers;
    certifies = unlent_takes a b given back h.certified h.certifies;
    guarantee = h.guarantee;
  }

  unlent_fault : (e : RunFault) → FinishesOrFaults (Err e) budget (x, y) (u, z) (lent_writer given a, lent_writer back b) → FinishesOrFaults (Err e) budget (x, y) (u, z) (a, b)
  unlent_fault fault.CertificateWrite h = (h.0, h.1, unlent_one h.2)
  unlent_fault e h = (h.0, h.1, unlent_none h.2)

  unlent : (r : Result Summary RunFault) → FinishesOrFaults r budget (x, y) (u, z) (lent_writer given a, lent_writer back b) → FinishesOrFaults r budget (x, y) (u, z) (a, b)
  unlent (Ok s) h = record {
    wrote = enough_so x y (λ text. WritesRun text budget s (u, z) (lent_writer given a, lent_writer back b)) (λ text. WritesRun text budget s (u, z) (a, b)) (λ text. unlent_wrote text s) h.wrote;
    read = h.read;
    answered = h.answered;
    certified = unlent_none h.certified;
    answers_flushed = h.answers_flushed;
    certificate_flushed = h.certificate_flushed;
  }
  unlent (Err e) h = unlent_fault e h

-- once a lent writer is returned, the result of the run holds for it
pub runs_lent : {C : Type 0} (seen : C → Writer) (budget : ℕ) (x y : Reader) (u z : Writer) (a c v : C) (given back : ℕ) → (given ≡ back → c ≡ v) → (r : Result Summary RunFault)
    → FinishesOrFaults r budget (x, y) (u, z) (lent_writer given (seen a), lent_writer back (seen v)) → FinishesOrFaults r budget (x, y) (u, z) (seen a, seen c)
runs_lent seen budget x y u z a c v given back same r h =
    let is_back : c ≡ v = same (unlent_names (seen a) (seen v) given back (loans_kept budget x y u z (seen a) (seen v) given back r h)) in
    subst (λ (k : _). FinishesOrFaults r budget (x, y) (u, z) (seen a, seen k)) (sym is_back) (unlent budget x y u z (seen a) (seen v) given back r h)

unlent_front : (a b : Writer) (given back : ℕ) → StepsPrefix (lent_writer given a) (lent_writer back b) → StepsPrefix a b
unlent_front a b given back k = record {
  made = k.made;
  steps = k.steps;
  counting = k.counting;
  cuts = k.cuts;
  accepted = k.accepted;
  bytes = k.bytes;
  following = k.following;
  whole = k.whole;
  took = record { taken = k.took.taken; known_bytes = k.took.known_bytes };
}

unlent_steps : (a b : Writer) (given back : ℕ) → ReceivedStepsPrefix (lent_writer given a, lent_writer back b) → ReceivedStepsPrefix (a, b)
unlent_steps a b given back h = ∥∥₁_elim h ∥∥₁_prop (λ (k : StepsPrefix (lent_writer given a) (lent_writer back b)). ∣ unlent_front a b given back k ∣₁)

-- once a lent writer is returned, the steps that it received are those that its owner received
pub steps_lent : {C : Type 0} (seen : C → Writer) (budget : ℕ) (x y : Reader) (u z : Writer) (a c v : C) (given back : ℕ) → (given ≡ back → c ≡ v) → (r : Result Summary RunFault)
    → FinishesOrFaults r budget (x, y) (u, z) (lent_writer given (seen a), lent_writer back (seen v)) → ReceivedStepsPrefix (lent_writer given (seen a), lent_writer back (seen v)) → ReceivedStepsPrefix (seen a, seen c)
steps_lent seen budget x y u z a c v given back same r h k =
    let is_back : c ≡ v = same (unlent_names (seen a) (seen v) given back (loans_kept budget x y u z (seen a) (seen v) given back r h)) in
    subst (λ (q : _). ReceivedStepsPrefix (seen a, seen q)) (sym is_back) (unlent_steps (seen a) (seen v) given back k)

unlent_exceeds : (script : Reading) (a b : Writer) (given back : ℕ) → ExceedsLimitInPrefix script (lent_writer given a, lent_writer back b) → ExceedsLimitInPrefix script (a, b)
unfolding unlent_front
unlent_exceeds script a b given back (inl many) = inl many
unlent_exceeds script a b given back (inr h) = inr (∥∥₁_elim h ∥∥₁_prop (λ k. ∣ (unlent_front a b given back k.0, k.1, k.2) ∣₁))

-- once a lent writer is returned, the reason why a counter has ended holds for it
pub counter_lent : {C : Type 0} (seen : C → Writer) (budget : ℕ) (x y : Reader) (u z : Writer) (a c v : C) (given back : ℕ) → (given ≡ back → c ≡ v) → (r : Result Summary RunFault)
    → FinishesOrFaults r budget (x, y) (u, z) (lent_writer given (seen a), lent_writer back (seen v)) → CounterEnds (x, y) (lent_writer given (seen a), lent_writer back (seen v)) → CounterEnds (x, y) (seen a, seen c)
counter_lent seen budget x y u z a c v given back same r h k =
    let is_back : c ≡ v = same (unlent_names (seen a) (seen v) given back (loans_kept budget x y u z (seen a) (seen v) given back r h)) in
    record {
      text = k.text;
      front = k.front;
      holds = λ rest f. subst (λ (q : _). ExceedsLimitInPrefix (reading (k.text ++ rest)) (seen a, seen q)) (sym is_back) (unlent_exceeds (reading (k.text ++ rest)) (seen a) (seen v) given back (k.holds rest f));
    }

unlent_run : (budget : ℕ) (text : List ℕ) (u z a b : Writer) (given back : ℕ) → StoppedRun budget text (u, z) (lent_writer given a, lent_writer back b) → StoppedRun budget text (u, z) (a, b)
unfolding unlent_front
unlent_run budget text u z a b given back h = record {
  answered = h.answered;
  certified = ∥∥₁_elim h.certified ∥∥₁_prop (λ k. ∣ record { front = unlent_front a b given back k.front; follows = k.follows; learns = k.learns } ∣₁);
}

-- once a lent writer is returned, what an unfinished run wrote is what it received
pub stopped_lent : {C : Type 0} (seen : C → Writer) (budget : ℕ) (x y : Reader) (u z : Writer) (a c v : C) (given back : ℕ) → (given ≡ back → c ≡ v) → (r : Result Summary RunFault)
    → FinishesOrFaults r budget (x, y) (u, z) (lent_writer given (seen a), lent_writer back (seen v)) → OnErr r (Stopped budget (x, y) (u, z) (lent_writer given (seen a), lent_writer back (seen v))) → OnErr r (Stopped budget (x, y) (u, z) (seen a, seen c))
stopped_lent seen budget x y u z a c v given back same (Ok s) h k = tt
stopped_lent seen budget x y u z a c v given back same (Err e) h k =
    let is_back : c ≡ v = same (unlent_names (seen a) (seen v) given back (loans_kept budget x y u z (seen a) (seen v) given back (Err e) h)) in
    record {
      text = k.text;
      front = k.front;
      holds = λ rest f. subst (λ (q : _). StoppedRun budget (k.text ++ rest) (u, z) (seen a, seen q)) (sym is_back) (unlent_run budget (k.text ++ rest) u z (seen a) (seen v) given back (k.holds rest f));
    }

-- WHAT A RUN GUARANTEES

module _ (budget : ℕ) (x y : Reader) (u z a b : Writer) where
  pub answered_if : (r : Result Summary RunFault) → FinishesOrFaults r budget (x, y) (u, z) (a, b) → IfOk r (λ s. WritesAnswers budget s (x, y) (u, z))
  answered_if (Ok s) h = enough_so x y (λ text. WritesRun text budget s (u, z) (a, b)) (λ text. (answered : List ℕ) × WriterAccepts u z answered × ReportsRightly text budget s answered) (λ text k. (k.answered, k.writes_answers, (same_reports text budget s k.answered).1 k.guarantee.is_answered)) h.wrote
  answered_if (Err e) h = tt

  pub guaranteed_if : (r : Result Summary RunFault) → FinishesOrFaults r budget (x, y) (u, z) (a, b) → IfOk r (λ s. ReceivedCertificate budget s (x, y) (u, z) (a, b))
  guaranteed_if (Ok s) h = enough_so x y (λ text. WritesRun text budget s (u, z) (a, b)) (λ text. (answered : List ℕ) × (certified : List ℕ) × WriterAccepts u z answered × WriterAccepts a b certified × CertificateGuarantee text budget s answered certified) (λ text k. (k.answered, k.certified, k.writes_answers, k.certifies, k.guarantee)) h.wrote
  guaranteed_if (Err e) h = tt
