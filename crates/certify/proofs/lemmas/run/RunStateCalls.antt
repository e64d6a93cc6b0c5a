-- The effect of the parts of a run on its writers.
use Rattle.std.proofs.Common.{ℕ, ◌+◌, ◌≡◌, List, [], ◌∷◌, ◌++◌, None, Result, Ok, Err, OnErr, OnOk, IfErr, refl, sym, subst}
use Rattle.sat_base.specs.device.Device.{Writer, WriterFails, WriterAccepts}
use Rattle.sat_base.specs.script.Script.{Command, Ask}
use Rattle.sat_base.specs.script.Language.{Reading, prepend_commands}
use Rattle.sat_base.specs.steps.Steps.{Step}
use Rattle.sat_base.specs.script.ScriptState.{ScriptState, state_after_accepted, introduce_all, refusal_of}
use Rattle.sat_checker.specs.matching.Bridge.{LiveVariables}
use Rattle.sat_solver.specs.variables.Refusing.{names_in}
use Rattle.sat_solver.specs.facade.Calls.{MakesSteps}
use Rattle.sat_solver.specs.facade.Recording.{FailsWhileWriting}
use Rattle.sat_solver.specs.facade.States.{IsInState}
use Rattle.sat_solver.proofs.lemmas.facade.Steps.{breaks_later, makes_more, makes_none}
use Rattle.sat_solver.proofs.lemmas.session.ProofLemmas.{carries_none}
use Rattle.certify.specs.Devices.{NoWriterCallFailed, OneWriterCallFailed}
use Rattle.certify.specs.answers.AnswerForms.{named_literals}
use Rattle.certify.specs.declared.fault.RunFault.{RunFault}
use Rattle.certify.specs.declared.fault.RunFault.TheVariants as fault
use Rattle.certify.specs.declared.run.session.RunState.{RunState}
use Rattle.certify.specs.declared.summary.AskReport.{AskReport}
use Rattle.certify.specs.run.Stopping.{StopsServing}
use Rattle.certify.specs.run.Asking.{AskEffect}
use Rattle.certify.specs.run.SolverCalls.{AssumptionsAccepted, ByWriteFault, FailsIf, FailsSolver, AreAllowedNames, RoundsLimited, Searched}
use Rattle.certify.specs.run.Serving.{Serves, place_after}
use Rattle.certify.specs.run.BetweenCommands.{CommandCarriedOut, AgreesWithState, StopsInCommand, WritesBoth, place_before_latest, run_place}
use Rattle.certify.specs.run.Reporting.{outcome_for}
use Rattle.certify.proofs.lemmas.run.AskServed.{ask_bounded, ask_steps, ask_right, ask_then, ask_spent, ask_rounds, kind_reported}
use Rattle.certify.proofs.lemmas.run.Carried.{place_following}
use Rattle.certify.proofs.lemmas.run.Reaching.{reaches}
use Rattle.certify.proofs.lemmas.run.ServedOnce.{serves_ask}
use Rattle.certify.proofs.lemmas.run.Stopping.{stops_cut, stops_none, stops_served}
use Rattle.certify.specs.run.RunSolver.{Solver}

pub fails_then : (e : RunFault) (a b c : Solver) → MakesSteps a b → FailsSolver e b c → FailsSolver e a c
fails_then fault.ScriptRead a b c t f = f
fails_then fault.AnswersWrite a b c t f = f
fails_then fault.CertificateWrite a b c t f = breaks_later a b c t f
fails_then e a b c t f = makes_more a b c t f

-- a change of the limit makes no step
limit_took : (budget : ℕ) (a b : Solver) → RoundsLimited budget a b → MakesSteps a b
limit_took budget a b limited = subst (λ s. MakesSteps a s) (sym limited.same) (record { steps = []; history = refl; listening = refl; target = carries_none a.target })

-- a search only adds steps
pub search_took : (budget : ℕ) (report : AskReport) (a b : Solver) → Searched budget report a b → MakesSteps a b
search_took budget report a b s = makes_more a s.mid b (limit_took budget a s.mid s.limited) s.solved.took

pub ask_took : (a b c : Solver) (user : List ℕ) (budget : ℕ) (report : AskReport) → AssumptionsAccepted a b user → Searched budget report b c → MakesSteps a c
ask_took a b c user budget report opened s = makes_more a b c opened.took (search_took budget report b c s)

-- after an ask, the solver agrees with the state after the names of the ask were introduced
pub agree_still : (a b c : Solver) (user : List ℕ) (budget : ℕ) (report : AskReport) → AssumptionsAccepted a b user → Searched budget report b c
    → (j : ScriptState) (live : LiveVariables) → IsInState a j live → (then : LiveVariables) × IsInState c (introduce_all (names_in user) j) then
agree_still a b c user budget report opened s j live agree =
    let k = reaches a b (introduce_all (names_in user)) opened.replaced.did opened.ready.records.state j live agree in
    let at = subst (λ m. IsInState m (introduce_all (names_in user) j) k.0) (sym s.limited.same) (record { state = k.1.state; agree = k.1.agree }) in
    reaches s.mid c (λ i. i) s.solved.answered.did s.solved.ready.records.state (introduce_all (names_in user) j) k.0 at

-- after an ask, setting no assumptions is allowed
pub allowed_still : (a b c : Solver) (user : List ℕ) (budget : ℕ) (report : AskReport) → AreAllowedNames a user → AssumptionsAccepted a b user → Searched budget report b c → AreAllowedNames c []
allowed_still a b c user budget report allowed opened s =
    let n = agree_still a b c user budget report opened s allowed.0 allowed.1 allowed.2 in
    (introduce_all (names_in user) allowed.0, n.0, n.1, refl)

-- an answer was written, and the assumptions were removed
pub asked_of : {C : Type 0} (old new : RunState C) (now : Solver) (user text : List ℕ) (report : AskReport) (before after : Writer)
    → AskEffect old.budget report user text old.solver now → WriterAccepts before after text → AssumptionsAccepted now new.solver [] → new.commands ≡ old.commands → new.refused ≡ old.refused → new.budget ≡ old.budget → new.asks.items ≡ old.asks.items ++ report ∷ []
    → CommandCarriedOut old new (Ask (named_literals user)) before after
asked_of old new now user text report before after effect written closed commands refused budget asks = record {
  ready = closed.ready;
  free = closed.replaced.assumed;
  took = makes_more old.solver now new.solver (ask_took old.solver effect.mid now user old.budget report effect.opened effect.searched) closed.took;
  commands = commands;
  refused = refused;
  budget = budget;
  text = text;
  written = written;
  reports = report ∷ [];
  asks = asks;
  serves = λ j live means free.
      let then = ask_then old.solver effect.mid now user old.budget report effect.opened effect.searched effect.right j live means free new.solver closed in
      let right = ask_right old.solver effect.mid now user old.budget report effect.opened effect.searched effect.right j live means free in
      let steps = ask_steps old.solver effect.mid now user old.budget report effect.opened effect.searched effect.right j live means free new.solver closed in
      let bounded = ask_bounded old.solver effect.mid now user old.budget report effect.opened effect.searched effect.right j live means free in
      let spent = ask_spent old.solver effect.mid now user old.budget report effect.opened effect.searched effect.right in
      let rounds = ask_rounds old.solver effect.mid now user old.budget report effect.opened effect.searched effect.right new.solver closed in
      let serves = serves_ask old.budget (place_before_latest old j) (named_literals user) (outcome_for report.answer now) report new.solver.steps free right (kind_reported report.answer now) spent bounded steps in (
        then.0,
        then.1,
        subst (λ b. Serves old.budget (place_before_latest old j) b (Ask (named_literals user) ∷ []) text (report ∷ []) 0) (place_following old new (Ask (named_literals user)) j (old.solver.clock.rounds + report.steps) commands rounds)
            (subst (λ t. Serves old.budget (place_before_latest old j) (place_after (place_before_latest old j) (Ask (named_literals user)) new.solver.steps (old.solver.clock.rounds + report.steps)) (Ask (named_literals user) ∷ []) t (report ∷ []) 0) (sym effect.text_is) serves),
      );
}

-- WHEN A PART OF A RUN FAILS

-- the answer that was found is correct, the ask was closed, and a prefix of the answer's text was written
pub ask_cut : {C : Type 0} (old new : RunState C) (now : Solver) (user text : List ℕ) (report : AskReport) (before after : Writer) (effect : AskEffect old.budget report user text old.solver now)
    → AssumptionsAccepted now new.solver [] → (left : Reading) (j : ScriptState) (live : LiveVariables) → AgreesWithState old.solver j live → refusal_of j (Ask (named_literals user)) ≡ None → WriterFails before after text
    → StopsServing old.budget (place_before_latest old j) (prepend_commands (Ask (named_literals user) ∷ []) left) new.solver.steps before after
ask_cut old new now user text report before after effect closed left j live means free b =
    let right = ask_right old.solver effect.mid now user old.budget report effect.opened effect.searched effect.right j live means free in
    let spends = ask_spent old.solver effect.mid now user old.budget report effect.opened effect.searched effect.right in
    let bounded = ask_bounded old.solver effect.mid now user old.budget report effect.opened effect.searched effect.right j live means free in
    let steps = ask_steps old.solver effect.mid now user old.budget report effect.opened effect.searched effect.right j live means free new.solver closed in
    stops_cut old.budget (place_before_latest old j) new.solver.steps (named_literals user) (outcome_for report.answer now) report left before after free right (kind_reported report.answer now) spends bounded steps (subst (WriterFails before after) effect.text_is b)

-- a command that was carried out
pub carried_stops : {C : Type 0} (old new : RunState C) (c : Command) (before after : Writer) (left : Reading) → CommandCarriedOut old new c before after
    → (j : ScriptState) (live : LiveVariables) → AgreesWithState old.solver j live → refusal_of j c ≡ None → StopsServing old.budget (place_before_latest old j) (prepend_commands (c ∷ []) left) new.solver.steps before after
carried_stops old new c before after left h j live means free =
    stops_served old.budget (place_before_latest old j) (run_place new (state_after_accepted c j)) (c ∷ []) left h.text h.reports 0 before after (h.serves j live means free).2 h.written

-- a call that failed left the earlier steps as they are
pub fails_more : (e : RunFault) (a b : Solver) → FailsSolver e a b → (later : List Step) × (b.steps ≡ later ++ a.steps)
fails_more fault.ScriptRead a b f = absurd f
fails_more fault.AnswersWrite a b f = absurd f
fails_more e a b f = (f.steps, f.history)

-- nothing was written
pub nothing_stops : {T C : Type 0} (r : Result T RunFault) (old new : RunState C) (c : Command) (left : Reading) (w : Writer) → FailsIf r old.solver new.solver → StopsInCommand r old new c left w w
nothing_stops (Ok x) old new c left w f = tt
nothing_stops (Err e) old new c left w f = λ j live means free.
    let k = fails_more e old.solver new.solver f in
    stops_none old.budget (place_before_latest old j) new.solver.steps k.0 k.1 (prepend_commands (c ∷ []) left) w

-- what holds for every result holds for a fault
pub on_err : {T : Type 0} (r : Result T RunFault) (P : Type 0) → P → OnErr r P
on_err (Ok x) P p = tt
on_err (Err e) P p = p

pub err_map : {T : Type 0} (r : Result T RunFault) (P Q : Type 0) → (P → Q) → OnErr r P → OnErr r Q
err_map (Ok x) P Q f p = tt
err_map (Err e) P Q f p = f p

pub memory_fails : (e : RunFault) (a b : Solver) → e ≡ fault.OutOfMemory → MakesSteps a b → FailsSolver e a b
memory_fails e a b m t = subst (λ x. FailsSolver x a b) (sym m) t

-- the statement about both writers that belongs to a fault
abbrev pub Says : RunFault → Writer → Writer → Solver → Solver → Type 0
Says e before after old new = ByWriteFault e (OneWriterCallFailed before after × MakesSteps old new) (NoWriterCallFailed before after × FailsWhileWriting old new) (NoWriterCallFailed before after × MakesSteps old new)

pub solver_says : (e : RunFault) (before after : Writer) (a b c : Solver) → NoWriterCallFailed before after → MakesSteps a b → FailsSolver e b c → Says e before after a c
solver_says fault.ScriptRead before after a b c n t f = f
solver_says fault.AnswersWrite before after a b c n t f = absurd f
solver_says fault.CertificateWrite before after a b c n t f = (n, breaks_later a b c t f)
solver_says e before after a b c n t f = (n, makes_more a b c t f)

pub answers_say : (e : RunFault) (before after : Writer) (a b : Solver) → e ≡ fault.AnswersWrite → OneWriterCallFailed before after → MakesSteps a b → Says e before after a b
answers_say e before after a b m f t = subst (λ x. Says x before after a b) (sym m) (f, t)

pub memory_says : (e : RunFault) (before after : Writer) (a b : Solver) → e ≡ fault.OutOfMemory → NoWriterCallFailed before after → MakesSteps a b → Says e before after a b
memory_says e before after a b m n t = subst (λ x. Says x before after a b) (sym m) (n, t)

-- an ask only adds steps to the proof
pub ask_writes : (a c : Solver) (user text : List ℕ) (budget : ℕ) (report : AskReport) → AskEffect budget report user text a c → MakesSteps a c
ask_writes a c user text budget report s = ask_took a s.mid c user budget report s.opened s.searched

pub takes_none : (a b : Writer) (text : List ℕ) → WriterAccepts a b text → NoWriterCallFailed a b
takes_none a b text t = (t.failures, t.loans)

-- a text was written to the answers, and the solver wrote nothing
pub written_of : (r : Result (Unit {0}) RunFault) (before after : Writer) (s : Solver) (text : List ℕ) → OnOk r (WriterAccepts before after text) → IfErr r (λ e. (e ≡ fault.AnswersWrite) × OneWriterCallFailed before after) → WritesBoth r before after s s
written_of (Ok x) before after s text t f = (takes_none before after text t, makes_none s)
written_of (Err e) before after s text t f = answers_say e before after s s f.0 f.1 (makes_none s)

-- only the solver was called
pub solver_writes : (r : Result (Unit {0}) RunFault) (w : Writer) (a b : Solver) → OnOk r (MakesSteps a b) → IfErr r (λ e. FailsSolver e a b) → WritesBoth r w w a b
solver_writes (Ok x) w a b t f = ((refl, refl), t)
solver_writes (Err e) w a b t f = solver_says e w w a a b (refl, refl) (makes_none a) f
