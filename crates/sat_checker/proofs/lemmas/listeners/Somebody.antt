-- A fault is returned only if there is a listener.
use Rattle.std.proofs.Common.{ℕ, ◌≡◌, List, [], Result, Ok, Err, IfErr, inl, inr, refl, sym}
use Rattle.std.proofs.lemmas.List.{append-nil}
use Rattle.anyhow.specs.declared.error.Error.{Error}
use Rattle.sat_base.specs.device.Device.{Reader}
use Rattle.sat_base.specs.steps.Steps.{Step, AddClause}
use Rattle.sat_checker.specs.KernelView as kernels
use Rattle.sat_checker.specs.CheckerView.{CheckerView, HasAccepted, FailsByListenerFault, ListenerFailsAtStep, StepResultAfter, SettlingResultAfter, StepResult, SettlingResult}
use Rattle.sat_checker.specs.ClausesView.{AddClausesResultAfter, AddClausesResult}
use Rattle.sat_checker.specs.DimacsView.{AddDimacsResultAfter, AddDimacsResult, DimacsErrorNeedsListener}
use Rattle.sat_checker.specs.ProofView.{ProofResultAfter, ProofResult}
use Rattle.sat_checker.specs.announcements.Announcements.{Notice}
use Rattle.sat_checker.specs.announcements.Transcripts.{Transcribed}
use Rattle.sat_checker.specs.listeners.Receiving.{notices_made}
use Rattle.sat_checker.specs.listeners.ProcessingView.{listeners_of, EachListenerReceives, ErrorNeedsListener}
use Rattle.sat_checker.specs.declared.processing.Processing.{Processing}
use Rattle.sat_checker.specs.declared.processing.ProcessingError.{ProcessingError}
use Rattle.sat_checker.specs.declared.error.CheckerError.{CheckerError}
use Rattle.sat_checker.specs.declared.error.CheckerError.TheVariants as errors
use Rattle.sat_checker.specs.declared.error.CheckerDimacsError.{CheckerDimacsError}
use Rattle.sat_checker.specs.declared.error.CheckerDimacsError.TheVariants as refused
use Rattle.sat_checker.proofs.lemmas.listeners.Heard.{nobody_fails}

module _ {P T : Type 0} (Takes : P → Notice → Result Unit Error → P → Type 0) (Reads : T → Transcribed → Result Unit Error → T → Type 0) where
  -- the notices so far, which the current listeners have received
  abbrev before : CheckerView (Processing P T) → List Step → List Notice
  before old steps = notices_made old.kernel.state.formula.status.conflict steps

  stands_here : (old : CheckerView (Processing P T)) (steps : List Step) → kernels.KernelHasAccepted old.kernel steps → HasAccepted (EachListenerReceives Takes Reads) (before old steps) old.listeners old steps
  stands_here old steps s = record { kernel = s; heard = λ e. ([], sym (append-nil (before old steps)), refl) }

  module _ (earlier : List Notice) (begun : Processing P T) (e : ProcessingError) where
    broken : (reported : List Notice) (new : CheckerView (Processing P T)) (steps : List Step) → FailsByListenerFault (EachListenerReceives Takes Reads) earlier begun e reported new steps → listeners_of begun ≡ record { processors = []; transcripts = [] } → ⊥
    broken reported new steps b none = nobody_fails Takes Reads e b.heard.0 begun new.listeners none b.heard.2

    broken_at : (new : CheckerView (Processing P T)) (step : Step) (steps : List Step) → ListenerFailsAtStep (EachListenerReceives Takes Reads) earlier begun e new step steps → listeners_of begun ≡ record { processors = []; transcripts = [] } → ⊥
    broken_at new step steps h none = elim h [
      | inl b ↦ broken _ new steps b.1 none
      | inr b ↦ broken _ new _ b.1 none
    ]

  module _ (old new : CheckerView (Processing P T)) (steps : List Step) (s : kernels.KernelHasAccepted old.kernel steps) where
    pub step_faults : (r : Result Unit CheckerError) (step : Step) → StepResult (EachListenerReceives Takes Reads) r old step new → IfErr r (ErrorNeedsListener old.listeners)
    step_faults r step t = go r (t (before old steps) old.listeners steps (stands_here old steps s))
      where
        go : (r : Result Unit CheckerError) → StepResultAfter (EachListenerReceives Takes Reads) (before old steps) old.listeners r old step new steps → IfErr r (ErrorNeedsListener old.listeners)
        go (Ok x) a = tt
        go (Err errors.CheckFailed) a = tt
        go (Err errors.CounterEnd) a = tt
        go (Err errors.OutOfMemory) a = tt
        go (Err (errors.ProofProcessorError cause)) a = broken_at _ _ _ new step steps a.1
        go (Err errors.HasFailed) a = tt
        go (Err errors.ProofIncomplete) a = tt
        go (Err errors.IoError) a = tt
        go (Err errors.ParseError) a = tt

    pub delayed_faults : (r : Result Unit CheckerError) → SettlingResult (EachListenerReceives Takes Reads) r old new → IfErr r (ErrorNeedsListener old.listeners)
    delayed_faults r t = go r (t (before old steps) old.listeners steps (stands_here old steps s))
      where
        go : (r : Result Unit CheckerError) → SettlingResultAfter (EachListenerReceives Takes Reads) (before old steps) old.listeners r old new steps → IfErr r (ErrorNeedsListener old.listeners)
        go (Ok x) a = tt
        go (Err errors.CheckFailed) a = tt
        go (Err errors.CounterEnd) a = tt
        go (Err errors.OutOfMemory) a = tt
        go (Err (errors.ProofProcessorError cause)) a = broken _ _ _ _ new steps a.3
        go (Err errors.HasFailed) a = tt
        go (Err errors.ProofIncomplete) a = tt
        go (Err errors.IoError) a = tt
        go (Err errors.ParseError) a = tt

    clauses_go : (r : Result Unit CheckerError) (clauses : List (List ℕ)) → AddClausesResultAfter (EachListenerReceives Takes Reads) (before old steps) old.listeners r old new clauses steps → IfErr r (ErrorNeedsListener old.listeners)
    clauses_go (Err (errors.ProofProcessorError cause)) clauses a = broken_at _ _ _ new (AddClause a.1) _ a.3
    clauses_go e clauses a = tt

    pub clauses_faults : (r : Result Unit CheckerError) (clauses : List (List ℕ)) → AddClausesResult (EachListenerReceives Takes Reads) r old new clauses → IfErr r (ErrorNeedsListener old.listeners)
    clauses_faults r clauses t = clauses_go r clauses (t (before old steps) old.listeners steps (stands_here old steps s))

    pub dimacs_faults : (r : Result Unit CheckerDimacsError) (from to : Reader) → AddDimacsResult (EachListenerReceives Takes Reads) r old new from to → IfErr r (DimacsErrorNeedsListener old.listeners)
    dimacs_faults r from to t = go r (t (before old steps) old.listeners steps (stands_here old steps s))
      where
        go : (r : Result Unit CheckerDimacsError) → AddDimacsResultAfter (EachListenerReceives Takes Reads) (before old steps) old.listeners r old new from to steps → IfErr r (DimacsErrorNeedsListener old.listeners)
        go (Ok x) a = tt
        go (Err (refused.Dimacs error)) a = tt
        go (Err (refused.Checker errors.CheckFailed)) a = tt
        go (Err (refused.Checker errors.CounterEnd)) a = tt
        go (Err (refused.Checker errors.OutOfMemory)) a = tt
        go (Err (refused.Checker (errors.ProofProcessorError cause))) a = clauses_go (Err (errors.ProofProcessorError cause)) _ a.3
        go (Err (refused.Checker errors.HasFailed)) a = tt
        go (Err (refused.Checker errors.ProofIncomplete)) a = tt
        go (Err (refused.Checker errors.IoError)) a = tt
        go (Err (refused.Checker errors.ParseError)) a = tt

    pub proof_faults : (r : Result Unit CheckerError) (from to : Reader) → ProofResult (EachListenerReceives Takes Reads) r old new from to → IfErr r (ErrorNeedsListener old.listeners)
    proof_faults r from to t = go r (t (before old steps) old.listeners steps (stands_here old steps s))
      where
        go : (r : Result Unit CheckerError) → ProofResultAfter (EachListenerReceives Takes Reads) (before old steps) old.listeners r old new from to steps → IfErr r (ErrorNeedsListener old.listeners)
        go (Ok x) a = tt
        go (Err errors.CheckFailed) a = tt
        go (Err errors.CounterEnd) a = tt
        go (Err errors.OutOfMemory) a = tt
        go (Err (errors.ProofProcessorError cause)) a = broken_at _ _ _ new a.1 _ a.5
        go (Err errors.HasFailed) a = tt
        go (Err errors.ProofIncomplete) a = tt
        go (Err errors.IoError) a = tt
        go (Err errors.ParseError) a = tt
