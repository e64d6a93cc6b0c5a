-- If the first listener accepts everything, the results also hold for the other listeners by themselves.
use Rattle.std.proofs.Common.{ℕ, ◌≡◌, List, [], ◌∷◌, Result, Ok, Err, inl, inr, refl, ap}
use Rattle.anyhow.specs.declared.error.Error.{Error}
use Rattle.sat_base.specs.device.Device.{Reader}
use Rattle.sat_base.specs.steps.Steps.{Step}
use Rattle.sat_checker.specs.CheckerView.{CheckerView, checker_view, HasAccepted, HasFailedAfter, FailsByRefusal, FailsBeforeStep, FailsByListenerFault, ListenerFailsAtStep, RunsOutOfMemoryAt, StepResultAfter, SettlingResultAfter}
use Rattle.sat_checker.specs.ProofView.{ReadsProofPart, HasAcceptedUnfailed, ProofResultAfter}
use Rattle.sat_checker.specs.announcements.Announcements.{Notice}
use Rattle.sat_checker.specs.listeners.Receiving.{CallListeners, call_listeners, AcceptsAllUnchanged, ReceivesAll, ReceivesUpToFault, ReceivesSince, ReceivesSinceUpToFault, OwnReceivesFirst}
use Rattle.sat_checker.specs.declared.kernel.Kernel.{Kernel}
use Rattle.sat_checker.specs.declared.error.CheckerError.{CheckerError}
use Rattle.sat_checker.specs.declared.error.CheckerError.TheVariants as errors
use Rattle.sat_checker.specs.declared.processing.ProcessingError.{ProcessingError}

-- the view without the listener that is notified first
abbrev pub others_of : {V L : Type 0} → CheckerView (CallListeners V L) → CheckerView L
others_of c = checker_view c.kernel c.listeners.others

never : {V : Type 0} (v w : V) (t : Notice) (cause : Error) → AcceptsAllUnchanged v t (Err cause) w → ⊥
never v w t cause h = absurd (let e : ◌≡◌ {A = Result Unit Error} (Err cause) (Ok tt) = h.0 in cc)

module _ {V L : Type 0} (Receives : L → Notice → Result Unit ProcessingError → L → Type 0) (nobody : V) where
  one_down : (a b : CallListeners V L) (t : Notice) (r : Result Unit ProcessingError) → OwnReceivesFirst AcceptsAllUnchanged Receives a t r b → Receives a.others t r b.others
  one_down a b t r h = elim h [ inl x ↦ x.1 | inr f ↦ absurd (never a.own b.own t f.cause f.failed) ]

  up : (ts : List Notice) (l m : L) → ReceivesAll Receives ts l m → ReceivesAll (OwnReceivesFirst AcceptsAllUnchanged Receives) ts (call_listeners nobody l) (call_listeners nobody m)
  up [] l m h = ap (call_listeners nobody) h
  up (t ∷ ts) l m h = (call_listeners nobody h.0, (h.1.0, h.1.1, inl ((refl, refl), h.1.2)), up ts h.0 m h.2)

  down : (ts : List Notice) (a b : CallListeners V L) → ReceivesAll (OwnReceivesFirst AcceptsAllUnchanged Receives) ts a b → ReceivesAll Receives ts a.others b.others
  down [] a b h = ap (λ (c : CallListeners V L). c.others) h
  down (t ∷ ts) a b h = (h.0.others, (h.1.0, h.1.1, one_down a h.0 h.1.0 (Ok tt) h.1.2), down ts h.0 b h.2)

  down_to : (e : ProcessingError) (ts : List Notice) (a b : CallListeners V L) → ReceivesUpToFault (OwnReceivesFirst AcceptsAllUnchanged Receives) e ts a b → ReceivesUpToFault Receives e ts a.others b.others
  down_to e [] a b h = h
  down_to e (t ∷ ts) a b h = elim h [
    | inl x ↦ inl (x.0, x.1, one_down a b x.0 (Err e) x.2)
    | inr x ↦ inr (x.0.others, (x.1.0, x.1.1, one_down a x.0 x.1.0 (Ok tt) x.1.2), down_to e ts x.0 b x.2)
  ]

  since_up : (before ts : List Notice) (l m : L) → ReceivesSince Receives before ts l m → ReceivesSince (OwnReceivesFirst AcceptsAllUnchanged Receives) before ts (call_listeners nobody l) (call_listeners nobody m)
  since_up before ts l m h = (h.0, h.1, up h.0 l m h.2)

  since_down : (before ts : List Notice) (a b : CallListeners V L) → ReceivesSince (OwnReceivesFirst AcceptsAllUnchanged Receives) before ts a b → ReceivesSince Receives before ts a.others b.others
  since_down before ts a b h = (h.0, h.1, down h.0 a b h.2)

  since_down_to : (e : ProcessingError) (before ts : List Notice) (a b : CallListeners V L) → ReceivesSinceUpToFault (OwnReceivesFirst AcceptsAllUnchanged Receives) e before ts a b → ReceivesSinceUpToFault Receives e before ts a.others b.others
  since_down_to e before ts a b h = (h.0, h.1, down_to e h.0 a b h.2)

  module _ (before : List Notice) (begun : L) where
    pub stands_up : (k : Kernel) (l : L) (steps : List Step) → HasAccepted Receives before begun (checker_view k l) steps → HasAccepted (OwnReceivesFirst AcceptsAllUnchanged Receives) before (call_listeners nobody begun) (checker_view k (call_listeners nobody l)) steps
    stands_up k l steps s = record { kernel = s.kernel; heard = λ e. since_up before _ begun l (s.heard e) }

    stands_down : (c : CheckerView (CallListeners V L)) (steps : List Step) → HasAccepted (OwnReceivesFirst AcceptsAllUnchanged Receives) before (call_listeners nobody begun) c steps → HasAccepted Receives before begun (others_of c) steps
    stands_down c steps s = record { kernel = s.kernel; heard = λ e. since_down before _ (call_listeners nobody begun) c.listeners (s.heard e) }

    fails_down : (c : CheckerView (CallListeners V L)) (steps : List Step) → HasFailedAfter (OwnReceivesFirst AcceptsAllUnchanged Receives) before (call_listeners nobody begun) c steps → HasFailedAfter Receives before begun (others_of c) steps
    fails_down c steps f = record { valid = stands_down c steps f.valid; failed = f.failed }

    refuses_down : (c : CheckerView (CallListeners V L)) (steps : List Step) → FailsByRefusal (OwnReceivesFirst AcceptsAllUnchanged Receives) before (call_listeners nobody begun) c steps → FailsByRefusal Receives before begun (others_of c) steps
    refuses_down c steps f = record { fails = fails_down c steps f.fails; heard = since_down before _ (call_listeners nobody begun) c.listeners f.heard }

    stops_down : (c : CheckerView (CallListeners V L)) (steps : List Step) → FailsBeforeStep (OwnReceivesFirst AcceptsAllUnchanged Receives) before (call_listeners nobody begun) c steps → FailsBeforeStep Receives before begun (others_of c) steps
    stops_down c steps f = record {
      fails = fails_down c steps f.fails;
      heard = elim f.heard [ inl h ↦ inl (since_down before _ (call_listeners nobody begun) c.listeners h) | inr h ↦ inr (since_down before _ (call_listeners nobody begun) c.listeners h) ];
    }

    breaks_down : (e : ProcessingError) (ts : List Notice) (c : CheckerView (CallListeners V L)) (steps : List Step) → FailsByListenerFault (OwnReceivesFirst AcceptsAllUnchanged Receives) before (call_listeners nobody begun) e ts c steps → FailsByListenerFault Receives before begun e ts (others_of c) steps
    breaks_down e ts c steps f = record { fails = fails_down c steps f.fails; heard = since_down_to e before ts (call_listeners nobody begun) c.listeners f.heard }

    breaks_at_down : (e : ProcessingError) (c : CheckerView (CallListeners V L)) (step : Step) (steps : List Step) → ListenerFailsAtStep (OwnReceivesFirst AcceptsAllUnchanged Receives) before (call_listeners nobody begun) e c step steps → ListenerFailsAtStep Receives before begun e (others_of c) step steps
    breaks_at_down e c step steps f = elim f [ inl b ↦ inl (b.0, breaks_down e _ c steps b.1) | inr b ↦ inr (b.0, breaks_down e _ c (step ∷ steps) b.1) ]

    starves_down : (c : CheckerView (CallListeners V L)) (step : Step) (steps : List Step) → RunsOutOfMemoryAt (OwnReceivesFirst AcceptsAllUnchanged Receives) before (call_listeners nobody begun) c step steps → RunsOutOfMemoryAt Receives before begun (others_of c) step steps
    starves_down c step steps f = elim f [ inl h ↦ inl (h.0, stops_down c steps h.1) | inr h ↦ inr (breaks_at_down _ c step steps h) ]

    same_down : (c d : CheckerView (CallListeners V L)) → d ≡ c → others_of d ≡ others_of c
    same_down c d e = ap (λ (x : CheckerView (CallListeners V L)). others_of x) e

    pub step_down : (r : Result Unit CheckerError) (c : CheckerView (CallListeners V L)) (step : Step) (d : CheckerView (CallListeners V L)) (steps : List Step) → StepResultAfter (OwnReceivesFirst AcceptsAllUnchanged Receives) before (call_listeners nobody begun) r c step d steps
        → StepResultAfter Receives before begun r (others_of c) step (others_of d) steps
    step_down (Ok x) c step d steps a = (a.0, record { accepts = a.1.accepts; valid = stands_down d (step ∷ steps) a.1.valid; goes_on = a.1.goes_on })
    step_down (Err errors.CheckFailed) c step d steps a = (a.0, a.1, refuses_down d steps a.2)
    step_down (Err errors.CounterEnd) c step d steps a = (a.0, a.1, stops_down d steps a.2)
    step_down (Err errors.OutOfMemory) c step d steps a = (a.0, starves_down d step steps a.1)
    step_down (Err (errors.ProofProcessorError cause)) c step d steps a = (a.0, breaks_at_down _ d step steps a.1)
    step_down (Err errors.HasFailed) c step d steps a = (a.0, same_down c d a.1)
    step_down (Err e) c step d steps a = absurd a

    pub delayed_down : (r : Result Unit CheckerError) (c d : CheckerView (CallListeners V L)) (steps : List Step) → SettlingResultAfter (OwnReceivesFirst AcceptsAllUnchanged Receives) before (call_listeners nobody begun) r c d steps → SettlingResultAfter Receives before begun r (others_of c) (others_of d) steps
    delayed_down (Ok x) c d steps a = (a.0, a.1, stands_down d steps a.2, a.3, a.4)
    delayed_down (Err errors.CounterEnd) c d steps a = (a.0, a.1, a.2, stops_down d steps a.3)
    delayed_down (Err errors.OutOfMemory) c d steps a = (a.0, a.1, a.2, breaks_down _ _ d steps a.3)
    delayed_down (Err (errors.ProofProcessorError cause)) c d steps a = (a.0, a.1, a.2, breaks_down _ _ d steps a.3)
    delayed_down (Err errors.HasFailed) c d steps a = (a.0, same_down c d a.1)
    delayed_down (Err e) c d steps a = absurd a

    went_down : (c d : CheckerView (CallListeners V L)) (from to : Reader) (earlier passed last : List Step) (rest : List ℕ) → ReadsProofPart c d from to earlier passed last rest → ReadsProofPart (others_of c) (others_of d) from to earlier passed last rest
    went_down c d from to earlier passed last rest w = record { well = w.well; steps = w.steps; unended = w.unended; looks = w.looks }

    on_down : (c : CheckerView (CallListeners V L)) (steps : List Step) → HasAcceptedUnfailed (OwnReceivesFirst AcceptsAllUnchanged Receives) before (call_listeners nobody begun) c steps → HasAcceptedUnfailed Receives before begun (others_of c) steps
    on_down c steps g = (stands_down c steps g.0, g.1)

    pub proof_down : (r : Result Unit CheckerError) (c d : CheckerView (CallListeners V L)) (from to : Reader) (steps : List Step) → ProofResultAfter (OwnReceivesFirst AcceptsAllUnchanged Receives) before (call_listeners nobody begun) r c d from to steps → ProofResultAfter Receives before begun r (others_of c) (others_of d) from to steps
    proof_down (Ok x) c d from to steps a = (a.0, a.1, went_down c d from to steps a.0 _ a.1 a.2, a.3, on_down d _ a.4, a.5)
    proof_down (Err errors.CheckFailed) c d from to steps a = (a.0, a.1, a.2, went_down c d from to steps a.0 _ a.2 a.3, a.4, a.5, refuses_down d _ a.6)
    proof_down (Err errors.ProofIncomplete) c d from to steps a = (a.0, a.1, went_down c d from to steps a.0 _ a.1 a.2, a.3, a.4, a.5, on_down d _ a.6)
    proof_down (Err errors.ParseError) c d from to steps a = (a.0, a.1, went_down c d from to steps a.0 _ a.1 a.2, a.3, a.4, on_down d _ a.5)
    proof_down (Err errors.IoError) c d from to steps a = (a.0, a.1, went_down c d from to steps a.0 _ a.1 a.2, a.3, a.4, on_down d _ a.5)
    proof_down (Err errors.OutOfMemory) c d from to steps a = (
      a.0,
      a.1,
      a.2,
      elim a.3 [
        | inl h ↦ inl (went_down c d from to steps a.0 _ a.1 h.0, h.1, stops_down d _ h.2)
        | inr h ↦ inr (h.0, went_down c d from to steps a.0 _ a.1 h.1, starves_down d h.0 _ h.2)
      ],
    )
    proof_down (Err errors.CounterEnd) c d from to steps a = (a.0, a.1, a.2, went_down c d from to steps a.0 _ a.2 a.3, a.4, a.5, stops_down d _ a.6)
    proof_down (Err (errors.ProofProcessorError cause)) c d from to steps a = (a.0, a.1, a.2, went_down c d from to steps a.0 _ a.2 a.3, a.4, breaks_at_down _ d a.1 _ a.5)
    proof_down (Err errors.HasFailed) c d from to steps a = (a.0, a.1, same_down c d a.2)
