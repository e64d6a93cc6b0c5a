-- What a writer of lines has written after it received announcements.
use Rattle.std.proofs.Common.{ℕ, ◌≡◌, Bool, true, false, List, [], ◌∷◌, ◌++◌, Option, None, Some, Result, Ok, Err, refl, sym, ◌∙◌, ap, subst, ◌⊎◌, inl, inr, append_assoc, append-nil}
use Rattle.anyhow.specs.declared.error.Error.{Error}
use Rattle.sat_base.specs.device.Device.{Writer}
use Rattle.sat_base.specs.device.Sink.{Sink, AddsToSink, SinkFails}
use Rattle.sat_base.specs.steps.Steps.{Step}
use Rattle.sat_base.proofs.lemmas.device.Sending.{sent_none, sent_more, sends_stops, sends_breaks}
use Rattle.sat_checker.specs.announcements.Announcements.{Notice, notices_after, all_notices_after}
use Rattle.sat_checker.specs.announcements.Transcripts.{Transcribed}
use Rattle.sat_checker.specs.listeners.Receiving.{SameNotice, ReceivesSame, ReceivesAll, ReceivesUpToFault, ReceivesSince, ReceivesSinceUpToFault, OwnReceivesFirst, CallListeners, notices_made}
use Rattle.sat_checker.specs.listeners.ProcessingView.{listeners_of, EachListenerReceives}
use Rattle.sat_checker.specs.declared.processing.Processing.{Processing}
use Rattle.sat_checker.specs.declared.processing.ProcessingError.{ProcessingError}
use Rattle.sat_checker.specs.declared.processing.ProcessingError.TheVariants as faults
use Rattle.sat_checker.proofs.lemmas.listeners.Heard.{nobody_fails}
use Rattle.sat_hints.specs.Lines.{Line, text_of, line_text}
use Rattle.sat_hints.specs.Conversion.{announced_line, with_line, announced_lines, hint_text}
use Rattle.sat_hints.specs.declared.line_writer.LineWriter.{LineWriter}
use Rattle.sat_hints.specs.inner.LineWriting.{Outlet, outlet, PutsText, PutUnlessFailed, PutOrFailed}
use Rattle.sat_hints.specs.inner.LinesWritten.{SentAll, SentPrefix}
use Rattle.sat_hints.specs.inner.AnnouncedLines.{text_if, announced_text, FailsIf, PutsAnnouncedLine}

-- THE TEXT OF ANNOUNCEMENTS
abbrev pub texts : List Notice → List ℕ
texts [] = []
texts (t ∷ ts) = announced_text t ++ texts ts

with_text : (l : Option Line) (earlier : List Line) (more : List ℕ) → text_of (with_line l earlier) ++ more ≡ text_of earlier ++ (text_if l ++ more)
with_text None earlier more = refl
with_text (Some line) earlier more = append_assoc (text_of earlier) (line_text line) more

text_reported : (ts : List Notice) (earlier : List Line) → text_of (announced_lines ts earlier) ≡ text_of earlier ++ texts ts
text_reported [] earlier = sym (append-nil (text_of earlier))
text_reported (t ∷ ts) earlier = text_reported ts (with_line (announced_line t.announcement) earlier) ∙ with_text (announced_line t.announcement) earlier (texts ts)

-- the hint text is the texts of all notices
pub hint_texts : (steps : List Step) → hint_text steps ≡ texts (all_notices_after steps)
hint_texts steps = text_reported (all_notices_after steps) []

pub texts-append : (xs ys : List Notice) → texts (xs ++ ys) ≡ texts xs ++ texts ys
texts-append [] ys = refl
texts-append (x ∷ xs) ys = ap (λ t. announced_text x ++ t) (texts-append xs ys) ∙ sym (append_assoc (announced_text x) (texts xs) (texts ys))

same_text : (u t : Notice) → SameNotice u t → announced_text u ≡ announced_text t
same_text u t s = ap (λ a. text_if (announced_line a)) s.announcement

-- ONE ANNOUNCEMENT
ok_not_failed : (b : Bool) → FailsIf b (Ok tt) → b ≡ false
ok_not_failed false h = refl
ok_not_failed true h = absurd h

err_failed : (b : Bool) (e : Error) → FailsIf b (Err e) → b ≡ true
err_failed false e h = absurd cc
err_failed true e h = refl

put_sent : (text : List ℕ) (a b : Outlet) → a.failed ≡ false → b.failed ≡ false → PutsText text a b → AddsToSink a.sink b.sink text
put_sent text a b e d h = subst (λ f. PutOrFailed f text a.sink b.sink) d (subst (λ f. PutUnlessFailed f text a b) e h)

put_broken : (text : List ℕ) (a b : Outlet) → a.failed ≡ false → b.failed ≡ true → PutsText text a b → SinkFails a.sink b.sink text
put_broken text a b e d h = subst (λ f. PutOrFailed f text a.sink b.sink) d (subst (λ f. PutUnlessFailed f text a b) e h)

module _ {W P T : Type 0} (seen : W → Writer) (Takes : P → Notice → Result Unit Error → P → Type 0) (Reads : T → Transcribed → Result Unit Error → T → Type 0) where
  abbrev Receives : CallListeners (LineWriter W) (Processing P T) → Notice → Result Unit ProcessingError → CallListeners (LineWriter W) (Processing P T) → Type 0
  Receives = OwnReceivesFirst (PutsAnnouncedLine seen) (EachListenerReceives Takes Reads)

  abbrev sink_in : CallListeners (LineWriter W) (Processing P T) → Sink
  sink_in a = (outlet seen a.own).sink

  -- an announcement that was received without a fault
  one_sent : (t : Notice) (a b : CallListeners (LineWriter W) (Processing P T)) → a.own.failed ≡ false → ReceivesSame Receives a t (Ok tt) b → (b.own.failed ≡ false) × AddsToSink (sink_in a) (sink_in b) (announced_text t)
  one_sent t a b e h = elim h.2 [
    | inl k ↦
        let well = ok_not_failed b.own.failed k.0.answers in
        (well, subst (AddsToSink (sink_in a) (sink_in b)) (same_text h.0 t h.1) (put_sent (announced_text h.0) (outlet seen a.own) (outlet seen b.own) e well k.0.puts))
    | inr f ↦ absurd (let d : ◌≡◌ {A = Result Unit ProcessingError} (Ok tt) (Err (faults.ProofProcessorError f.cause)) = f.answered in cc)
  ]

  -- a line writer that received all notices sent their texts
  pub all_sent : (ts : List Notice) (a b : CallListeners (LineWriter W) (Processing P T)) → a.own.failed ≡ false → ReceivesAll Receives ts a b → SentAll (outlet seen a.own) (outlet seen b.own) (texts ts)
  all_sent [] a b e h = subst (λ c. SentAll (outlet seen a.own) (outlet seen c.own) []) (sym h) (record { well = e; sent = sent_none (sink_in a) })
  all_sent (t ∷ ts) a b e h =
      let one = one_sent t a h.0 e h.1 in
      let more = all_sent ts h.0 b one.0 h.2 in
      record { well = more.well; sent = sent_more (sink_in a) (sink_in h.0) (sink_in b) (announced_text t) (texts ts) one.1 more.sent }

  -- `BreaksOr f ts a b` holds if the fault is a failed write, or comes from another listener.
  abbrev BreaksOr : ProcessingError → List Notice → CallListeners (LineWriter W) (Processing P T) → CallListeners (LineWriter W) (Processing P T) → Type 0
  BreaksOr f ts a b = ((cause : Error) × (f ≡ faults.ProofProcessorError cause) × SinkFails (sink_in a) (sink_in b) (texts ts)) ⊎ ReceivesUpToFault (EachListenerReceives Takes Reads) f ts a.others b.others

  fault_of : (f g : ProcessingError) → ◌≡◌ {A = Result Unit ProcessingError} (Err f) (Err g) → f ≡ g
  fault_of f g e = cc

  breaks_or : (f : ProcessingError) (ts : List Notice) (a b : CallListeners (LineWriter W) (Processing P T)) → a.own.failed ≡ false → ReceivesUpToFault Receives f ts a b → BreaksOr f ts a b
  breaks_or f [] a b e h = absurd h
  breaks_or f (t ∷ ts) a b e h = elim h [
    | inl x ↦ elim x.2 [
      | inl k ↦ inr (inl (x.0, x.1, k.1))
      | inr k ↦
          let broken = put_broken (announced_text x.0) (outlet seen a.own) (outlet seen b.own) e (err_failed b.own.failed k.cause k.failed.answers) k.failed.puts in
          inl (k.cause, fault_of f (faults.ProofProcessorError k.cause) k.answered, sends_stops (sink_in a) (sink_in b) (announced_text t) (texts ts) (subst (SinkFails (sink_in a) (sink_in b)) (same_text x.0 t x.1) broken))
    ]
    | inr x ↦
        let one = one_sent t a x.0 e x.1 in
        elim (breaks_or f ts x.0 b one.0 x.2) [
          | inl k ↦ inl (k.0, k.1, sends_breaks (sink_in a) (sink_in x.0) (sink_in b) (announced_text t) (texts ts) one.1 k.2)
          | inr k ↦ elim x.1.2 [
            | inl m ↦ inr (inr (x.0.others, (x.1.0, x.1.1, m.1), k))
            | inr m ↦ absurd (let d : ◌≡◌ {A = Result Unit ProcessingError} (Ok tt) (Err (faults.ProofProcessorError m.cause)) = m.answered in cc)
          ]
        ]
  ]

  -- if the line writer is the only listener, a failure is that of a write, after a prefix of the texts
  pub all_broken : (f : ProcessingError) (ts : List Notice) (a b : CallListeners (LineWriter W) (Processing P T)) → a.own.failed ≡ false → listeners_of a.others ≡ record { processors = []; transcripts = [] } → ReceivesUpToFault Receives f ts a b → (cause : Error) × (f ≡ faults.ProofProcessorError cause) × SinkFails (sink_in a) (sink_in b) (texts ts)
  all_broken f ts a b e none h = elim (breaks_or f ts a b e h) [
    | inl k ↦ k
    | inr k ↦ absurd (nobody_fails Takes Reads f ts a.others b.others none k)
  ]

  -- SINCE THE START
  pub since_sent : (notices : List Notice) (a b : CallListeners (LineWriter W) (Processing P T)) → a.own.failed ≡ false → ReceivesSince Receives [] notices a b → SentAll (outlet seen a.own) (outlet seen b.own) (texts notices)
  since_sent notices a b e h = subst (λ ts. SentAll (outlet seen a.own) (outlet seen b.own) (texts ts)) (sym h.1) (all_sent h.0 a b e h.2)

  pub since_broken : (f : ProcessingError) (notices : List Notice) (a b : CallListeners (LineWriter W) (Processing P T)) → a.own.failed ≡ false → listeners_of a.others ≡ record { processors = []; transcripts = [] } → ReceivesSinceUpToFault Receives f [] notices a b → (cause : Error) × (f ≡ faults.ProofProcessorError cause) × SinkFails (sink_in a) (sink_in b) (texts notices)
  since_broken f notices a b e none h = subst (λ ts. (cause : Error) × (f ≡ faults.ProofProcessorError cause) × SinkFails (sink_in a) (sink_in b) (texts ts)) (sym h.1) (all_broken f h.0 a b e none h.2)

-- the text of all announcements, or of all but the pending ones
pub front_all : (old new : Outlet) (steps : List Step) → SentAll old new (texts (all_notices_after steps)) → SentPrefix old new (hint_text steps)
front_all old new steps s = record { front = texts (all_notices_after steps); following = []; whole = hint_texts steps ∙ sym (append-nil (texts (all_notices_after steps))); sent = s }

-- the texts reported so far are a prefix of the hint text
pub front_reported : (old new : Outlet) (steps : List Step) → SentAll old new (texts (notices_after steps)) → SentPrefix old new (hint_text steps)
front_reported old new steps s = record { front = texts (notices_after steps); following = _; whole = hint_texts steps ∙ texts-append (notices_after steps) _; sent = s }

pub front_by : (old new : Outlet) (conflict : Option (ℕ × ℕ)) (steps : List Step) → SentAll old new (texts (notices_made conflict steps)) → SentPrefix old new (hint_text steps)
front_by old new (Some conflict) steps s = front_reported old new steps s
front_by old new None steps s = front_all old new steps s

pub all_by : (old new : Outlet) (conflict : Option (ℕ × ℕ)) (steps : List Step) → conflict ≡ None → SentAll old new (texts (notices_made conflict steps)) → SentAll old new (hint_text steps)
all_by old new conflict steps e s = subst (SentAll old new) (sym (hint_texts steps)) (subst (λ k. SentAll old new (texts (notices_made k steps))) e s)

-- a failed write of all notices' texts is one of the hint text
pub broken_all : (s t : Sink) (steps : List Step) → SinkFails s t (texts (all_notices_after steps)) → SinkFails s t (hint_text steps)
broken_all s t steps b = subst (SinkFails s t) (sym (hint_texts steps)) b

-- a failed write of the texts reported so far is one of the hint text
pub broken_reported : (s t : Sink) (steps : List Step) → SinkFails s t (texts (notices_after steps)) → SinkFails s t (hint_text steps)
broken_reported s t steps b = subst (SinkFails s t) (sym (hint_texts steps ∙ texts-append (notices_after steps) _)) (sends_stops s t (texts (notices_after steps)) _ b)
