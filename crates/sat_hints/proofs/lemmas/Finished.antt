-- Nothing is pending at first, and the pending bytes are written at the end.
use Rattle.std.proofs.Common.{ℕ, ◌≡◌, Bool, true, false, List, [], ◌∷◌, ◌++◌, Result, Ok, Err, sym, ◌∙◌, ap, subst, append_assoc, append-nil, inl, inr}
use Rattle.std.specs.Borrow.{MutBor}
use Rattle.sat_base.specs.device.Device.{Reader, Writer, WriterFails, lent_writer}
use Rattle.sat_base.specs.device.Sink.{AddsToSink, SinkFails}
use Rattle.sat_base.specs.steps.Steps.{Step, End}
use Rattle.sat_base.proofs.lemmas.device.Sending.{sent_more, sends_breaks, all_out}
use Rattle.sat_base.proofs.lemmas.device.Writes.{lent_puts}
use Rattle.sat_checker.specs.ProofView.{steps_after}
use Rattle.sat_hints.specs.Conversion.{hint_text}
use Rattle.sat_hints.specs.Converts.{WriteFailsAfter, WritesPrefixOf, Converts}
use Rattle.sat_hints.specs.declared.error.HintError.{HintError}
use Rattle.sat_hints.specs.declared.error.HintError.TheVariants.{Refused, HasDeleteVar, Read, Write, OutOfMemory}
use Rattle.sat_hints.specs.declared.line_writer.LineWriter.{LineWriter}
use Rattle.sat_hints.specs.inner.LineWriting.{Outlet, outlet, PutsText, PutUnlessFailed, PutOrFailed}
use Rattle.sat_hints.specs.inner.LinesWritten.{SendFailsAfter, SentPrefix, SendsHintText}

-- if a prefix was put, the writer accepted a prefix
front_took : (a b : Outlet) (text : List ℕ) → a.sink.waiting ≡ [] → SentPrefix a b text → WritesPrefixOf a.sink.writer b.sink.writer text
front_took a b text e s =
    let w = s.sent.sent in
    let f : s.front ≡ w.fresh ++ b.sink.waiting = ap (λ x. x ++ s.front) (sym e) ∙ w.flows in
    record {
      front = w.fresh;
      following = b.sink.waiting ++ s.following;
      whole = s.whole ∙ ap (λ x. x ++ s.following) f ∙ append_assoc w.fresh b.sink.waiting s.following;
      takes = w.takes;
    }

breaks_of : (a b : Outlet) (text : List ℕ) → a.sink.waiting ≡ [] → SinkFails a.sink b.sink text → WriterFails a.sink.writer b.sink.writer text
breaks_of a b text e k = subst (λ x. WriterFails a.sink.writer b.sink.writer (x ++ text)) e k.breaks

breaks_after : (a b : Outlet) (step : Step) (steps : List Step) → a.sink.waiting ≡ [] → SendFailsAfter a b step steps → WriteFailsAfter a.sink.writer b.sink.writer step steps
breaks_after a b step steps e k = elim k [
  | inl h ↦ inl (breaks_of a b (hint_text steps) e h)
  | inr h ↦ inr (h.0, breaks_of a b (hint_text (step ∷ steps)) e h.1)
]

-- an error for the lines is an error for the text, if no bytes were pending
pub errs_convert : (e : HintError) (from to : Reader) (a b : Outlet) → a.sink.waiting ≡ [] → SendsHintText (Err e) from to a b → Converts (Err e) from to a.sink.writer b.sink.writer
errs_convert HasDeleteVar from to a b e w = w
errs_convert (Refused r) from to a b e w = (w.0, w.1, w.2, front_took a b _ e w.3)
errs_convert Read from to a b e w = (w.0, w.1, w.2, w.3, w.4, front_took a b _ e w.5)
errs_convert Write from to a b e w = (w.0, w.1, w.2, w.3, w.4, breaks_after a b w.1 (steps_after w.0 []) e w.5)
errs_convert OutOfMemory from to a b e w = (w.0, w.1, w.2, w.3, w.4, front_took a b _ e w.5)

put_by : (text : List ℕ) (a b : Outlet) (f : Bool) → a.failed ≡ false → b.failed ≡ f → PutsText text a b → PutOrFailed f text a.sink b.sink
put_by text a b f e d h = subst (λ x. PutOrFailed x text a.sink b.sink) d (subst (λ x. PutUnlessFailed x text a b) e h)

-- the pending bytes are written
pub ok_converts : (from to : Reader) (a b c : Outlet) → a.sink.waiting ≡ [] → SendsHintText (Ok tt) from to a b → PutsText [] b c → c.failed ≡ false → c.sink.waiting ≡ [] → Converts (Ok tt) from to a.sink.writer c.sink.writer
ok_converts from to a b c e w p f none =
    let text : List ℕ = hint_text (End ∷ steps_after w.0 []) in
    let s : AddsToSink a.sink c.sink (text ++ []) = sent_more a.sink b.sink c.sink text [] w.4.sent (put_by [] b c false w.4.well f p) in
    (w.0, w.1, w.2, w.3, all_out {E = HintError} a.sink c.sink text (Ok tt) e none (subst (AddsToSink a.sink c.sink) (append-nil text) s))

-- if the last pending bytes cannot be written, the conversion fails with `Write`
pub write_converts : (from to : Reader) (a b c : Outlet) → a.sink.waiting ≡ [] → SendsHintText (Ok tt) from to a b → PutsText [] b c → c.failed ≡ true → Converts (Err Write) from to a.sink.writer c.sink.writer
write_converts from to a b c e w p f =
    let text : List ℕ = hint_text (End ∷ steps_after w.0 []) in
    let k : SinkFails a.sink c.sink (text ++ []) = sends_breaks a.sink b.sink c.sink text [] w.4.sent (put_by [] b c true w.4.well f p) in
    (w.0, End, w.1, w.2.none_failed, w.2.gave, inr (w.2.ends, subst (WriterFails a.sink.writer c.sink.writer) (ap (λ x. x ++ (text ++ [])) e ∙ append-nil text) k.breaks))

-- A LENT WRITER
module _ {W : Type 0} (seen : W → Writer) (a z v : W) (given back : ℕ) (same : given ≡ back → z ≡ v) where
  lent_took : (text : List ℕ) → WritesPrefixOf (lent_writer given (seen a)) (lent_writer back (seen v)) text → WritesPrefixOf (seen a) (seen z) text
  lent_took text t = record { front = t.front; following = t.following; whole = t.whole; takes = lent_puts {E = HintError} seen a z v given back t.front (Ok tt) same t.takes }

  lent_breaks : (step : Step) (steps : List Step) → WriteFailsAfter (lent_writer given (seen a)) (lent_writer back (seen v)) step steps → WriteFailsAfter (seen a) (seen z) step steps
  lent_breaks step steps k = elim k [
    | inl h ↦ inl (lent_puts {E = HintError} seen a z v given back (hint_text steps) (Err Write) same h)
    | inr h ↦ inr (h.0, lent_puts {E = HintError} seen a z v given back (hint_text (step ∷ steps)) (Err Write) same h.1)
  ]

  -- once a lent writer is returned, the result of the conversion holds for it
  pub lent_converts : (result : Result (Unit {0}) HintError) (from to : Reader) → Converts result from to (lent_writer given (seen a)) (lent_writer back (seen v)) → Converts result from to (seen a) (seen z)
  lent_converts (Ok x) from to c = (c.0, c.1, c.2, c.3, lent_puts {E = HintError} seen a z v given back _ (Ok tt) same c.4)
  lent_converts (Err HasDeleteVar) from to c = c
  lent_converts (Err (Refused r)) from to c = (c.0, c.1, c.2, lent_took _ c.3)
  lent_converts (Err Read) from to c = (c.0, c.1, c.2, c.3, c.4, lent_took _ c.5)
  lent_converts (Err Write) from to c = (c.0, c.1, c.2, c.3, c.4, lent_breaks c.1 (steps_after c.0 []) c.5)
  lent_converts (Err OutOfMemory) from to c = (c.0, c.1, c.2, c.3, c.4, lent_took _ c.5)

-- lines written through a lent writer
pub lent_text : {W : Type 0} (seen : W → Writer) (a z : W) (r : MutBor W) (first last : LineWriter (MutBor W)) (given : ℕ) (result : Result (Unit {0}) HintError) (from to : Reader) → (given ≡ r.ghost_name → z ≡ r.now)
    → (outlet (λ (w : MutBor W). lent_writer w.ghost_name (seen w.now)) first).sink.writer ≡ lent_writer given (seen a) → r ≡ last.writer
    → Converts result from to (outlet (λ (w : MutBor W). lent_writer w.ghost_name (seen w.now)) first).sink.writer (outlet (λ (w : MutBor W). lent_writer w.ghost_name (seen w.now)) last).sink.writer
    → Converts result from to (seen a) (seen z)
lent_text {W} seen a z r first last given result from to back start same c =
    let S : MutBor W → Writer = λ (w : MutBor W). lent_writer w.ghost_name (seen w.now) in
    lent_converts seen a z r.now given r.ghost_name back result from to (subst (λ (w : MutBor W). Converts result from to (lent_writer given (seen a)) (S w)) (sym same) (subst (λ x. Converts result from to x (S last.writer)) start c))
