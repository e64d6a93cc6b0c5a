-- Sending bytes through a buffer of pending bytes.
use Rattle.std.proofs.Common.{◌≡◌, ℕ, List, [], ◌++◌, Result, Ok, Err, append_assoc, refl, sym, ap, subst, ◌∙◌}
use Rattle.std.proofs.lemmas.List.{append-nil}
use Rattle.std.specs.Borrow.{MutBor}
use Rattle.std.specs.Prelude.{OnOk}
use Rattle.sat_base.specs.declared.device.output.Output.{Output}
use Rattle.sat_base.specs.device.Device.{Writer, FlushesOnce, WriterAccepts, WriterFails, WritesText, lent_writer}
use Rattle.sat_base.specs.device.Sink.{Sink, AddsToSink, SinkFails, SendsText, FlushesSink, sink_of, empty_sink}
use Rattle.sat_base.proofs.lemmas.device.Writes.{took_none, took_more, breaks_later, breaks_within, lent_puts, flush_takes, flush_fails}

pub sent_none : (s : Sink) → AddsToSink s s []
sent_none s = record { fresh = []; flows = append-nil s.waiting; takes = took_none s.writer }

flows_more : (a b c fs gs xs ys : List ℕ) → a ++ xs ≡ fs ++ b → b ++ ys ≡ gs ++ c → a ++ (xs ++ ys) ≡ (fs ++ gs) ++ c
flows_more a b c fs gs xs ys h k = sym (append_assoc a xs ys) ∙ ap (λ (z : List ℕ). z ++ ys) h ∙ append_assoc fs b ys ∙ ap (λ (z : List ℕ). fs ++ z) k ∙ sym (append_assoc fs gs c)

pub sent_more : (a b c : Sink) (xs ys : List ℕ) → AddsToSink a b xs → AddsToSink b c ys → AddsToSink a c (xs ++ ys)
sent_more a b c xs ys p q = record {
  fresh = p.fresh ++ q.fresh;
  flows = flows_more a.waiting b.waiting c.waiting p.fresh q.fresh xs ys p.flows q.flows;
  takes = took_more a.writer b.writer c.writer p.fresh q.fresh p.takes q.takes;
}

-- if sending the first part fails, sending the text fails
pub sends_stops : (a b : Sink) (xs ys : List ℕ) → SinkFails a b xs → SinkFails a b (xs ++ ys)
sends_stops a b xs ys q = record { breaks = subst (WriterFails a.writer b.writer) (append_assoc a.waiting xs ys) (breaks_within a.writer b.writer (a.waiting ++ xs) ys q.breaks); none = q.none }

-- if sending a later part fails, sending the text fails
pub sends_breaks : (a b c : Sink) (xs ys : List ℕ) → AddsToSink a b xs → SinkFails b c ys → SinkFails a c (xs ++ ys)
sends_breaks a b c xs ys p q =
    let e : p.fresh ++ (b.waiting ++ ys) ≡ a.waiting ++ (xs ++ ys) = sym (append_assoc p.fresh b.waiting ys) ∙ ap (λ (z : List ℕ). z ++ ys) (sym p.flows) ∙ append_assoc a.waiting xs ys in
    record { breaks = subst (WriterFails a.writer c.writer) e (breaks_later a.writer b.writer c.writer p.fresh (b.waiting ++ ys) p.takes q.breaks); none = q.none }

-- sending one part and then another
pub sends_more : {E : Type 0} (a b c : Sink) (xs ys : List ℕ) (r : Result (Unit {0}) E) → AddsToSink a b xs → SendsText ys r b c → SendsText (xs ++ ys) r a c
sends_more a b c xs ys (Ok u) p w = sent_more a b c xs ys p w
sends_more a b c xs ys (Err e) p w = sends_breaks a b c xs ys p w

-- sending an equal text
pub sends_same : {E : Type 0} (a b : Sink) (xs ys : List ℕ) (r : Result (Unit {0}) E) → xs ≡ ys → SendsText xs r a b → SendsText ys r a b
sends_same a b xs ys r e w = subst (λ (z : List ℕ). SendsText z r a b) e w

-- if nothing is pending before and after, the text was written
pub all_out : {E : Type 0} (a b : Sink) (xs : List ℕ) (r : Result (Unit {0}) E) → a.waiting ≡ [] → b.waiting ≡ [] → SendsText xs r a b → WritesText xs r a.writer b.writer
all_out a b xs (Ok u) e f w =
    let g : xs ≡ w.fresh = ap (λ (z : List ℕ). z ++ xs) (sym e) ∙ w.flows ∙ ap (λ (z : List ℕ). w.fresh ++ z) f ∙ append-nil w.fresh in
    subst (WriterAccepts a.writer b.writer) (sym g) w.takes
all_out a b xs (Err e) d f w = subst (λ (z : List ℕ). WriterFails a.writer b.writer (z ++ xs)) d w.breaks

-- a piece appended to the pending bytes
pub piece_waits : (w : Writer) (xs ys piece : List ℕ) (a : Sink) → AddsToSink a (record { writer = w; waiting = xs }) [] → ys ≡ xs ++ piece → AddsToSink a (record { writer = w; waiting = ys }) piece
piece_waits w xs ys piece a p e =
    sent_more a (record { writer = w; waiting = xs }) (record { writer = w; waiting = ys }) [] piece p (record { fresh = []; flows = sym e; takes = took_none w })

-- writing the pending bytes
pub out_sends : {E : Type 0} (v w : Writer) (xs ys piece : List ℕ) (r : Result (Unit {0}) E) → piece ≡ xs → ys ≡ [] → WritesText piece r v w → SendsText [] r (record { writer = v; waiting = xs }) (record { writer = w; waiting = ys })
out_sends v w xs ys piece (Ok u) e f q = record { fresh = piece; flows = ap (λ (z : List ℕ). z ++ []) (sym e) ∙ ap (λ (z : List ℕ). piece ++ z) (sym f); takes = q }
out_sends v w xs ys piece (Err x) e f q = record { breaks = subst (WriterFails v w) (e ∙ sym (append-nil xs)) q; none = f }

-- if nothing is pending, a piece is written directly
pub sends_direct : {E : Type 0} (a : Sink) (v w : Writer) (piece bytes : List ℕ) (r : Result (Unit {0}) E) → bytes ≡ [] → AddsToSink a (record { writer = v; waiting = bytes }) [] → WritesText piece r v w
    → SendsText piece r a (record { writer = w; waiting = bytes })
sends_direct a v w piece bytes (Ok u) f p q =
    sent_more a (record { writer = v; waiting = bytes }) (record { writer = w; waiting = bytes }) [] piece p
    (record { fresh = piece; flows = ap (λ (z : List ℕ). z ++ piece) f ∙ sym (append-nil piece) ∙ ap (λ (z : List ℕ). piece ++ z) (sym f); takes = q })
sends_direct a v w piece bytes (Err x) f p q =
    sends_breaks a (record { writer = v; waiting = bytes }) (record { writer = w; waiting = bytes }) [] piece p (record { breaks = subst (λ (z : List ℕ). WriterFails v w (z ++ piece)) (sym f) q; none = f })

-- PART BY PART

-- `SentOf text left old new` holds if a prefix of `text` was sent, and `left` is the rest.
pub record SentOf (text left : List ℕ) (old new : Sink) : Type 0 where
  pub done : List ℕ
  pub sent : AddsToSink old new done
  pub whole : done ++ left ≡ text

pub of_none : (text : List ℕ) (s : Sink) → SentOf text text s s
of_none text s = record { done = []; sent = sent_none s; whole = refl }

-- sending the next part
pub of_more : (text part left : List ℕ) (old mid new : Sink) → SentOf text (part ++ left) old mid → AddsToSink mid new part → SentOf text left old new
of_more text part left old mid new g p = record { done = g.done ++ part; sent = sent_more old mid new g.done part g.sent p; whole = append_assoc g.done part left ∙ g.whole }

-- a failure while the next part is sent
pub of_break : (text part left : List ℕ) (old mid new : Sink) → SentOf text (part ++ left) old mid → SinkFails mid new part → SinkFails old new text
of_break text part left old mid new g p =
    subst (λ (z : List ℕ). SinkFails old new z) g.whole (sends_breaks old mid new g.done (part ++ left) g.sent (sends_stops mid new part left p))

-- sending the rest of the text
pub of_end : {E : Type 0} (text left : List ℕ) (old mid new : Sink) (r : Result (Unit {0}) E) → SentOf text left old mid → SendsText left r mid new → SendsText text r old new
of_end text left old mid new r g w = sends_same old new (g.done ++ left) text r g.whole (sends_more old mid new g.done left r g.sent w)

-- if nothing is left, the text was sent
pub of_all : (text left : List ℕ) (old new : Sink) → left ≡ [] → SentOf text left old new → AddsToSink old new text
of_all text left old new e g =
    subst (AddsToSink old new) (sym (append-nil g.done) ∙ ap (λ (z : List ℕ). g.done ++ z) (sym e) ∙ g.whole) g.sent

-- an equal rest
pub of_same : (text left more : List ℕ) (old new : Sink) → left ≡ more → SentOf text left old new → SentOf text more old new
of_same text left more old new e g = subst (λ (z : List ℕ). SentOf text z old new) e g

-- a failure while a prefix of the text is sent
pub stops_same : (a b : Sink) (xs ys text : List ℕ) → xs ++ ys ≡ text → SinkFails a b xs → SinkFails a b text
stops_same a b xs ys text e q = subst (λ (z : List ℕ). SinkFails a b z) e (sends_stops a b xs ys q)

-- writing the pending bytes after a text
pub sends_last : {E : Type 0} (a b c : Sink) (xs : List ℕ) (r : Result (Unit {0}) E) → AddsToSink a b xs → SendsText [] r b c → SendsText xs r a c
sends_last a b c xs r p w = sends_same a c (xs ++ []) xs r (append-nil xs) (sends_more a b c xs [] r p w)

pub ruleset sending = (sends_more, sends_stops)

-- A FLUSH

pub sends_flush : {E : Type 0} (a : Sink) (v w : Writer) (bytes : List ℕ) (r : Result (Unit {0}) E) → bytes ≡ [] → AddsToSink a (record { writer = v; waiting = bytes }) [] → FlushesOnce r v w → FlushesSink r a (record { writer = w; waiting = bytes })
sends_flush a v w bytes (Ok u) f p q = record {
  sent = sent_more a (record { writer = v; waiting = bytes }) (record { writer = w; waiting = bytes }) [] [] p (record { fresh = []; flows = append-nil bytes; takes = flush_takes v w q });
  none = f;
  flushed = q.flushed;
}
sends_flush a v w bytes (Err x) f p q =
    sends_breaks a (record { writer = v; waiting = bytes }) (record { writer = w; waiting = bytes }) [] [] p (record { breaks = subst (λ (z : List ℕ). WriterFails v w (z ++ [])) (sym f) (flush_fails x v w q); none = f })

-- A LENT WRITER

-- if nothing is pending before and after the loan, the text was written to the lender's writer
pub lent_out : {E W P : Type 0} (seen : W → Writer) (waiting : P → List ℕ) (a z : W) (r : MutBor W) (first last : Output (MutBor W) P) (given : ℕ) (text : List ℕ) (result : Result (Unit {0}) E) → (given ≡ r.ghost_name → z ≡ r.now)
    → sink_of (λ (w : MutBor W). lent_writer w.ghost_name (seen w.now)) waiting first ≡ empty_sink (lent_writer given (seen a)) → r ≡ last.writer
    → SendsText text result (sink_of (λ (w : MutBor W). lent_writer w.ghost_name (seen w.now)) waiting first) (sink_of (λ (w : MutBor W). lent_writer w.ghost_name (seen w.now)) waiting last) → OnOk result (waiting last.pending ≡ [])
    → WritesText text result (seen a) (seen z)
lent_out {E} {W} {P} seen waiting a z r first last given text (Ok u) back start same sends none =
    let S : MutBor W → Writer = λ (w : MutBor W). lent_writer w.ghost_name (seen w.now) in
    let s : AddsToSink (empty_sink (lent_writer given (seen a))) (sink_of S waiting last) text = subst (λ (o : Sink). AddsToSink o (sink_of S waiting last) text) start sends in
    let p : WriterAccepts (lent_writer given (seen a)) (S last.writer) text = all_out {E = E} (empty_sink (lent_writer given (seen a))) (sink_of S waiting last) text (Ok u) refl none s in
    lent_puts {E = E} seen a z r.now given r.ghost_name text (Ok u) back (subst (λ (w : MutBor W). WriterAccepts (lent_writer given (seen a)) (S w) text) (sym same) p)
lent_out {E} {W} {P} seen waiting a z r first last given text (Err e) back start same sends none =
    let S : MutBor W → Writer = λ (w : MutBor W). lent_writer w.ghost_name (seen w.now) in
    let s : WriterFails (lent_writer given (seen a)) (S last.writer) text = subst (λ (o : Sink). WriterFails o.writer (S last.writer) (o.waiting ++ text)) start sends.breaks in
    lent_puts {E = E} seen a z r.now given r.ghost_name text (Err e) back (subst (λ (w : MutBor W). WriterFails (lent_writer given (seen a)) (S w) text) (sym same) s)
