-- Steps are written to a proof's target, one after another.
use Rattle.std.proofs.Common.{◌≡◌, ◌∙◌, ℕ, Bool, true, false, Option, None, Some, Result, Ok, Err, List, [], ◌∷◌, ◌++◌, append_assoc, refl, sym, ap, subst, ◌⊎◌, inl, inr}
use Rattle.std.proofs.lemmas.Bool.{true≢false}
use Rattle.std.proofs.lemmas.List.{append-nil, reverse-append}
use Rattle.std.specs.Prelude.{is_some, reverse}
use Rattle.sat_base.specs.device.Device.{Writer, WriterAccepts, WriterFails}
use Rattle.sat_base.specs.device.Sink.{Sink, AddsToSink, empty_sink}
use Rattle.sat_base.specs.steps.Formats.{Format, Items}
use Rattle.sat_base.specs.steps.Steps.{Step, End}
use Rattle.sat_base.specs.steps.StepBytes.{step_bytes}
use Rattle.sat_base.specs.steps.StepText.{SpellsStep, SpellsSteps}
use Rattle.sat_base.proofs.lemmas.device.Sending.{sent_none, sent_more}
use Rattle.sat_base.proofs.lemmas.device.Writes.{took_more as took_both, breaks_later}
use Rattle.sat_checker.specs.declared.processing.ProofProcessor.{Ghosts}
use Rattle.sat_solver.specs.proof.Counting.{TruncatesHashes, none_made, ask_begun, one_made, written_for, counting_after, CountsSteps}
use Rattle.sat_solver.specs.proof.ProofTexts.{ClosedIsText, BrokenIsPrefix, WroteSince, ReceivedTextSince}
use Rattle.sat_solver.specs.proof.OutputView.{step_text, text_in, AreSpeltInFormat, SinkReceivesSteps}
use Rattle.sat_solver.specs.proof.ProofView.{IsAtWidth, Target, Closed, Open, Broken as Faulty, is_open, SinkReceivesWritten, TargetReceives, TargetFails, TargetFlushed, TargetReceivesAll, TargetClosesAfter, TargetIsRemoved, ReturnsWriter, target_of, steps_of, has_asked, EmitsExactly, EmitsChecked, FailsToEmit, FailsCheck, CheckerFailed, is_checked, has_missed_step, EmitResult, FlushesOnlyTarget, FlushesAndNotifies, FlushesOrFails, ClosesTarget, ClosesOpenTarget, ReturnsTarget}
use Rattle.sat_solver.specs.proof.ListenerErrors.{IsListenerError}
use Rattle.sat_solver.specs.proof.EmittedView as mades
use Rattle.sat_solver.specs.session.Emitting.{EmitsSomeChecked}
use Rattle.sat_solver.specs.declared.proof.emitted.CheckFault.{CheckFault}
use Rattle.sat_solver.specs.declared.proof.checker.Checked.{Checked}
use Rattle.sat_solver.specs.declared.proof.emitted.EmittedSteps.{EmittedSteps}
use Rattle.sat_solver.specs.proof.Widths.{KeepsWidth}
use Rattle.sat_solver.specs.declared.proof.hash_bits.Counting.{Counting}
use Rattle.sat_solver.specs.declared.proof.format.ProofFormat.{ProofFormat}
use Rattle.sat_solver.specs.declared.proof.format.ProofFormat.TheVariants.{Varisat}
use Rattle.sat_solver.specs.declared.proof.Proof.{Proof}
use Rattle.sat_solver.specs.declared.proof.ProofError.{ProofError}
use Rattle.sat_solver.specs.declared.proof.ProofError.TheVariants.{Write, OutOfMemory, Check}

-- TEXTS

-- a list with one more item
items_one : {A : Type 0} (F : Format A) (xs : List A) (x : A) (a b : List ℕ) → Items F xs a → F x b → Items F (xs ++ x ∷ []) (a ++ b)
items_one F [] x a b h k = (b, [], k, refl, subst (λ (z : List ℕ). z ++ b ≡ b ++ []) (sym h) (sym (append-nil b)))
items_one F (y ∷ xs) x a b h k = (h.0, h.1 ++ b, h.2, items_one F xs x h.1 b h.3 k, subst (λ (z : List ℕ). z ++ b ≡ h.0 ++ (h.1 ++ b)) (sym h.4) (append_assoc h.0 h.1 b))

-- the bytes encode the steps, the oldest first
pub text_spells : (steps : List Step) → AreSpeltInFormat Varisat steps → SpellsSteps (reverse steps) (text_in Varisat steps)
text_spells [] h = refl
text_spells (step ∷ earlier) h =
    subst (λ (z : List Step). SpellsSteps z (text_in Varisat earlier ++ step_bytes step)) (sym (reverse-append (step ∷ []) earlier))
    (items_one SpellsStep (reverse earlier) step (text_in Varisat earlier) (step_bytes step) (text_spells earlier h.1) h.0)

module _ (f : ProofFormat) where
  -- the text of later steps follows that of earlier ones
  pub text_append : (ys xs : List Step) → text_in f (ys ++ xs) ≡ text_in f xs ++ text_in f ys
  text_append [] xs = sym (append-nil (text_in f xs))
  text_append (y ∷ ys) xs = ap (λ (z : List ℕ). z ++ step_text f y) (text_append ys xs) ∙ append_assoc (text_in f xs) (text_in f ys) (step_text f y)

  -- all of them are encoded
  pub spelt_append : (ys xs : List Step) → AreSpeltInFormat f ys → AreSpeltInFormat f xs → AreSpeltInFormat f (ys ++ xs)
  spelt_append [] xs h k = k
  spelt_append (y ∷ ys) xs h k = (h.0, spelt_append ys xs h.1 k)

  -- SINKS

  -- nothing was written
  pub wrote_none : (s : Sink) → SinkReceivesSteps f [] s s
  wrote_none s = record { spelt = tt; sent = sent_none s }

  -- steps were written, and then later ones
  pub wrote_more : (s t u : Sink) (xs ys : List Step) → SinkReceivesSteps f xs s t → SinkReceivesSteps f ys t u → SinkReceivesSteps f (ys ++ xs) s u
  wrote_more s t u xs ys p q = record {
    spelt = spelt_append ys xs q.spelt p.spelt;
    sent = subst (AddsToSink s u) (sym (text_append ys xs)) (sent_more s t u (text_in f xs) (text_in f ys) p.sent q.sent);
  }

  -- the text that is buffered after steps, and that of later ones
  pub rest_text : (s t : Sink) (fresh : List ℕ) (xs ys : List Step) → s.waiting ++ text_in f xs ≡ fresh ++ t.waiting → fresh ++ (t.waiting ++ text_in f ys) ≡ s.waiting ++ text_in f (ys ++ xs)
  rest_text s t fresh xs ys flows =
      sym (append_assoc fresh t.waiting (text_in f ys)) ∙ ap (λ (z : List ℕ). z ++ text_in f ys) (sym flows) ∙ append_assoc s.waiting (text_in f xs) (text_in f ys)
      ∙ ap (λ (z : List ℕ). s.waiting ++ z) (sym (text_append ys xs))

  -- steps were written, and a call failed while later ones were written
  pub breaks_after : (s t : Sink) (w : Writer) (xs ys : List Step) → SinkReceivesSteps f xs s t → WriterFails t.writer w (t.waiting ++ text_in f ys) → WriterFails s.writer w (s.waiting ++ text_in f (ys ++ xs))
  breaks_after s t w xs ys p q =
      subst (WriterFails s.writer w) (rest_text s t p.sent.fresh xs ys p.sent.flows) (breaks_later s.writer t.writer w p.sent.fresh (t.waiting ++ text_in f ys) p.sent.takes q)

-- WIDTHS

-- steps that were made, and then later ones
pub cuts_more : {c d e : Counting} {xs ys ws vs : List Step} → TruncatesHashes c xs ws d → TruncatesHashes d ys vs e → TruncatesHashes c (ys ++ xs) (vs ++ ws) e
cuts_more p none_made = p
cuts_more p (ask_begun q) = ask_begun (cuts_more p q)
cuts_more {c = c} {xs = xs} {ws = ws} p (one_made {d = d} {made = made} {written = written} step k q) =
    subst (λ (z : List Step). TruncatesHashes c (step ∷ (made ++ xs)) z (counting_after step d)) (sym (append_assoc (written_for d.bits (counting_after step d).bits step) written ws)) (one_made step k (cuts_more p q))

-- one step
pub cuts_one : (c : Counting) (step : Step) → KeepsWidth step → TruncatesHashes c (step ∷ []) (written_for c.bits (counting_after step c).bits step) (counting_after step c)
cuts_one c step k = subst (λ (z : List Step). TruncatesHashes c (step ∷ []) z (counting_after step c)) (append-nil (written_for c.bits (counting_after step c).bits step)) (one_made step k none_made)

-- TARGETS

-- no step was counted
counts_none : (c : Counting) → CountsSteps c [] c
counts_none c = record { written = []; cuts = none_made }

-- no step
pub carries_none : (t : Target) → TargetReceives t [] t
carries_none (Closed c) = (c, refl, counts_none c)
carries_none (Open f c s) = (c, s, refl, record { written = []; cuts = none_made; wrote = wrote_none f s })
carries_none (Faulty w) = refl

-- the text of steps was written, then that of later ones
pub carried_more : (f : ProofFormat) (c d e : Counting) (s t u : Sink) (xs ys : List Step) → SinkReceivesWritten f c s xs d t → SinkReceivesWritten f d t ys e u → SinkReceivesWritten f c s (ys ++ xs) e u
carried_more f c d e s t u xs ys p q = record { written = q.written ++ p.written; cuts = cuts_more p.cuts q.cuts; wrote = wrote_more f s t u p.written q.written p.wrote q.wrote }

-- steps, and then later ones
pub carries_more : (a b c : Target) (xs ys : List Step) → TargetReceives a xs b → TargetReceives b ys c → TargetReceives a (ys ++ xs) c
carries_more (Closed n) b c xs ys p q =
    let k = subst (λ (z : Target). TargetReceives z ys c) p.1 q in
    (k.0, k.1, record { written = k.2.written ++ p.2.written; cuts = cuts_more p.2.cuts k.2.cuts })
carries_more (Open f n s) b c xs ys p q =
    let k = subst (λ (z : Target). TargetReceives z ys c) p.2 q in
    (k.0, k.1, k.2, carried_more f n p.0 k.0 s p.1 k.1 xs ys p.3 k.3)
carries_more (Faulty w) b c xs ys p q = subst (λ (z : Target). TargetReceives z ys c) p q

-- steps were written, and a call failed at later ones
pub stops_later : (a b c : Target) (xs ys : List Step) → TargetReceives a xs b → TargetFails b ys c → TargetFails a (ys ++ xs) c
stops_later (Closed n) b c xs ys p q = absurd (subst (λ (z : Target). TargetFails z ys c) p.1 q)
stops_later (Open f n s) b c xs ys p q =
    let k = subst (λ (z : Target). TargetFails z ys c) p.2 q in (
      k.0,
      k.1,
      record {
        written = k.2.written ++ p.3.written;
        counting = k.2.counting;
        cuts = cuts_more p.3.cuts k.2.cuts;
        breaks = breaks_after f s p.1 k.0 p.3.written k.2.written p.3.wrote k.2.breaks;
      },
    )
stops_later (Faulty w) b c xs ys p q = subst (λ (z : Target). TargetFails z ys c) p q

-- a flush writes no step
pub flushed_carries : (a b : Target) → TargetFlushed a b → TargetReceives a [] b
flushed_carries (Closed c) b h = (c, h, counts_none c)
flushed_carries (Open f c s) b h = (c, h.0, h.1, record { written = []; cuts = none_made; wrote = record { spelt = tt; sent = h.2.sent } })
flushed_carries (Faulty w) b h = h

-- steps were written and flushed, and the target is returned
pub takes_all : (a b c : Target) (given : Option Writer) (w : Writer) (xs : List Step) → is_open a ≡ true → TargetReceives a xs b → TargetFlushed b c → ReturnsWriter c given → given ≡ Some w → TargetReceivesAll a xs w
takes_all (Closed n) b c given w xs o p f g e = cc
takes_all (Open a n s) b c given w xs o p f g e =
    let k = subst (λ (z : Target). TargetFlushed z c) p.2 f in
    let q = subst (λ (z : Target). ReturnsWriter z given) k.1 g in
    let is : k.0.writer ≡ w = cc in
    let text = text_in a p.3.written in
    let sent : AddsToSink s k.0 text = subst (AddsToSink s k.0) (append-nil text) (sent_more s p.1 k.0 text [] p.3.wrote.sent k.2.sent) in
    let none = k.2.none in
    let all : sent.fresh ≡ s.waiting ++ text = sym (append-nil sent.fresh) ∙ ap (λ (z : List ℕ). sent.fresh ++ z) (sym none) ∙ sym sent.flows in
    record {
      written = p.3.written;
      counting = p.0;
      cuts = p.3.cuts;
      spelt = p.3.wrote.spelt;
      takes = subst (λ (z : Writer). WriterAccepts s.writer z (s.waiting ++ text)) is (subst (WriterAccepts s.writer k.0.writer) all sent.takes);
      flushed = subst (λ (z : Writer). z.flushed ≡ true) is k.2.flushed;
    }
takes_all (Faulty w) b c given v xs o p f g e = cc

-- steps were written and flushed, and the target is closed
closes_after : (a b c d : Target) (xs : List Step) → is_open a ≡ true → TargetReceives a xs b → TargetFlushed b c → TargetIsRemoved c d → TargetClosesAfter a xs d
closes_after (Closed n) b c d xs o p f g = absurd (true≢false (sym o))
closes_after (Open a n s) b c d xs o p f g =
    let k = subst (λ (z : Target). TargetFlushed z c) p.2 f in
    (p.0, subst (λ (z : Target). TargetIsRemoved z d) k.1 g, record { written = p.3.written; cuts = p.3.cuts })
closes_after (Faulty w) b c d xs o p f g = absurd (true≢false (sym o))

-- the bytes encode the steps
spells : (f : ProofFormat) (steps : List Step) → AreSpeltInFormat f steps → f ≡ Varisat → SpellsSteps (reverse steps) (text_in f steps)
spells f steps h e = subst (λ (z : ProofFormat). SpellsSteps (reverse steps) (text_in z steps)) (sym e) (text_spells steps (subst (λ (z : ProofFormat). AreSpeltInFormat z steps) e h))

-- What a target received from the opening of a proof to its end.
pub closed_is_text : ClosedIsText
closed_is_text f from given steps last t p q =
    let k = subst (λ (z : Target). TargetReceivesAll z (last ∷ []) given) p.2 q in
    let s = p.1 in
    let whole : p.3.wrote.sent.fresh ++ (s.waiting ++ text_in f k.written) ≡ text_in f (k.written ++ p.3.written) = rest_text f (empty_sink from) s p.3.wrote.sent.fresh p.3.written k.written p.3.wrote.sent.flows in
    record {
      written = k.written ++ p.3.written;
      counting = k.counting;
      cuts = cuts_more p.3.cuts k.cuts;
      spells = spells f (k.written ++ p.3.written) (spelt_append f k.written p.3.written k.spelt p.3.wrote.spelt);
      takes = subst (WriterAccepts from given) whole (took_both from s.writer given p.3.wrote.sent.fresh (s.waiting ++ text_in f k.written) p.3.wrote.sent.takes k.takes);
      flushed = k.flushed;
    }

-- What a target that failed received since the opening of a proof: a prefix of the text. No later call was made.
pub broken_is_front : BrokenIsPrefix
broken_is_front f from given steps t p g =
    let q = subst (λ (z : Target). ReturnsWriter z (Some given)) p.1 g in
    let same : p.0 ≡ given = cc in
    record { written = p.2.written; counting = p.2.counting; cuts = p.2.cuts; breaks = subst (λ (z : Writer). WriterFails from z (text_in f p.2.written)) same p.2.breaks }

-- PROOFS

-- no step
pub adds_none : {W L : Type 0} {G : Ghosts L} (seen : W → Writer) (p : Proof W L G) → EmitsExactly seen [] p p
adds_none seen p = record { history = refl; listening = refl; target = carries_none (target_of seen p) }

-- steps, and then later ones
pub adds_more : {W L : Type 0} {G : Ghosts L} (seen : W → Writer) (xs ys : List Step) (a b c : Proof W L G) → EmitsExactly seen xs a b → EmitsExactly seen ys b c → EmitsExactly seen (ys ++ xs) a c
adds_more seen xs ys a b c p q = record {
  history = q.history ∙ ap (λ z. ys ++ z) p.history ∙ sym (append_assoc ys xs (steps_of a));
  listening = q.listening ∙ p.listening;
  target = carries_more (target_of seen a) (target_of seen b) (target_of seen c) xs ys p.target q.target;
}

-- the same, and the checker accepted the steps
pub gains_none : {W L : Type 0} {G : Ghosts L} (seen : W → Writer) (p : Proof W L G) → EmitsChecked seen [] p p
gains_none seen p = record { history = refl; listening = refl; taking = refl; asked = refl; width = λ h. elim h [ inl w ↦ w | inr n ↦ absurd (n refl) ]; target = carries_none (target_of seen p) }

-- no step was made
pub gains_kept : {W L : Type 0} {G : Ghosts L} (seen : W → Writer) (p q : Proof W L G) → q.made ≡ p.made → q.counting ≡ p.counting → has_asked q ≡ has_asked p → TargetReceives (target_of seen p) [] (target_of seen q) → EmitsChecked seen [] p q
gains_kept {W} {L} {G} seen p q made counting asked target = record {
  history = ap (λ (m : EmittedSteps L G). m.history.steps) made;
  listening = ap (λ (m : EmittedSteps L G). mades.emitted_listeners m) made;
  taking = ap (λ (m : EmittedSteps L G). mades.emitted_has_missed_step m) made;
  asked = asked;
  width = λ h. elim h [ inl w ↦ subst (λ n. mades.LastWidthIs n q.made) (ap (λ (n : Counting). n.bits) (sym counting)) (subst (λ (m : EmittedSteps L G). mades.LastWidthIs p.counting.bits m) (sym made) w) | inr n ↦ absurd (n refl) ];
  target = target;
}

width_more : {W L : Type 0} {G : Ghosts L} (xs ys : List Step) (a b c : Proof W L G) → (IsAtWidth a ⊎ (xs ≡ [] → ⊥) → IsAtWidth b) → (IsAtWidth b ⊎ (ys ≡ [] → ⊥) → IsAtWidth c) → IsAtWidth a ⊎ (ys ++ xs ≡ [] → ⊥) → IsAtWidth c
width_more xs [] a b c p q h = q (inl (p h))
width_more xs (y ∷ ys) a b c p q h = q (inr (λ e. cc))

pub gains_adds : {W L : Type 0} {G : Ghosts L} (seen : W → Writer) (xs : List Step) (a b : Proof W L G) → EmitsChecked seen xs a b → EmitsExactly seen xs a b
gains_adds seen xs a b h = record { history = h.history; listening = h.listening; target = h.target }

pub gains_more : {W L : Type 0} {G : Ghosts L} (seen : W → Writer) (xs ys : List Step) (a b c : Proof W L G) → EmitsChecked seen xs a b → EmitsChecked seen ys b c → EmitsChecked seen (ys ++ xs) a c
gains_more seen xs ys a b c p q =
    let both = adds_more seen xs ys a b c (gains_adds seen xs a b p) (gains_adds seen ys b c q) in
    record { history = both.history; listening = both.listening; taking = q.taking ∙ p.taking; asked = q.asked ∙ p.asked; width = width_more xs ys a b c p.width q.width; target = both.target }

-- if steps were made, the checker is at the width of the target's text
pub gained_width : {W L : Type 0} {G : Ghosts L} (seen : W → Writer) (a b : Proof W L G) → EmitsSomeChecked seen a b → (steps_of b ≡ steps_of a → ⊥) → IsAtWidth b
gained_width seen a b t n = t.1.width (inr (λ e. n (t.1.history ∙ ap (λ xs. xs ++ steps_of a) e)))

-- steps were written, and a call failed at later ones
pub fails_later : {W L : Type 0} {G : Ghosts L} (seen : W → Writer) (xs ys : List Step) (a b c : Proof W L G) → EmitsExactly seen xs a b → FailsToEmit seen ys b c → FailsToEmit seen (ys ++ xs) a c
fails_later seen xs ys a b c p q = record {
  history = q.history ∙ ap (λ z. ys ++ z) p.history ∙ sym (append_assoc ys xs (steps_of a));
  listening = q.listening ∙ p.listening;
  target = stops_later (target_of seen a) (target_of seen b) (target_of seen c) xs ys p.target q.target;
}

-- a proof whose checker failed has a checker
pub complains_checked : {W L : Type 0} {G : Ghosts L} (fault : CheckFault) (p : Proof W L G) → CheckerFailed fault p → is_checked p ≡ true
complains_checked {G = G} fault p h = go p.made.own h
  where
    go : (o : Option (Checked _)) → mades.OwnCheckerFailed G.takes fault o p.made.roll.items p.made.history.steps → is_some (mades.listed_in o p.made.roll.items) ≡ true
    go None h = absurd h
    go (Some own) h = refl

-- steps were made, and the checker failed at later ones
pub check_later : {W L : Type 0} {G : Ghosts L} {fault : CheckFault} (seen : W → Writer) (xs ys : List Step) (a b c : Proof W L G) → EmitsExactly seen xs a b → FailsCheck seen fault ys b c → FailsCheck seen fault (ys ++ xs) a c
check_later seen xs ys a b c p q = record { adds = adds_more seen xs ys a b c p q.adds; why = q.why }

-- a flush of the target makes no step
drained : {W L : Type 0} {G : Ghosts L} (seen : W → Writer) (a b : Proof W L G) → FlushesOnlyTarget seen a b → EmitsExactly seen [] a b
drained seen a b h = record { history = h.history; listening = h.listening; target = flushed_carries (target_of seen a) (target_of seen b) h.target }

-- if no step was lost before, the checker has failed just now
pub complains_now : {W L : Type 0} {G : Ghosts L} (fault : CheckFault) (p : Proof W L G) (lost : Bool) → lost ≡ false → mades.CheckerErrorAfterMissedStep lost fault p.made → CheckerFailed fault p × IsListenerError fault p.made.complaint
complains_now fault p lost taking h = elim h [ inl k ↦ k | inr k ↦ absurd (true≢false (sym k.0 ∙ taking)) ]

-- flushing and notifying the listeners makes no step
pub flush_records : {W L : Type 0} {G : Ghosts L} (seen : W → Writer) (r : Result (Unit {0}) ProofError) (a b : Proof W L G) → has_missed_step a ≡ false → FlushesOrFails seen r a b → EmitResult seen r [] a b
flush_records seen (Ok x) a b taking h = record { history = h.history; listening = h.listening; taking = h.taking; asked = h.asked; width = λ k. elim k [ inl w ↦ h.width w | inr n ↦ absurd (n refl) ]; target = flushed_carries (target_of seen a) (target_of seen b) h.target }
flush_records seen (Err (Write e)) a b taking h = h
flush_records seen (Err OutOfMemory) a b taking h = absurd h
flush_records seen (Err (Check fault)) a b taking h = (let k = complains_now fault b (has_missed_step a) taking h.1 in (record { adds = drained seen a b h.0; why = k.0 }, k.1))

-- writing or checking the last step failed
pub close_stops : {W L : Type 0} {G : Ghosts L} (T : Type 0) (seen : W → Writer) (e : ProofError) (a b : Proof W L G) → EmitResult {T = T} seen (Err e) (End ∷ []) a b → ClosesTarget seen (Err e) a b
close_stops T seen (Write e) a b h = h
close_stops T seen OutOfMemory a b h = h
close_stops T seen (Check fault) a b h = (h.0.adds, inl (h.0.why, h.1))

-- the last step was made, then a flush failed
pub close_fails : {W L : Type 0} {G : Ghosts L} (seen : W → Writer) (e : ProofError) (a b c : Proof W L G) → EmitsChecked seen (End ∷ []) a b → FlushesOrFails seen (Err e) b c → ClosesTarget seen (Err e) a c
close_fails seen (Write e) a b c p q = (
  record {
    history = q.0.history ∙ p.history;
    listening = q.0.listening ∙ p.listening;
    target = stops_later (target_of seen a) (target_of seen b) (target_of seen c) (End ∷ []) [] p.target q.0.target;
  },
  q.1,
)
close_fails seen OutOfMemory a b c p q = absurd q
close_fails seen (Check fault) a b c p q = (adds_more seen (End ∷ []) [] a b c (gains_adds seen (End ∷ []) a b p) (drained seen b c q.0), elim q.1 [ inl k ↦ inl k | inr k ↦ inr (sym p.taking ∙ k.0, k.1) ])

gives_none : (a b c : Target) (xs : List Step) → is_open a ≡ true → TargetReceives a xs b → TargetFlushed b c → ReturnsWriter c None → ⊥
gives_none (Closed n) b c xs o p f g = absurd (true≢false (sym o))
gives_none (Open a n s) b c xs o p f g =
    let k = subst (λ (z : Target). TargetFlushed z c) p.2 f in
    let q : None ≡ Some k.0.writer = subst (λ (z : Target). ReturnsWriter z None) k.1 g in
    cc
gives_none (Faulty w) b c xs o p f g = absurd (true≢false (sym o))

-- the last step was made, the target was flushed and returned
pub close_gives : {W L : Type 0} {G : Ghosts L} (seen : W → Writer) (o : Option W) (a b c d : Proof W L G) → is_open (target_of seen a) ≡ true → EmitsChecked seen (End ∷ []) a b → FlushesAndNotifies seen b c → ReturnsTarget seen o c d → ClosesTarget seen (Ok o) a d
close_gives seen None a b c d open_yet p q h = absurd (gives_none (target_of seen a) (target_of seen b) (target_of seen c) (End ∷ []) open_yet p.target q.target h.gives)
close_gives seen (Some w) a b c d open_yet p q h = record {
  history = h.history ∙ q.history ∙ p.history;
  listening = ap mades.emitted_listeners h.made ∙ q.listening ∙ p.listening;
  taking = ap mades.emitted_has_missed_step h.made ∙ q.taking ∙ p.taking;
  asked = h.asked ∙ q.asked ∙ p.asked;
  takes = takes_all (target_of seen a) (target_of seen b) (target_of seen c) (Some (seen w)) (seen w) (End ∷ []) open_yet p.target q.target h.gives refl;
  target = closes_after (target_of seen a) (target_of seen b) (target_of seen c) (target_of seen d) (End ∷ []) open_yet p.target q.target h.target;
  reported = subst (λ (m : EmittedSteps _ _). mades.EmittedIsReported m) (sym h.made) q.reported;
}

-- SINCE THE OPENING

-- a proof was closed
pub since_closed : {W L : Type 0} {G : Ghosts L} (seen : W → Writer) (f : ProofFormat) (from : Writer) (before : List Step) (given : W) (p q : Proof W L G) → WroteSince seen f from before p → ClosesOpenTarget seen given p q → ReceivedTextSince f from (seen given) before (steps_of q)
since_closed seen f from before given p q w c = record {
  steps = End ∷ w.steps;
  following = c.history ∙ ap (λ z. End ∷ z) w.following;
  took = closed_is_text f from (seen given) w.steps End (target_of seen p) w.target c.takes;
}
