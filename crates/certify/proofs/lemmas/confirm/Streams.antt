-- How the calls that read a certificate step by step follow one another.
use Rattle.std.proofs.Common.{◌≡◌, ℕ, ◌+◌, ◌-◌, ◌*◌, ◌<◌, ◌≤◌, Bool, true, false, List, [], ◌∷◌, ◌++◌, drop, length, length-append, Option, Some, None, Result, Ok, Err, inl, inr, append_assoc, refl, sym, ap, ◌∙◌, subst, arith}
use Rattle.std.proofs.Math.Seq.{drop-append_seam}
use Rattle.std.proofs.lemmas.List.{append-nil}
use Rattle.std.specs.Io.KnownBytes.{Consumes, IsAtEnd, prepend_known}
use Rattle.sat_base.specs.declared.steps.error.StepError.{StepError}
use Rattle.sat_base.specs.declared.steps.error.StepError.TheVariants as errors
use Rattle.sat_base.specs.device.Device.{Reader, GaveEnough, ReadFails, max_reads}
use Rattle.sat_base.specs.device.Reading.{Source, AtEnd, ConsumesWithReads, ConsumesBytes, ConsumesToEnd, IsFullyConsumed, ConsumesAndFails, AnswersStepRead, new_source}
use Rattle.sat_base.specs.steps.StepReading.{AnswersUnlessFailed, is_repeat_result}
use Rattle.sat_base.specs.steps.Formats.{IsPrefixOfText, IsProperPrefix}
use Rattle.sat_base.specs.steps.Steps.{Step}
use Rattle.sat_base.specs.steps.StepText.{SpellsStep, tag_of}
use Rattle.sat_base.proofs.lemmas.device.ReadLemmas.{passes_more, faults_later, passes_none}
use Rattle.certify.specs.confirm.ReadSteps.{BeginsNoStep, ReadsStep}
use Rattle.certify.specs.confirm.Feeding.{HasAcceptedSteps, FeedsStep, SettlesConflict}
use Rattle.certify.specs.confirm.Streams.{Stream, rest_in, certificate_state_in, CanBeTotal, HoldsWhateverFollows, ConsumesStreamBytes, ConsumesStreamOrEnds, CallSucceeds, CertificateCall, CallWithoutReading, stop_for_step, most_bytes_left}
use Rattle.certify.specs.confirm.VerdictPromises.{LooksAreBounded}
use Rattle.certify.specs.confirm.FedSteps.{StepsAccountForLooks, FeedsAllSteps, FeedsLastIf, FeedsSomeSteps, LeadsToCounterEnd}
use Rattle.certify.specs.confirm.CertificateStates.{CertificateState, certificate_place}
use Rattle.sat_checker.specs.Accepts.{Accepts, ready_after}
use Rattle.sat_checker.specs.ProofView.{most_bytes}
use Rattle.sat_checker.specs.KernelView.{kernel_looks, LooksAtMost}
use Rattle.sat_checker.specs.declared.kernel.Kernel.{Kernel}
use Rattle.certify.specs.declared.confirm.stop.Stop.{Stop}
use Rattle.certify.specs.declared.confirm.stop.Stop.TheVariants as stop
use Rattle.certify.specs.declared.verdict.Why.{Why}
use Rattle.certify.specs.declared.verdict.Why.TheVariants.{CertificateEnds, StepRefused}
use Rattle.certify.specs.run.Unfinished.{GavePrefixOf}
use Rattle.certify.proofs.lemmas.confirm.LooksBound.{takes_looks}
use Rattle.certify.proofs.lemmas.confirm.OneStep.{one_step}
use Rattle.certify.proofs.lemmas.confirm.Walks.{walks_none, walks_on, tries_on, runs_on, tries_if, tries_none, walks_read, walks_fed, tries_fed, runs_fed, walks_settled, tries_kept, tries_spent, runs_spent, never_settled}
use Rattle.sat_base.proofs.lemmas.steps.Prefixes.{no_whole, no_way}

-- WHAT CAN FOLLOW

-- a total that is possible after a read was possible before it
pub covers_back : (n : ℕ) (s t : Source) (text total : List ℕ) → (AtEnd s → ⊥) → ConsumesWithReads n s t text → CanBeTotal t total → CanBeTotal s total
covers_back n s t text total open_yet p c = record {
  later = p.fresh ++ c.later;
  whole = c.whole ∙ ap (λ (z : List ℕ). z ++ c.later) p.gave ∙ append_assoc s.reader.given p.fresh c.later;
  none = λ h. absurd (open_yet h);
}

-- a total that is possible after a read that failed was possible before it
pub covers_fault : (s t : Source) (text total : List ℕ) → (AtEnd s → ⊥) → ConsumesAndFails s t text → CanBeTotal t total → CanBeTotal s total
covers_fault s t text total open_yet p c = record {
  later = p.fresh ++ c.later;
  whole = c.whole ∙ ap (λ (z : List ℕ). z ++ c.later) p.gave ∙ append_assoc s.reader.given p.fresh c.later;
  none = λ h. absurd (open_yet h);
}

-- a reader that is not at its end does not reach it by consuming bytes
pub stays_open : (s t : Source) (text : List ℕ) → (AtEnd s → ⊥) → ConsumesBytes s t text → AtEnd t → ⊥
stays_open s t text open_yet p h = open_yet (p.going refl h)

rest_is : (s : Source) (total later : List ℕ) → total ≡ s.reader.given ++ later → rest_in total s ≡ s.waiting ++ later
rest_is s total later e = ap (λ (z : List ℕ). s.waiting ++ drop (length s.reader.given) z) e ∙ ap (λ (z : List ℕ). s.waiting ++ z) (drop-append_seam s.reader.given later)

-- the bytes to come before a read are those consumed and those to come after it
pub taken_front : (n : ℕ) (s t : Source) (text total : List ℕ) → ConsumesWithReads n s t text → CanBeTotal t total → rest_in total s ≡ text ++ rest_in total t
taken_front n s t text total p c =
    let whole : total ≡ s.reader.given ++ (p.fresh ++ c.later) = c.whole ∙ ap (λ (z : List ℕ). z ++ c.later) p.gave ∙ append_assoc s.reader.given p.fresh c.later in
    rest_is s total (p.fresh ++ c.later) whole ∙ sym (append_assoc s.waiting p.fresh c.later) ∙ ap (λ (z : List ℕ). z ++ c.later) p.flows
    ∙ append_assoc text t.waiting c.later ∙ ap (λ (z : List ℕ). text ++ z) (sym (rest_is t total c.later c.whole))

-- if the end was found, no bytes are left
pub nothing_after : (s t : Source) (text total : List ℕ) → ConsumesToEnd s t text → CanBeTotal t total → rest_in total s ≡ text
nothing_after s t text total p c =
    let none : c.later ≡ [] = c.none (p.1.read, p.1.ended) in
    let following : rest_in total t ≡ [] = rest_is t total c.later c.whole ∙ ap (λ (z : List ℕ). z ++ c.later) p.1.waiting ∙ none in
    taken_front 1 s t text total p.0 c ∙ ap (λ (z : List ℕ). text ++ z) following ∙ append-nil text

-- NO STEP CAN BE READ

-- a byte after which no step can continue begins none
pub no_step_at_byte : (s t : Source) (front : List ℕ) (byte : ℕ) (total : List ℕ) → ConsumesBytes s t (front ++ byte ∷ []) → IsProperPrefix SpellsStep front → (IsPrefixOfText SpellsStep (front ++ byte ∷ []) → ⊥) → CanBeTotal t total
    → BeginsNoStep (rest_in total s)
no_step_at_byte s t front byte total p live shut c =
    no_way SpellsStep one_step (rest_in total s) front (rest_in total t) byte (taken_front 0 s t (front ++ byte ∷ []) total p c ∙ append_assoc front (byte ∷ []) (rest_in total t)) live shut

-- a text that ends within a step begins none
pub no_step_cut : (s t : Source) (text total : List ℕ) → ConsumesToEnd s t text → IsProperPrefix SpellsStep text → CanBeTotal t total → BeginsNoStep (rest_in total s)
no_step_cut s t text total p live c = no_whole SpellsStep one_step (rest_in total s) (subst (IsProperPrefix SpellsStep) (sym (nothing_after s t text total p c)) live)

-- a text that has ended begins no step
pub no_step_over : (s t : Source) (total : List ℕ) → ConsumesToEnd s t [] → CanBeTotal t total → BeginsNoStep (rest_in total s)
no_step_over s t total p c step text rest e h = let u : [] ≡ tag_of step ∷ (h.0 ++ rest) = sym (nothing_after s t [] total p c) ∙ e ∙ ap (λ (z : List ℕ). z ++ rest) h.1 in cc

-- ONE CALL AFTER ANOTHER

weaker : (s t : Source) (text : List ℕ) → ConsumesBytes s t text → ConsumesWithReads 1 s t text
weaker s t text p = record {
  fresh = p.fresh;
  gave = p.gave;
  flows = p.flows;
  bytes = p.bytes;
  failures = p.failures;
  calls = p.calls;
  room = p.room;
  few = omega (arith, p.few);
  loans = p.loans;
  names = p.names;
  going = λ e. absurd (omega (arith, e));
}

-- a successful call, and then one that stops
halts_later : (a b c : Stream) → ConsumesStreamBytes a b → ConsumesStreamOrEnds b c → ConsumesStreamOrEnds a c
halts_later a b c m h = ((m.0 ++ h.0.0, passes_more a.source b.source c.source m.0 h.0.0 m.1 h.0.1), h.1)

pub moves_halt : (a b : Stream) → (AtEnd a.source → ⊥) → ConsumesStreamBytes a b → ConsumesStreamOrEnds a b
moves_halt a b open_yet m = ((m.0, weaker a.source b.source m.0 m.1), λ h. absurd (stays_open a.source b.source m.0 open_yet m.1 h))

-- statements about two calls imply one about both together
over_then : (n : ℕ) (a b c : Stream) (text : List ℕ) (P Q R : CertificateState → CertificateState → Type 0) → (AtEnd b.source → ⊥) → ConsumesWithReads n b.source c.source text
    → ((total : List ℕ) → P (certificate_state_in total a) (certificate_state_in total b) → Q (certificate_state_in total b) (certificate_state_in total c) → R (certificate_state_in total a) (certificate_state_in total c)) → HoldsWhateverFollows a b P → HoldsWhateverFollows b c Q → HoldsWhateverFollows a c R
over_then n a b c text P Q R open_yet p f g h total k = f total (g total (covers_back n b.source c.source text total open_yet p k)) (h total k)

over_fault : (a b c : Stream) (text : List ℕ) (P Q R : CertificateState → CertificateState → Type 0) → (AtEnd b.source → ⊥) → ConsumesAndFails b.source c.source text
    → ((total : List ℕ) → P (certificate_state_in total a) (certificate_state_in total b) → Q (certificate_state_in total b) (certificate_state_in total c) → R (certificate_state_in total a) (certificate_state_in total c)) → HoldsWhateverFollows a b P → HoldsWhateverFollows b c Q → HoldsWhateverFollows a c R
over_fault a b c text P Q R open_yet p f g h total k = f total (g total (covers_fault b.source c.source text total open_yet p k)) (h total k)

-- two successful calls
pub going_then : (fed : Bool) (a b c : Stream) (P Q R : CertificateState → CertificateState → Type 0) → (AtEnd a.source → ⊥)
    → ((total : List ℕ) → P (certificate_state_in total a) (certificate_state_in total b) → Q (certificate_state_in total b) (certificate_state_in total c) → R (certificate_state_in total a) (certificate_state_in total c)) → CallSucceeds true a b P → CallSucceeds fed b c Q → CallSucceeds fed a c R
going_then fed a b c P Q R open_yet f p q =
    let here = stays_open a.source b.source p.0.0 open_yet p.0.1 in (
      (p.0.0 ++ q.0.0, passes_more a.source b.source c.source p.0.0 q.0.0 p.0.1 q.0.1),
      over_then 0 a b c q.0.0 P Q R here q.0.1 f p.1 q.1,
      over_then 0 a b c q.0.0 FeedsAllSteps (FeedsLastIf fed) (FeedsLastIf fed) here q.0.1 (λ total. walks_on fed (certificate_state_in total a) (certificate_state_in total b) (certificate_state_in total c)) p.2 q.2,
    )

-- a successful call, and then an error
pub then_stop : {A B C : Type 0} (x : A) (e : Stop) (a b c : Stream) (P : CertificateState → CertificateState → Result A Why → Type 0) (Q : CertificateState → CertificateState → Result B Why → Type 0) (R : CertificateState → CertificateState → Result C Why → Type 0) → (AtEnd a.source → ⊥)
    → ((total : List ℕ) (why : Why) → P (certificate_state_in total a) (certificate_state_in total b) (Ok x) → Q (certificate_state_in total b) (certificate_state_in total c) (Err why) → R (certificate_state_in total a) (certificate_state_in total c) (Err why))
    → CertificateCall (Ok x) a b P → CertificateCall {A = B} (Err e) b c Q → CertificateCall {A = C} (Err e) a c R
then_stop x (stop.No why) a b c P Q R open_yet f p q =
    let here = stays_open a.source b.source p.0.0 open_yet p.0.1 in (
      halts_later a b c p.0 q.0,
      over_then 1 a b c q.0.0.0 (λ u v. P u v (Ok x)) (λ u v. Q u v (Err why)) (λ u v. R u v (Err why)) here q.0.0.1 (λ total. f total why) p.1 q.1,
      over_then 1 a b c q.0.0.0 FeedsAllSteps FeedsSomeSteps FeedsSomeSteps here q.0.0.1 (λ total. tries_on (certificate_state_in total a) (certificate_state_in total b) (certificate_state_in total c)) p.2 q.2,
    )
then_stop x stop.CertificateRead a b c P Q R open_yet f p q =
    let here = stays_open a.source b.source p.0.0 open_yet p.0.1 in (
      (p.0.0 ++ q.0.0, faults_later a.source b.source c.source p.0.0 q.0.0 p.0.1 q.0.1),
      over_fault a b c q.0.0 FeedsAllSteps FeedsSomeSteps FeedsSomeSteps here q.0.1 (λ total. tries_on (certificate_state_in total a) (certificate_state_in total b) (certificate_state_in total c)) p.2 q.1,
    )
then_stop x stop.OutOfMemory a b c P Q R open_yet f p q =
    let here = stays_open a.source b.source p.0.0 open_yet p.0.1 in (
      halts_later a b c p.0 q.0,
      over_then 1 a b c q.0.0.0 FeedsAllSteps FeedsSomeSteps FeedsSomeSteps here q.0.0.1 (λ total. tries_on (certificate_state_in total a) (certificate_state_in total b) (certificate_state_in total c)) p.2 q.1,
    )
then_stop x stop.CounterEnd a b c P Q R open_yet f p q =
    let here = stays_open a.source b.source p.0.0 open_yet p.0.1 in (
      halts_later a b c p.0 q.0,
      over_then 1 a b c q.0.0.0 FeedsAllSteps LeadsToCounterEnd LeadsToCounterEnd here q.0.0.1 (λ total. runs_on (certificate_state_in total a) (certificate_state_in total b) (certificate_state_in total c)) p.2 q.1,
      over_then 1 a b c q.0.0.0 FeedsAllSteps FeedsSomeSteps FeedsSomeSteps here q.0.0.1 (λ total. tries_on (certificate_state_in total a) (certificate_state_in total b) (certificate_state_in total c)) p.2 q.2,
    )
then_stop x e a b c P Q R open_yet f p q = absurd q

-- a successful call, and then any call
pub confirms_then : {A B : Type 0} (x : A) (r : Result B Stop) (a b c : Stream) (P : CertificateState → CertificateState → Result A Why → Type 0) (Q R : CertificateState → CertificateState → Result B Why → Type 0) → (AtEnd a.source → ⊥)
    → ((total : List ℕ) (y : Result B Why) → P (certificate_state_in total a) (certificate_state_in total b) (Ok x) → Q (certificate_state_in total b) (certificate_state_in total c) y → R (certificate_state_in total a) (certificate_state_in total c) y) → CertificateCall (Ok x) a b P → CertificateCall r b c Q → CertificateCall r a c R
confirms_then x (Ok y) a b c P Q R open_yet f p q = going_then true a b c (λ u v. P u v (Ok x)) (λ u v. Q u v (Ok y)) (λ u v. R u v (Ok y)) open_yet (λ total. f total (Ok y)) p q
confirms_then x (Err e) a b c P Q R open_yet f p q = then_stop x e a b c P Q R open_yet (λ total why. f total (Err why)) p q

-- an error that is passed on
pub confirms_stop : {A B : Type 0} (e : Stop) (a b : Stream) (P : CertificateState → CertificateState → Result A Why → Type 0) (R : CertificateState → CertificateState → Result B Why → Type 0)
    → ((total : List ℕ) (why : Why) → P (certificate_state_in total a) (certificate_state_in total b) (Err why) → R (certificate_state_in total a) (certificate_state_in total b) (Err why)) → CertificateCall {A = A} (Err e) a b P → CertificateCall {A = B} (Err e) a b R
confirms_stop (stop.No why) a b P R f p = (p.0, (λ total k. f total why (p.1 total k)), p.2)
confirms_stop stop.ScriptRead a b P R f p = absurd p
confirms_stop stop.AnswersRead a b P R f p = absurd p
confirms_stop stop.TooMany a b P R f p = absurd p
confirms_stop e a b P R f p = p

-- a weaker statement about the same call
pub confirms_so : {A : Type 0} (r : Result A Stop) (a b : Stream) (P R : CertificateState → CertificateState → Result A Why → Type 0) → ((total : List ℕ) (y : Result A Why) → P (certificate_state_in total a) (certificate_state_in total b) y → R (certificate_state_in total a) (certificate_state_in total b) y) → CertificateCall r a b P → CertificateCall r a b R
confirms_so (Ok x) a b P R f p = (p.0, (λ total k. f total (Ok x) (p.1 total k)), p.2)
confirms_so (Err e) a b P R f p = confirms_stop e a b P R (λ total why. f total (Err why)) p

-- CALLS THAT READ NOTHING

pub confirms_none : {A : Type 0} (x : A) (a : Stream) (P : CertificateState → CertificateState → Result A Why → Type 0) → ((total : List ℕ) → P (certificate_state_in total a) (certificate_state_in total a) (Ok x)) → CertificateCall (Ok x) a a P
confirms_none x a P f = (([], passes_none a.source), (λ total k. f total), (λ total k. walks_none (certificate_state_in total a)))

-- an error of a call that reads nothing, after a successful call
pub says_stop : {B C : Type 0} (fed : Bool) (e : Stop) (a b : Stream) (P : CertificateState → CertificateState → Type 0) (S : Result B Why → Type 0) (R : CertificateState → CertificateState → Result C Why → Type 0) → (AtEnd a.source → ⊥)
    → ((total : List ℕ) (why : Why) → P (certificate_state_in total a) (certificate_state_in total b) → S (Err why) → R (certificate_state_in total a) (certificate_state_in total b) (Err why))
    → CallSucceeds fed a b P → CallWithoutReading {A = B} (Err e) S → CertificateCall {A = C} (Err e) a b R
says_stop fed (stop.No why) a b P S R open_yet f p s = (moves_halt a b open_yet p.0, (λ total k. f total why (p.1 total k) s), (λ total k. tries_if fed (certificate_state_in total a) (certificate_state_in total b) (p.2 total k)))
says_stop fed stop.OutOfMemory a b P S R open_yet f p s = (moves_halt a b open_yet p.0, (λ total k. tries_if fed (certificate_state_in total a) (certificate_state_in total b) (p.2 total k)))
says_stop fed e a b P S R open_yet f p s = absurd s

-- WHAT A CHECKER IS FED

-- the step that was read last is accepted
pub feeds_on : (a b : Stream) (next : Kernel) (P Q : CertificateState → CertificateState → Type 0) → FeedsStep (Ok tt) b.checker b.step next → LooksAtMost b.checker b.step next
    → ((total : List ℕ) → P (certificate_state_in total a) (certificate_state_in total b) → Q (certificate_state_in total a) (certificate_state_in total (record b { checker = next })))
    → CallSucceeds false a b P → CallSucceeds true a (record b { checker = next }) Q
feeds_on a b next P Q fed looks f p =
    (p.0, (λ total k. f total (p.1 total k)), (λ total k. walks_fed (certificate_state_in total a) (certificate_state_in total b) (certificate_state_in total (record b { checker = next })) refl fed looks (p.2 total k)))

-- the step that was read last is not accepted
pub feeds_stop : {C : Type 0} (e : Stop) (a b : Stream) (next : Kernel) (P : CertificateState → CertificateState → Type 0) (R : CertificateState → CertificateState → Result C Why → Type 0) → (AtEnd a.source → ⊥) → FeedsStep (Err e) b.checker b.step next → LooksAtMost b.checker b.step next
    → ((total : List ℕ) (why : Why) → P (certificate_state_in total a) (certificate_state_in total b) → ((steps : List Step) → HasAcceptedSteps b.checker steps → Accepts (ready_after steps) b.step → ⊥) → R (certificate_state_in total a) (certificate_state_in total (record b { checker = next })) (Err why))
    → CallSucceeds false a b P → CertificateCall {A = C} (Err e) a (record b { checker = next }) R
feeds_stop (stop.No why) a b next P R open_yet fed looks f p =
    (moves_halt a b open_yet p.0, (λ total k. f total why (p.1 total k) fed), (λ total k. tries_fed (certificate_state_in total a) (certificate_state_in total b) (certificate_state_in total (record b { checker = next })) looks (p.2 total k)))
feeds_stop stop.OutOfMemory a b next P R open_yet fed looks f p = (moves_halt a b open_yet p.0, (λ total k. tries_fed (certificate_state_in total a) (certificate_state_in total b) (certificate_state_in total (record b { checker = next })) looks (p.2 total k)))
feeds_stop stop.CounterEnd a b next P R open_yet fed looks f p = (
  moves_halt a b open_yet p.0,
  (λ total k. runs_fed (certificate_state_in total a) (certificate_state_in total b) (certificate_state_in total (record b { checker = next })) next fed (p.2 total k)),
  (λ total k. tries_fed (certificate_state_in total a) (certificate_state_in total b) (certificate_state_in total (record b { checker = next })) looks (p.2 total k)),
)
feeds_stop e a b next P R open_yet fed looks f p = absurd fed

-- a pending unit conflict is settled
pub settles_on : (fed : Bool) (a b : Stream) (next : Kernel) (P Q : CertificateState → CertificateState → Type 0) → SettlesConflict (Ok tt) b.checker next
    → ((total : List ℕ) → P (certificate_state_in total a) (certificate_state_in total b) → Q (certificate_state_in total a) (certificate_state_in total (record b { checker = next })))
    → CallSucceeds fed a b P → CallSucceeds fed a (record b { checker = next }) Q
settles_on fed a b next P Q settled f p =
    (p.0, (λ total k. f total (p.1 total k)), (λ total k. walks_settled fed (certificate_state_in total a) (certificate_state_in total b) (certificate_state_in total (record b { checker = next })) refl refl settled (p.2 total k)))

-- a pending unit conflict is not settled
pub settles_stop : {C : Type 0} (e : Stop) (fed : Bool) (a b : Stream) (next : Kernel) (P : CertificateState → CertificateState → Type 0) (R : CertificateState → CertificateState → Result C Why → Type 0) → (AtEnd a.source → ⊥) → SettlesConflict (Err e) b.checker next
    → ((total : List ℕ) (why : Why) → P (certificate_state_in total a) (certificate_state_in total b) → ((steps : List Step) → HasAcceptedSteps b.checker steps → ⊥) → R (certificate_state_in total a) (certificate_state_in total (record b { checker = next })) (Err why))
    → CallSucceeds fed a b P → CertificateCall {A = C} (Err e) a (record b { checker = next }) R
settles_stop (stop.No why) fed a b next P R open_yet settled f p = (
  moves_halt a b open_yet p.0,
  (λ total k. f total why (p.1 total k) settled),
  (λ total k earlier t. never_settled fed (certificate_state_in total a) (certificate_state_in total b) (StepsAccountForLooks earlier (rest_in total a.source) (kernel_looks a.checker) (kernel_looks next)) earlier settled (p.2 total k) t),
)
settles_stop stop.OutOfMemory fed a b next P R open_yet settled f p = (
  moves_halt a b open_yet p.0,
  (λ total k. tries_kept fed (certificate_state_in total a) (certificate_state_in total b) (certificate_state_in total (record b { checker = next })) settled (p.2 total k)),
)
settles_stop stop.CounterEnd fed a b next P R open_yet settled f p = (
  moves_halt a b open_yet p.0,
  (λ total k. runs_spent fed (certificate_state_in total a) (certificate_state_in total b) (certificate_state_in total (record b { checker = next })) settled (p.2 total k)),
  (λ total k. tries_spent fed (certificate_state_in total a) (certificate_state_in total b) (certificate_state_in total (record b { checker = next })) settled (p.2 total k)),
)
settles_stop e fed a b next P R open_yet settled f p = absurd settled

-- THE NEXT STEP

-- a reader of steps that has not failed does not report an earlier failure
pub answered : (r : Result Step StepError) (s t : Source) → is_repeat_result r ≡ false → AnswersUnlessFailed r s t → AnswersStepRead r s t
answered (Err errors.HasFailed) s t e h = absurd (let k : true ≡ false = e in cc)
answered x s t e h = h

pub step_came : (step : Step) (a b : Stream) → b.step ≡ step → b.checker ≡ a.checker → AnswersStepRead (Ok step) a.source b.source → CallSucceeds false a b (λ u v. ReadsStep (certificate_place u) (certificate_place v))
step_came step a b e c h =
    let spelt : SpellsStep b.step h.0 = subst (λ (z : Step). SpellsStep z h.0) (sym e) h.2 in (
      (h.0, h.1),
      (λ total k. record { text = h.0; spelt = spelt; front = taken_front 0 a.source b.source h.0 total h.1 k }),
      (λ total k. walks_read (certificate_state_in total a) (certificate_state_in total b) h.0 spelt (taken_front 0 a.source b.source h.0 total h.1 k) c),
    )

-- reading a step of at least one byte leaves fewer bytes to read
less_left : (m a b ls lt lx lf : ℕ) → lf + 4096 * a ≤ 4096 * b → ls + lf ≡ lx + lt → 0 < lx → b ≤ m → 4096 * (m - b) + lt < 4096 * (m - a) + ls
less_left m a b ls lt lx lf h e k n = omega arith

flowed : (ws fs xs vs : List ℕ) → ws ++ fs ≡ xs ++ vs → length ws + length fs ≡ length xs + length vs
flowed ws fs xs vs e = sym (length-append ws fs) ∙ ap length e ∙ length-append xs vs

-- fewer bytes can be read after some were consumed
pub passes_fewer : (s t : Source) (text : List ℕ) → t.reads ≤ max_reads → ConsumesBytes s t text → 0 < length text → most_bytes_left t < most_bytes_left s
passes_fewer s t text k p some = less_left max_reads s.reads t.reads (length s.waiting) (length t.waiting) (length text) (length p.fresh) p.room (flowed s.waiting p.fresh text t.waiting p.flows) some k

none_waits : (known : Option (List ℕ)) (ws : List ℕ) → ws ≡ [] → IsAtEnd (prepend_known ws known) → IsAtEnd known
none_waits None ws e h = tt
none_waits (Some xs) ws e h = sym (ap (λ (z : List ℕ). z ++ xs) e) ∙ h

pub all_over : (s : Source) → IsFullyConsumed s → IsAtEnd s.reader.to_come
all_over s t = none_waits s.reader.to_come s.waiting t.waiting t.over

-- no step was read
pub none_came : {A : Type 0} (e : StepError) (a b : Stream) (P : CertificateState → CertificateState → Result A Why → Type 0) → (AtEnd a.source → ⊥) → b.checker ≡ a.checker → AnswersStepRead (Err e) a.source b.source
    → ((total : List ℕ) (why : Why) → BeginsNoStep (rest_in total a.source) → P (certificate_state_in total a) (certificate_state_in total b) (Err why)) → CertificateCall {A = A} (Err (stop_for_step e)) a b P
none_came errors.Ends a b P o c h f = ((([], h.0), λ _. all_over b.source h.1), (λ total k. f total CertificateEnds (no_step_over a.source b.source total h k)), (λ total k. tries_none (certificate_state_in total a) (certificate_state_in total b) c))
none_came errors.Cut a b P o c h f =
    (((h.0 ∷ h.1, h.2.0), λ _. all_over b.source h.2.1), (λ total k. f total CertificateEnds (no_step_cut a.source b.source (h.0 ∷ h.1) total h.2 h.3 k)), (λ total k. tries_none (certificate_state_in total a) (certificate_state_in total b) c))
none_came errors.BadByte a b P o c h f =
    (moves_halt a b o (h.0 ++ h.1 ∷ [], h.2), (λ total k. f total StepRefused (no_step_at_byte a.source b.source h.0 h.1 total h.2 h.3 h.4 k)), (λ total k. tries_none (certificate_state_in total a) (certificate_state_in total b) c))
none_came errors.Read a b P o c h f = ((h.0, h.1), (λ total k. tries_none (certificate_state_in total a) (certificate_state_in total b) c))
none_came errors.OutOfMemory a b P o c h f = (moves_halt a b o (h.0 ∷ h.1, h.2.0), (λ total k. tries_none (certificate_state_in total a) (certificate_state_in total b) c))
none_came errors.HasFailed a b P o c h f = absurd h

-- WHAT THE READER GAVE

known_front : (a b : Option (List ℕ)) (ws text fresh : List ℕ) → fresh ≡ text ++ ws → Consumes (prepend_known [] a) (prepend_known ws b) text → Consumes a b fresh
known_front None b ws text fresh e h = tt
known_front (Some x) None ws text fresh e h = absurd h
known_front (Some x) (Some y) ws text fresh e h = h ∙ sym (append_assoc text ws y) ∙ ap (λ (z : List ℕ). z ++ y) (sym e)

few_of : (rc tc tr : ℕ) (rg tg fresh : List ℕ) → tc + 0 ≡ rc + tr → tr ≤ 0 + length fresh + 1 → tg ≡ rg ++ fresh → tc + length rg ≤ rc + length tg + 1
few_of rc tc tr rg tg fresh e k g = let l : length tg ≡ length rg + length fresh = ap length g ∙ length-append rg fresh in omega arith

read_some : (rc tc tr : ℕ) → tc + 0 ≡ rc + tr → rc < tc → 0 < tr
read_some rc tc tr e h = omega arith

called_some : (rc tc tr : ℕ) → tc + 0 ≡ rc + tr → 0 < tr → rc < tc
called_some rc tc tr e h = omega arith

-- what holds whatever bytes could follow holds of what the reader gave
pub gave_enough : (r : Reader) (t : Source) (text : List ℕ) (P : List ℕ → Type 0) → ConsumesWithReads 1 (new_source r) t text → (AtEnd t → IsAtEnd t.reader.to_come)
    → ((total : List ℕ) → CanBeTotal t total → P (rest_in total (new_source r))) → GaveEnough r t.reader P
gave_enough r t text P p over f = record {
  text = p.fresh;
  front = record { gave = p.gave; known_bytes = known_front r.to_come t.reader.to_come t.waiting text p.fresh p.flows p.bytes; loans = p.loans };
  over = λ called e. over (read_some r.calls t.reader.calls t.reads p.calls called, e);
  few = few_of r.calls t.reader.calls t.reads r.given t.reader.given p.fresh p.calls p.few p.gave;
  holds = λ rest k.
      let whole : t.reader.given ++ rest ≡ r.given ++ (p.fresh ++ rest) = ap (λ (z : List ℕ). z ++ rest) p.gave ∙ append_assoc r.given p.fresh rest in
      subst P (rest_is (new_source r) (t.reader.given ++ rest) (p.fresh ++ rest) whole)
      (f (t.reader.given ++ rest) (record { later = rest; whole = refl; none = λ h. k (called_some r.calls t.reader.calls t.reads p.calls h.0) h.1 }));
}

-- at most 2^48 reads give at most 2^60 bytes
few_read : (lf tr : ℕ) → lf + 4096 * 0 ≤ 4096 * tr → tr ≤ max_reads → lf ≤ most_bytes
few_read lf tr h k = omega arith

-- not more bytes are given than the largest number of reads can
pub few_given : (n : ℕ) (r : Reader) (t : Source) (text : List ℕ) → ConsumesWithReads n (new_source r) t text → t.reads ≤ max_reads → length (rest_in t.reader.given (new_source r)) ≤ most_bytes
few_given n r t text p k = subst (λ bytes. length bytes ≤ most_bytes) (sym (rest_is (new_source r) t.reader.given p.fresh p.gave)) (few_read (length p.fresh) t.reads p.room k)

read_out : (rc tc tr m : ℕ) → tc + 0 ≡ rc + tr → m ≤ tr → tr ≤ m → tc ≡ rc + m
read_out rc tc tr m e h k = omega arith

pub read_fails : (r : Reader) (t : Source) (text : List ℕ) → t.reads ≤ max_reads → ConsumesAndFails (new_source r) t text → ReadFails r t.reader
read_fails r t text b p = (
  elim p.cause [ inl h ↦ inl (h.0, h.1) | inr h ↦ inr (h.0, read_out r.calls t.reader.calls t.reads max_reads p.calls h.1 b) ],
  few_of r.calls t.reader.calls t.reads r.given t.reader.given p.fresh p.calls p.few p.gave,
)

-- what holds whatever bytes could follow holds for the prefix that the reader gave
pub passed_front : (n : ℕ) (r : Reader) (t : Source) (text : List ℕ) (P : List ℕ → Type 0) → ConsumesWithReads n (new_source r) t text → ((total : List ℕ) → CanBeTotal t total → P (rest_in total (new_source r))) → GavePrefixOf r t.reader P
passed_front n r t text P p f = record {
  text = p.fresh;
  front = record { gave = p.gave; known_bytes = known_front r.to_come t.reader.to_come t.waiting text p.fresh p.flows p.bytes; loans = p.loans };
  holds = λ rest k.
      let whole : t.reader.given ++ rest ≡ r.given ++ (p.fresh ++ rest) = ap (λ (z : List ℕ). z ++ rest) p.gave ∙ append_assoc r.given p.fresh rest in
      subst P (rest_is (new_source r) (t.reader.given ++ rest) (p.fresh ++ rest) whole)
      (f (t.reader.given ++ rest) (record { later = rest; whole = refl; none = λ h. k (called_some r.calls t.reader.calls t.reads p.calls h.0) h.1 }));
}

-- what holds whatever follows a failed read holds of a prefix
pub faulted_front : (r : Reader) (t : Source) (text : List ℕ) (P : List ℕ → Type 0) → ConsumesAndFails (new_source r) t text → ((total : List ℕ) → CanBeTotal t total → P (rest_in total (new_source r))) → GavePrefixOf r t.reader P
faulted_front r t text P p f = record {
  text = p.fresh;
  front = record { gave = p.gave; known_bytes = known_front r.to_come t.reader.to_come t.waiting text p.fresh (p.flows ∙ sym (append-nil text) ∙ ap (λ (z : List ℕ). text ++ z) (sym p.none)) p.bytes; loans = p.loans };
  holds = λ rest k.
      let whole : t.reader.given ++ rest ≡ r.given ++ (p.fresh ++ rest) = ap (λ (z : List ℕ). z ++ rest) p.gave ∙ append_assoc r.given p.fresh rest in
      subst P (rest_is (new_source r) (t.reader.given ++ rest) (p.fresh ++ rest) whole)
      (f (t.reader.given ++ rest) (record { later = rest; whole = refl; none = λ h. k (called_some r.calls t.reader.calls t.reads p.calls h.0) h.1 }));
}

-- the looks of the steps that were read, whatever bytes could follow
pub took_looks : (n : ℕ) (r : Reader) (t : Source) (text : List ℕ) (to : ℕ) → ConsumesWithReads n (new_source r) t text → ((total : List ℕ) → CanBeTotal t total → StepsAccountForLooks [] (rest_in total (new_source r)) 0 to) → LooksAreBounded r t.reader 0 to
took_looks n r t text to p f = takes_looks r t.reader p.fresh 0 to
    (record { gave = p.gave; known_bytes = known_front r.to_come t.reader.to_come t.waiting text p.fresh p.flows p.bytes; loans = p.loans }) (omega arith)
    (λ rest k.
    let whole : t.reader.given ++ rest ≡ r.given ++ (p.fresh ++ rest) = ap (λ (z : List ℕ). z ++ rest) p.gave ∙ append_assoc r.given p.fresh rest in
    subst (λ bytes. StepsAccountForLooks [] bytes 0 to) (rest_is (new_source r) (t.reader.given ++ rest) (p.fresh ++ rest) whole)
    (f (t.reader.given ++ rest) (record { later = rest; whole = refl; none = λ h. k (called_some r.calls t.reader.calls t.reads p.calls h.0) h.1 })))

-- the looks of the steps that were read before a read failed, whatever bytes could follow
pub took_faulted : (r : Reader) (t : Source) (text : List ℕ) (to : ℕ) → ConsumesAndFails (new_source r) t text → ((total : List ℕ) → CanBeTotal t total → StepsAccountForLooks [] (rest_in total (new_source r)) 0 to) → LooksAreBounded r t.reader 0 to
took_faulted r t text to p f = takes_looks r t.reader p.fresh 0 to
    (record { gave = p.gave; known_bytes = known_front r.to_come t.reader.to_come t.waiting text p.fresh (p.flows ∙ sym (append-nil text) ∙ ap (λ (z : List ℕ). text ++ z) (sym p.none)) p.bytes; loans = p.loans }) (omega arith)
    (λ rest k.
    let whole : t.reader.given ++ rest ≡ r.given ++ (p.fresh ++ rest) = ap (λ (z : List ℕ). z ++ rest) p.gave ∙ append_assoc r.given p.fresh rest in
    subst (λ bytes. StepsAccountForLooks [] bytes 0 to) (rest_is (new_source r) (t.reader.given ++ rest) (p.fresh ++ rest) whole)
    (f (t.reader.given ++ rest) (record { later = rest; whole = refl; none = λ h. k (called_some r.calls t.reader.calls t.reads p.calls h.0) h.1 })))
