-- What listeners have received, call by call.
use Rattle.std.proofs.Common.{ℕ, append_assoc, ◌≡◌, ◌⊎◌, List, [], ◌∷◌, ◌++◌, ◌+◌, ◌<◌, ◌≤◌, length, arith, drop, slice_index_or, Option, None, Some, Result, Ok, Err, inl, inr, refl, sym, ap, subst, ◌∙◌}
use Rattle.std.proofs.lemmas.Bool.{true≢false}
use Rattle.std.proofs.lemmas.List.{drop_more, drop_all}
use Rattle.std.specs.List.{AllZip}
use Rattle.anyhow.specs.declared.error.Error.{Error}
use Rattle.sat_base.specs.steps.Steps.{Step}
use Rattle.sat_checker.specs.Accepts.{ready_after}
use Rattle.sat_checker.specs.KernelView as kernels
use Rattle.sat_checker.specs.CheckerView.{CheckerView, HasFailedAfter}
use Rattle.sat_checker.specs.Stored.{Variable}
use Rattle.sat_checker.specs.inner.NotifyingSteps.{notices_with}
use Rattle.sat_checker.specs.announcements.Announcements.{Announcement, Notice, announced, notices_of, notices_after, all_notices_after}
use Rattle.sat_checker.specs.listeners.Receiving.{SameNotice, ReceivesAll, ReceivesUpToFault, ReceivesSince, ReceivesSinceUpToFault, notices_made}
use Rattle.sat_checker.specs.announcements.Transcripts.{Transcribed, transcript}
use Rattle.sat_checker.specs.listeners.ProcessingView.{listeners_of, EachListenerReceives, NoListenerNoFault}
use Rattle.sat_checker.specs.listeners.Notifying.{AllNotified, NotifiedUpToFault, AllTranscribed, Transcribes, all_processors, some_processors}
use Rattle.sat_checker.specs.declared.processing.Processing.{Processing}
use Rattle.sat_checker.specs.declared.processing.ProcessingError.{ProcessingError}
use Rattle.sat_checker.specs.declared.processing.ProcessingError.TheVariants as faults

pub same_itself : (t : Notice) → SameNotice t t
same_itself t = record { announcement = refl; names = λ v. refl; modes = λ v. refl }

-- ANNOUNCEMENTS

pub reported_step : (step : Step) (steps : List Step) → all_notices_after steps ++ notices_of (ready_after steps) (announced (ready_after steps) step) ≡ notices_after (step ∷ steps)
reported_step step steps = refl

module _ {L : Type 0} (Receives : L → Notice → Result Unit ProcessingError → L → Type 0) where
  pub all_more : (ts us : List Notice) (a b c : L) → ReceivesAll Receives ts a b → ReceivesAll Receives us b c → ReceivesAll Receives (ts ++ us) a c
  all_more [] us a b c h k = subst (λ x. ReceivesAll Receives us x c) h k
  all_more (t ∷ ts) us a b c h k = (h.0, h.1, all_more ts us h.0 b c h.2 k)

  pub up_to_more : (e : ProcessingError) (ts us : List Notice) (a b c : L) → ReceivesAll Receives ts a b → ReceivesUpToFault Receives e us b c → ReceivesUpToFault Receives e (ts ++ us) a c
  up_to_more e [] us a b c h k = subst (λ x. ReceivesUpToFault Receives e us x c) h k
  up_to_more e (t ∷ ts) us a b c h k = inr (h.0, h.1, up_to_more e ts us h.0 b c h.2 k)

  -- announcements that are received after the earlier ones
  pub since_more : (before ts us : List Notice) (a b c : L) → ReceivesSince Receives before ts a b → ReceivesAll Receives us b c → ReceivesSince Receives before (ts ++ us) a c
  since_more before ts us a b c h k = (h.0 ++ us, ap (λ z. z ++ us) h.1 ∙ append_assoc before h.0 us, all_more h.0 us a b c h.2 k)

  pub since_up_to_more : (e : ProcessingError) (before ts us : List Notice) (a b c : L) → ReceivesSince Receives before ts a b → ReceivesUpToFault Receives e us b c → ReceivesSinceUpToFault Receives e before (ts ++ us) a c
  since_up_to_more e before ts us a b c h k = (h.0 ++ us, ap (λ z. z ++ us) h.1 ∙ append_assoc before h.0 us, up_to_more e h.0 us a b c h.2 k)

  -- no announcement remains
  pub news_none : (variables : ℕ → Variable) (xs : List Announcement) (i : ℕ) → length xs ≤ i → (l : L) → ReceivesAll Receives (notices_with variables (drop i xs)) l l
  news_none variables xs i h l = subst (λ bs. ReceivesAll Receives (notices_with variables bs) l l) (sym (drop_all i xs h)) refl

  -- the next announcement of a list
  module _ (variables : ℕ → Variable) (xs : List Announcement) (i : ℕ) (d a : Announcement) (inside : i < length xs) (is : a ≡ slice_index_or xs i d) (l : L) where
    here : drop i xs ≡ a ∷ drop (i + 1) xs
    here = drop_more xs i d inside ∙ ap (λ (x : Announcement). x ∷ drop (i + 1) xs) (sym is)

    pub news_more : (k m : L) → Receives l (record { announcement = a; variables = variables }) (Ok tt) k → ReceivesAll Receives (notices_with variables (drop (i + 1) xs)) k m → ReceivesAll Receives (notices_with variables (drop i xs)) l m
    news_more k m h r = subst (λ bs. ReceivesAll Receives (notices_with variables bs) l m) (sym here) (k, (record { announcement = a; variables = variables }, same_itself _, h), r)

    pub news_broken : (e : ProcessingError) (k m : L) → Receives l (record { announcement = a; variables = variables }) (Ok tt) k → ReceivesUpToFault Receives e (notices_with variables (drop (i + 1) xs)) k m → ReceivesUpToFault Receives e (notices_with variables (drop i xs)) l m
    news_broken e k m h r = subst (λ bs. ReceivesUpToFault Receives e (notices_with variables bs) l m) (sym here) (inr (k, (record { announcement = a; variables = variables }, same_itself _, h), r))

    pub news_fault : (e : ProcessingError) (m : L) → Receives l (record { announcement = a; variables = variables }) (Err e) m → ReceivesUpToFault Receives e (notices_with variables (drop i xs)) l m
    news_fault e m h = subst (λ bs. ReceivesUpToFault Receives e (notices_with variables bs) l m) (sym here) (inl (record { announcement = a; variables = variables }, same_itself _, h))

  -- the listeners have received the announcements, with or without the delayed one
  pub heard_some : (c : Option (ℕ × ℕ)) (steps : List Step) (before : List Notice) (a b : L) → ReceivesSince Receives before (notices_made c steps) a b → ReceivesSince Receives before (notices_after steps) a b ⊎ ReceivesSince Receives before (all_notices_after steps) a b
  heard_some (Some conflict) steps before a b h = inl h
  heard_some None steps before a b h = inr h

  module _ (before : List Notice) (begun : L) where
    pub failing : (new : CheckerView L) (steps : List Step) → kernels.KernelHasFailedAfter new.kernel steps → HasFailedAfter Receives before begun new steps
    failing new steps f = record { valid = record { kernel = f.valid; heard = λ e. absurd (true≢false (sym f.failed ∙ e)) }; failed = f.failed }

  -- A LISTENER THAT ACCEPTS EVERYTHING

  module _ (l : L) (quiet : (t : Notice) → Receives l t (Ok tt) l) where
    pub all_quiet : (ts : List Notice) → ReceivesAll Receives ts l l
    all_quiet [] = refl
    all_quiet (t ∷ ts) = (l, (t, same_itself t, quiet t), all_quiet ts)

-- NO LISTENERS

module _ {P T : Type 0} (Takes : P → Notice → Result Unit Error → P → Type 0) (Reads : T → Transcribed → Result Unit Error → T → Type 0) where
  all_none : {B : Type 0} (Called : Result Unit Error → B → B → Type 0) (xs : List B) → xs ≡ [] → AllNotified Called xs xs
  all_none Called xs e = subst (λ ys. AllNotified Called ys ys) (sym e) (record { each = tt })

  none_read : {C : Type 0} (Called : Transcribed → Result Unit Error → C → C → Type 0) (said : Option Transcribed) (xs : List C) → xs ≡ [] → AllTranscribed Called said xs xs
  none_read Called None xs e = refl
  none_read Called (Some t) xs e = all_none (Called t) xs e

  pub none_there : (p : Processing P T) → listeners_of p ≡ record { processors = []; transcripts = [] } → (t : Notice) → EachListenerReceives Takes Reads p t (Ok tt) p
  none_there p e t = all_processors (all_none _ p.processors.items (ap (λ l. l.processors) e)) (none_read _ (transcript t.variables t.announcement) p.transcripts.items (ap (λ l. l.transcripts) e))

  -- without listeners there is no fault
  no_front : {B : Type 0} (front : List B) (x : B) (rest : List B) → [] ≡ front ++ x ∷ rest → ⊥
  no_front {B} [] x rest e = absurd (let d : ◌≡◌ {A = List B} [] (x ∷ rest) = e in cc)
  no_front {B} (y ∷ ys) x rest e = absurd (let d : ◌≡◌ {A = List B} [] (y ∷ (ys ++ x ∷ rest)) = e in cc)

  none_among : {B : Type 0} (Called : Result Unit Error → B → B → Type 0) (cause : Error) (xs ys : List B) → xs ≡ [] → NotifiedUpToFault Called cause xs ys → ⊥
  none_among Called cause xs ys e s = no_front s.notified_before s.failed_before s.rest (sym e ∙ s.were)

  none_zipped : {B : Type 0} (R : B → B → Type 0) (ys : List B) → AllZip R [] ys → ys ≡ []
  none_zipped R [] h = refl
  none_zipped R (y ∷ ys) h = absurd h

  none_after : {B : Type 0} (Called : Result Unit Error → B → B → Type 0) (xs ys : List B) → xs ≡ [] → AllNotified Called xs ys → ys ≡ []
  none_after Called xs ys e a = none_zipped (Called (Ok tt)) ys (subst (λ zs. AllZip (Called (Ok tt)) zs ys) e a.each)

  none_fail : {C : Type 0} (Called : Transcribed → Result Unit Error → C → C → Type 0) (said : Option Transcribed) (f : ProcessingError) (xs ys : List C) → xs ≡ [] → Transcribes Called said (Err f) xs ys → ⊥
  none_fail Called said faults.OutOfMemory xs ys e h = absurd (let n : length xs ≡ 0 = ap length e in let m : 0 < length xs = h.0 in omega arith)
  none_fail Called None (faults.ProofProcessorError cause) xs ys e h = h
  none_fail Called (Some t) (faults.ProofProcessorError cause) xs ys e h = none_among (Called t) cause xs ys e h

  none_read_after : {C : Type 0} (Called : Transcribed → Result Unit Error → C → C → Type 0) (said : Option Transcribed) (xs ys : List C) → xs ≡ [] → AllTranscribed Called said xs ys → ys ≡ []
  none_read_after Called None xs ys e h = h ∙ e
  none_read_after Called (Some t) xs ys e h = none_after (Called t) xs ys e h

  none_answers : (f : ProcessingError) (t : Notice) (p q : Processing P T) → listeners_of p ≡ record { processors = []; transcripts = [] } → EachListenerReceives Takes Reads p t (Err f) q → ⊥
  none_answers f t p q e (all_processors a r) = none_fail _ (transcript t.variables t.announcement) f p.transcripts.items q.transcripts.items (ap (λ l. l.transcripts) e) r
  none_answers f t p q e (some_processors cause is s same) = none_among _ cause p.processors.items q.processors.items (ap (λ l. l.processors) e) s

  none_stays : (t : Notice) (p q : Processing P T) → listeners_of p ≡ record { processors = []; transcripts = [] } → EachListenerReceives Takes Reads p t (Ok tt) q → listeners_of q ≡ record { processors = []; transcripts = [] }
  none_stays t p q e (all_processors a r) =
      let x = none_after _ p.processors.items q.processors.items (ap (λ l. l.processors) e) a in
      let y = none_read_after _ (transcript t.variables t.announcement) p.transcripts.items q.transcripts.items (ap (λ l. l.transcripts) e) r in
      ap (λ xs. record { processors = xs; transcripts = q.transcripts.items }) x ∙ ap (λ ys. record { processors = []; transcripts = ys }) y
  none_stays t p q e (some_processors cause is s same) = absurd (let d : ◌≡◌ {A = Result Unit ProcessingError} (Ok tt) (Err (faults.ProofProcessorError cause)) = is in cc)

  pub nobody_fails : NoListenerNoFault Takes Reads
  nobody_fails f [] p q e h = h
  nobody_fails f (t ∷ ts) p q e h = elim h [
    | inl x ↦ none_answers f x.0 p q e x.2
    | inr x ↦ nobody_fails f ts x.0 q (none_stays x.1.0 p x.0 e x.1.2) x.2
  ]
