-- How calls that read answers and a certificate follow one another.
use Rattle.std.proofs.Common.{ℕ, Bool, true, false, List, [], ◌++◌, Result, Ok, Err, refl, sym, ◌∙◌, arith}
use Rattle.std.proofs.lemmas.List.{append-nil}
use Rattle.sat_base.specs.device.Reading.{Source, AtEnd, ConsumesWithReads, ConsumesBytes}
use Rattle.sat_base.proofs.lemmas.device.ReadLemmas.{passes_none, passes_more, faults_later}
use Rattle.certify.specs.confirm.Streams.{Stream, CertificateCall, CanBeTotal, rest_in, certificate_state_in}
use Rattle.certify.specs.confirm.CertificateStates.{CertificateState}
use Rattle.certify.specs.declared.confirm.stop.Stop.{Stop}
use Rattle.certify.specs.declared.confirm.stop.Stop.TheVariants as stop
use Rattle.certify.specs.declared.verdict.Why.{Why}
use Rattle.certify.specs.confirm.CallResults.{Unconstrained, AnswersAndCertificateCall, AnswersCall}
use Rattle.certify.specs.script.LastPiece.{ReadFailsAhead, NoReadFailedAhead, ConsumesSomeOrEnds, ConsumesSome}
use Rattle.certify.proofs.lemmas.confirm.Streams.{confirms_none, confirms_so, confirms_stop, confirms_then, covers_back, moves_halt, stays_open, then_stop}
use Rattle.certify.proofs.lemmas.confirm.Walks.{tries_none}

-- ONE READER

weaker : (s t : Source) (text : List ℕ) → ConsumesBytes s t text → ConsumesWithReads 1 s t text
weaker s t text p = record {
  fresh = p.fresh;
  gave = p.gave;
  flows = p.flows;
  bytes = p.bytes;
  failures = p.failures;
  calls = p.calls;
  room = p.room;
  few = omega (arith, p.few);
  loans = p.loans;
  names = p.names;
  going = λ e. absurd (omega (arith, e));
}

pub took_none : (s : Source) → ConsumesSome true s s
took_none s = ([], passes_none s)

-- a reader that can be read further is not at its end
pub took_open : (s t : Source) → (AtEnd s → ⊥) → ConsumesSome true s t → AtEnd t → ⊥
took_open s t open_yet p = stays_open s t p.0 open_yet p.1

pub took_halted : (s t : Source) → (AtEnd s → ⊥) → ConsumesSome true s t → ConsumesSome false s t
took_halted s t open_yet p = ((p.0, weaker s t p.0 p.1), λ h. absurd (took_open s t open_yet p h))

pub took_then : (goes : Bool) (s t u : Source) → ConsumesSome true s t → ConsumesSome goes t u → ConsumesSome goes s u
took_then true s t u p q = (p.0 ++ q.0, passes_more s t u p.0 q.0 p.1 q.1)
took_then false s t u p q = ((p.0 ++ q.0.0, passes_more s t u p.0 q.0.0 p.1 q.0.1), q.1)

pub took_kept : (goes : Bool) (s t : Source) → ConsumesSome goes s t → NoReadFailedAhead s t
took_kept true s t p = (p.1.failures, p.1.calls)
took_kept false s t p = (p.0.1.failures, p.0.1.calls)

-- bytes were consumed, whether or not the end was found
pub took_passed : (goes : Bool) (s t : Source) → ConsumesSome goes s t → ConsumesSomeOrEnds s t
took_passed true s t p = (p.0, weaker s t p.0 p.1)
took_passed false s t p = p.0

-- what is possible after a call was possible before it
pub covers_took : (goes : Bool) (s t : Source) (total : List ℕ) → (AtEnd s → ⊥) → ConsumesSome goes s t → CanBeTotal t total → CanBeTotal s total
covers_took true s t total open_yet p c = covers_back 0 s t p.0 total open_yet p.1 c
covers_took false s t total open_yet p c = covers_back 1 s t p.0.0 total open_yet p.0.1 c

pub kept_then : (s t u : Source) → NoReadFailedAhead s t → NoReadFailedAhead t u → NoReadFailedAhead s u
kept_then s t u p q = (q.0 ∙ p.0, omega (arith, p.1, q.1))

pub failed_then : (s t u : Source) → ConsumesSome true s t → ReadFailsAhead t u → ReadFailsAhead s u
failed_then s t u p q = (p.0 ++ q.0, faults_later s t u p.0 q.0 p.1 q.1)

-- the bytes given so far may be all
pub covers_given : (s : Source) → CanBeTotal s s.reader.given
covers_given s = record { later = []; whole = sym (append-nil s.reader.given); none = λ h. refl }

-- ANSWERS ONLY

-- an error that is passed on
pub replies_stop : {A B : Type 0} (goes : Bool) (e : Stop) (a b : Source) (P : List ℕ → List ℕ → Result A Why → Type 0) (Q : List ℕ → List ℕ → Result B Why → Type 0) → ((p q : List ℕ) (why : Why) → P p q (Err why) → Q p q (Err why))
    → AnswersCall {A = A} goes (Err e) a b P → AnswersCall {A = B} goes (Err e) a b Q
replies_stop goes (stop.No why) a b P Q f h = (h.0, λ total k. f (rest_in total a) (rest_in total b) why (h.1 total k))
replies_stop goes stop.OutOfMemory a b P Q f h = h
replies_stop goes stop.AnswersRead a b P Q f h = h
replies_stop goes e a b P Q f h = absurd h

-- a call after a successful call
pub replies_then : {A B : Type 0} (goes : Bool) (x : A) (r : Result B Stop) (a b c : Source) (P : List ℕ → List ℕ → Result A Why → Type 0) (Q R : List ℕ → List ℕ → Result B Why → Type 0) → (AtEnd a → ⊥)
    → ((p q s : List ℕ) (y : Result B Why) → P p q (Ok x) → Q q s y → R p s y) → AnswersCall true (Ok x) a b P → AnswersCall goes r b c Q → AnswersCall goes r a c R
replies_then goes x (Ok y) a b c P Q R open_yet f h k =
    (took_then goes a b c h.0 k.0, λ total v. f (rest_in total a) (rest_in total b) (rest_in total c) (Ok y) (h.1 total (covers_took goes b c total (took_open a b open_yet h.0) k.0 v)) (k.1 total v))
replies_then goes x (Err (stop.No why)) a b c P Q R open_yet f h k =
    (took_then false a b c h.0 k.0, λ total v. f (rest_in total a) (rest_in total b) (rest_in total c) (Err why) (h.1 total (covers_took false b c total (took_open a b open_yet h.0) k.0 v)) (k.1 total v))
replies_then goes x (Err stop.OutOfMemory) a b c P Q R open_yet f h k = kept_then a b c (took_kept true a b h.0) k
replies_then goes x (Err stop.AnswersRead) a b c P Q R open_yet f h k = failed_then a b c h.0 k
replies_then goes x (Err e) a b c P Q R open_yet f h k = absurd k

-- a `No` without further reading, after a successful call
pub replies_no : {A B : Type 0} (goes : Bool) (x : A) (why : Why) (a b : Source) (P : List ℕ → List ℕ → Result A Why → Type 0) (R : List ℕ → List ℕ → Result B Why → Type 0) → (AtEnd a → ⊥)
    → ((p q : List ℕ) → P p q (Ok x) → R p q (Err why)) → AnswersCall true (Ok x) a b P → AnswersCall {A = B} goes (Err (stop.No why)) a b R
replies_no goes x why a b P R open_yet f h = (took_halted a b open_yet h.0, λ total k. f (rest_in total a) (rest_in total b) (h.1 total k))

-- CALLS THAT LEAVE THE CERTIFICATE AS IT IS

no_stays : {A : Type 0} (s : Stream) (why : Why) (P : CertificateState → CertificateState → Result A Why → Type 0) → (AtEnd s.source → ⊥) → ((total : List ℕ) → P (certificate_state_in total s) (certificate_state_in total s) (Err why)) → CertificateCall {A = A} (Err (stop.No why)) s s P
no_stays s why P open_yet f = (moves_halt s s open_yet ([], passes_none s.source), (λ total k. f total), (λ total k. tries_none (certificate_state_in total s) (certificate_state_in total s) refl))

short_stays : (A : Type 0) (s : Stream) → (AtEnd s.source → ⊥) → CertificateCall {A = A} (Err stop.OutOfMemory) s s Unconstrained
short_stays A s open_yet = (moves_halt s s open_yet ([], passes_none s.source), (λ total k. tries_none (certificate_state_in total s) (certificate_state_in total s) refl))

-- a call that reads only answers is one that reads both
pub replies_join : {A : Type 0} (M : Type 0) (goes : Bool) (r : Result A Stop) (a b : Source) (s : Stream) (P : List ℕ → List ℕ → Result A Why → Type 0) (R : List ℕ → List ℕ → CertificateState → CertificateState → Result A Why → Type 0) → (AtEnd s.source → ⊥)
    → ((p q more : List ℕ) (y : Result A Why) → P p q y → R p q (certificate_state_in more s) (certificate_state_in more s) y) → AnswersCall goes r a b P → AnswersAndCertificateCall M goes r a b s s R
replies_join {A} M goes (Ok x) a b s P R open_yet f h = (h.0, λ total k. confirms_none x s (R (rest_in total a) (rest_in total b)) (λ more. f (rest_in total a) (rest_in total b) more (Ok x) (h.1 total k)))
replies_join {A} M goes (Err (stop.No why)) a b s P R open_yet f h = (h.0, λ total k. no_stays s why (R (rest_in total a) (rest_in total b)) open_yet (λ more. f (rest_in total a) (rest_in total b) more (Err why) (h.1 total k)))
replies_join {A} M goes (Err stop.OutOfMemory) a b s P R open_yet f h = (h, short_stays A s open_yet)
replies_join {A} M goes (Err stop.AnswersRead) a b s P R open_yet f h = (h, short_stays A s open_yet)
replies_join {A} M goes (Err e) a b s P R open_yet f h = absurd h

-- CALLS THAT LEAVE THE ANSWERS AS THEY ARE

-- a successful call
pub certificate_goes : {A : Type 0} (M : Type 0) (x : A) (a : Source) (s t : Stream) (P : CertificateState → CertificateState → Result A Why → Type 0) (R : List ℕ → List ℕ → CertificateState → CertificateState → Result A Why → Type 0)
    → ((p : List ℕ) (u v : CertificateState) → P u v (Ok x) → R p p u v (Ok x)) → CertificateCall (Ok x) s t P → AnswersAndCertificateCall M true (Ok x) a a s t R
certificate_goes M x a s t P R f h = (took_none a, λ total k. confirms_so (Ok x) s t (λ u v (y : Result _ Why). P u v (Ok x)) (λ u v (y : Result _ Why). R (rest_in total a) (rest_in total a) u v (Ok x)) (λ more y. f (rest_in total a) (certificate_state_in more s) (certificate_state_in more t)) h)

any_stop : (A B : Type 0) (e : Stop) (s t : Stream) (P : CertificateState → CertificateState → Result A Why → Type 0) → CertificateCall {A = A} (Err e) s t P → CertificateCall {A = B} (Err e) s t Unconstrained
any_stop A B e s t P h = confirms_stop {A = A} {B = B} e s t P Unconstrained (λ total why k. tt) h

-- a call that stopped
pub certificate_stops : {A B : Type 0} (M : Type 0) (goes : Bool) (e : Stop) (a : Source) (s t : Stream) (P : CertificateState → CertificateState → Result A Why → Type 0) (R : List ℕ → List ℕ → CertificateState → CertificateState → Result B Why → Type 0) → (AtEnd a → ⊥)
    → ((p : List ℕ) (u v : CertificateState) (why : Why) → P u v (Err why) → R p p u v (Err why)) → CertificateCall {A = A} (Err e) s t P → AnswersAndCertificateCall {A = B} M goes (Err e) a a s t R
certificate_stops {A} {B} M goes (stop.No why) a s t P R open_yet f h = (took_halted a a open_yet (took_none a), λ total k. confirms_stop (stop.No why) s t P (R (rest_in total a) (rest_in total a)) (λ more w. f (rest_in total a) (certificate_state_in more s) (certificate_state_in more t) w) h)
certificate_stops {A} {B} M goes stop.CertificateRead a s t P R open_yet f h = ((refl, refl), any_stop A B stop.CertificateRead s t P h)
certificate_stops {A} {B} M goes stop.OutOfMemory a s t P R open_yet f h = ((refl, refl), any_stop A B stop.OutOfMemory s t P h)
certificate_stops {A} {B} M goes stop.CounterEnd a s t P R open_yet f h = ((refl, refl), any_stop A B stop.CounterEnd s t P h)
certificate_stops M goes stop.ScriptRead a s t P R open_yet f h = absurd h
certificate_stops M goes stop.AnswersRead a s t P R open_yet f h = absurd h
certificate_stops M goes stop.TooMany a s t P R open_yet f h = absurd h

-- ANSWERS AND CERTIFICATE

-- a call that stopped means the same for any later call
pub joins_stop : {A B : Type 0} (M : Type 0) (goes : Bool) (e : Stop) (a b : Source) (s t : Stream) (P : List ℕ → List ℕ → CertificateState → CertificateState → Result A Why → Type 0) (R : List ℕ → List ℕ → CertificateState → CertificateState → Result B Why → Type 0)
    → ((p q : List ℕ) (u v : CertificateState) (why : Why) → P p q u v (Err why) → R p q u v (Err why)) → AnswersAndCertificateCall {A = A} M goes (Err e) a b s t P → AnswersAndCertificateCall {A = B} M goes (Err e) a b s t R
joins_stop {A} {B} M goes (stop.No why) a b s t P R f h = (h.0, λ total k. confirms_stop (stop.No why) s t (P (rest_in total a) (rest_in total b)) (R (rest_in total a) (rest_in total b)) (λ more w. f (rest_in total a) (rest_in total b) (certificate_state_in more s) (certificate_state_in more t) w) (h.1 total k))
joins_stop {A} {B} M goes stop.AnswersRead a b s t P R f h = (h.0, any_stop A B stop.OutOfMemory s t Unconstrained h.1)
joins_stop {A} {B} M goes stop.ScriptRead a b s t P R f h = absurd h
joins_stop {A} {B} M goes stop.TooMany a b s t P R f h = (h.0, any_stop A B stop.OutOfMemory s t Unconstrained h.1, h.2)
joins_stop {A} {B} M goes e a b s t P R f h = (h.0, any_stop A B e s t Unconstrained h.1)

-- a stop after a successful call
stop_then : (A B : Type 0) (M : Type 0) (x : A) (e : Stop) (a b : Source) (s t u : Stream) (P : List ℕ → List ℕ → CertificateState → CertificateState → Result A Why → Type 0) → (AtEnd s.source → ⊥) → AnswersAndCertificateCall M true (Ok x) a b s t P → CertificateCall {A = B} (Err e) t u Unconstrained → CertificateCall {A = B} (Err e) s u Unconstrained
stop_then A B M x e a b s t u P open_yet h k =
    let total = b.reader.given in
    then_stop {A = A} {B = B} {C = B} x e s t u (P (rest_in total a) (rest_in total b)) Unconstrained Unconstrained open_yet (λ more why f g. tt) (h.1 total (covers_given b)) k

-- a call after a successful call
pub joins_then : {A B : Type 0} (M : Type 0) (goes : Bool) (x : A) (r : Result B Stop) (a b c : Source) (s t u : Stream) (P : List ℕ → List ℕ → CertificateState → CertificateState → Result A Why → Type 0) (Q R : List ℕ → List ℕ → CertificateState → CertificateState → Result B Why → Type 0)
    → (AtEnd a → ⊥) → (AtEnd s.source → ⊥) → ((p q z : List ℕ) (v w y : CertificateState) (n : Result B Why) → P p q v w (Ok x) → Q q z w y n → R p z v y n)
    → AnswersAndCertificateCall M true (Ok x) a b s t P → AnswersAndCertificateCall M goes r b c t u Q → AnswersAndCertificateCall M goes r a c s u R
joins_then {A} {B} M goes x (Ok y) a b c s t u P Q R here open_yet f h k = (
  took_then goes a b c h.0 k.0,
  λ total v.
      confirms_then x (Ok y) s t u (P (rest_in total a) (rest_in total b)) (Q (rest_in total b) (rest_in total c)) (R (rest_in total a) (rest_in total c)) open_yet
      (λ more n. f (rest_in total a) (rest_in total b) (rest_in total c) (certificate_state_in more s) (certificate_state_in more t) (certificate_state_in more u) n)
      (h.1 total (covers_took goes b c total (took_open a b here h.0) k.0 v)) (k.1 total v),
)
joins_then {A} {B} M goes x (Err (stop.No why)) a b c s t u P Q R here open_yet f h k = (
  took_then false a b c h.0 k.0,
  λ total v.
      confirms_then x (Err (stop.No why)) s t u (P (rest_in total a) (rest_in total b)) (Q (rest_in total b) (rest_in total c)) (R (rest_in total a) (rest_in total c)) open_yet
      (λ more n. f (rest_in total a) (rest_in total b) (rest_in total c) (certificate_state_in more s) (certificate_state_in more t) (certificate_state_in more u) n)
      (h.1 total (covers_took false b c total (took_open a b here h.0) k.0 v)) (k.1 total v),
)
joins_then {A} {B} M goes x (Err stop.AnswersRead) a b c s t u P Q R here open_yet f h k = (failed_then a b c h.0 k.0, stop_then A B M x stop.OutOfMemory a b s t u P open_yet h k.1)
joins_then {A} {B} M goes x (Err stop.ScriptRead) a b c s t u P Q R here open_yet f h k = absurd k
joins_then {A} {B} M goes x (Err stop.TooMany) a b c s t u P Q R here open_yet f h k = (kept_then a b c (took_kept true a b h.0) k.0, stop_then A B M x stop.OutOfMemory a b s t u P open_yet h k.1, k.2)
joins_then {A} {B} M goes x (Err e) a b c s t u P Q R here open_yet f h k = (kept_then a b c (took_kept true a b h.0) k.0, stop_then A B M x e a b s t u P open_yet h k.1)

-- a call with any result that reads only the certificate
pub certificate_joins : {A : Type 0} (M : Type 0) (r : Result A Stop) (a : Source) (s t : Stream) (P : CertificateState → CertificateState → Result A Why → Type 0) (R : List ℕ → List ℕ → CertificateState → CertificateState → Result A Why → Type 0) → (AtEnd a → ⊥)
    → ((p : List ℕ) (u v : CertificateState) (y : Result A Why) → P u v y → R p p u v y) → CertificateCall r s t P → AnswersAndCertificateCall M true r a a s t R
certificate_joins M (Ok x) a s t P R open_yet f h = certificate_goes M x a s t P R (λ p u v. f p u v (Ok x)) h
certificate_joins M (Err e) a s t P R open_yet f h = certificate_stops M true e a s t P R open_yet (λ p u v why. f p u v (Err why)) h

-- a successful call that reads only answers
pub replies_go : {A B : Type 0} (M : Type 0) (x : A) (y : B) (a b : Source) (s : Stream) (P : List ℕ → List ℕ → Result A Why → Type 0) (R : List ℕ → List ℕ → CertificateState → CertificateState → Result B Why → Type 0)
    → ((p q more : List ℕ) → P p q (Ok x) → R p q (certificate_state_in more s) (certificate_state_in more s) (Ok y)) → AnswersCall true (Ok x) a b P → AnswersAndCertificateCall M true (Ok y) a b s s R
replies_go M x y a b s P R f h = (h.0, λ total k. confirms_none y s (R (rest_in total a) (rest_in total b)) (λ more. f (rest_in total a) (rest_in total b) more (h.1 total k)))

pub replies_end : {A B : Type 0} (M : Type 0) (goes : Bool) (e : Stop) (a b : Source) (s : Stream) (P : List ℕ → List ℕ → Result A Why → Type 0) (R : List ℕ → List ℕ → CertificateState → CertificateState → Result B Why → Type 0) → (AtEnd s.source → ⊥)
    → ((p q more : List ℕ) (why : Why) → P p q (Err why) → R p q (certificate_state_in more s) (certificate_state_in more s) (Err why)) → AnswersCall {A = A} goes (Err e) a b P → AnswersAndCertificateCall {A = B} M goes (Err e) a b s s R
replies_end {A} {B} M goes (stop.No why) a b s P R open_yet f h = (h.0, λ total k. no_stays s why (R (rest_in total a) (rest_in total b)) open_yet (λ more. f (rest_in total a) (rest_in total b) more why (h.1 total k)))
replies_end {A} {B} M goes stop.OutOfMemory a b s P R open_yet f h = (h, short_stays B s open_yet)
replies_end {A} {B} M goes stop.AnswersRead a b s P R open_yet f h = (h, short_stays B s open_yet)
replies_end {A} {B} M goes e a b s P R open_yet f h = absurd h

-- there are too many commands
pub too_many : {B : Type 0} (M : Type 0) (goes : Bool) (a : Source) (s : Stream) (R : List ℕ → List ℕ → CertificateState → CertificateState → Result B Why → Type 0) → (AtEnd s.source → ⊥) → M → AnswersAndCertificateCall {A = B} M goes (Err stop.TooMany) a a s s R
too_many {B} M goes a s R open_yet m = ((refl, refl), short_stays B s open_yet, m)

-- the statement about too many commands may be weakened
pub joins_as : {A : Type 0} (M N : Type 0) (goes : Bool) (r : Result A Stop) (a b : Source) (s t : Stream) (P : List ℕ → List ℕ → CertificateState → CertificateState → Result A Why → Type 0) → (M → N) → AnswersAndCertificateCall M goes r a b s t P → AnswersAndCertificateCall N goes r a b s t P
joins_as M N goes (Err stop.ScriptRead) a b s t P f h = absurd h
joins_as M N goes (Err stop.TooMany) a b s t P f h = (h.0, h.1, f h.2)
joins_as M N goes e a b s t P f h = h

-- a call that never finds too many commands
pub joins_many : {A : Type 0} (M : Type 0) (goes : Bool) (r : Result A Stop) (a b : Source) (s t : Stream) (P : List ℕ → List ℕ → CertificateState → CertificateState → Result A Why → Type 0) → AnswersAndCertificateCall ⊥ goes r a b s t P → AnswersAndCertificateCall M goes r a b s t P
joins_many M goes r a b s t P h = joins_as ⊥ M goes r a b s t P (λ x. absurd x) h
