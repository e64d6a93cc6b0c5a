-- The results of calls that read answers, or answers and a certificate, whatever bytes could follow in either text.
use Rattle.std.specs.Prelude.{ℕ, Bool, false, List, Result, Ok, Err}
use Rattle.sat_base.specs.device.Reading.{Source}
use Rattle.sat_base.specs.declared.device.whole.ReadError.{ReadError}
use Rattle.sat_base.specs.declared.device.whole.ReadError.TheVariants as errors
use Rattle.certify.specs.confirm.Streams.{Stream, CertificateCall, CanBeTotal, rest_in}
use Rattle.certify.specs.confirm.CertificateStates.{CertificateState}
use Rattle.certify.specs.script.LastPiece.{ReadFailsAhead, NoReadFailedAhead, ConsumesSome}
use Rattle.certify.specs.declared.confirm.stop.Stop.TheVariants as stop
use Rattle.certify.specs.declared.confirm.stop.Stop.{Stop}
use Rattle.certify.specs.declared.verdict.Why.{Why}

-- the error of a call if the answers cannot be read: `AnswersRead` if the reader failed, or `OutOfMemory`
abbrev pub stop_for_answers_read : ReadError → Stop
stop_for_answers_read errors.Failed = stop.AnswersRead
stop_for_answers_read errors.OutOfMemory = stop.OutOfMemory

-- the error of a call if the script cannot be read: `ScriptRead` if the reader failed, or `OutOfMemory`
abbrev pub stop_for_script_read : ReadError → Stop
stop_for_script_read errors.Failed = stop.ScriptRead
stop_for_script_read errors.OutOfMemory = stop.OutOfMemory

-- `AnswersCall goes result a b P` holds if a call that reads only answers, from `a` to `b`, has this result, and `P`
-- says what `Ok` or `No` means for the remaining answers before and after, whatever bytes could follow. If `goes` is
-- true, `Ok` means that the end was not found. Otherwise memory ran out or the answers' reader failed.
abbrev pub AnswersCall : {A : Type 0} → Bool → Result A Stop → Source → Source → (List ℕ → List ℕ → Result A Why → Type 0) → Type 0
AnswersCall goes (Ok x) a b P = ConsumesSome goes a b × ((total : List ℕ) → CanBeTotal b total → P (rest_in total a) (rest_in total b) (Ok x))
AnswersCall goes (Err (stop.No why)) a b P =
    ConsumesSome false a b × ((total : List ℕ) → CanBeTotal b total → P (rest_in total a) (rest_in total b) (Err why))
AnswersCall goes (Err stop.OutOfMemory) a b P = NoReadFailedAhead a b
AnswersCall goes (Err stop.AnswersRead) a b P = ReadFailsAhead a b
AnswersCall goes (Err stop.CertificateRead) a b P = ⊥
AnswersCall goes (Err stop.CounterEnd) a b P = ⊥
AnswersCall goes (Err stop.ScriptRead) a b P = ⊥
AnswersCall goes (Err stop.TooMany) a b P = ⊥

-- `Unconstrained old new r` always holds: it stands for no statement about a call with result `r` on a certificate.
abbrev pub Unconstrained : {A : Type 0} → CertificateState → CertificateState → Result A Why → Type 0
Unconstrained old new r = Unit {0}

-- `AnswersAndCertificateCall M goes result a b s t P` holds if a call that reads answers (from `a` to `b`) and
-- certificate (from `s` to `t`) has this result, and `P` says what `Ok` or `No` means for what remains of both before
-- and after. With `TooMany`, `M` holds. With `goes`, `Ok` means that the end of the answers was not found.
abbrev pub AnswersAndCertificateCall : {A : Type 0} → Type 0 → Bool → Result A Stop → Source → Source → Stream → Stream
    → (List ℕ → List ℕ → CertificateState → CertificateState → Result A Why → Type 0) → Type 0
AnswersAndCertificateCall M goes (Ok x) a b s t P = ConsumesSome goes a b
    × ((total : List ℕ) → CanBeTotal b total → CertificateCall (Ok x) s t (P (rest_in total a) (rest_in total b)))
AnswersAndCertificateCall {A} M goes (Err (stop.No why)) a b s t P = ConsumesSome false a b
    × ((total : List ℕ) → CanBeTotal b total → CertificateCall {A = A} (Err (stop.No why)) s t (P (rest_in total a) (rest_in total b)))
AnswersAndCertificateCall {A} M goes (Err stop.OutOfMemory) a b s t P = NoReadFailedAhead a b × CertificateCall {A = A} (Err stop.OutOfMemory) s t Unconstrained
AnswersAndCertificateCall {A} M goes (Err stop.CertificateRead) a b s t P = NoReadFailedAhead a b × CertificateCall {A = A} (Err stop.CertificateRead) s t Unconstrained
AnswersAndCertificateCall {A} M goes (Err stop.CounterEnd) a b s t P = NoReadFailedAhead a b × CertificateCall {A = A} (Err stop.CounterEnd) s t Unconstrained
AnswersAndCertificateCall {A} M goes (Err stop.AnswersRead) a b s t P = ReadFailsAhead a b × CertificateCall {A = A} (Err stop.OutOfMemory) s t Unconstrained
AnswersAndCertificateCall {A} M goes (Err stop.TooMany) a b s t P = NoReadFailedAhead a b × CertificateCall {A = A} (Err stop.OutOfMemory) s t Unconstrained × M
AnswersAndCertificateCall M goes (Err stop.ScriptRead) a b s t P = ⊥

-- `ResultDecides P result` holds if `result` is `Ok` and `P` holds, or `result` is an error and `P` does not hold.
abbrev pub ResultDecides : Type 0 → Result (Unit {0}) Why → Type 0
ResultDecides P (Ok x) = P
ResultDecides P (Err why) = P → ⊥
