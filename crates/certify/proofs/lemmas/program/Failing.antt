-- Failed calls of the devices of a call.
use Rattle.std.proofs.Common.{ℕ, ◌≡◌, ◌+◌, ◌≤◌, ◌⊎◌, ◌∙◌, Result, Err, inl, inr, sym, arith}
use Rattle.std.specs.Prelude.{IsErrOf}
use Rattle.sat_base.specs.device.Device.{Reader, Writer, LastCallFails, ReadFails, ReadsAreExhausted, max_reads}
use Rattle.certify.specs.program.Failures.{ConfirmStopsAtFailure, NoReadFailed, ReadsStopAtFailure, RunStopsAtFailure, WritesStopAtFailure}
use Rattle.certify.specs.run.FinishedRun.{LastWriterCallFails}
use Rattle.certify.specs.declared.fault.RunFault.{RunFault}
use Rattle.certify.specs.declared.fault.RunFault.TheVariants as run_fault
use Rattle.certify.specs.declared.summary.Summary.{Summary}
use Rattle.certify.specs.declared.verdict.ConfirmFault.{ConfirmFault}
use Rattle.certify.specs.declared.verdict.ConfirmFault.TheVariants as confirm_fault

-- a reader of which a read failed only if the result says so
pub reads_to_failure : (Said : Type 0) (a b : Reader) → (Said → ReadFails a b) → Said ⊎ (b.failures ≡ a.failures) → b.calls ≤ a.calls + max_reads → ReadsStopAtFailure (a, b)
reads_to_failure Said a b fails (inr kept) few = record { failures = omega (arith, kept); last = λ one. absurd (omega (arith, kept, one)); reads = few }
reads_to_failure Said a b fails (inl said) few = read_failed (fails said).0
  where
    read_failed : LastCallFails a b ⊎ ReadsAreExhausted a b → ReadsStopAtFailure (a, b)
    read_failed (inl last) = record { failures = omega (arith, last.0); last = λ one. last.1; reads = few }
    read_failed (inr none) = record { failures = omega (arith, none.0); last = λ one. absurd (omega (arith, none.0, one)); reads = few }

-- a writer of which a call failed only if the result says so
pub writes_to_failure : (Said : Type 0) (a b : Writer) → (Said → LastWriterCallFails a b) → Said ⊎ (b.failures ≡ a.failures) → WritesStopAtFailure (a, b)
writes_to_failure Said a b fails (inr kept) = record { failures = omega (arith, kept); last = λ one. absurd (omega (arith, kept, one)) }
writes_to_failure Said a b fails (inl said) = record { failures = omega (arith, (fails said).0); last = λ one. (fails said).1 }

-- at most one of three numbers rose, by at most one
once_of_three : (P Q R : Type 0) (a b c x y z : ℕ) → P ⊎ (x ≡ a) → Q ⊎ (y ≡ b) → R ⊎ (z ≡ c) → x ≤ a + 1 → y ≤ b + 1 → z ≤ c + 1 → (P → Q → ⊥) → (P → R → ⊥) → (Q → R → ⊥)
    → x + y + z ≤ a + b + c + 1
once_of_three P Q R a b c x y z (inl p) (inl q) h d e f pq pr qr = absurd (pq p q)
once_of_three P Q R a b c x y z (inl p) (inr q) (inl r) d e f pq pr qr = absurd (pr p r)
once_of_three P Q R a b c x y z (inl p) (inr q) (inr r) d e f pq pr qr = omega (arith, q, r, d)
once_of_three P Q R a b c x y z (inr p) (inl q) (inl r) d e f pq pr qr = absurd (qr q r)
once_of_three P Q R a b c x y z (inr p) (inl q) (inr r) d e f pq pr qr = omega (arith, p, r, e)
once_of_three P Q R a b c x y z (inr p) (inr q) (inl r) d e f pq pr qr = omega (arith, p, q, f)
once_of_three P Q R a b c x y z (inr p) (inr q) (inr r) d e f pq pr qr = omega (arith, p, q, r)

-- a result is at most one error
one_error : {A E : Type 0} (r : Result A E) (e f : E) → (◌≡◌ {A = Result A E} (Err e) (Err f) → ⊥) → IsErrOf r e → IsErrOf r f → ⊥
one_error r e f other is was = other (sym is ∙ was)

-- the devices of a run
pub run_to_failure : (r : Result Summary RunFault) (s t : Reader) (a b c d : Writer)
    → (IsErrOf r run_fault.ScriptRead → ReadFails s t) → (IsErrOf r run_fault.AnswersWrite → LastWriterCallFails a b) → (IsErrOf r run_fault.CertificateWrite → LastWriterCallFails c d)
    → IsErrOf r run_fault.ScriptRead ⊎ (t.failures ≡ s.failures) → IsErrOf r run_fault.AnswersWrite ⊎ (b.failures ≡ a.failures) → IsErrOf r run_fault.CertificateWrite ⊎ (d.failures ≡ c.failures)
    → t.calls ≤ s.calls + max_reads → RunStopsAtFailure (s, t) (a, b) (c, d)
run_to_failure r s t a b c d sf af cf sk ak ck few =
    let script = reads_to_failure _ s t sf sk few in
    let answers = writes_to_failure _ a b af ak in
    let certificate = writes_to_failure _ c d cf ck in
    record {
      script_reads = script;
      answers_writes = answers;
      certificate_writes = certificate;
      once = once_of_three _ _ _ s.failures a.failures c.failures t.failures b.failures d.failures sk ak ck script.failures answers.failures certificate.failures
          (one_error r run_fault.ScriptRead run_fault.AnswersWrite (λ e. cc)) (one_error r run_fault.ScriptRead run_fault.CertificateWrite (λ e. cc)) (one_error r run_fault.AnswersWrite run_fault.CertificateWrite (λ e. cc));
    }

-- the texts of a confirmation
pub confirm_to_failure : {A : Type 0} (r : Result A ConfirmFault) (s t a b c d : Reader)
    → (IsErrOf r confirm_fault.ScriptRead → ReadFails s t) → (IsErrOf r confirm_fault.AnswersRead → ReadFails a b) → (IsErrOf r confirm_fault.CertificateRead → ReadFails c d)
    → IsErrOf r confirm_fault.ScriptRead ⊎ (t.failures ≡ s.failures) → IsErrOf r confirm_fault.AnswersRead ⊎ (b.failures ≡ a.failures) → IsErrOf r confirm_fault.CertificateRead ⊎ (d.failures ≡ c.failures)
    → t.calls ≤ s.calls + max_reads → b.calls ≤ a.calls + max_reads → d.calls ≤ c.calls + max_reads → ConfirmStopsAtFailure (s, t) (a, b) (c, d)
confirm_to_failure r s t a b c d sf af cf sk ak ck few few' few'' =
    let script = reads_to_failure _ s t sf sk few in
    let answers = reads_to_failure _ a b af ak few' in
    let certificate = reads_to_failure _ c d cf ck few'' in
    record {
      script_reads = script;
      answers_reads = answers;
      certificate_reads = certificate;
      once = once_of_three _ _ _ s.failures a.failures c.failures t.failures b.failures d.failures sk ak ck script.failures answers.failures certificate.failures
          (one_error r confirm_fault.ScriptRead confirm_fault.AnswersRead (λ e. cc)) (one_error r confirm_fault.ScriptRead confirm_fault.CertificateRead (λ e. cc))
          (one_error r confirm_fault.AnswersRead confirm_fault.CertificateRead (λ e. cc));
    }
