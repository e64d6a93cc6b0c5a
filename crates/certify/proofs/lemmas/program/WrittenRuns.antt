-- What a run wrote to memory.
use Rattle.std.proofs.Common.{ℕ, ◌≡◌, ◌∙◌, List, [], ◌++◌, Option, None, Some, Result, Ok, Err, IfOk, sym, ap, subst}
use Rattle.std.specs.Io.KnownBytes.{Appends}
use Rattle.sat_base.specs.device.Device.{Reader, Writer, GaveEnough}
use Rattle.sat_base.proofs.lemmas.device.Given.{enough_as}
use Rattle.certify.specs.run.FinishedRun.{CertificateGuarantee, ReceivedCertificate}
use Rattle.certify.specs.declared.fault.RunFault.{RunFault}
use Rattle.certify.specs.declared.headline.Written.{Written}
use Rattle.certify.specs.declared.summary.Summary.{Summary}
use Rattle.certify.proofs.lemmas.laws.FinishedTexts.{of_known_text}

-- a writer that held nothing holds what was appended
appended : (o p : Option (List ℕ)) (text items : List ℕ) → Appends o p text → o ≡ Some [] → p ≡ Some items → items ≡ text
appended None p text items h e f = absurd (let g = e in cc)
appended (Some xs) None text items h e f = absurd (let g = f in cc)
appended (Some xs) (Some ys) text items h e f =
    let no : xs ≡ [] = cc in
    let same : ys ≡ items = cc in
    sym same ∙ h ∙ ap (λ (zs : List ℕ). zs ++ text) no

-- what a run wrote to memory, for what the reader gave
pub run_taken : (budget : ℕ) (summary : Summary) (x y : Reader) (a b c d : Writer) (answers certificate : List ℕ)
    → a.contents ≡ Some [] → b.contents ≡ Some answers → c.contents ≡ Some [] → d.contents ≡ Some certificate
    → ReceivedCertificate budget summary (x, y) (a, b) (c, d) → GaveEnough x y (λ text. CertificateGuarantee text budget summary answers certificate)
run_taken budget summary x y a b c d answers certificate f g h i took =
    enough_as x y _ (λ text. CertificateGuarantee text budget summary answers certificate)
    (λ text p. let is_answered : answers ≡ p.0 = appended a.contents b.contents p.0 answers p.2.known_bytes f g in
    let is_certified : certificate ≡ p.1 = appended c.contents d.contents p.1 certificate p.3.known_bytes h i in
    subst (λ s. CertificateGuarantee text budget summary answers s) (sym is_certified) (subst (λ s. CertificateGuarantee text budget summary s p.1) (sym is_answered) p.4)) took

-- what a run wrote for a known text
pub run_known : (r : Result Written RunFault) (budget : ℕ) (x y : Reader) (text : List ℕ) → x.to_come ≡ Some text
    → IfOk r (λ w. GaveEnough x y (λ t. CertificateGuarantee t budget w.summary w.answers.items w.certificate.items))
    → IfOk r (λ w. CertificateGuarantee text budget w.summary w.answers.items w.certificate.items)
run_known (Ok w) budget x y text e g = of_known_text x y (λ t. CertificateGuarantee t budget w.summary w.answers.items w.certificate.items) text e g
run_known (Err fault) budget x y text e g = tt
