-- What a finished run wrote is confirmed, with any readers and for texts in memory.
use Rattle.std.proofs.Common.{ℕ, ◌+◌, ◌*◌, ◌^◌, ◌≤◌, ◌≡◌, ◌∙◌, List, ◌++◌, Option, None, Some, Result, Ok, Err, IfOk, sym, ap, subst, arith, length, length-append, append-nil}
use Rattle.std.specs.Prelude.{IfSome, ◌↔◌}
use Rattle.std.specs.Io.KnownBytes.{Consumes, IsAtEnd}
use Rattle.std.proofs.lemmas.List.{append_cancel_left}
use Rattle.std.proofs.Math.Nat.{mul-le-mul, mul-one, pow-succ', pow-zero}
use Rattle.sat_base.specs.device.Device.{Reader, GaveEnough}
use Rattle.sat_base.specs.script.Language.{reading}
use Rattle.sat_base.proofs.lemmas.device.Given.{enough_known}
use Rattle.sat_checker.specs.matching.ProofChecking.{checker_rules}
use Rattle.certify.specs.confirm.Matches.{Matches, TextsMatch}
use Rattle.certify.specs.confirm.VerdictPromises.{AreRightAnswers, VerdictIsExact, GaveTextWith, IsSoundVerdict, LooksAreBounded}
use Rattle.certify.specs.laws.EndToEnd.{CanGiveText, FinishedIsConfirmed, VerdictGuarantee, most_looks_for}
use Rattle.certify.specs.run.FinishedRun.{CertificateGuarantee, rounds_of_asks}
use Rattle.certify.specs.declared.summary.Summary.{Summary}
use Rattle.certify.specs.declared.verdict.ConfirmFault.{ConfirmFault}
use Rattle.certify.specs.declared.verdict.Verdict.{Verdict}
use Rattle.certify.specs.declared.verdict.Verdict.TheVariants.{Yes}
use Rattle.certify.proofs.lemmas.laws.Headlines.{same_matches}
use Rattle.certify.proofs.lemmas.laws.CertifiedMatches.{certified_matches}

-- what holds whatever the reader could still give holds of any text that it can be
can_be : (a b : Reader) (P : List ℕ → Type 0) (text : List ℕ) → CanGiveText (a, b) text → GaveEnough a b P → P text
can_be a b P text c g =
    let same : c.given ≡ g.text = append_cancel_left a.given c.given g.text (sym c.front.gave ∙ g.front.gave) in
    subst P (sym (c.whole ∙ ap (λ (xs : List ℕ). xs ++ c.rest) same)) (g.holds c.rest c.follows)

-- what a finished run wrote matches
pub guaranteed_matches : (budget : ℕ) (summary : Summary) (text answered certified : List ℕ) → CertificateGuarantee text budget summary answered certified → TextsMatch text answered certified
guaranteed_matches budget summary text answered certified b =
    let a = b.is_answered in
    (same_matches text answered certified).1 (subst (λ s. Matches checker_rules reading text s certified) (sym a.answers)
    (certified_matches reading text certified a.outcomes b.steps (rounds_of_asks summary.asks.items) a.right b.accepted b.certifies b.certificate))

pub finished_confirmed : FinishedIsConfirmed
finished_confirmed script answers certificate v budget summary text answered certified s a c b e =
    let exact = can_be certificate.0 certificate.1 _ certified c (can_be answers.0 answers.1 _ answered a (can_be script.0 script.1 _ text s e)) in
    exact.1 (guaranteed_matches budget summary text answered certified b)

-- what holds whatever the reader could give holds of its text, if that is known
pub of_known_text : (a b : Reader) (P : List ℕ → Type 0) (text : List ℕ) → a.to_come ≡ Some text → GaveEnough a b P → P text
of_known_text a b P text e g = subst (λ o. IfSome o P) e (enough_known a b P g)

-- a reader whose bytes were known gave all of them, if it was read to its end
all_known : (o p : Option (List ℕ)) (t text : List ℕ) → o ≡ Some t → Consumes o p text → IsAtEnd p → text ≡ t
all_known None p t text e h k = absurd (let g = e in cc)
all_known (Some xs) None t text e h k = absurd h
all_known (Some xs) (Some ys) t text e h k =
    let same : xs ≡ t = cc in
    sym (append-nil text) ∙ ap (λ (zs : List ℕ). text ++ zs) (sym k) ∙ sym h ∙ same

pub says : (r : Result Verdict ConfirmFault) (a x b y c z : Reader) (s t u : List ℕ) → a.to_come ≡ Some s → b.to_come ≡ Some t → c.to_come ≡ Some u
    → IfOk r (VerdictIsExact (a, x) (b, y) (c, z)) → IfOk r (IsSoundVerdict (a, x) (b, y)) → IfOk r (VerdictGuarantee s t u)
says (Ok v) a x b y c z s t u d e f h k = record {
  exact = of_known_text c z (λ n. (v ≡ Yes) ↔ TextsMatch s t n) u f
      (of_known_text b y (λ m. GaveTextWith (c, z) (λ n. (v ≡ Yes) ↔ TextsMatch s m n)) t e
      (of_known_text a x (λ l. GaveTextWith (b, y) (λ m. GaveTextWith (c, z) (λ n. (v ≡ Yes) ↔ TextsMatch l m n))) s d h));
  sound = λ yes.
      let g = k yes in
      subst (AreRightAnswers s) (all_known b.to_come y.to_come t g.0 e g.1.known_bytes g.1.over) (of_known_text a x (λ l. AreRightAnswers l g.0) s d g.2);
}
says (Err e) a x b y c z s t u d f g h k = tt

-- LOOKS
consumed : (o p : Option (List ℕ)) (u text : List ℕ) → o ≡ Some u → Consumes o p text → length text ≤ length u
consumed None p u text e h = absurd (let g = e in cc)
consumed (Some xs) None u text e h = absurd h
consumed (Some xs) (Some ys) u text e h =
    let same : u ≡ text ++ ys = (let g : xs ≡ u = cc in sym g ∙ h) in
    let whole = ap length same in
    omega (arith, length-append text ys, whole)

square : (n : ℕ) → n ^ 2 ≡ n * n
square n = pow-succ' n 1 ∙ ap (λ (k : ℕ). n * k) (pow-succ' n 0 ∙ ap (λ (k : ℕ). n * k) (pow-zero n) ∙ mul-one n)

squares_rise : (m n : ℕ) → m ≤ n → 16 * m ^ 2 ≤ 16 * n ^ 2
squares_rise m n h =
    let p : m * m ≤ n * n = mul-le-mul h h in
    rw (square m, square n) (omega (arith, p))

pub looks_within : (c z : Reader) (u : List ℕ) (from to : ℕ) → c.to_come ≡ Some u → LooksAreBounded c z from to → to ≤ from + most_looks_for u
looks_within c z u from to e k =
    let few = consumed c.to_come z.to_come u k.text e k.front.known_bytes in
    let up = squares_rise (length k.text + 1) (length u + 1) (omega (arith, few)) in
    omega (arith, up, k.bound)

-- a verdict on what a finished run wrote is `Yes`
pub guaranteed_yes : (budget : ℕ) (summary : Summary) (script answers certificate : List ℕ) (v : Verdict) → CertificateGuarantee script budget summary answers certificate → VerdictGuarantee script answers certificate v → v ≡ Yes
guaranteed_yes budget summary script answers certificate v b s = s.exact.1 (guaranteed_matches budget summary script answers certificate b)
