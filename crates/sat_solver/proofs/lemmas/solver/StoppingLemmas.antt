-- A text that is read to its end, or up to a line that ends it.
use Rattle.std.proofs.Common.{ℕ, zero, suc, ◌<◌, ◌≡◌, List, [], Result, Ok, refl, subst, arith}
use Rattle.sat_base.specs.device.Device.{Reader, GaveEnough}
use Rattle.sat_base.specs.text.Text.{HasEnded}
use Rattle.sat_base.specs.dimacs.Dimacs.{Clean, IsDimacs}
use Rattle.sat_base.specs.dimacs.Parsing.{Progress, clauses_read, FinishEffect}
use Rattle.sat_base.specs.declared.dimacs.error.DimacsError.{DimacsError}
use Rattle.sat_base.proofs.lemmas.dimacs.Parsed.{HasAccepted as HasFed}
use Rattle.sat_base.proofs.lemmas.dimacs.ReadToEnd.{ReadToEnd, none_has_ended}
use Rattle.sat_checker.specs.DimacsView.{AreClausesRead}
use Rattle.sat_checker.proofs.lemmas.checker.Texts.{read_by_end, clean_by_end, enough_end, is_on, read_on}

-- if the text has ended, it was read
pub read_before : (text : List ℕ) (n : ℕ) (T : Type 0) → (n ≡ 0 → text ≡ []) → (0 < n → T) → HasEnded text → T
read_before text zero T none then h = absurd (none_has_ended (subst HasEnded (none refl) h))
read_before text (suc n) T none then h = then (omega arith)

-- the clauses that were read
pub read_at_end : (answer : Result Unit DimacsError) (from to : Reader) (text : List ℕ) (p q : Progress) → HasFed text p → FinishEffect answer p q → ReadToEnd from to text text → GaveEnough from to (λ text. AreClausesRead text (clauses_read q))
read_at_end answer from to text p q is f all =
    let read = read_by_end answer text p q is f in
    enough_end from to (λ text. AreClausesRead text (clauses_read q)) text all read (λ rest h. read_on text rest (clauses_read q) read h)

-- the text has no fault
pub clean_at_end : (from to : Reader) (text : List ℕ) (p q : Progress) → HasFed text p → FinishEffect (Ok tt) p q → ReadToEnd from to text text → GaveEnough from to (λ text. IsDimacs text (clauses_read q) Clean)
clean_at_end from to text p q is f all =
    let clean = clean_by_end text p q is f in
    enough_end from to (λ text. IsDimacs text (clauses_read q) Clean) text all clean (λ rest h. is_on text rest (clauses_read q) Clean clean h)
