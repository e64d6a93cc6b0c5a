-- What is printed for texts in memory.
use Rattle.std.proofs.Common.{ℕ, ◌≡◌, ◌+◌, ◌<◌, ◌^◌, ◌⊎◌, Vec, Global, arith, List, ◌++◌, Result, Ok, Err, IfOk, OnOk, inl, inr, length, refl, subst, sym, ◌∙◌, ap, append_assoc}
use Rattle.std.specs.Prelude.{OnErr, is_ok, is_some, if◌then◌else◌}
use Rattle.sat_base.specs.device.Device.{Reader, Writer, GaveEnough, lent_reader}
use Rattle.certify.specs.script.Decided.{MakesNoReadOnceDecided}
use Rattle.sat_base.specs.script.Language.{reading}
use Rattle.sat_base.proofs.lemmas.device.Given.{enough_as}
use Rattle.sat_base.specs.script.Script.{ScriptEnding, Clean, Malformed}
use Rattle.certify.specs.program.Copies.{GaveKept}
use Rattle.certify.specs.program.Failures.{ReadsStopAtFailure}
use Rattle.certify.specs.program.Printing.{PrintsRunPrefix, PrintsWrittenPrefix, IsWritten, Prints, PrintsPrefix, PrintsRun, PrintsWritten, RunOf, is_malformed}
use Rattle.certify.specs.run.FinishedRun.{malformed_at}
use Rattle.certify.specs.run.RoundsLeft.{most_rounds}
use Rattle.certify.specs.declared.headline.Written.{Written}
use Rattle.certify.proofs.lemmas.program.Copying.{enough_unlent, same_loan, stop_unlent}

-- TEXTS THAT ARE APPENDED IN PIECES
-- after the last piece, the text is complete
last_piece : {E : Type 0} (r : Result (Unit {0}) E) (before after tail whole : List ℕ) → after ≡ (if is_ok r then before ++ tail else before) → before ++ tail ≡ whole → OnOk r (after ≡ whole)
last_piece (Ok u) before after tail whole e w = e ∙ w
last_piece (Err e) before after tail whole k w = tt

joined_seven : (z a b c d e f g : List ℕ) → ((((((z ++ a) ++ b) ++ c) ++ d) ++ e) ++ f) ++ g ≡ z ++ ((((((a ++ b) ++ c) ++ d) ++ e) ++ f) ++ g)
joined_seven z a b c d e f g = simp append_assoc

pub seven_pieces : {E : Type 0} (r : Result (Unit {0}) E) (zero one two three four five six seven a b c d e f g : List ℕ) → one ≡ zero ++ a → two ≡ one ++ b → three ≡ two ++ c → four ≡ three ++ d → five ≡ four ++ e → six ≡ five ++ f
    → seven ≡ (if is_ok r then six ++ g else six) → OnOk r (seven ≡ zero ++ ((((((a ++ b) ++ c) ++ d) ++ e) ++ f) ++ g))
seven_pieces r zero one two three four five six seven a b c d e f g h i k l m n o =
    let p = l ∙ ap (λ (x : List ℕ). x ++ d) (k ∙ ap (λ (x : List ℕ). x ++ c) (i ∙ ap (λ (x : List ℕ). x ++ b) h)) in
    last_piece r six seven g _ o (ap (λ (x : List ℕ). x ++ g) (n ∙ ap (λ (x : List ℕ). x ++ f) (m ∙ ap (λ (x : List ℕ). x ++ e) p)) ∙ joined_seven zero a b c d e f g)

-- RUNS THAT ARE PRINTED

-- whether a summary says that a text with this ending is malformed
pub malformed_is : (n : ℕ) (ending : ScriptEnding) → is_some (malformed_at n ending) ≡ is_malformed ending
malformed_is n Clean = refl
malformed_is n Malformed = refl

-- a list in memory has fewer than 2^63 elements
fits_memory : (v : Vec ℕ Global) → length v.items < 2 ^ 63
fits_memory v = omega (arith, v.ok, v.small)

-- the run that wrote these answers
abbrev run_of : (text : List ℕ) (w : Written) → IsWritten text w → RunOf text most_rounds
run_of text w is = record { summary = w.summary; answers = w.answers.items; certificate = w.certificate.items; fits = fits_memory w.certificate; guarantee = is }

-- the answers of a run and the line for the verdict are what the table says
prints_run : (s : ℕ) (text : List ℕ) (w : Written) (a b : Writer) → PrintsWritten s w a b → IsWritten text w → PrintsRun s text a b
prints_run s text w a b p is =
    let said : is_some w.summary.malformed ≡ is_malformed (reading text).1 = ap is_some is.is_answered.malformed ∙ malformed_is (length (reading text).0 + 1) (reading text).1 in
    record {
      run = run_of text w is;
      printed = p.printed;
      flushed = p.flushed;
      done = (λ zero. sym said ∙ p.done.0 zero, λ formed. p.done.1 (said ∙ formed));
    }

cuts_run : (text : List ℕ) (w : Written) (a b : Writer) → PrintsWrittenPrefix w a b → IsWritten text w → PrintsRunPrefix text a b
cuts_run text w a b p is = record { run = run_of text w is; printed = p }

-- what is printed for the bytes that were kept is printed for what the reader gave
pub prints_given : {E : Type 0} (r : Result ℕ E) (x y : Reader) (a b : Writer) (kept : List ℕ) (w : Written) → GaveKept x y kept (λ text. IsWritten text w)
    → IfOk r (λ s. PrintsWritten s w a b) → IfOk r (λ s. Prints s (x, y) (a, b))
prints_given (Ok s) x y a b kept w g p = record { given = enough_as x y (λ text. IsWritten text w) (λ text. PrintsRun s text a b) (λ text. prints_run s text w a b p) g.gave; read = g.read }
prints_given (Err e) x y a b kept w g p = tt

pub cut_given : {A E : Type 0} (r : Result A E) (x y : Reader) (a b : Writer) (kept : List ℕ) (w : Written) → GaveKept x y kept (λ text. IsWritten text w)
    → OnErr r (PrintsWrittenPrefix w a b) → OnErr r ((b ≡ a) ⊎ PrintsPrefix (x, y) (a, b))
cut_given (Ok s) x y a b kept w g p = tt
cut_given (Err e) x y a b kept w g p = inr (record { given = enough_as x y (λ text. IsWritten text w) (λ text. PrintsRunPrefix text a b) (λ text. cuts_run text w a b p) g.gave; read = g.read })

-- A READER THAT IS LENT

module _ {I : Type 0} (seen : I → Reader) (x c v : I) (given back : ℕ) (same : given ≡ back → c ≡ v) (stops : MakesNoReadOnceDecided (lent_reader given (seen x)) (lent_reader back (seen v))) where
  came_back : (P : I → Type 0) → P v → P c
  came_back P p = subst P (sym (same (same_loan (seen x) (seen v) given back stops.1.loans))) p

  -- once a lent reader is returned, how far it was read holds for it
  pub stop_lent : MakesNoReadOnceDecided (seen x) (seen c)
  stop_lent = came_back (λ k. MakesNoReadOnceDecided (seen x) (seen k)) (stop_unlent (seen x) (seen v) given back stops)

  -- once a lent reader is returned, so are its failed reads
  pub reads_lent : ReadsStopAtFailure (lent_reader given (seen x), lent_reader back (seen v)) → ReadsStopAtFailure (seen x, seen c)
  reads_lent h = came_back (λ k. ReadsStopAtFailure (seen x, seen k)) (record { failures = h.failures; last = h.last; reads = h.reads })

  -- once a lent reader is returned, what was printed holds for it
  pub prints_lent : {E : Type 0} (a b : Writer) (r : Result ℕ E) → IfOk r (λ s. Prints s (lent_reader given (seen x), lent_reader back (seen v)) (a, b)) → IfOk r (λ s. Prints s (seen x, seen c) (a, b))
  prints_lent a b (Ok s) p = came_back (λ k. Prints s (seen x, seen k) (a, b)) (record { given = enough_unlent (seen x) (seen v) given back (λ text. PrintsRun s text a b) p.given; read = p.read })
  prints_lent a b (Err e) p = tt

  pub cut_lent : {E : Type 0} (a b : Writer) (r : Result ℕ E) → OnErr r ((b ≡ a) ⊎ PrintsPrefix (lent_reader given (seen x), lent_reader back (seen v)) (a, b)) → OnErr r ((b ≡ a) ⊎ PrintsPrefix (seen x, seen c) (a, b))
  cut_lent a b (Ok s) p = tt
  cut_lent a b (Err e) (inl none) = inl none
  cut_lent a b (Err e) (inr p) = inr (came_back (λ k. PrintsPrefix (seen x, seen k) (a, b)) (record { given = enough_unlent (seen x) (seen v) given back (λ text. PrintsRunPrefix text a b) p.given; read = p.read }))
