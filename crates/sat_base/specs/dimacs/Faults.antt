-- Faults of formulas' texts, found without allocating.
use Rattle.std.specs.Prelude.{◌≡◌, ◌⊎◌, ℕ, List, ◌++◌, None, Result, Ok, Err}
use Rattle.sat_base.specs.declared.text.Tokenizer.{Tokenizer}
use Rattle.sat_base.specs.declared.dimacs.error.DimacsError.{DimacsError}
use Rattle.sat_base.specs.declared.dimacs.error.DimacsError.TheVariants as errors
use Rattle.sat_base.specs.device.Device.{Reader, ReadsOnce}
use Rattle.sat_base.specs.text.Text.{Token, Scan, scan, tokens, HasEnded}
use Rattle.sat_base.specs.text.Position.{prepend_tokens}
use Rattle.sat_base.specs.text.WrongWords.{HasValidContinuation}
use Rattle.sat_base.specs.text.Tokenizing.{HasRemainingScan}
use Rattle.sat_base.specs.dimacs.Dimacs.{PartialClause, Malformed, Limit, Fails, token_effect}
use Rattle.sat_base.specs.dimacs.Parsing.{HaveNoFault, NoFaultAndThen, whole_lines, TextHasNoFault, HasFaultOn}
use Rattle.sat_base.specs.dimacs.ParserPlaces.{CompleteClauses}

-- `HasReceivedWithoutFault text machine` holds if the tokenizer `machine` has received exactly `text`, no complete line
-- of which has a fault, and which can continue without a wrong word.
pub record HasReceivedWithoutFault (text : List ℕ) (machine : Tokenizer) : Type 0 where
  pub before : List (ℕ × Token)  -- the tokens so far
  pub all : List (List ℕ)  -- their clauses
  pub unfinished : PartialClause
  pub left_of : List ℕ → Scan  -- how the bytes that follow will be read, for any such bytes
  pub valid : HasRemainingScan machine left_of
  pub scans : (rest : List ℕ) → scan (text ++ rest) ≡ prepend_tokens before (left_of rest)
  pub turned : CompleteClauses before all unfinished
  pub sound : HaveNoFault None (tokens (whole_lines text))
  pub right : HasValidContinuation left_of

-- `ReportsTokenFault result line t` holds if the token `t` is not a fault and `result` is `Ok`, or `t` is the fault
-- that `result` reports, on `line`, whatever clause is unfinished.
abbrev pub ReportsTokenFault : Result (Unit {0}) DimacsError → ℕ → Token → Type 0
ReportsTokenFault (Ok u) line t = (unfinished : PartialClause) (n : ℕ) → NoFaultAndThen (token_effect unfinished n t) (λ h. Unit {0})
ReportsTokenFault (Err (errors.Malformed l)) line t = (l ≡ line) × ((unfinished : PartialClause) (n : ℕ) → token_effect unfinished n t ≡ Fails (Malformed n))
ReportsTokenFault (Err (errors.Limit l)) line t = (l ≡ line) × ((unfinished : PartialClause) (n : ℕ) → token_effect unfinished n t ≡ Fails (Limit n))
ReportsTokenFault (Err e) line t = ⊥

-- `FindsFault result text machine` holds if `text` has no fault so far and `result` is `Ok`, or `text` has the fault
-- that `result` reports, however it continues.
abbrev pub FindsFault : Result (Unit {0}) DimacsError → List ℕ → Tokenizer → Type 0
FindsFault (Ok u) text machine = HasReceivedWithoutFault text machine
FindsFault (Err (errors.Malformed line)) text machine = HasFaultOn line Malformed text
FindsFault (Err (errors.Limit line)) text machine = HasFaultOn line Limit text
FindsFault (Err e) text machine = ⊥

-- `OutOfMemoryOrFault e text` holds if `e` is the error that is returned if memory runs out at the end of `text`: its
-- fault if it has one, otherwise `OutOfMemory`.
abbrev pub OutOfMemoryOrFault : DimacsError → List ℕ → Type 0
OutOfMemoryOrFault errors.OutOfMemory text = TextHasNoFault text
OutOfMemoryOrFault (errors.Malformed line) text = HasFaultOn line Malformed text
OutOfMemoryOrFault (errors.Limit line) text = HasFaultOn line Limit text
OutOfMemoryOrFault e text = ⊥

-- `ReadsOnceUnlessEnded result room text old new` holds if one read with `result` was made, whose bytes are in `room`
-- (`ReadsOnce`), or none was, with the result 0, because a line that begins with `%` has ended `text`.
abbrev pub ReadsOnceUnlessEnded : {E : Type 0} → Result ℕ E → List ℕ → List ℕ → Reader → Reader → Type 0
ReadsOnceUnlessEnded {E} (Ok n) room text old new = ReadsOnce {E = E} (Ok n) room old new ⊎ ((n ≡ 0) × (new ≡ old) × HasEnded text)
ReadsOnceUnlessEnded {E} (Err e) room text old new = ReadsOnce {E = E} (Err e) room old new
