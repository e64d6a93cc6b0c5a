-- What contracts see when the clauses of a text are added: which text was read, and what the result means.
use Rattle.std.specs.Prelude.{ℕ, ◌≡◌, ◌⊎◌, true, List, [], ◌++◌, Result, Ok, Err, IfErr}
use Rattle.sat_base.specs.device.Device.{Reader, GavePrefix, GaveEnough, ReadFails}
use Rattle.sat_base.specs.text.Tokenizing.{capped}
use Rattle.sat_base.specs.dimacs.Dimacs.{Clean, Malformed, Limit, dimacs, up_to_last_blank, IsDimacs}
use Rattle.sat_base.specs.dimacs.Parsing.{TextHasNoFault, RunsOutWhileParsing}
use Rattle.sat_base.specs.declared.dimacs.error.DimacsError.{DimacsError}
use Rattle.sat_base.specs.declared.dimacs.error.DimacsError.TheVariants as texts
use Rattle.sat_base.specs.steps.Steps.{Step}
use Rattle.sat_checker.specs.KernelView as kernels
use Rattle.sat_checker.specs.CheckerView.{CheckerView, kernel_of, checker_has_failed, HasAccepted, FailsBeforeStep}
use Rattle.sat_checker.specs.announcements.Announcements.{Notice}
use Rattle.sat_checker.specs.ProofView.{NoReadFailed, HasAcceptedUnfailed}
use Rattle.sat_checker.specs.ClausesView.{AddsFirstClauses, steps_after_additions, AddClausesResultAfter}
use Rattle.sat_checker.specs.listeners.ProcessingView.{ErrorNeedsListener}
use Rattle.sat_checker.specs.declared.checker.Checker.{Checker}
use Rattle.sat_checker.specs.declared.processing.Processing.{Processing}
use Rattle.sat_checker.specs.declared.processing.ProcessingError.{ProcessingError}
use Rattle.sat_checker.specs.declared.error.CheckerError.TheVariants as errors
use Rattle.sat_checker.specs.declared.error.CheckerDimacsError.{CheckerDimacsError}
use Rattle.sat_checker.specs.declared.error.CheckerDimacsError.TheVariants as refused

-- `AreClausesOfPrefix text clauses` holds if for some prefix of the text, `clauses` are the clauses of what that prefix
-- has up to its last blank.
abbrev pub AreClausesOfPrefix : List ℕ → List (List ℕ) → Type 0
AreClausesOfPrefix text clauses = (front : List ℕ) × (left : List ℕ) × (text ≡ front ++ left) × (clauses ≡ (dimacs (up_to_last_blank front)).clauses)

-- `AreClausesRead text clauses` holds if `clauses` may have been read from the text: they are all of its clauses, or
-- those of a prefix of it that ends with a blank.
abbrev pub AreClausesRead : List ℕ → List (List ℕ) → Type 0
AreClausesRead text clauses = AreClausesOfPrefix text clauses ⊎ (clauses ≡ (dimacs text).clauses)

-- `AreFirstClauses clauses text` holds if the clauses of the text begin with `clauses`.
abbrev pub AreFirstClauses : List (List ℕ) → List ℕ → Type 0
AreFirstClauses clauses text = (following : List (List ℕ)) × ((dimacs text).clauses ≡ clauses ++ following)

-- `TextHasFaultAfter error text clauses` holds if the text has these clauses and then the fault `error`, in the line
-- that it gives (capped at 2^64-1). For `OutOfMemory`, memory may run out while the text is parsed, and these are the
-- clauses of a prefix.
abbrev pub TextHasFaultAfter : DimacsError → List ℕ → List (List ℕ) → Type 0
TextHasFaultAfter (texts.Malformed line) text clauses = (n : ℕ) × (line ≡ capped n) × IsDimacs text clauses (Malformed n)
TextHasFaultAfter (texts.Limit line) text clauses = (n : ℕ) × (line ≡ capped n) × IsDimacs text clauses (Limit n)
TextHasFaultAfter texts.OutOfMemory text clauses = RunsOutWhileParsing text × AreClausesOfPrefix text clauses
TextHasFaultAfter texts.Read text clauses = ⊥
TextHasFaultAfter texts.HasFailed text clauses = ⊥

-- `ReadingFailsAfter error from to clauses` holds if reading a text ended with this error after these clauses: a read
-- failed (`Read`), or `TextHasFaultAfter` holds for every text that the reader could then give.
abbrev pub ReadingFailsAfter : DimacsError → Reader → Reader → List (List ℕ) → Type 0
ReadingFailsAfter texts.Read from to clauses = ReadFails from to × (text : List ℕ) × GavePrefix from to text × TextHasNoFault text × (clauses ≡ (dimacs (up_to_last_blank text)).clauses)
ReadingFailsAfter error from to clauses = NoReadFailed from to × GaveEnough from to (λ text. TextHasFaultAfter error text clauses)

module _ {L : Type 0} (Receives : L → Notice → Result Unit ProcessingError → L → Type 0) (before : List Notice) (begun : L) where
  -- `FailsOnlyIfOutOfMemory Receives before begun error new steps` holds if the checker has accepted these steps, and
  -- has failed if and only if `error` is `OutOfMemory`.
  abbrev pub FailsOnlyIfOutOfMemory : DimacsError → CheckerView L → List Step → Type 0
  FailsOnlyIfOutOfMemory texts.OutOfMemory new steps = FailsBeforeStep Receives before begun new steps
  FailsOnlyIfOutOfMemory error new steps = HasAcceptedUnfailed Receives before begun new steps

  -- `AddDimacsResultAfter Receives before begun result old new from to earlier` holds if the result of adding a text's
  -- clauses is correct, after the steps `earlier`. `Ok` means that all were added. After a fault of the text, a failed
  -- read or an error of the checker, the clauses before it were added.
  abbrev pub AddDimacsResultAfter : Result Unit CheckerDimacsError → CheckerView L → CheckerView L → Reader → Reader → List Step → Type 0
  AddDimacsResultAfter (Ok x) old new from to earlier =
      NoReadFailed from to × (clauses : List (List ℕ)) × GaveEnough from to (λ text. IsDimacs text clauses Clean) × AddClausesResultAfter Receives before begun (Ok tt) old new clauses earlier
  AddDimacsResultAfter (Err (refused.Dimacs error)) old new from to earlier =
      (clauses : List (List ℕ)) × ReadingFailsAfter error from to clauses × AddsFirstClauses old new clauses clauses [] earlier × FailsOnlyIfOutOfMemory error new (steps_after_additions clauses earlier)
  AddDimacsResultAfter (Err (refused.Checker errors.HasFailed)) old new from to earlier = (checker_has_failed old ≡ true) × (to ≡ from) × (new ≡ old)
  AddDimacsResultAfter (Err (refused.Checker error)) old new from to earlier =
      NoReadFailed from to × (clauses : List (List ℕ)) × GaveEnough from to (λ text. AreClausesRead text clauses) × AddClausesResultAfter Receives before begun (Err error) old new clauses earlier

module _ {L : Type 0} (Receives : L → Notice → Result Unit ProcessingError → L → Type 0) where
  -- `AddDimacsResult Receives result old new from to` holds if the result of adding the clauses of a text is correct
  -- after whatever steps `old` has accepted. `Ok` means that all were added. After a fault of the text, a failed read
  -- or an error of the checker, the clauses before it were added.
  abbrev pub AddDimacsResult : Result Unit CheckerDimacsError → CheckerView L → CheckerView L → Reader → Reader → Type 0
  AddDimacsResult result old new from to = (before : List Notice) (begun : L) (steps : List Step) → HasAccepted Receives before begun old steps → AddDimacsResultAfter Receives before begun result old new from to steps

-- `DimacsErrorNeedsListener old error` holds if the error is a fault of a listener only if `old` has a processor or a
-- transcript.
abbrev pub DimacsErrorNeedsListener : {P T : Type 0} → Processing P T → CheckerDimacsError → Type 0
DimacsErrorNeedsListener old (refused.Checker error) = ErrorNeedsListener old error
DimacsErrorNeedsListener old (refused.Dimacs error) = Unit {0}

-- `DimacsFaultNeedsListener result old` holds if the result is a fault of a listener only if a processor or a
-- transcript was added to the checker `old`.
abbrev pub DimacsFaultNeedsListener : {P T : Type 0} → Result Unit CheckerDimacsError → Checker P T → Type 0
DimacsFaultNeedsListener result old = (steps : List Step) → kernels.KernelHasAccepted (kernel_of old) steps → IfErr result (DimacsErrorNeedsListener old.processing)

-- `EndedClausesAreFirst` holds if the clauses that a text has up to its last blank are the first clauses of every
-- continuation of the text.
abbrev pub EndedClausesAreFirst : Type 0
EndedClausesAreFirst = (text rest : List ℕ) → AreFirstClauses (dimacs (up_to_last_blank text)).clauses (text ++ rest)

-- `ReadClausesAreFirst` holds if clauses that may have been read from a text, as `AreClausesRead` says, are always the
-- first clauses of that text.
abbrev pub ReadClausesAreFirst : Type 0
ReadClausesAreFirst = (text : List ℕ) (clauses : List (List ℕ)) → AreClausesRead text clauses → AreFirstClauses clauses text
