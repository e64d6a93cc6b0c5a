-- How one chunk of a formula's text is read and its clauses are added.
use Rattle.std.specs.Prelude.{ℕ, ◌≡◌, ◌++◌, Bool, true, false, List, Result, Ok, Err}
use Rattle.sat_base.specs.dimacs.Parsing.{Progress, clauses_read}
use Rattle.sat_base.specs.declared.dimacs.error.DimacsError.{DimacsError}
use Rattle.sat_base.specs.declared.dimacs.error.DimacsError.TheVariants as texts
use Rattle.sat_checker.specs.ClausesView.{AddClausesResult}
use Rattle.sat_checker.specs.CheckerView.{CheckerView}
use Rattle.sat_checker.specs.announcements.Announcements.{Notice}
use Rattle.sat_checker.specs.declared.processing.ProcessingError.{ProcessingError}
use Rattle.sat_checker.specs.declared.error.CheckerDimacsError.{CheckerDimacsError}
use Rattle.sat_checker.specs.declared.error.CheckerDimacsError.TheVariants as refused

-- `is_out_of_memory error` is true if the error is an allocation failure, after which the checker has failed.
abbrev pub is_out_of_memory : DimacsError → Bool
is_out_of_memory (texts.Malformed line) = false
is_out_of_memory (texts.Limit line) = false
is_out_of_memory texts.Read = false
is_out_of_memory texts.OutOfMemory = true
is_out_of_memory texts.HasFailed = false

-- The checker, marked as failed or not.
abbrev pub with_failed_flag : {L : Type 0} → Bool → CheckerView L → CheckerView L
with_failed_flag b c = record c { kernel = record c.kernel { failed = b } }

module _ {L : Type 0} (Receives : L → Notice → Result Unit ProcessingError → L → Type 0) where
  -- `AddsClausesOfChunk Receives result answer old new clauses` holds if all of `clauses` were added and `result`
  -- reports the parser's result `answer`, or if adding them failed as `result` says. If the parser ran out of memory,
  -- the checker has failed.
  abbrev pub AddsClausesOfChunk : Result Unit CheckerDimacsError → Result Unit DimacsError → CheckerView L → CheckerView L → List (List ℕ) → Type 0
  AddsClausesOfChunk (Ok x) answer old new clauses = (answer ≡ Ok tt) × AddClausesResult Receives (Ok tt) old new clauses
  AddsClausesOfChunk (Err (refused.Dimacs error)) answer old new clauses =
      (answer ≡ Err error) × (mid : CheckerView L) × AddClausesResult Receives (Ok tt) old mid clauses × (new ≡ with_failed_flag (is_out_of_memory error) mid)
  AddsClausesOfChunk (Err (refused.Checker error)) answer old new clauses = AddClausesResult Receives (Err error) old new clauses

  -- `AddsReadClauses Receives result answer parser old new` holds if the clauses that the parser has read and not yet
  -- returned were added, with the result that `AddsClausesOfChunk` demands.
  abbrev pub AddsReadClauses : Result Unit CheckerDimacsError → Result Unit DimacsError → Progress → CheckerView L → CheckerView L → Type 0
  AddsReadClauses result answer parser old new = (clauses : List (List ℕ)) × (clauses_read parser ≡ parser.taken ++ clauses) × AddsClausesOfChunk result answer old new clauses
