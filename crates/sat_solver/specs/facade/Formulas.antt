-- Formulas that are added to a solver, clause by clause.
use Rattle.std.specs.Prelude.{ℕ, ◌≡◌, ◌⊎◌, true, false, List, [], ◌∷◌, ◌++◌, Result, Ok, Err}
use Rattle.anyhow.specs.declared.error.Error.{Error}
use Rattle.sat_base.specs.device.Device.{Reader, GaveEnough}
use Rattle.sat_base.specs.dimacs.Dimacs.{Clean, IsDimacs}
use Rattle.sat_base.specs.dimacs.Parsing.{Progress, clauses_read}
use Rattle.sat_base.specs.declared.dimacs.error.DimacsError.{DimacsError}
use Rattle.sat_checker.specs.announcements.Announcements.{Notice}
use Rattle.sat_checker.specs.DimacsView.{AreClausesRead, ReadingFailsAfter}
use Rattle.sat_checker.specs.ProofView.{NoReadFailed}
use Rattle.sat_solver.specs.declared.error.SolverError.{SolverError}
use Rattle.sat_solver.specs.declared.error.SolverError.TheVariants as errors
use Rattle.sat_solver.specs.solver.Formulas.{text_fault, is_solver_out_of_memory}
use Rattle.sat_solver.specs.facade.View.{SolverView}
use Rattle.sat_solver.specs.facade.Calls.{Refuses}
use Rattle.sat_solver.specs.facade.Extending.{CallsAddClause}

-- `with_fault fault v` is the solver after the error `fault` of a text: marked as failed if memory ran out, otherwise
-- marked as not failed, so that it can be used on
abbrev pub with_fault : {L : Type 0} → DimacsError → SolverView L → SolverView L
with_fault fault v = record v { failed = is_solver_out_of_memory fault }

-- `takes` says how a listener changes with an announcement
module _ {L : Type 0} (takes : L → Notice → Result Unit Error → L → Type 0) where
  -- `AddsAll old clauses new` holds if `new` is reached from `old` by adding `clauses` in order, each by one successful
  -- call of `add_clause`
  abbrev pub AddsAll : SolverView L → List (List ℕ) → SolverView L → Type 0
  AddsAll old [] new = new ≡ old
  AddsAll old (c ∷ cs) new = (mid : SolverView L) × CallsAddClause takes (Ok tt) old mid c × AddsAll mid cs new

  -- `StopsAtClause e old new clauses` holds if some first ones of `clauses` were added, and adding the next one was
  -- refused or failed with `e`; later ones were not tried
  pub record StopsAtClause (e : SolverError) (old new : SolverView L) (clauses : List (List ℕ)) : Type 0 where
    pub going : old.failed ≡ false
    pub before : List (List ℕ)
    pub clause : List ℕ
    pub left : List (List ℕ)
    pub split : clauses ≡ before ++ (clause ∷ left)
    pub mid : SolverView L
    pub added : AddsAll old before mid
    pub stops : CallsAddClause takes (Err e) mid new clause

  -- `AddsFormula r old new clauses` holds if `r` is the result of adding `clauses` in order: all were added, or those
  -- before the clause that was refused or failed; after an earlier failure none is, and nothing changes
  abbrev pub AddsFormula : Result (Unit {0}) SolverError → SolverView L → SolverView L → List (List ℕ) → Type 0
  AddsFormula (Ok x) old new clauses = (old.failed ≡ false) × AddsAll old clauses new
  AddsFormula (Err errors.HasFailed) old new clauses = Refuses old new (old.failed ≡ true)
  AddsFormula (Err e) old new clauses = StopsAtClause e old new clauses

  -- `TextFails e old new from to` holds if reading the text stopped with `e` (a fault of the text, a failed read, 2^48
  -- reads that did not end the text, or no memory) while the reader went from `from` to `to`; the clauses completed
  -- before that were added
  pub record TextFails (e : SolverError) (old new : SolverView L) (from to : Reader) : Type 0 where
    pub going : old.failed ≡ false
    pub fault : DimacsError
    pub is : e ≡ text_fault fault
    pub clauses : List (List ℕ)
    pub fails : ReadingFailsAfter fault from to clauses
    pub mid : SolverView L
    pub added : AddsAll old clauses mid
    pub new_is : new ≡ with_fault fault mid

  -- `ClauseFails e old new from to` holds if no read failed, and one of the clauses read so far was refused or adding
  -- it failed with `e`; the clauses before it were added
  pub record ClauseFails (e : SolverError) (old new : SolverView L) (from to : Reader) : Type 0 where
    pub quiet : NoReadFailed from to
    pub clauses : List (List ℕ)
    pub read : GaveEnough from to (λ text. AreClausesRead text clauses)
    pub stops : StopsAtClause e old new clauses

  -- `TextAdded old new from to` holds if the bytes read between `from` and `to` are a well-formed DIMACS text, no read
  -- failed, and all its clauses were added in order
  pub record TextAdded (old new : SolverView L) (from to : Reader) : Type 0 where
    pub going : old.failed ≡ false
    pub quiet : NoReadFailed from to
    pub clauses : List (List ℕ)
    pub read : GaveEnough from to (λ text. IsDimacs text clauses Clean)
    pub added : AddsAll old clauses new

  -- `AddsText r old new from to` holds if `r` is the result of adding the DIMACS text read between `from` and `to`: all
  -- its clauses were added, or those before a fault of the text or before a clause that was refused or failed
  abbrev pub AddsText : Result (Unit {0}) SolverError → SolverView L → SolverView L → Reader → Reader → Type 0
  AddsText (Ok x) old new from to = TextAdded old new from to
  AddsText (Err errors.HasFailed) old new from to = Refuses old new (old.failed ≡ true) × (to ≡ from)
  AddsText (Err e) old new from to = TextFails e old new from to ⊎ ClauseFails e old new from to

  -- INSIDE

  -- `ReadStops e answer old new clauses` holds if the parser's result `answer` is an error, `e` is the solver's error
  -- for it, and the clauses completed before it, `clauses`, were all added
  pub record ReadStops (e : SolverError) (answer : Result (Unit {0}) DimacsError) (old new : SolverView L) (clauses : List (List ℕ)) : Type 0 where
    pub fault : DimacsError
    pub answered : answer ≡ Err fault
    pub is : e ≡ text_fault fault
    pub mid : SolverView L
    pub added : AddsAll old clauses mid
    pub new_is : new ≡ with_fault fault mid

  -- `AnswersFormulaRead r answer old new clauses` holds if `r` is the result of adding `clauses`, which a parser with
  -- the result `answer` has completed: all were added and `answer` is no error, or `answer` or one of the clauses is
  -- the error
  abbrev pub AnswersFormulaRead : Result (Unit {0}) SolverError → Result (Unit {0}) DimacsError → SolverView L → SolverView L → List (List ℕ) → Type 0
  AnswersFormulaRead (Ok x) answer old new clauses = (answer ≡ Ok tt) × AddsAll old clauses new
  AnswersFormulaRead (Err e) answer old new clauses = ReadStops e answer old new clauses ⊎ StopsAtClause e old new clauses

  -- `AddsFormulaRead result answer parser old new` holds if `result` is that of adding the clauses that `parser` has
  -- completed but not passed on yet, after it reported `answer`
  abbrev pub AddsFormulaRead : Result (Unit {0}) SolverError → Result (Unit {0}) DimacsError → Progress → SolverView L → SolverView L → Type 0
  AddsFormulaRead result answer parser old new = (clauses : List (List ℕ)) × (clauses_read parser ≡ parser.taken ++ clauses) × AnswersFormulaRead result answer old new clauses
