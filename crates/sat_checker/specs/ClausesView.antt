-- What contracts see of clauses that are added one after another.
use Rattle.std.specs.Prelude.{ℕ, ◌≡◌, ◌+◌, ◌≤◌, true, false, List, [], ◌∷◌, ◌++◌, map, Result, Ok, Err}
use Rattle.sat_base.specs.steps.Steps.{Step, AddClause}
use Rattle.sat_checker.specs.Accepts.{Accepts, stored_after, ready_after}
use Rattle.sat_checker.specs.CheckerView.{CheckerView, checker_has_failed, looks_of, HasAccepted, FailsBeforeStep, ListenerFailsAtStep, RunsOutOfMemoryAt}
use Rattle.sat_checker.specs.announcements.Announcements.{Notice}
use Rattle.sat_checker.specs.ProofView.{steps_after, most_looks_after, HasAcceptedUnfailed}
use Rattle.sat_checker.specs.Counters.{ExhaustsCounters}
use Rattle.sat_checker.specs.declared.error.CheckerError.{CheckerError}
use Rattle.sat_checker.specs.declared.error.CheckerError.TheVariants as errors
use Rattle.sat_checker.specs.declared.processing.ProcessingError.{ProcessingError}
use Rattle.sat_checker.specs.declared.processing.ProcessingError.TheVariants as faults

-- The steps that add these clauses.
abbrev pub additions : List (List ℕ) → List Step
additions = map AddClause

-- `AddsFirstClauses old new clauses added tried earlier` holds if `clauses` begins with `added` and then `tried`, the
-- checker `old` had not failed, and its looks rose at most by the bound for adding `added` and `tried` after the steps
-- `earlier`.
pub record AddsFirstClauses {L : Type 0} (old new : CheckerView L) (clauses added tried : List (List ℕ)) (earlier : List Step) : Type 0 where
  pub well : checker_has_failed old ≡ false
  pub left : List (List ℕ)
  pub split : clauses ≡ (added ++ tried) ++ left
  pub looks : looks_of new ≤ looks_of old + most_looks_after (additions (added ++ tried)) earlier

-- All accepted steps, the newest first, once these clauses are added after the earlier steps.
abbrev pub steps_after_additions : List (List ℕ) → List Step → List Step
steps_after_additions clauses earlier = steps_after (additions clauses) earlier

module _ {L : Type 0} (Receives : L → Notice → Result Unit ProcessingError → L → Type 0) (before : List Notice) (begun : L) where
  -- `AddClausesResultAfter Receives before begun result old new clauses earlier` holds if the result of adding the
  -- clauses is correct, after the steps `earlier`. They are added one by one, up to the first that is not accepted.
  -- After any error but a refused clause (`CheckFailed`), the checker has failed.
  abbrev pub AddClausesResultAfter : Result Unit CheckerError → CheckerView L → CheckerView L → List (List ℕ) → List Step → Type 0
  AddClausesResultAfter (Ok x) old new clauses earlier = AddsFirstClauses old new clauses clauses [] earlier × HasAcceptedUnfailed Receives before begun new (steps_after_additions clauses earlier)
  AddClausesResultAfter (Err errors.CheckFailed) old new clauses earlier =
      (added : List (List ℕ)) × (clause : List ℕ) × AddsFirstClauses old new clauses added (clause ∷ []) earlier
      × (Accepts (ready_after (steps_after_additions added earlier)) (AddClause clause) → ⊥) × HasAcceptedUnfailed Receives before begun new (steps_after_additions added earlier)
  AddClausesResultAfter (Err errors.CounterEnd) old new clauses earlier =
      (added : List (List ℕ)) × (clause : List ℕ) × AddsFirstClauses old new clauses added (clause ∷ []) earlier
      × ExhaustsCounters (AddClause clause) (stored_after (steps_after_additions added earlier)) × FailsBeforeStep Receives before begun new (steps_after_additions added earlier)
  AddClausesResultAfter (Err errors.OutOfMemory) old new clauses earlier =
      (added : List (List ℕ)) × (clause : List ℕ) × AddsFirstClauses old new clauses added (clause ∷ []) earlier
      × RunsOutOfMemoryAt Receives before begun new (AddClause clause) (steps_after_additions added earlier)
  AddClausesResultAfter (Err (errors.ProofProcessorError cause)) old new clauses earlier =
      (added : List (List ℕ)) × (clause : List ℕ) × AddsFirstClauses old new clauses added (clause ∷ []) earlier
      × ListenerFailsAtStep Receives before begun (faults.ProofProcessorError cause) new (AddClause clause) (steps_after_additions added earlier)
  AddClausesResultAfter (Err errors.HasFailed) old new clauses earlier = (checker_has_failed old ≡ true) × (new ≡ old)
  AddClausesResultAfter (Err errors.ProofIncomplete) old new clauses earlier = ⊥
  AddClausesResultAfter (Err errors.IoError) old new clauses earlier = ⊥
  AddClausesResultAfter (Err errors.ParseError) old new clauses earlier = ⊥

module _ {L : Type 0} (Receives : L → Notice → Result Unit ProcessingError → L → Type 0) where
  -- `AddClausesResult Receives result old new clauses` holds if the result of adding the clauses, one by one up to the
  -- first that is not accepted, is correct after whatever steps `old` has accepted. After any error but a refused
  -- clause (`CheckFailed`), the checker has failed.
  abbrev pub AddClausesResult : Result Unit CheckerError → CheckerView L → CheckerView L → List (List ℕ) → Type 0
  AddClausesResult result old new clauses = (before : List Notice) (begun : L) (steps : List Step) → HasAccepted Receives before begun old steps → AddClausesResultAfter Receives before begun result old new clauses steps
