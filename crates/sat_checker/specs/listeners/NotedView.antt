-- What is noted about a step.
use Rattle.std.specs.Prelude.{ℕ, ◌≡◌, ◌++◌, Bool, List, Result, IfOk, IsTrue}
use Rattle.sat_base.specs.steps.Steps.{Step}
use Rattle.sat_checker.specs.Stored.{Stored}
use Rattle.sat_checker.specs.announcements.Announcements.{Announcement, announced, announced_derived_set, id_of_set}
use Rattle.sat_checker.specs.inner.FormulaView.{RepresentsFormula}
use Rattle.sat_checker.specs.inner.StateView.{RepresentsStored}
use Rattle.sat_checker.specs.listeners.AnnouncingView.{announced_change, HasNoStoredUnitClause}
use Rattle.sat_checker.specs.declared.announce.step_announcements.StoreClauseResult.{StoreClauseResult}
use Rattle.sat_checker.specs.declared.formula.Formula.{Formula}
use Rattle.sat_checker.specs.declared.announce.notes.Notes.{Notes}
use Rattle.sat_checker.specs.declared.store.StoreError.{StoreError}
use Rattle.sat_checker.specs.declared.state.CheckerState.{CheckerState}

-- `AppendsAnnouncements before reported after` holds if these announcements were appended to the notes, provided that
-- there is a listener.
abbrev pub AppendsAnnouncements : Notes → List Announcement → Notes → Type 0
AppendsAnnouncements before reported after = IsTrue before.listening → after.news ≡ before.news ++ reported

-- `Announces result old step before after` holds if the announcements of the step, in the state `old`, were appended to
-- the notes `before`, provided that the step was accepted (`Ok(true)`) and there is a listener.
abbrev pub Announces : Result Bool StoreError → CheckerState → Step → Notes → Notes → Type 0
Announces result old step before after = IfOk result (λ accepted. IsTrue accepted → (f : Stored) → RepresentsStored old f → HasNoStoredUnitClause f → AppendsAnnouncements before (announced f step) after)

-- `ChangeIsAnnounced result redundant literals old` holds if the change that `result` reports for storing a derived
-- sorted set gives the announcement that the definition `announced_derived_set` gives, whatever its ids are.
abbrev pub ChangeIsAnnounced : Result StoreClauseResult StoreError → Bool → List ℕ → Formula → Type 0
ChangeIsAnnounced result redundant literals old = IfOk result (λ change. (f : Stored) → RepresentsFormula old f → HasNoStoredUnitClause f → (ids : List ℕ) → announced_change change f.next_id redundant literals ids ≡ announced_derived_set redundant literals ids f (id_of_set literals f))
