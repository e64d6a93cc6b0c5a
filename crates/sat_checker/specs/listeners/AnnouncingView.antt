-- What a step will announce, given what is stored before it.
use Rattle.std.specs.Prelude.{ℕ, ◌≡◌, Bool, List, [], ◌∷◌, None, ◌==◌, if◌then◌else◌}
use Rattle.sat_checker.specs.Stored.{Stored}
use Rattle.sat_checker.specs.Storing.{clause_with}
use Rattle.sat_checker.specs.announcements.Announcements.{Announcement, AtClause, MakeIrredundant, redundant_deletion, irredundant_deletion, option_to_list}
use Rattle.sat_checker.specs.inner.StoreView.{found_clause}
use Rattle.sat_checker.specs.declared.store.Placed.{Placed}
use Rattle.sat_checker.specs.declared.announce.step_announcements.StoreClauseResult.{StoreClauseResult}
use Rattle.sat_checker.specs.declared.announce.step_announcements.StoreClauseResult.TheVariants as results
use Rattle.sat_checker.specs.declared.announce.step_announcements.Deletion.{Deletion}

-- The announcement of a derived clause, given what storing it changed: new under `id`, newly irredundant under the id
-- that it has already, or no announcement for a duplicate.
abbrev pub announced_change : StoreClauseResult → ℕ → Bool → List ℕ → List ℕ → List Announcement
announced_change results.New id redundant literals ids = AtClause id redundant literals ids ∷ []
announced_change (results.NewlyIrredundant same) id redundant literals ids = MakeIrredundant same literals ∷ []
announced_change results.Duplicate id redundant literals ids = []

-- What storing a clause of two or more literals, as redundant (true) or as irredundant, changed, given how it was
-- placed: the clause is new, was stored only as redundant and is now irredundant, or is a duplicate.
abbrev pub change_in : Bool → Placed → StoreClauseResult
change_in redundant p = if p.is_new then results.New else if redundant then results.Duplicate else if p.irredundant == 0 then results.NewlyIrredundant p.id else results.Duplicate

-- The announcement when the clause with these literals loses a count, given how it was stored, whether the count is
-- redundant, and the id, if any, of the unit or clause that justifies the deletion.
abbrev pub deletion_announced : List ℕ → Deletion → List Announcement
deletion_announced literals d = if d.redundant then redundant_deletion (found_clause literals d.stored) else irredundant_deletion (option_to_list d.from) (found_clause literals d.stored)

-- `HasNoStoredUnitClause f` holds if no clause of one literal is stored among the clauses of two or more.
abbrev pub HasNoStoredUnitClause : Stored → Type 0
HasNoStoredUnitClause f = (l : ℕ) → clause_with (l ∷ []) f.clauses ≡ None
