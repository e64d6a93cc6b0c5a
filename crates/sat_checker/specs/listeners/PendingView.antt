-- What a pending announcement will say.
use Rattle.std.specs.Prelude.{ℕ, ◌<◌, List, [], length, slice_index_or}
use Rattle.std.specs.Option.{option_map}
use Rattle.sat_checker.specs.announcements.Announcements.{Announcement, UserVar, DeleteVar, AddClause, DuplicatedClause, TautologicalClause, AtClause, MakeIrredundant, DeleteClause, DeleteAtClause, Model, Assumptions, FailedAssumptions}
use Rattle.sat_checker.specs.listeners.AnnouncementView.{announced_user}
use Rattle.sat_checker.specs.declared.announce.pending.AnnouncementKind.{AnnouncementKind}
use Rattle.sat_checker.specs.declared.announce.pending.AnnouncementKind.TheVariants as kinds
use Rattle.sat_checker.specs.declared.announce.pending.Item.{Item}

-- The announcement of this kind, with these literals (a clause, model, assumptions or core) and these ids of what it
-- follows from.
abbrev pub announcement_with : AnnouncementKind → List ℕ → List ℕ → Announcement
announcement_with (kinds.UserVar var user) literals ids = UserVar var (option_map announced_user user)
announcement_with (kinds.DeleteVar var) literals ids = DeleteVar var
announcement_with (kinds.AddClause id) literals ids = AddClause id literals
announcement_with (kinds.DuplicatedClause id same) literals ids = DuplicatedClause id same literals
announcement_with (kinds.TautologicalClause id) literals ids = TautologicalClause id literals
announcement_with (kinds.AtClause id redundant) literals ids = AtClause id redundant literals ids
announcement_with (kinds.MakeIrredundant id) literals ids = MakeIrredundant id literals
announcement_with (kinds.DeleteClause id) literals ids = DeleteClause id literals
announcement_with (kinds.DeleteAtClause id kept) literals ids = DeleteAtClause id kept literals ids
announcement_with kinds.Model literals ids = Model literals
announcement_with kinds.Assumptions literals ids = Assumptions literals
announcement_with kinds.FailedAssumptions literals ids = FailedAssumptions literals ids

-- The announcement of a pending item, with the literals and the ids that are at its places in the two lists, or the
-- empty list if there is no such place.
abbrev pub announcement_at : List (List ℕ) → List (List ℕ) → Item → Announcement
announcement_at literals ids i = announcement_with i.kind (slice_index_or literals i.literals []) (slice_index_or ids i.ids [])

-- `IsItem literals ids i` holds if the item's places in the lists of literals and of ids exist.
pub record IsItem (literals ids : List (List ℕ)) (i : Item) : Type 0 where
  pub literals_within : i.literals < length literals
  pub ids_within : i.ids < length ids
