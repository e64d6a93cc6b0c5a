-- The lines of a hint text for the steps of a certificate, in the order of their announcements.
use Rattle.std.specs.Prelude.{ℕ, true, false, Bool, Option, None, Some, List, [], ◌∷◌, length}
use Rattle.sat_base.specs.steps.Steps.{Step}
use Rattle.sat_checker.specs.announcements.Announcements.{Announcement, Notice, all_notices_after}
use Rattle.sat_checker.specs.announcements.Announcements as notices
use Rattle.sat_base.specs.text.Tokenizing.{capped}
use Rattle.sat_hints.specs.Lines.{Line, Input, Derived, Removed, Core, Fresh, text_of}
use Rattle.sat_hints.specs.Hints.{derives_empty, core_count}
use Rattle.sat_hints.specs.declared.answer.HintVerdict.{HintVerdict}
use Rattle.sat_hints.specs.declared.answer.HintVerdict.TheVariants.{Proved}

-- the line that removes the clause under this id, or `None` if the flag, which says that the clause is kept, is true
abbrev pub removal_line : Bool → ℕ → Option Line
removal_line true id = None
removal_line false id = Some (Removed id)

-- the line of an announcement: for a new input or derived clause, the removal of a clause, a core, or a deleted
-- variable (`Fresh`); otherwise `None`
abbrev pub announced_line : Announcement → Option Line
announced_line (notices.UserVar v user) = None
announced_line (notices.DeleteVar v) = Some (Fresh v)
announced_line (notices.AddClause id clause) = Some (Input id clause)
announced_line (notices.DuplicatedClause id same clause) = None
announced_line (notices.TautologicalClause id clause) = None
announced_line (notices.AtClause id redundant clause ids) = Some (Derived id clause ids)
announced_line (notices.MakeIrredundant id clause) = None
announced_line (notices.DeleteClause id clause) = Some (Removed id)
announced_line (notices.DeleteAtClause id kept clause ids) = removal_line kept id
announced_line (notices.DeleteRatClause id kept clause) = None
announced_line (notices.Model assignment) = None
announced_line (notices.Assumptions assumptions) = None
announced_line (notices.FailedAssumptions core ids) = Some (Core core ids)

-- the lines with this line, if there is one, added as the newest
abbrev pub with_line : Option Line → List Line → List Line
with_line None lines = lines
with_line (Some line) lines = line ∷ lines

-- the earlier lines and those of the announcements; announcements have the oldest first, lines the newest
abbrev pub announced_lines : List Notice → List Line → List Line
announced_lines [] earlier = earlier
announced_lines (t ∷ ts) earlier = announced_lines ts (with_line (announced_line t.announcement) earlier)

-- the lines of accepted steps, including the empty clause of a pending unit conflict; both lists have the newest first
abbrev pub lines_of_steps : List Step → List Line
lines_of_steps steps = announced_lines (all_notices_after steps) []

-- the text of the lines of accepted steps, the oldest line first in the text; the steps have the newest first
abbrev pub hint_text : List Step → List ℕ
hint_text steps = text_of (lines_of_steps steps)

-- the verdict `Proved` with the counts of the lines of accepted steps, capped at 2^64-1, and whether they derive an
-- empty clause
abbrev pub hint_verdict : List Step → HintVerdict
hint_verdict steps = let lines : List Line = lines_of_steps steps in Proved (derives_empty lines) (capped (core_count lines)) (capped (length lines))
