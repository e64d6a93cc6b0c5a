-- What an announcement of the code represents, and the variables that may be looked up during it.
use Rattle.std.specs.Prelude.{ℕ, ◌==◌, Bool, true, false, Option, None, Some, if◌then◌else◌}
use Rattle.std.specs.Borrow.{Bor}
use Rattle.std.specs.Option.{option_map}
use Rattle.sat_checker.specs.Stored.{Variable}
use Rattle.sat_checker.specs.announcements.Announcements.{UserVariable, Announcement, UserVar, DeleteVar, AddClause, DuplicatedClause, TautologicalClause, AtClause, MakeIrredundant, DeleteClause, DeleteAtClause, DeleteRatClause, Model, Assumptions, FailedAssumptions, Notice}
use Rattle.sat_checker.specs.inner.VariablesView.{variable_at, variable_of_data}
use Rattle.sat_checker.specs.declared.announce.announcement.CheckedSamplingMode.{CheckedSamplingMode}
use Rattle.sat_checker.specs.declared.announce.announcement.CheckedSamplingMode.TheVariants as modes
use Rattle.sat_checker.specs.declared.announce.announcement.CheckedUserVar.{CheckedUserVar}
use Rattle.sat_checker.specs.declared.announce.announcement.CheckedProofStep.{CheckedProofStep}
use Rattle.sat_checker.specs.declared.announce.announcement.CheckedProofStep.TheVariants as code
use Rattle.sat_checker.specs.declared.announce.announcement.CheckerData.{CheckerData}
use Rattle.sat_checker.specs.declared.announce.announcement.EarlierData.{EarlierData}

-- `is_sampling mode` is true if the mode that the code announces is sample; otherwise it is witness.
abbrev pub is_sampling : CheckedSamplingMode → Bool
is_sampling modes.Sample = true
is_sampling modes.Witness = false

-- What is announced about a variable that has a name, as the code represents it.
abbrev pub announced_user : CheckedUserVar → UserVariable
announced_user u = record { name = u.user_var; sampling = is_sampling u.sampling_mode; is_new = u.new_var }

-- The announcement that the code's announcement represents.
abbrev pub announcement_of : CheckedProofStep → Announcement
announcement_of (code.UserVar var user) = UserVar var (option_map announced_user user)
announcement_of (code.DeleteVar var) = DeleteVar var
announcement_of (code.AddClause id clause) = AddClause id clause.now
announcement_of (code.DuplicatedClause id same clause) = DuplicatedClause id same clause.now
announcement_of (code.TautologicalClause id clause) = TautologicalClause id clause.now
announcement_of (code.AtClause id redundant clause ids) = AtClause id redundant clause.now ids.now
announcement_of (code.MakeIrredundant id clause) = MakeIrredundant id clause.now
announcement_of (code.DeleteClause id clause) = DeleteClause id clause.now
announcement_of (code.DeleteAtClause id kept clause ids) = DeleteAtClause id kept clause.now ids.now
announcement_of (code.DeleteRatClause id kept clause pivot resolvents) = DeleteRatClause id kept clause.now
announcement_of (code.Model assignment) = Model assignment.now
announcement_of (code.Assumptions assumptions) = Assumptions assumptions.now
announcement_of (code.FailedAssumptions core ids) = FailedAssumptions core.now ids.now

-- The variables, but with the earlier data that is given for one of them, if any.
abbrev pub looked_up : Option (Bor EarlierData) → (ℕ → Variable) → ℕ → Variable
looked_up None variables = variables
looked_up (Some was) variables = λ v. if v == was.now.var then variable_of_data was.now.data else variables v

-- The data of all variables that may be looked up during an announcement: that from before the announced step.
abbrev pub variables_of : CheckerData → ℕ → Variable
variables_of names = looked_up names.was (variable_at names.variables.now)

-- The announcement that the code's `step` represents, with the variables that `names` makes available to the listener.
abbrev pub notice_of : CheckedProofStep → CheckerData → Notice
notice_of step names = record { announcement = announcement_of step; variables = variables_of names }
