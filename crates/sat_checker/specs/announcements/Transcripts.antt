-- What a transcript reports about an announcement, with the user's names.
use Rattle.std.specs.Prelude.{ℕ, ◌+◌, ◌*◌, ◌%◌, List, [], ◌∷◌, Option, None, Some, if◌then◌else◌}
use Rattle.sat_base.specs.values.Literals.{variable}
use Rattle.sat_checker.specs.Stored.{Mode, Variable}
use Rattle.sat_checker.specs.announcements.Announcements.{UserVariable, Announcement, UserVar, DeleteVar, DuplicatedClause, TautologicalClause, AtClause, MakeIrredundant, DeleteClause, DeleteAtClause, DeleteRatClause, Assumptions, is_sample, Notice}
use Rattle.sat_checker.specs.announcements.Announcements as announcements

-- A step of a transcript. A variable is the index of its name or, if it has mode sample and no name, its own index; a
-- literal is a code over these.
pub data Transcribed : Type 0 where
  WitnessVar : ℕ → Transcribed
  SampleVar : ℕ → Transcribed
  HideVar : ℕ → Transcribed
  ObserveInternalVar : ℕ → Transcribed
  AddClause : List ℕ → Transcribed
  Unsat : Transcribed
  Model : List ℕ → Transcribed
  Assume : List ℕ → Transcribed
  FailedAssumptions : List ℕ → Transcribed

-- The given name or, if it is `None`, the variable's own index `v` if the mode is sample, and `None` otherwise.
abbrev pub name_or_itself : ℕ → Mode → Option ℕ → Option ℕ
name_or_itself v mode (Some name) = Some name
name_or_itself v mode None = if is_sample mode then Some v else None

-- The number by which a user knows variable `v`: its name or, if it has none and its mode is sample, its own index;
-- otherwise `None`.
abbrev pub user_from_proof_var : (ℕ → Variable) → ℕ → Option ℕ
user_from_proof_var variables v = name_or_itself v (variables v).mode (variables v).name

-- The list `ls` and, before it, the literal of the given name with the sign of `l`; only `ls` if there is no name.
abbrev pub prepend_named : ℕ → Option ℕ → List ℕ → List ℕ
prepend_named l None ls = ls
prepend_named l (Some name) ls = (2 * name + l % 2) ∷ ls

-- The literals with the user's names. A sample variable without a name keeps its own index; literals of any other
-- variable without a name are dropped.
abbrev pub in_user_names : (ℕ → Variable) → List ℕ → List ℕ
in_user_names variables [] = []
in_user_names variables (l ∷ ls) = prepend_named l (user_from_proof_var variables (variable l)) (in_user_names variables ls)

-- The transcript step when the name of a variable is removed, given that name: `HideVar`, or none if it had no name.
abbrev pub name_removal_transcript : Option ℕ → Option Transcribed
name_removal_transcript None = None
name_removal_transcript (Some name) = Some (HideVar name)

-- The transcript step for an announced name, given the variable's name before. If it had none, the step is
-- `ObserveInternalVar`, or none for a new variable; otherwise only its mode changed, and the step is `SampleVar` or
-- `WitnessVar`.
abbrev pub naming_transcript : UserVariable → Option ℕ → Option Transcribed
naming_transcript u None = if u.is_new then None else Some (ObserveInternalVar u.name)
naming_transcript u (Some name) = Some (if u.sampling then SampleVar u.name else WitnessVar u.name)

-- The transcript step for a derived clause: `Unsat` if it is empty, otherwise none.
abbrev pub derived_transcript : List ℕ → Option Transcribed
derived_transcript [] = Some Unsat
derived_transcript (l ∷ ls) = None

-- The transcript step for an announcement, if any, given the variables before the step.
abbrev pub transcript : (ℕ → Variable) → Announcement → Option Transcribed
transcript variables (UserVar v None) = name_removal_transcript (variables v).name
transcript variables (UserVar v (Some u)) = naming_transcript u (variables v).name
transcript variables (DeleteVar v) = None
transcript variables (announcements.AddClause id clause) = Some (AddClause (in_user_names variables clause))
transcript variables (DuplicatedClause id same clause) = Some (AddClause (in_user_names variables clause))
transcript variables (TautologicalClause id clause) = Some (AddClause (in_user_names variables clause))
transcript variables (AtClause id redundant clause ids) = derived_transcript clause
transcript variables (MakeIrredundant id clause) = None
transcript variables (DeleteClause id clause) = None
transcript variables (DeleteAtClause id kept clause ids) = None
transcript variables (DeleteRatClause id kept clause) = None
transcript variables (announcements.Model ls) = Some (Model (in_user_names variables ls))
transcript variables (Assumptions ls) = Some (Assume (in_user_names variables ls))
transcript variables (announcements.FailedAssumptions core ids) = Some (FailedAssumptions (in_user_names variables core))

-- The transcript steps with this step before them, if there is one.
abbrev pub with_transcript : Option Transcribed → List Transcribed → List Transcribed
with_transcript None ts = ts
with_transcript (Some t) ts = t ∷ ts

-- The transcript of these notices, the oldest first.
abbrev pub transcripts : List Notice → List Transcribed
transcripts [] = []
transcripts (t ∷ ts) = with_transcript (transcript t.variables t.announcement) (transcripts ts)
