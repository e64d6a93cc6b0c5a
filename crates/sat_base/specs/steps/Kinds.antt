-- Steps as a kind and separate lists.
use Rattle.std.specs.Prelude.{ℕ, ◌==◌, ◌||◌, ◌&&◌, Bool, List, nat_lt}
use Rattle.sat_base.specs.declared.steps.kind.StepKind.{StepKind}
use Rattle.sat_base.specs.declared.steps.step_lists.Lists.{Lists}
use Rattle.sat_base.specs.declared.steps.kind.StepKind.TheVariants as code
use Rattle.sat_base.specs.steps.Steps.{Step, SolverVarName, UserVarName, DeleteVar, ChangeSamplingMode, AddClause, AtClause, UnitClauses, DeleteClause, ChangeHashBits, Model, Assumptions, FailedAssumptions, End}
use Rattle.sat_base.specs.steps.StepViews.{deletion_of}

-- the step of a kind with these literals, hashes and units
abbrev pub step_with : StepKind → List ℕ → List ℕ → List (ℕ × ℕ) → Step
step_with (code.SolverVarName global solver) literals hashes units = SolverVarName global solver
step_with (code.UserVarName global user) literals hashes units = UserVarName global user
step_with (code.DeleteVar var) literals hashes units = DeleteVar var
step_with (code.ChangeSamplingMode var sample) literals hashes units = ChangeSamplingMode var sample
step_with code.AddClause literals hashes units = AddClause literals
step_with (code.AtClause redundant) literals hashes units = AtClause redundant literals hashes
step_with code.UnitClauses literals hashes units = UnitClauses units
step_with (code.DeleteClause proof) literals hashes units = DeleteClause literals (deletion_of proof)
step_with (code.ChangeHashBits bits) literals hashes units = ChangeHashBits bits
step_with code.Model literals hashes units = Model literals
step_with code.Assumptions literals hashes units = Assumptions literals
step_with code.FailedAssumptions literals hashes units = FailedAssumptions literals hashes
step_with code.End literals hashes units = End

-- the step of a kind with the literals, hashes and units of these lists
abbrev pub step_of_lists : Lists → StepKind → Step
step_of_lists l k = step_with k l.literals.items l.hashes.items l.units.items

-- the literals and the hashes of these lists
abbrev pub literals_and_hashes : Lists → List ℕ × List ℕ
literals_and_hashes l = (l.literals.items, l.hashes.items)

-- `is_tag tag` is true if the number is a tag of a step, from 1 to 13.
abbrev pub is_tag : ℕ → Bool
is_tag tag = nat_lt 0 tag && nat_lt tag 14

-- `has_lists tag` is true if steps with this tag have lists: of literals, hashes or units.
abbrev pub has_lists : ℕ → Bool
has_lists tag = tag == 5 || tag == 6 || tag == 7 || tag == 8 || tag == 10 || tag == 11 || tag == 12
