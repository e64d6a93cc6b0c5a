-- Which steps are ordered, by their tags. Other steps do not change the variables of names.
use Rattle.std.proofs.Common.{◌≡◌, ℕ, Bool, false, List, ◌∷◌, refl, sym, ap, ◌∙◌}
use Rattle.std.proofs.lemmas.Bool.{true≢false}
use Rattle.sat_base.specs.steps.Steps.{Step, SolverVarName, UserVarName}
use Rattle.sat_base.specs.steps.StepText.{tag_of}
use Rattle.sat_checker.specs.matching.Checking.{is_ordered, variable_named}
use Rattle.certify.specs.confirm.Stepping.{is_ordered_tag}

tag_is_ordered : (s : Step) → is_ordered_tag (tag_of s) ≡ is_ordered s
tag_is_ordered (SolverVarName global solver) = refl
tag_is_ordered step = refl

pub ordered_by_tag : (s : Step) (tag : ℕ) (answer b : Bool) → tag ≡ tag_of s → answer ≡ is_ordered_tag tag → answer ≡ b → is_ordered s ≡ b
ordered_by_tag s tag answer b e f g = sym (tag_is_ordered s) ∙ ap is_ordered_tag (sym e) ∙ sym f ∙ g

-- an unordered step does not change the variable of any name
pub unordered_names : (step : Step) (earlier : List Step) → is_ordered step ≡ false → variable_named (step ∷ earlier) ≡ variable_named earlier
unordered_names (UserVarName v name) earlier h = absurd (true≢false h)
unordered_names step earlier h = refl
