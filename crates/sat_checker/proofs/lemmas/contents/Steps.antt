-- After any steps, the contents of what is stored are the contents computed from the steps.
use Rattle.std.proofs.Common.{◌≡◌, Bool, true, false, List, [], ◌∷◌, refl, ◌∙◌, ap, None}
use Rattle.sat_base.specs.steps.Steps.{Step}
use Rattle.sat_checker.specs.Accepts.{stored_after, ready_after}
use Rattle.sat_checker.specs.Contents.{contents, count_in, empty_state, contents_after, contents_of}
use Rattle.sat_checker.specs.Invariants.{ContentsAfterSteps}
use Rattle.sat_checker.proofs.lemmas.contents.Views.{contents_follow, contents_are_settled}
use Rattle.sat_checker.proofs.lemmas.invariants.Counted.{tidy_clauses}

none_counts : (r : Bool) → count_in r None ≡ 0
none_counts true = refl
none_counts false = refl

stored : (steps : List Step) → contents (stored_after steps) ≡ contents_of steps
stored [] = λ i. record { state = record empty_state { counts = λ r set. none_counts r i }; ended = false; var_deleted = false }
stored (step ∷ earlier) =
    contents_follow (ready_after earlier) step (tidy_clauses earlier).once ∙ ap (contents_after step) (contents_are_settled (stored_after earlier) ∙ stored earlier)

pub contents_of_steps : ContentsAfterSteps
contents_of_steps steps = contents_are_settled (stored_after steps) ∙ stored steps
