use Rattle.sat_checker.proofs.lemmas.contents.Views.{contents_follow, contents_are_settled}
use Rattle.sat_checker.proofs.lemmas.contents.Steps.{contents_of_steps}
use Rattle.sat_checker.proofs.lemmas.invariants.Stored.{taking_counts, counted_is_stored}
use Rattle.sat_checker.proofs.law_stored.contents_follow_steps.Goals as goal

pub returns : goal.returns
returns c = record { step = contents_follow; settled = contents_are_settled; steps = contents_of_steps; taking = taking_counts; counted = counted_is_stored }
