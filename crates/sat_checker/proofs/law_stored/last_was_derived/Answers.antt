use Rattle.sat_checker.specs.Accepts.{stored_after}
use Rattle.sat_checker.proofs.lemmas.invariants.Last.{derived_is_last, last_stays, last_is_settled}
use Rattle.sat_checker.proofs.lemmas.meaning.Orderly.{orderly_settled}
use Rattle.sat_checker.proofs.lemmas.meaning.OrderlySteps.{orderly}
use Rattle.sat_checker.proofs.law_stored.last_was_derived.Goals as goal

pub returns : goal.returns
returns c = record { orderly = λ steps a. orderly_settled (stored_after steps) (orderly steps a); derived = derived_is_last; stays = last_stays; settled = last_is_settled }
