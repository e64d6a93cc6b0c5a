use Rattle.sat_checker.proofs.lemmas.announcements.Rests.{tautologies}
use Rattle.sat_checker.proofs.lemmas.announcements.Exact.{in_turn, backwards}
use Rattle.sat_checker.proofs.lemmas.announcements.Deletions.{deletions}
use Rattle.sat_checker.proofs.law_announcements.propagations_run_to_conflict.Goals as goal

pub returns : goal.returns
returns c = record { in_turn = in_turn; exact = backwards; tautology = tautologies; deleted = deletions }
