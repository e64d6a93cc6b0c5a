use Rattle.sat_checker.proofs.lemmas.announcements.Clauses.{redundant_gone, redundant_stays, satisfied_gone, satisfied_kept, simplified_gone, simplified_by_empty, satisfied_stays}
use Rattle.sat_checker.proofs.law_announcements.rows_of_deleted.Goals as goal

pub returns : goal.returns
returns c = record { redundant = redundant_gone; redundant_stays = redundant_stays; satisfied = satisfied_gone; kept = satisfied_kept; simplified = simplified_gone; by_empty = simplified_by_empty; satisfied_stays = satisfied_stays }
