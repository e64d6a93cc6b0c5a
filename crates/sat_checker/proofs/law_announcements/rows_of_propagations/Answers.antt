use Rattle.sat_checker.proofs.lemmas.announcements.Notices.{refuted_reported, refuted_at_zero, named_twice, colliding}
use Rattle.sat_checker.proofs.lemmas.announcements.Others.{units_first, units_held, not_needed, unit_alone}
use Rattle.sat_checker.proofs.law_announcements.rows_of_propagations.Goals as goal

pub returns : goal.returns
returns c = record { refuted = refuted_reported; at_zero = refuted_at_zero; twice = named_twice; colliding = colliding; units = units_first; held = units_held; passed = not_needed; alone = unit_alone }
