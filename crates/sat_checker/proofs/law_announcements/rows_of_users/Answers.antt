use Rattle.sat_checker.proofs.lemmas.announcements.Others.{name_new, name_of_known, name_removed, solver_name, mode_changed, mode_left, mode_nameless, modelled, assumed, core_failed, both_signs, others_report}
use Rattle.sat_checker.proofs.law_announcements.rows_of_users.Goals as goal

pub returns : goal.returns
returns c = record { name = name_new; known = name_of_known; removed = name_removed; solver_name = solver_name; mode = mode_changed; mode_left = mode_left; nameless = mode_nameless; model = modelled; assumed = assumed; core = core_failed; signs = both_signs; others = others_report }
