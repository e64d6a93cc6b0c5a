use Rattle.sat_solver.proofs.lemmas.session.CutsLemmas.{cuts_are_free}
use Rattle.sat_solver.proofs.lemmas.session.Narrowing.{widths_are_free}
use Rattle.sat_solver.proofs.lemmas.session.DueWidths.{widths_keep_order}
use Rattle.sat_solver.proofs.session.laws.widths_are_free.Goals as goal

pub returns : goal.returns
returns c = record { may = widths_are_free; order = widths_keep_order; cuts = cuts_are_free }
