use Rattle.std.proofs.Common.{[], refl}
use Rattle.sat_base.proofs.lemmas.device.Given.{gave_none}
use Rattle.sat_base.proofs.lemmas.dimacs.ReadToEnd.{none_has_ended, stops_none}
use Rattle.sat_solver.proofs.lemmas.facade.LawLemmas.{calls_go_on}
use Rattle.sat_solver.proofs.lemmas.facade.ReachedLemmas.{text_reached}
use Rattle.sat_solver.proofs.facade.Solver.add_dimacs_cnf.Goals as goal

pub returns-then-is_failed-clause-stops : goal.returns-then-is_failed-clause-stops
returns-then-is_failed-clause-stops g c = ([], gave_none _, stops_none, λ ended. absurd (none_has_ended ended))

pub returns-then-is_failed-clause-text : goal.returns-then-is_failed-clause-text
returns-then-is_failed-clause-text g c = (calls_go_on c.args.self.now c.args.self.now).stays refl

pub returns-clause-text : goal.returns-clause-text
returns-clause-text g c = text_reached g.P.ProofProcessor.takes c.add_text.result c.args.self.now c.add_text.new.self (g.R.CountedRead.seen c.args.reader.now) (g.R.CountedRead.seen c.add_text.new.reader) c.add_text.ensures.adds
