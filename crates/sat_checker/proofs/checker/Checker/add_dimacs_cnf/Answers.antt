use Rattle.std.proofs.Common.{[]}
use Rattle.sat_base.proofs.lemmas.device.Given.{gave_none}
use Rattle.sat_base.proofs.lemmas.dimacs.ReadToEnd.{none_has_ended, stops_none}
use Rattle.sat_checker.specs.CheckerView.{view_of}
use Rattle.sat_checker.proofs.lemmas.listeners.Somebody.{dimacs_faults}
use Rattle.sat_checker.proofs.checker.Checker.add_dimacs_cnf.Goals as goal

pub returns-clause-faults : goal.returns-clause-faults
returns-clause-faults g c = λ steps s. dimacs_faults g.P.ProofProcessor.takes g.T.ProofTranscriptProcessor.reads (view_of c.args.self.now) _ steps s c.add_text.result _ _ c.add_text.ensures.adds

pub returns-then-self-clause-stops : goal.returns-then-self-clause-stops
returns-then-self-clause-stops g c = ([], gave_none _, stops_none, λ ended. absurd (none_has_ended ended))
