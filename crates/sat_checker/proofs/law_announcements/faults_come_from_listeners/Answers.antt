use Rattle.sat_checker.proofs.lemmas.listeners.Heard.{nobody_fails}
use Rattle.sat_checker.proofs.law_announcements.faults_come_from_listeners.Goals as goal

pub returns : goal.returns
returns g c = nobody_fails g.P.ProofProcessor.takes g.T.ProofTranscriptProcessor.reads
