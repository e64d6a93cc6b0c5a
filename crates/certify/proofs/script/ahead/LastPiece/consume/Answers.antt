use Rattle.certify.proofs.lemmas.script.LastPieces.{waiting_taken}
use Rattle.certify.proofs.script.ahead.LastPiece.consume.Goals as goal

pub returns-clause-waiting : goal.returns-clause-waiting
returns-clause-waiting c = let a = c.args.self.now in waiting_taken a.piece a.at a.end c.args.count a.ordered c.requires
