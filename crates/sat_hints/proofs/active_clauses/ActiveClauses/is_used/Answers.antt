use Rattle.sat_hints.proofs.lemmas.Standing.{used_is}
use Rattle.sat_hints.proofs.active_clauses.ActiveClauses.is_used.Goals as goal

pub returns : goal.returns
returns c = used_is c.args.self.now c.args.var c.requires.store c.has.result c.has.ensures
