use Rattle.sat_hints.proofs.lemmas.Standing.{were_counted}
use Rattle.sat_hints.proofs.active_clauses.ActiveClauses.remove.Goals as goal

pub subtract-requires : goal.subtract-requires
subtract-requires c = were_counted c.args.self.now c.args.id c.in-Some.place c.requires c.in-Some.ensures c.clause.result.now c.clause.ensures
