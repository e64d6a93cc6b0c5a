use Rattle.sat_hints.proofs.lemmas.Standing.{few_uses}
use Rattle.sat_hints.proofs.active_clauses.ActiveClauses.push.Goals as goal

pub add-requires-clause-few : goal.add-requires-clause-few
add-requires-clause-few c = few_uses c.args.self.now.present c.push.new.self c.args.self.now.uses c.args.id c.args.clause.now c.requires.active.store c.requires.active.counted c.requires.increasing c.in_ok-push.ensures
