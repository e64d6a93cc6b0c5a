use Rattle.std.proofs.Common.{arith}
use Rattle.sat_parts.proofs.lemmas.prop.BuildLemmas.{live_in}
use Rattle.sat_parts.proofs.lemmas.clause.DbLemmas.{live_clause}
use Rattle.sat_parts.proofs.clause.db.try_delete_clause.Goals as goal

pub is_asserting-requires-clause-clause : goal.is_asserting-requires-clause-clause
is_asserting-requires-clause-clause c = live_clause c.args.clauses.now c.args.db.now c.args.cref c.requires.db c.requires.live

pub is_asserting-requires-clause-some : goal.is_asserting-requires-clause-some
is_asserting-requires-clause-some c = omega (arith, c.requires.db.long c.args.cref (live_in c.args.clauses.now c.args.db.now.refs c.args.cref c.requires.live))
