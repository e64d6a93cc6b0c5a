use Rattle.std.proofs.Common.{arith}
use Rattle.sat_store.proofs.lemmas.clause.HeldClauses.{same_count}
use Rattle.sat_parts.proofs.lemmas.clause.DbLemmas.{puts_header}
use Rattle.sat_parts.proofs.clause.db.put_header.Goals as goal

pub set_header-requires-clause-no_longer : goal.set_header-requires-clause-no_longer
set_header-requires-clause-no_longer c = omega (arith, same_count c.args.clauses.now c.args.cref c.requires.clause, c.requires.len)

pub returns : goal.returns
returns c = λ refs holds_clauses has.
    puts_header c.args.clauses.now c.set_header.new.self refs c.args.cref c.args.header holds_clauses has c.requires.len c.set_header.ensures.header c.set_header.ensures.lits c.set_header.ensures.others
