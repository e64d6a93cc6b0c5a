use Rattle.std.proofs.lemmas.Grind.{common_steps}
use Rattle.std.proofs.Common.{◌≡◌, take, ap, ◌∙◌, arith}
use Rattle.sat_store.specs.clause.Buffer.{header_at, lits_at}
use Rattle.sat_store.specs.clause.Header.{Header}
use Rattle.sat_store.proofs.lemmas.clause.HeldClauses.{same_count}
use Rattle.sat_parts.proofs.lemmas.clause.DbLemmas.{live_clause, shortens}
use Rattle.sat_parts.proofs.clause.db.shorten_clause.Goals as goal

pub header-header-requires : goal.header-header-requires
header-header-requires c = live_clause c.args.clauses.now c.args.db.now c.args.cref c.requires.db c.requires.live

pub set_len-requires : goal.set_len-requires
set_len-requires c = grind (arith, common_steps, same_count, live_clause)

pub set_header-requires-clause-clause : goal.set_header-requires-clause-clause
set_header-requires-clause-clause c = live_clause c.args.clauses.now c.args.db.now c.args.cref c.requires.db c.requires.live

pub returns-clause-shortened : goal.returns-clause-shortened
returns-clause-shortened c =
    let e : c.set_len.new.self ≡ record (header_at c.args.clauses.now c.args.cref) { len = c.args.len } = c.set_len.ensures ∙ ap (λ (h : Header). record h { len = c.args.len }) c.header-header.ensures.value in
    shortens c.args.clauses.now c.args.db.now c.set_header.new.self c.args.cref c.args.len c.requires.db c.requires.live c.requires.long c.requires.no_longer
    (c.set_header.ensures.header ∙ e) (c.set_header.ensures.lits ∙ ap (λ (h : Header). take h.len (lits_at c.args.clauses.now c.args.cref)) e) c.set_header.ensures.others
