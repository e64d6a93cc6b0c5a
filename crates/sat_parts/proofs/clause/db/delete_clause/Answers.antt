use Rattle.std.proofs.lemmas.Grind.{common_steps}
use Rattle.std.proofs.Common.{arith}
use Rattle.std.proofs.Common.{◌∙◌, true, ap, subst}
use Rattle.sat_store.specs.clause.Buffer.{header_at}
use Rattle.sat_store.specs.clause.Header.{Header}
use Rattle.sat_parts.specs.clause.Db.{PutsHeader}
use Rattle.sat_parts.proofs.lemmas.prop.BuildLemmas.{live_in}
use Rattle.sat_parts.proofs.lemmas.clause.DbLemmas.{live_clause, counted_one, deleted_by}
use Rattle.sat_parts.proofs.clause.db.delete_clause.Goals as goal

pub header-header-requires : goal.header-header-requires
header-header-requires c = live_clause c.args.clauses.now c.args.db.now c.args.cref c.requires.db c.requires.live

pub count_less-requires : goal.count_less-requires
count_less-requires c = grind (arith, common_steps, counted_one)

pub put_header-requires-clause-clause : goal.put_header-requires-clause-clause
put_header-requires-clause-clause c = live_clause c.args.clauses.now c.args.db.now c.args.cref c.requires.db c.requires.live

pub returns-clause-deleted : goal.returns-clause-deleted
returns-clause-deleted c =
    let put : PutsHeader c.args.clauses.now c.put_header.new.clauses c.args.db.now.refs c.args.cref (record (header_at c.args.clauses.now c.args.cref) { deleted = true }) =
    subst (λ (h : Header). PutsHeader c.args.clauses.now c.put_header.new.clauses c.args.db.now.refs c.args.cref h)
    (c.set_deleted.ensures ∙ ap (λ (h : Header). record h { deleted = true }) c.header-header.ensures.value)
    (c.put_header.ensures c.args.db.now.refs c.requires.db.holds_clauses (live_in c.args.clauses.now c.args.db.now.refs c.args.cref c.requires.live)) in
    rw (c.waste.ensures, c.count_less.ensures, c.tier.ensures, c.len.ensures.value, c.header-header.ensures.value)
    (deleted_by c.args.clauses.now c.args.db.now c.put_header.new.clauses c.args.cref c.requires.db c.requires.live put)
