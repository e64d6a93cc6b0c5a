use Rattle.std.proofs.Common.{true, refl, ap, ◌∙◌, subst}
use Rattle.sat_store.specs.clause.Buffer.{header_at}
use Rattle.sat_store.specs.clause.Header.{Header}
use Rattle.sat_parts.specs.clause.Db.{PutsHeader}
use Rattle.sat_parts.proofs.lemmas.clause.HeaderLemmas.{holds_put}
use Rattle.sat_parts.proofs.clause.reduce.mark_one.Goals as goal

pub returns-clause-db : goal.returns-clause-db
returns-clause-db c =
    let put = subst (λ (h : Header). PutsHeader c.args.clauses.now c.put_header.new.clauses c.args._db.now.refs c.args.cref h)
    (c.set_mark.ensures ∙ ap (λ (h : Header). record h { mark = true }) c.header-header.ensures.value)
    (c.put_header.ensures c.args._db.now.refs c.requires.db.holds_clauses c.requires.there) in
    (holds_put c.args.clauses.now c.put_header.new.clauses c.args._db.now c.args.cref (record (header_at c.args.clauses.now c.args.cref) { mark = true }) c.requires.db put refl refl).0

pub returns-clause-live : goal.returns-clause-live
returns-clause-live c =
    let put = subst (λ (h : Header). PutsHeader c.args.clauses.now c.put_header.new.clauses c.args._db.now.refs c.args.cref h)
    (c.set_mark.ensures ∙ ap (λ (h : Header). record h { mark = true }) c.header-header.ensures.value)
    (c.put_header.ensures c.args._db.now.refs c.requires.db.holds_clauses c.requires.there) in
    (holds_put c.args.clauses.now c.put_header.new.clauses c.args._db.now c.args.cref (record (header_at c.args.clauses.now c.args.cref) { mark = true }) c.requires.db put refl refl).1
