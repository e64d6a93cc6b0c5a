use Rattle.std.proofs.Common.{◌≡◌, false, true, not, refl, sym, ap, ◌∙◌, subst}
use Rattle.sat_store.specs.clause.Buffer.{header_at}
use Rattle.sat_store.specs.clause.Header.{Header}
use Rattle.sat_parts.specs.clause.Db.{PutsHeader, is_live}
use Rattle.sat_parts.proofs.lemmas.prop.BuildLemmas.{live_place}
use Rattle.sat_parts.proofs.lemmas.clause.ListLemmas.{at_place}
use Rattle.sat_parts.proofs.lemmas.clause.HeaderLemmas.{holds_put}
use Rattle.sat_parts.proofs.clause.reduce.reduce_one.Goals as goal

pub returns-then-active-clause-db : goal.returns-then-active-clause-db
returns-then-active-clause-db c =
    let put = subst (λ (h : Header). PutsHeader c.args.clauses.now c.put_header.new.clauses c.args.db.now.refs c.args.cref h)
    (c.set_active.ensures ∙ ap (λ (h : Header). record h { active = false }) c.header-header.ensures.value)
    (c.put_header.ensures c.args.db.now.refs c.requires.db.holds_clauses c.requires.there) in
    (holds_put c.args.clauses.now c.put_header.new.clauses c.args.db.now c.args.cref (record (header_at c.args.clauses.now c.args.cref) { active = false }) c.requires.db put refl refl).0

pub returns-then-active-clause-live : goal.returns-then-active-clause-live
returns-then-active-clause-live c =
    let put = subst (λ (h : Header). PutsHeader c.args.clauses.now c.put_header.new.clauses c.args.db.now.refs c.args.cref h)
    (c.set_active.ensures ∙ ap (λ (h : Header). record h { active = false }) c.header-header.ensures.value)
    (c.put_header.ensures c.args.db.now.refs c.requires.db.holds_clauses c.requires.there) in
    (holds_put c.args.clauses.now c.put_header.new.clauses c.args.db.now c.args.cref (record (header_at c.args.clauses.now c.args.cref) { active = false }) c.requires.db put refl refl).1

pub set_clause_tier-requires-clause-live : goal.set_clause_tier-requires-clause-live
set_clause_tier-requires-clause-live c =
    let live : is_live c.args.clauses.now c.args.cref ≡ true = ap (λ b. not b) (ap (λ (h : Header). h.deleted) (sym c.header-header.ensures.value) ∙ sym c.deleted.ensures ∙ c.if-deleted.false) in
    live_place c.args.clauses.now c.args.db.now.refs c.requires.there.0 c.args.cref c.requires.there.1 (sym (at_place c.args.db.now.refs c.args.cref c.requires.there)) live
