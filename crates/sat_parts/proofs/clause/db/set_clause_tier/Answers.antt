use Rattle.std.proofs.lemmas.Grind.{common_steps}
use Rattle.std.proofs.Common.{arith}
use Rattle.std.proofs.Common.{◌≡◌, ◌≢◌, ◌∙◌, sym, ap, subst}
use Rattle.sat_store.specs.clause.Buffer.{header_at}
use Rattle.sat_store.specs.clause.Header.{Header, tier_index}
use Rattle.sat_store.specs.declared.clause.tier.Tier.{Tier}
use Rattle.sat_parts.specs.clause.Db.{PutsHeader}
use Rattle.sat_parts.proofs.lemmas.prop.BuildLemmas.{live_in}
use Rattle.sat_parts.proofs.lemmas.clause.DbLemmas.{live_clause, counted_one, room_in_tier, moves}
use Rattle.sat_parts.proofs.clause.db.set_clause_tier.Goals as goal

pub header-header-requires : goal.header-header-requires
header-header-requires c = live_clause c.args.clauses.now c.args.db.now c.args.cref c.requires.db c.requires.live

pub count_less-requires : goal.count_less-requires
count_less-requires c = grind (arith, common_steps, counted_one)

pub count_more-requires : goal.count_more-requires
count_more-requires c = grind (arith, common_steps, room_in_tier)

pub put_header-requires-clause-clause : goal.put_header-requires-clause-clause
put_header-requires-clause-clause c = live_clause c.args.clauses.now c.args.db.now c.args.cref c.requires.db c.requires.live

pub returns : goal.returns
returns c =
    let e : c.tier-old.result ≡ (header_at c.args.clauses.now c.args.cref).tier = c.tier-old.ensures ∙ ap (λ (h : Header). h.tier) c.header-header.ensures.value in
    let differ : tier_index (header_at c.args.clauses.now c.args.cref).tier ≢ tier_index c.args.tier = λ q.
    c.if-index.false (c.index.ensures ∙ ap (λ (t : Tier). tier_index t) e ∙ q ∙ sym c.index-2.ensures) in
    let put : PutsHeader c.args.clauses.now c.put_header.new.clauses c.args.db.now.refs c.args.cref (record (header_at c.args.clauses.now c.args.cref) { tier = c.args.tier }) =
    subst (λ (h : Header). PutsHeader c.args.clauses.now c.put_header.new.clauses c.args.db.now.refs c.args.cref h)
    (c.set_tier.ensures ∙ ap (λ (h : Header). record h { tier = c.args.tier }) c.header-header.ensures.value)
    (c.put_header.ensures c.args.db.now.refs c.requires.db.holds_clauses (live_in c.args.clauses.now c.args.db.now.refs c.args.cref c.requires.live)) in
    rw (c.count_more.ensures, c.count_less.ensures, e)
    (moves c.args.clauses.now c.args.db.now c.put_header.new.clauses c.args.cref c.args.tier c.requires.db c.requires.live differ put)
