use Rattle.std.proofs.Common.{◌<◌, ◌≡◌, ◌∙◌, true, sym, ap, arith}
use Rattle.std.specs.Prelude.{min}
use Rattle.sat_store.specs.clause.Buffer.{header_at}
use Rattle.sat_store.specs.clause.Header.{Header, is_learned}
use Rattle.sat_store.specs.declared.clause.tier.Tier.{Tier}
use Rattle.sat_parts.specs.clause.Db.{Db, PutsHeader}
use Rattle.sat_solver.specs.clause.Assessed.{with_updated_glue}
use Rattle.sat_solver.proofs.lemmas.clause.GradingLemmas.{improved_fewer, puts_twice, rates_trans}
use Rattle.sat_solver.proofs.clause.assess.update_glue.Goals as goal

pub returns-clause-rates : goal.returns-clause-rates
returns-clause-rates c =
    let e = c.put_header-2.ensures in
    let m = c.set_tier.ensures in
    rates_trans c.args.parts.now c.put_header-2.new.parts c.set_tier.new.parts (record { holds = e.holds; headed = e.headed; refs = ap (λ (d : Db). d.refs) e.db; word = e.word })
    (record { holds = m.holds; headed = m.headed; refs = m.moves.refs; word = m.word })

pub returns-clause-put : goal.returns-clause-put
returns-clause-put c =
    let p = c.args.parts.now in
    let q = c.put_header-2.new.parts in
    let h : Header = header_at c.args.parts.now.clauses c.args.cref in
    let active : c.set_active.new.self ≡ record (header_at c.args.parts.now.clauses c.args.cref) { active = true } = c.set_active.ensures ∙ ap (λ (k : Header). record k { active = true }) c.header-header.ensures.value in
    let learned : is_learned (header_at c.args.parts.now.clauses c.args.cref).tier ≡ true = sym (c.redundant.ensures ∙ ap (λ (k : Header). is_learned k.tier) active) ∙ c.if-not-redundant.false in
    let fewer : c.args.levels < (header_at c.args.parts.now.clauses c.args.cref).glue = omega (arith, c.if-levels-glue.false, c.glue.ensures, ap (λ (k : Header). k.glue) active) in
    let graded : c.set_glue.new.self ≡ record (header_at c.args.parts.now.clauses c.args.cref) { active = true; glue = min c.args.levels 63 } = c.set_glue.ensures ∙ ap (λ (k : Header). record k { glue = min c.args.levels 63 }) active in
    let header : record (header_at c.put_header-2.new.parts.clauses c.args.cref) { tier = c.select_tier.result } ≡ with_updated_glue c.args.levels (header_at c.args.parts.now.clauses c.args.cref) =
    ap (λ (k : Header). record k { tier = c.select_tier.result }) (c.put_header-2.ensures.put.header_there ∙ graded) ∙ ap (λ (t : Tier). record h { active = true; glue = min c.args.levels 63; tier = t }) c.select_tier.ensures
    ∙ sym (improved_fewer c.args.levels h learned fewer) in
    let second : PutsHeader c.put_header-2.new.parts.clauses c.set_tier.new.parts.clauses c.args.parts.now.db.refs c.args.cref (with_updated_glue c.args.levels (header_at c.args.parts.now.clauses c.args.cref)) =
    rw (ap (λ (d : Db). d.refs) c.put_header-2.ensures.db, header) at c.set_tier.ensures.moves.put in
    puts_twice p.clauses q.clauses c.set_tier.new.parts.clauses p.db.refs c.args.cref c.set_glue.new.self (with_updated_glue c.args.levels h) c.put_header-2.ensures.put second
