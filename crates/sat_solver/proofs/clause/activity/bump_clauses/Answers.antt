use Rattle.std.proofs.Common.{◌≡◌, ◌∙◌, ap, get_or, arith}
use Rattle.std.proofs.lemmas.List.{get_or_read}
use Rattle.std.specs.List.{Contains}
use Rattle.sat_parts.proofs.lemmas.clause.ListLemmas.{place_in}
use Rattle.sat_parts.specs.clause.Db.{live_refs, Db}
use Rattle.sat_solver.specs.clause.Assessed.{clause_level_count, BumpsClause}
use Rattle.sat_solver.proofs.lemmas.clause.GradingLemmas.{rates_trans, involved_kept, levels_kept, takes_next, takes_last}
use Rattle.sat_solver.proofs.clause.activity.bump_clauses.Goals as goal

pub bump_clause-requires-clause-live : goal.bump_clause-requires-clause-live
bump_clause-requires-clause-live c =
    let x = c.loop-cref.invariant in
    let at : c.cref-item.result ≡ get_or c.args.crefs.now c.loop-cref.cref-index 0 = get_or_read c.args.crefs.now c.loop-cref.cref-index c.cref-item.result (omega arith) c.cref-item.is 0 in
    let y = involved_kept c.args.parts.now c.loop-cref.parts c.args.flags.now.flags.items c.args.crefs.now x.rates.headed c.requires.antecedents in
    rw at (y.live (get_or c.args.crefs.now c.loop-cref.cref-index 0) (place_in c.args.crefs.now c.loop-cref.cref-index (omega arith)))

pub bump_clause-requires-clause-levels : goal.bump_clause-requires-clause-levels
bump_clause-requires-clause-levels c =
    let x = c.loop-cref.invariant in
    let at : c.cref-item.result ≡ get_or c.args.crefs.now c.loop-cref.cref-index 0 = get_or_read c.args.crefs.now c.loop-cref.cref-index c.cref-item.result (omega arith) c.cref-item.is 0 in
    let y = involved_kept c.args.parts.now c.loop-cref.parts c.args.flags.now.flags.items c.args.crefs.now x.rates.headed c.requires.antecedents in
    rw (at, x.flags) (y.levels (get_or c.args.crefs.now c.loop-cref.cref-index 0) (place_in c.args.crefs.now c.loop-cref.cref-index (omega arith)))

pub loop-cref-preserved : goal.loop-cref-preserved
loop-cref-preserved c =
    let x = c.loop-cref.invariant in
    let e = c.bump_clause.ensures in
    let p = c.args.parts.now in
    let o = c.cref-item.result in
    let at : c.cref-item.result ≡ get_or c.args.crefs.now c.loop-cref.cref-index 0 = get_or_read c.args.crefs.now c.loop-cref.cref-index c.cref-item.result (omega arith) c.cref-item.is 0 in
    let live : Contains (live_refs c.args.parts.now.clauses c.args.parts.now.db.refs) c.cref-item.result = rw at (c.requires.antecedents.live (get_or c.args.crefs.now c.loop-cref.cref-index 0) (place_in c.args.crefs.now c.loop-cref.cref-index (omega arith))) in
    let one : BumpsClause (clause_level_count c.args.parts.now c.cref-item.result) c.loop-cref.parts.clauses c.bump_clause.new.parts.clauses c.args.parts.now.db.refs c.cref-item.result c.loop-cref.activity c.bump_clause.new.activity =
    rw (levels_kept p c.loop-cref.parts x.rates.headed o live, x.rates.refs) at e.takes in
    record {
      rates = rates_trans p c.loop-cref.parts c.bump_clause.new.parts x.rates e.rates;
      flags = e.flags ∙ x.flags;
      take = λ words s rest. x.take words s (takes_next (clause_level_count p) p.db.refs c.args.crefs.now c.loop-cref.cref-index o c.loop-cref.parts.clauses c.bump_clause.new.parts.clauses words c.loop-cref.activity c.bump_clause.new.activity s (omega arith) at one rest);
    }

pub returns-clause-rates : goal.returns-clause-rates
returns-clause-rates c =
    let e = c.decay_clauses.ensures in
    rates_trans c.args.parts.now c.loop-cref.parts c.decay_clauses.new.parts c.loop-cref.invariant.rates (record { holds = e.holds; headed = e.headed; refs = ap (λ (d : Db). d.refs) e.db; word = e.word })

pub returns-clause-take : goal.returns-clause-take
returns-clause-take c =
    let x = c.loop-cref.invariant in
    let e = c.decay_clauses.ensures in
    x.take c.decay_clauses.new.parts.clauses c.decay_clauses.new.activity
    (takes_last (clause_level_count c.args.parts.now) c.args.parts.now.db.refs c.args.crefs.now c.loop-cref.cref-index c.loop-cref.parts.clauses c.decay_clauses.new.parts.clauses c.loop-cref.activity c.decay_clauses.new.activity (omega arith)
    (record { later = e.later; rescaled = rw x.rates.refs at e.rescaled }))
