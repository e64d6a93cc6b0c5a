use Rattle.std.proofs.Common.{ap}
use Rattle.sat_parts.specs.clause.Db.{Db}
use Rattle.sat_solver.proofs.lemmas.clause.GradingLemmas.{rates_trans}
use Rattle.sat_solver.proofs.clause.activity.bump_clause.Goals as goal

pub returns-clause-rates : goal.returns-clause-rates
returns-clause-rates c =
    let e = c.bump_activity.ensures in
    rates_trans c.args.parts.now c.bump_activity.new.parts c.update_glue.new.parts (record { holds = e.holds; headed = e.headed; refs = ap (λ (d : Db). d.refs) e.db; word = e.word }) c.update_glue.ensures.rates
