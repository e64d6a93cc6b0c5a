use Rattle.sat_solver.proofs.lemmas.cdcl.BeginLemmas.{search_begins}
use Rattle.sat_solver.proofs.context.new_search.Goals as goal

pub returns-clause-search : goal.returns-clause-search
returns-clause-search c =
    let p = c.new_search_state.ensures in
    let a = c.new.ensures in
    search_begins _ p.holds p.refs p.implied p.trail p.none c.new-4.ensures.items c.new-2.ensures c.new-3.ensures a.none a.placed
