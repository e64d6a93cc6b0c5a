use Rattle.sat_parts.specs.parts.Whole.{state}
use Rattle.sat_solver.proofs.lemmas.load.BottomLemmas.{fully_restarted}
use Rattle.sat_solver.proofs.load.restart.full_restart.Goals as goal

pub returns : goal.returns
returns c =
    let e = c.full_restart.ensures in
    fully_restarted c.args.search.now c.full_restart.new.parts c.begin.new.self e.bottom e.holds e.same e.carries e.stay (c.begin.ensures.placed (state c.full_restart.new.parts) e.bottom) c.begin.ensures.lits
