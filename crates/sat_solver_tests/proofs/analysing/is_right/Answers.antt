use Rattle.std.proofs.Common.{◌<◌, sym, subst, arith}
use Rattle.sat_solver.specs.declared.config.SolverConfig.{SolverConfig}
use Rattle.sat_solver.proofs.lemmas.solver.StartLemmas.{joined_first}
use Rattle.sat_solver_tests.proofs.analysing.is_right.Goals as goal

pub search-requires : goal.search-requires
search-requires c =
    joined_first c.new-names.result c.new-names.ensures.tidy c.new-names.ensures.none _ c.new.ensures.steps
    c.new_search.ensures.search c.new_search.ensures.values c.new_search.ensures.globals
    (subst (λ (k : SolverConfig). 0 < k.reduce_locals_interval) (sym c.default.ensures) (omega arith)) (subst (λ (k : SolverConfig). 0 < k.reduce_mids_interval) (sym c.default.ensures) (omega arith))
