use Rattle.std.proofs.Common.{subst}
use Rattle.sat_solver.specs.declared.config.SolverConfig.{SolverConfig}
use Rattle.sat_solver.specs.solver.Configuring.{PassesToSearch}
use Rattle.sat_solver.proofs.lemmas.solver.ConfigLemmas.{whole_configured}
use Rattle.sat_solver.proofs.solver.Engine.config.Goals as goal

pub returns-clause-solver : goal.returns-clause-solver
returns-clause-solver g c = λ e.
    let s = c.args.self.now in
    rw c.unwrap_or-self.ensures
    (whole_configured c.args.update.now s.context s.names s.asked s.assumed.items s.reported.failed_core.items s.clock.restarts.scale c.in_ok-apply.ensures.ok.0 s.state c.pass_decays.new.context
    (subst (λ (cfg : SolverConfig). PassesToSearch s.state (record s.context { config = cfg }) c.pass_decays.new.context) c.in_ok-apply.ensures.ok.1 c.pass_decays.ensures) (c.requires c.if-self.false))
