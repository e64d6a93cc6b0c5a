use Rattle.std.proofs.Common.{◌∙◌, ap, map}
use Rattle.sat_solver.specs.solver.Joined.{lit_over_names}
use Rattle.sat_solver.proofs.lemmas.solver.ReportingLemmas.{core_failed}
use Rattle.sat_solver.proofs.solver.report.write_failed_core.Goals as goal

pub returns : goal.returns
returns g c =
    core_failed g.W.CountedWrite.seen c.args.names.now c.args.context.now c.requires.joined c.write_core.new.proof c.write_core.new.search c.name_lits.new.named.items c.in_ok-write_core.ensures
    (c.in_ok-name_lits.ensures ∙ ap (map (lit_over_names c.args.names.now)) c.core.ensures)
