use Rattle.std.proofs.lemmas.Grind.{common_steps}
use Rattle.std.proofs.Common.{sym, arith}
use Rattle.std.proofs.lemmas.List.{get_or_read}
use Rattle.sat_solver.specs.solver.Progressing.{is_unassigned_at}
use Rattle.sat_solver.proofs.lemmas.variables.Counts.{count_zero}
use Rattle.sat_solver.proofs.lemmas.solver.ProgressLemmas.{counted_next}
use Rattle.sat_solver.proofs.solver.progress.unassigned_count.Goals.{then-is_open, else-is_open}
use Rattle.sat_solver.proofs.solver.progress.unassigned_count.Goals as goal

pub loop-index-init : goal.loop-index-init
loop-index-init c = record { few = omega arith; is = λ tidy. sym (count_zero (is_unassigned_at c.args.names.now c.args.values.now)) }

pub loop-index-preserved : goal.loop-index-preserved
loop-index-preserved c = grind (arith, common_steps, get_or_read, counted_next, then-is_open, else-is_open)
