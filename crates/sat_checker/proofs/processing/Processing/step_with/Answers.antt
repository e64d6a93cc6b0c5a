use Rattle.std.proofs.Common.{inl}
use Rattle.sat_checker.proofs.processing.Processing.step_with.Goals as goal

pub returns-else-is_quiet : goal.returns-else-is_quiet
returns-else-is_quiet g c = inl (c.in-Ok.ensures, c.step.ensures)
