use Rattle.std.proofs.Common.{◌+◌, length}
use Rattle.sat_parts.proofs.parts.steps.full_restart.Given as goal

abbrev pub ghost-undo : goal.ghost-undo
ghost-undo a = length a.parts.now.trail.starts + 1
