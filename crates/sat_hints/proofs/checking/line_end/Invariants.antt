use Rattle.std.proofs.Common.{take}
use Rattle.sat_hints.specs.Lines.{HasNoLf}
use Rattle.sat_hints.proofs.checking.line_end.Given as goal

abbrev pub invariant-loop-place : goal.invariant-loop-place
invariant-loop-place l = HasNoLf (take l.place l.bytes)
