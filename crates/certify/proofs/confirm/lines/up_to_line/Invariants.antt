use Rattle.std.proofs.Common.{take}
use Rattle.certify.specs.confirm.Lines.{HasNoLf}
use Rattle.certify.proofs.confirm.lines.up_to_line.Given as goal

abbrev pub invariant-loop-i : goal.invariant-loop-i
invariant-loop-i l = HasNoLf (take l.i l.bytes)
