use Rattle.std.proofs.Common.{◌≡◌, drop}
use Rattle.sat_checker.specs.LiteralSets.{mentions}
use Rattle.sat_hints.proofs.uses.mentions.Given as goal

abbrev pub invariant-loop-lit : goal.invariant-loop-lit
invariant-loop-lit l = mentions l.clause l.var ≡ mentions (drop l.lit-index l.clause) l.var
