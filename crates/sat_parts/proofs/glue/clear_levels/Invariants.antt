use Rattle.std.proofs.Common.{◌≡◌, length}
use Rattle.sat_parts.specs.clause.Glue.{levels_of}
use Rattle.sat_parts.proofs.lemmas.clause.GlueLemmas.{AreLeft}
use Rattle.sat_parts.proofs.glue.clear_levels.Given as goal

abbrev pub invariant-loop-lit : goal.invariant-loop-lit
invariant-loop-lit l = record {
  size : length l.flags.flags.items ≡ length l.fn.flags.flags.items;
  left : AreLeft l.flags.flags.items (levels_of l.graph l.lits) l.lit-index;
}
