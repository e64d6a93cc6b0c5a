use Rattle.std.proofs.Common.{◌≡◌, length, take}
use Rattle.sat_store.specs.clause.Buffer.{lits_at}
use Rattle.sat_parts.specs.clause.Glue.{levels_of}
use Rattle.sat_parts.proofs.lemmas.clause.GlueLemmas.{AreLeft}
use Rattle.sat_parts.proofs.glue.clear_clause_levels.Given as goal

abbrev pub invariant-loop-at : goal.invariant-loop-at
invariant-loop-at l = record {
  size : length l.flags.flags.items ≡ length l.fn.flags.flags.items;
  left : AreLeft l.flags.flags.items (take l.seen (levels_of l.graph (lits_at l.clauses l.cref))) l.at;
}
