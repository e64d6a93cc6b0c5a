use Rattle.std.proofs.Common.{◌≡◌, ◌≤◌, length}
use Rattle.sat_store.specs.clause.Buffer.{lits_at}
use Rattle.sat_parts.specs.clause.Glue.{levels_of}
use Rattle.sat_parts.proofs.lemmas.clause.GlueLemmas.{AreMarked}
use Rattle.sat_parts.proofs.glue.mark_clause_levels.Given as goal

abbrev pub invariant-loop-at : goal.invariant-loop-at
invariant-loop-at l = record {
  size : length l.flags.flags.items ≡ length l.fn.flags.flags.items;
  marked : AreMarked l.flags.flags.items (levels_of l.graph (lits_at l.clauses l.cref)) l.at l.glue;
  few : l.glue ≤ l.at;
  below : l.glue ≤ l.limit;
}
