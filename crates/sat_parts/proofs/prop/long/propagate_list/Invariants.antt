use Rattle.std.proofs.Common.{◌≡◌, length}
use Rattle.sat_parts.specs.prop.Ready.{state_of}
use Rattle.sat_parts.proofs.lemmas.prop.Walking.{Walking}
use Rattle.sat_parts.proofs.prop.long.propagate_list.Given as goal

abbrev pub invariant-loop-at : goal.invariant-loop-at
invariant-loop-at g l = record {
  walking : Walking g.live l.fn.clauses (state_of l.fn.assignment l.fn.graph l.fn.trail) l.clauses (state_of l.assignment l.graph l.trail) l.watchlists.lists l.list l.fn.lit l.kept l.at;
  end : l.end ≡ length l.list;
  last : l.assignment.last ≡ l.fn.assignment.last;
  enabled : l.watchlists.enabled ≡ l.fn.watchlists.enabled;
}
