use Rattle.std.proofs.Common.{◌≡◌, ◌-◌}
use Rattle.sat_parts.specs.prop.Reasons.{PropagationEffect}
use Rattle.sat_parts.specs.prop.Ready.{state_of, IsReadyToPropagate}
use Rattle.sat_parts.proofs.prop.queue.propagate_queue.Given as goal

abbrev pub ghost-propagate_long : goal.ghost-propagate_long
ghost-propagate_long g a = g.live

abbrev pub invariant-queue : goal.invariant-queue
invariant-queue g l = record {
  ready : IsReadyToPropagate l.clauses g.live l.watchlists.lists l.binary.implied (state_of l.assignment l.graph l.trail);
  moves : PropagationEffect g.live l.binary.implied l.fn.clauses (state_of l.fn.assignment l.fn.graph l.fn.trail) l.clauses (state_of l.assignment l.graph l.trail);
  last : l.assignment.last ≡ l.fn.assignment.last;
  enabled : l.watchlists.enabled ≡ l.fn.watchlists.enabled;
}

abbrev pub decreases-queue : goal.decreases-queue
decreases-queue g l = l.trail.room - l.trail.head
