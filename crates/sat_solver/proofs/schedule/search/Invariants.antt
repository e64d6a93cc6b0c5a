use Rattle.std.proofs.Common.{◌≡◌, ◌-◌, ◌<◌, ◌≤◌}
use Rattle.sat_solver.specs.schedule.Climbing.{AskReachesRound}
use Rattle.sat_solver.specs.schedule.Rounds.{AreRounds}
use Rattle.sat_solver.specs.schedule.Solving.{IsWordOf, search_var_count, RoundsLeadTo, Restarted, ReducedAt, RoundOf}
use Rattle.sat_solver.specs.solver.Joined.{NamesSearchInvariant}
use Rattle.sat_solver.proofs.schedule.search.Given as goal

abbrev pub invariant-loop-rounds : goal.invariant-loop-rounds
invariant-loop-rounds g l = record {
  joined : NamesSearchInvariant l.names l.context;
  scale : 0 < l.restarts.scale;
  same : l.restarts.scale ≡ l.fn.restarts.scale;
  most : search_var_count l.context ≡ search_var_count l.fn.context;
  before : l.fn.rounds ≤ l.rounds;
  within : l.rounds ≤ l.end;
  come : search_var_count l.fn.context < 63 → AskReachesRound IsWordOf l.context (search_var_count l.fn.context) l.fn.rounds l.rounds l.restarts.next l.restarts.sequence;
  goes : RoundsLeadTo g.W.CountedWrite.seen l.fn.context l.fn.names (l.rounds - l.fn.rounds) l.context l.names;
  rounds : AreRounds Restarted (ReducedAt g.W.CountedWrite.seen) (RoundOf g.W.CountedWrite.seen) l.fn.context l.fn.names l.fn.restarts l.fn.rounds l.context l.names l.restarts l.rounds;
}

abbrev pub decreases-loop-rounds : goal.decreases-loop-rounds
decreases-loop-rounds g l = l.end - l.rounds
