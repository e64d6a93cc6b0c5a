use Rattle.std.proofs.Common.{ℕ, ◌≡◌, ◌<◌, ◌≤◌, ◌+◌, ◌*◌, drop, get_or, length}
use Rattle.sat_base.specs.values.Literals.{var_limit}
use Rattle.sat_base.specs.device.Sink.{sink_of}
use Rattle.sat_base.specs.steps.StepBytes.{list_bytes, numbers_bytes}
use Rattle.sat_base.proofs.lemmas.device.Sending.{SentOf}
use Rattle.sat_base.proofs.device.output.Output.push_literals.Given as goal

abbrev pub invariant-loop-lit : goal.invariant-loop-lit
invariant-loop-lit g l = record {
  sent : SentOf (list_bytes l.lits) (numbers_bytes (drop l.lit-index l.lits)) (sink_of g.W.CountedWrite.seen g.P.Room.waiting l.fn.self) (sink_of g.W.CountedWrite.seen g.P.Room.waiting l.self);
  low : (k : ℕ) → k < l.lit-index → get_or l.lits k 0 < 2 * var_limit;
  short : length (g.P.Room.waiting l.self.pending) ≤ length (g.P.Room.waiting l.fn.self.pending) + 10 * l.lit-index + 10;
  same : g.P.Room.size l.self.pending ≡ g.P.Room.size l.fn.self.pending;
}
