use Rattle.std.proofs.Common.{◌≡◌, ◌≤◌, ◌+◌, ◌*◌, drop, length}
use Rattle.sat_base.specs.device.Sink.{sink_of}
use Rattle.sat_base.specs.steps.StepBytes.{list_bytes, numbers_bytes}
use Rattle.sat_base.proofs.lemmas.device.Sending.{SentOf}
use Rattle.sat_base.proofs.device.output.Output.push_hashes.Given as goal

abbrev pub invariant-loop-hash : goal.invariant-loop-hash
invariant-loop-hash g l = record {
  sent : SentOf (list_bytes l.hashes) (numbers_bytes (drop l.hash-index l.hashes)) (sink_of g.W.CountedWrite.seen g.P.Room.waiting l.fn.self) (sink_of g.W.CountedWrite.seen g.P.Room.waiting l.self);
  short : length (g.P.Room.waiting l.self.pending) ≤ length (g.P.Room.waiting l.fn.self.pending) + 10 * l.hash-index + 10;
  same : g.P.Room.size l.self.pending ≡ g.P.Room.size l.fn.self.pending;
}
