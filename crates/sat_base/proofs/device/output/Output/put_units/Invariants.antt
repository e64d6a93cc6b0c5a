use Rattle.std.proofs.Common.{ℕ, ◌<◌, ◌*◌, ◌^◌, drop, get_or}
use Rattle.sat_base.specs.values.Literals.{var_limit}
use Rattle.sat_base.specs.device.Sink.{sink_of}
use Rattle.sat_base.specs.steps.StepBytes.{units_bytes, pairs_bytes}
use Rattle.sat_base.proofs.lemmas.device.Sending.{SentOf}
use Rattle.sat_base.proofs.device.output.Output.put_units.Given as goal

abbrev pub invariant-loop-unit : goal.invariant-loop-unit
invariant-loop-unit g l = record {
  sent : SentOf (units_bytes l.units) (pairs_bytes (drop l.unit-index l.units)) (sink_of g.W.CountedWrite.seen g.P.Room.waiting l.fn.self) (sink_of g.W.CountedWrite.seen g.P.Room.waiting l.self);
  low : (k : ℕ) → k < l.unit-index → ((get_or l.units k (0, 0)).0 < 2 * var_limit) × ((get_or l.units k (0, 0)).1 < 2 ^ 64);
}
