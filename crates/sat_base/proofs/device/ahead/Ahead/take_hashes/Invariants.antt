use Rattle.std.proofs.Common.{◌≡◌, ◌≤◌, ◌+◌, ◌-◌}
use Rattle.std.specs.Prelude.{vec_len, vec_capacity}
use Rattle.sat_base.specs.device.ConsumedAhead.{buffered_from}
use Rattle.sat_base.specs.steps.StepText.{SpellsHash}
use Rattle.sat_base.proofs.lemmas.steps.TakenItems.{Taken}
use Rattle.sat_base.proofs.device.ahead.Ahead.take_hashes.Given as goal

abbrev pub invariant-loop-taken : goal.invariant-loop-taken
invariant-loop-taken l = record {
  items : Taken SpellsHash l.taken l.fn.hashes.items l.hashes.items (buffered_from l.fn.self.at l.fn.self) (buffered_from l.at l.fn.self);
  some : l.taken ≤ l.most;
  room : vec_len l.hashes + (l.fn.self.end - l.at) ≤ vec_capacity l.hashes;
  capacity : vec_capacity l.hashes ≡ vec_capacity l.fn.hashes;
  left : l.fn.self.end - l.at ≤ l.fn.self.end - l.fn.self.at;
  same : l.self ≡ l.fn.self;
}

abbrev pub decreases-loop-taken : goal.decreases-loop-taken
decreases-loop-taken l = l.most - l.taken
