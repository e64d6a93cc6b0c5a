use Rattle.std.proofs.Common.{◌<◌, ◌≤◌, ℕ}
use Rattle.sat_base.specs.device.Device.{max_read_size}
use Rattle.sat_hints.specs.inner.LineChecking.{IsReadyChecker}
use Rattle.sat_hints.specs.inner.Holding.{HasRoomFor}
use Rattle.sat_hints.proofs.lemmas.Chunks.{ReadsSoFar}
use Rattle.sat_hints.proofs.checking.Checking.check_text.Given as goal

abbrev pub invariant-loop : goal.invariant-loop
invariant-loop g l = record {
  ready : IsReadyChecker l.self.checker;
  room : HasRoomFor l.self l.most;
  least : 0 < l.most;
  most : l.most ≤ max_read_size;
  reads : ReadsSoFar (g.R.CountedRead.seen l.fn.text) (g.R.CountedRead.seen l.text) l.self l.counter;
}
