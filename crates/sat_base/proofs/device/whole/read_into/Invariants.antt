use Rattle.sat_base.specs.device.Fed.{FeedsReads}
use Rattle.sat_base.proofs.device.whole.read_into.Given as goal

abbrev pub invariant-loop : goal.invariant-loop
invariant-loop g l = FeedsReads (g.R.CountedRead.seen l.fn.reader) (g.R.CountedRead.seen l.reader) l.counter (g.F.Feed.was_fed l.taker)
