use Rattle.std.proofs.Common.{◌≡◌, ◌+◌, ◌<◌, ◌≤◌, false, length, List, [], ℕ}
use Rattle.sat_base.specs.device.Device.{GavePrefix}
use Rattle.sat_base.specs.dimacs.Parsing.{no_progress, with_fed, HasNoFaultSoFar, EndsInLastPiece, LastReadGaveBytes}
use Rattle.sat_base.proofs.dimacs.DimacsParser.read_formula.Given as goal

abbrev pub invariant-loop : goal.invariant-loop
invariant-loop g l = record {
  bytes : (text : List ℕ) × (l.self ≡ with_fed text no_progress) × GavePrefix (g.R.CountedRead.seen l.fn.reader) (g.R.CountedRead.seen l.reader) text × (l.counter ≤ length text) × (l.counter ≡ 0 → text ≡ []) × EndsInLastPiece text;
  sound : HasNoFaultSoFar l.self;
  open_yet : 0 < l.counter → (g.R.CountedRead.seen l.reader).ended ≡ false;
  gave : LastReadGaveBytes (g.R.CountedRead.seen l.fn.reader) (g.R.CountedRead.seen l.reader);
  failures : (g.R.CountedRead.seen l.reader).failures ≡ (g.R.CountedRead.seen l.fn.reader).failures;
  calls : (g.R.CountedRead.seen l.reader).calls ≡ (g.R.CountedRead.seen l.fn.reader).calls + l.counter;
}
