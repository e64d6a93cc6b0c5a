use Rattle.std.proofs.Common.{◌≡◌, false, take}
use Rattle.sat_base.specs.dimacs.Parsing.{with_fed}
use Rattle.sat_base.specs.dimacs.ParserPlaces.{ParserInvariant, progress_of}
use Rattle.sat_base.proofs.dimacs.parser.Parser.feed.Given as goal

abbrev pub invariant-loop-byte : goal.invariant-loop-byte
invariant-loop-byte l = record {
  parser : ParserInvariant l.self;
  goes : l.self.stopped ≡ false;
  fed : progress_of l.self ≡ with_fed (take l.byte-index l.piece) (progress_of l.fn.self);
}
