use Rattle.std.proofs.Common.{Bool, List, ℕ}
use Rattle.sat_base.specs.device.Device.{Reader}
use Rattle.sat_base.specs.device.Reading.{ConsumesBytes}
use Rattle.sat_base.specs.text.Chunks.{LeadsByBytes}
use Rattle.certify.specs.script.LastChunk.{AccountsForValidBytes}
use Rattle.certify.specs.script.LastPiece.{source_in}
use Rattle.certify.specs.script.Commands.{ReaderMeansIf}
use Rattle.certify.specs.script.Streaming.{consuming_calls_left}
use Rattle.certify.proofs.script.stream.CommandStream.next.Given as goal

abbrev pub invariant-loop-next : goal.invariant-loop-next
invariant-loop-next g l = (text : List ℕ) × ConsumesBytes (source_in g.S.CountedRead.seen l.fn.script l.fn.self.ahead) (source_in g.S.CountedRead.seen l.script l.self.ahead) text × ((asks : Bool) → LeadsByBytes (ReaderMeansIf asks) l.fn.self.reader text l.self.reader)
    × ((start : Reader) → AccountsForValidBytes start (source_in g.S.CountedRead.seen l.fn.script l.fn.self.ahead) l.fn.self.reader → AccountsForValidBytes start (source_in g.S.CountedRead.seen l.script l.self.ahead) l.self.reader)

abbrev pub decreases-loop-next : goal.decreases-loop-next
decreases-loop-next g l = consuming_calls_left l.self.ahead
