use Rattle.sat_base.specs.device.Device.{Reader}
use Rattle.sat_base.specs.script.ScriptState.{initial_state}
use Rattle.certify.specs.confirm.Streams.{most_bytes_left}
use Rattle.certify.specs.script.LastChunk.{AccountsForValidBytes}
use Rattle.certify.specs.script.LastPiece.{IsNotAtEnd, source_in}
use Rattle.sat_base.specs.script.Language.{reading, plain_reading}
use Rattle.certify.specs.run.ServedScript.{ServesUpTo}
use Rattle.certify.proofs.run.serve.serve_all.Given as goal

abbrev pub invariant-loop-next : goal.invariant-loop-next
invariant-loop-next g l = record {
  script_open : IsNotAtEnd (source_in g.S.CountedRead.seen l.script l.stream.ahead);
  through : ServesUpTo initial_state reading plain_reading (source_in g.S.CountedRead.seen l.fn.script l.fn.stream.ahead) (source_in g.S.CountedRead.seen l.script l.stream.ahead) l.stream.reader
      l.fn.session l.session (g.A.CountedWrite.seen l.fn.answers) (g.A.CountedWrite.seen l.answers);
  stops : (start : Reader) → AccountsForValidBytes start (source_in g.S.CountedRead.seen l.fn.script l.fn.stream.ahead) l.fn.stream.reader → AccountsForValidBytes start (source_in g.S.CountedRead.seen l.script l.stream.ahead) l.stream.reader;
}

abbrev pub decreases-loop-next : goal.decreases-loop-next
decreases-loop-next g l = most_bytes_left (source_in g.S.CountedRead.seen l.script l.stream.ahead)
