use Rattle.std.proofs.Common.{◌≡◌}
use Rattle.sat_base.specs.device.Device.{Reader}
use Rattle.sat_base.specs.steps.StepReading.{reader_borrow}
use Rattle.certify.specs.confirm.Streams.{StepsGoOn, most_bytes_left}
use Rattle.certify.specs.confirm.ConfirmStates.{answers_source_in}
use Rattle.certify.specs.confirm.ConfirmedScript.{ConfirmsUpToPlace, script_source, confirm_place}
use Rattle.certify.specs.script.LastChunk.{AccountsForValidBytes}
use Rattle.certify.specs.script.LastPiece.{IsNotAtEnd}
use Rattle.sat_base.specs.script.Language.{reading}
use Rattle.certify.proofs.confirm.confirmation.Confirmation.confirm_all.Given as goal

abbrev pub invariant-loop-next : goal.invariant-loop-next
invariant-loop-next g l = record {
  same : reader_borrow l.steps ≡ reader_borrow l.fn.steps;
  goes_on : StepsGoOn g.C.CountedRead.seen l.steps;
  open_yet : IsNotAtEnd (answers_source_in g.A.CountedRead.seen l.answers l.self.session);
  script_open : IsNotAtEnd (script_source g.S.CountedRead.seen l.script l.self);
  through : ConfirmsUpToPlace reading (confirm_place g.S.CountedRead.seen g.A.CountedRead.seen g.C.CountedRead.seen l.fn.script l.fn.answers l.fn.steps l.fn.self)
      (confirm_place g.S.CountedRead.seen g.A.CountedRead.seen g.C.CountedRead.seen l.script l.answers l.steps l.self) l.self.script.reader;
  stops : (start : Reader) → AccountsForValidBytes start (script_source g.S.CountedRead.seen l.fn.script l.fn.self) l.fn.self.script.reader → AccountsForValidBytes start (script_source g.S.CountedRead.seen l.script l.self) l.self.script.reader;
}

abbrev pub decreases-loop-next : goal.decreases-loop-next
decreases-loop-next g l = most_bytes_left (script_source g.S.CountedRead.seen l.script l.self)
