-- What a writer of lines does with an announcement.
use Rattle.std.specs.Prelude.{◌≡◌, Bool, true, false, Option, None, Some, List, [], Result, Ok, Err, ℕ}
use Rattle.anyhow.specs.declared.error.Error.{Error}
use Rattle.sat_base.specs.device.Device.{Writer}
use Rattle.sat_checker.specs.announcements.Announcements.{Notice}
use Rattle.sat_hints.specs.Lines.{Line, line_text}
use Rattle.sat_hints.specs.Conversion.{announced_line}
use Rattle.sat_hints.specs.declared.line_writer.LineWriter.{LineWriter}
use Rattle.sat_hints.specs.inner.LineWriting.{outlet, PutsText}

-- the text of the line, or no bytes if there is no line
abbrev pub text_if : Option Line → List ℕ
text_if None = []
text_if (Some line) = line_text line

-- the text of the line for an announcement, or no bytes if it has no line
abbrev pub announced_text : Notice → List ℕ
announced_text t = text_if (announced_line t.announcement)

-- `FailsIf failed result` holds if the result is an error exactly if `failed` is true.
abbrev pub FailsIf : Bool → Result (Unit {0}) Error → Type 0
FailsIf false result = result ≡ Ok tt
FailsIf true (Ok x) = ⊥
FailsIf true (Err e) = Unit {0}

-- `PutsAnnouncedLine seen old t result new` holds if the text of the announcement's line, if any, was appended to the
-- pending bytes, or a write has failed, now or before; exactly then the result is an error.
pub record PutsAnnouncedLine {W : Type 0} (seen : W → Writer) (old : LineWriter W) (t : Notice) (result : Result (Unit {0}) Error) (new : LineWriter W) : Type 0 where
  pub puts : PutsText (announced_text t) (outlet seen old) (outlet seen new)
  pub answers : FailsIf new.failed result
