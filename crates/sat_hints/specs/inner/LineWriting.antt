-- How lines are appended to pending bytes.
use Rattle.std.specs.Prelude.{ℕ, ◌≡◌, ◌++◌, Bool, true, false, List, [], take, codes, if◌then◌else◌}
use Rattle.sat_base.specs.values.Literals.{is_positive}
use Rattle.sat_base.specs.device.Device.{Writer}
use Rattle.sat_base.specs.device.Sink.{Sink, AddsToSink, SinkFails}
use Rattle.sat_hints.specs.Lines.{id_words, literal_words}
use Rattle.sat_hints.specs.declared.line_writer.LineWriter.{LineWriter}

-- a writer with its pending bytes, and whether a write has failed
pub record Outlet : Type 0 where
  pub sink : Sink
  pub failed : Bool

-- the outlet of a line writer, whose first `len` buffered bytes are pending
abbrev pub outlet : {W : Type 0} → (W → Writer) → LineWriter W → Outlet
outlet seen w = record { sink = record { writer = seen w.writer; waiting = take w.len w.bytes }; failed = w.failed }

-- `PutOrFailed failed text old new` holds if the text was appended to the pending bytes, or, if `failed` is true, a
-- write failed instead.
abbrev pub PutOrFailed : Bool → List ℕ → Sink → Sink → Type 0
PutOrFailed false text old new = AddsToSink old new text
PutOrFailed true text old new = SinkFails old new text

-- `PutUnlessFailed failed text old new` holds if nothing changed when `failed` is true, since a write failed before;
-- when it is false, the text was appended to the pending bytes or a write failed, as `new` says.
abbrev pub PutUnlessFailed : Bool → List ℕ → Outlet → Outlet → Type 0
PutUnlessFailed true text old new = new ≡ old
PutUnlessFailed false text old new = PutOrFailed new.failed text old.sink new.sink

-- the sign of a literal's number: `-` if it is negative
abbrev pub sign_text : ℕ → List ℕ
sign_text l = if is_positive l then [] else codes "-"

-- the text of two lists: `LITS 0 IDS 0` and LF
abbrev pub lists_text : List ℕ → List ℕ → List ℕ
lists_text literals ids = literal_words literals ++ (codes "0 " ++ (id_words ids ++ codes "0\n"))

-- `PutsText text old new` holds if the text was appended to the pending bytes, or a write failed, now or before.
abbrev pub PutsText : List ℕ → Outlet → Outlet → Type 0
PutsText text old new = PutUnlessFailed old.failed text old new
