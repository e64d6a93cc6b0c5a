-- Pending bytes of a writer.
use Rattle.std.specs.Prelude.{◌≡◌, ℕ, true, List, [], ◌++◌, Result, MatchResult}
use Rattle.sat_base.specs.device.Device.{Writer, WriterAccepts, WriterFails}
use Rattle.sat_base.specs.steps.Formats.{Format}
use Rattle.sat_base.specs.declared.device.output.Output.{Output}

-- a writer, and the pending bytes
pub record Sink : Type 0 where
  pub writer : Writer
  pub waiting : List ℕ

-- a writer without pending bytes
abbrev pub empty_sink : Writer → Sink
empty_sink w = record { writer = w; waiting = [] }

-- the writer of an output, and its pending bytes
abbrev pub sink_of : {W P : Type 0} → (W → Writer) → (P → List ℕ) → Output W P → Sink
sink_of seen waiting o = record { writer = seen o.writer; waiting = waiting o.pending }

-- `AddsToSink old new text` holds if `text` was put after the pending bytes. The writer accepted a prefix of the two
-- together, and the rest is pending.
pub record AddsToSink (old new : Sink) (text : List ℕ) : Type 0 where
  pub fresh : List ℕ
  pub flows : old.waiting ++ text ≡ fresh ++ new.waiting
  pub takes : WriterAccepts old.writer new.writer fresh

-- `SinkFails old new text` holds if only the last call failed. The writer accepted a prefix of the pending bytes and
-- `text`, and the rest is lost.
pub record SinkFails (old new : Sink) (text : List ℕ) : Type 0 where
  pub breaks : WriterFails old.writer new.writer (old.waiting ++ text)
  pub none : new.waiting ≡ []

-- `SendsText text r old new` holds if the result `r` is `Ok` and `text` was put after the pending bytes (`AddsToSink`),
-- or it is an error and a call of the writer failed (`SinkFails`).
abbrev pub SendsText : {E : Type 0} → List ℕ → Result (Unit {0}) E → Sink → Sink → Type 0
SendsText text r old new = MatchResult r (λ _. AddsToSink old new text) (λ _. SinkFails old new text)

-- `SendsValue F x text r old new` holds if the result `r` is `Ok` and `text`, which spells the value `x` in the format
-- `F`, was put after the pending bytes, or it is an error and a call of the writer failed.
abbrev pub SendsValue : {A E : Type 0} → Format A → A → List ℕ → Result (Unit {0}) E → Sink → Sink → Type 0
SendsValue F x text r old new = MatchResult r (λ _. AddsToSink old new text × F x text) (λ _. SinkFails old new text)

-- `SinkIsFlushed old new` holds if all pending bytes of `old` were written, nothing is pending in `new`, and the last
-- call was a flush that did not fail.
pub record SinkIsFlushed (old new : Sink) : Type 0 where
  pub sent : AddsToSink old new []
  pub none : new.waiting ≡ []
  pub flushed : new.writer.flushed ≡ true

-- `FlushesSink r old new` holds if the pending bytes were written and flushed, or one call failed; `r` says which.
abbrev pub FlushesSink : {E : Type 0} → Result (Unit {0}) E → Sink → Sink → Type 0
FlushesSink r old new = MatchResult r (λ _. SinkIsFlushed old new) (λ _. SinkFails old new [])
