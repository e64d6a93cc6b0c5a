-- Where the text of a proof is written, and what it is in each format. Lists of steps have the newest first.
use Rattle.std.specs.Prelude.{◌≡◌, ℕ, Bool, true, false, List, [], ◌∷◌, ◌++◌, Result, Ok, Err}
use Rattle.std.specs.List.{AllByRecursion}
use Rattle.sat_base.specs.device.Device.{Writer, WriterAccepts, WriterFails}
use Rattle.sat_base.specs.device.Sink.{Sink, AddsToSink, empty_sink}
use Rattle.sat_base.specs.steps.Steps.{Step}
use Rattle.sat_base.specs.steps.StepBytes.{step_bytes}
use Rattle.sat_base.specs.steps.StepText.{SpellsStep}
use Rattle.sat_base.specs.steps.StepWriting.{steps_sink}
use Rattle.sat_solver.specs.proof.DratText.{drat_text}
use Rattle.sat_solver.specs.declared.proof.format.ProofFormat.{ProofFormat}
use Rattle.sat_solver.specs.declared.proof.format.ProofFormat.TheVariants.{Varisat, Drat, BinaryDrat}
use Rattle.sat_solver.specs.declared.proof.output.ProofOutput.{ProofOutput}
use Rattle.sat_solver.specs.declared.proof.output.ProofOutput.TheVariants.{Steps, Lines}
use Rattle.sat_solver.specs.declared.proof.output.OutputError.{OutputError}
use Rattle.sat_solver.specs.declared.proof.output.OutputError.TheVariants.{Write, OutOfMemory}

-- TEXTS

-- the bytes that are written for a step in this format
abbrev pub step_text : ProofFormat → Step → List ℕ
step_text Varisat step = step_bytes step
step_text Drat step = drat_text false step
step_text BinaryDrat step = drat_text true step

-- `SpellsIn f step` holds if the format `f` is DRAT, or the bytes of `step` can be parsed back to exactly this step
abbrev pub SpellsIn : ProofFormat → Step → Type 0
SpellsIn Varisat step = SpellsStep step (step_bytes step)
SpellsIn Drat step = Unit {0}
SpellsIn BinaryDrat step = Unit {0}

-- the bytes that are written for `steps` (newest first) in this format: the oldest step's first
abbrev pub text_in : ProofFormat → List Step → List ℕ
text_in f [] = []
text_in f (step ∷ earlier) = text_in f earlier ++ step_text f step

-- `AreSpeltInFormat f steps` holds if the format `f` is DRAT, or the bytes of each of `steps` can be parsed back to
-- exactly this step
abbrev pub AreSpeltInFormat : ProofFormat → List Step → Type 0
AreSpeltInFormat f = AllByRecursion (SpellsIn f)

-- `SinkReceivesSteps f steps old new` holds if, between `old` and `new`, the text of `steps` was added to a sink, in
-- the format `f`, after what was pending; some of it may still be pending
pub record SinkReceivesSteps (f : ProofFormat) (steps : List Step) (old new : Sink) : Type 0 where
  pub spelt : AreSpeltInFormat f steps
  pub sent : AddsToSink old new (text_in f steps)

-- `WritesToSink f result steps old new` holds if `result` is that of writing `steps` to a sink: they are written or
-- pending; or a write failed, after a prefix of what was pending and their text; or memory ran out, and the sink is
-- unchanged
abbrev pub WritesToSink : ProofFormat → Result (Unit {0}) OutputError → List Step → Sink → Sink → Type 0
WritesToSink f (Ok x) steps old new = SinkReceivesSteps f steps old new
WritesToSink f (Err (Write e)) steps old new = WriterFails old.writer new.writer (old.waiting ++ text_in f steps)
WritesToSink f (Err OutOfMemory) steps old new = new ≡ old

-- `WritesLines binary result step old new` holds if `result` is that of writing the DRAT lines of `step` to a writer:
-- all of them; or a write failed, after a prefix of them; or memory ran out, and the writer is unchanged
abbrev pub WritesLines : Bool → Result (Unit {0}) OutputError → Step → Writer → Writer → Type 0
WritesLines binary (Ok x) step old new = WriterAccepts old new (drat_text binary step)
WritesLines binary (Err (Write e)) step old new = WriterFails old new (drat_text binary step)
WritesLines binary (Err OutOfMemory) step old new = new ≡ old

-- OUTPUTS

-- `is_drat_format f` is true if steps are written as DRAT lines, in decimal or in binary
abbrev pub is_drat_format : ProofFormat → Bool
is_drat_format Varisat = false
is_drat_format Drat = true
is_drat_format BinaryDrat = true

-- the DRAT format, in binary if the flag is set, otherwise in decimal
abbrev pub drat_format : Bool → ProofFormat
drat_format false = Drat
drat_format true = BinaryDrat

-- the format of an output: `Varisat` if it writes steps in bytes, or a DRAT format if it writes lines
abbrev pub output_format : {W : Type 0} → ProofOutput W → ProofFormat
output_format (Steps w) = Varisat
output_format (Lines w) = drat_format w.binary

-- the writer of an output as callers see it by `seen`, with the bytes that are pending for it; a writer of lines has
-- nothing pending
abbrev pub output_sink : {W : Type 0} → (W → Writer) → ProofOutput W → Sink
output_sink seen (Steps w) = steps_sink seen w
output_sink seen (Lines w) = empty_sink (seen w.writer)
