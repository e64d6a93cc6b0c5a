-- Reads within the room of an input.
use Rattle.std.proofs.Common.{◌≡◌, [], Result, Ok, Err, ◌∙◌, arith}
use Rattle.std.specs.Prelude.{OnOk}
use Rattle.sat_base.specs.declared.device.input.Input.{Input}
use Rattle.sat_base.specs.declared.steps.error.StepError.TheVariants as errors
use Rattle.sat_base.specs.device.Reading.{Source, ReadsValue}
use Rattle.sat_base.specs.device.ReadRoom.{ReadsWithinRoom}
use Rattle.sat_base.specs.steps.Formats.{Format, IsProperPrefix}
use Rattle.sat_base.proofs.lemmas.device.ReadLemmas.{passes_none}

-- a read after others with the same limit
pub within_later : {R : Type 0} (old mid new : Input R) → mid.room ≡ old.room → ReadsWithinRoom mid new → ReadsWithinRoom old new
within_later old mid new e w = record { left = omega (arith, e, w.left); room = w.room ∙ e }

pub on_ok : {T E : Type 0} (r : Result T E) (P : Type 0) → P → OnOk r P
on_ok (Ok x) P p = p
on_ok (Err e) P p = tt

-- no byte may be read, and none is left: nothing of a value was consumed
pub none_read : {A : Type 0} (F : Format A) (s : Source) → s.waiting ≡ [] → IsProperPrefix F [] → ReadsValue F (Err errors.OutOfMemory) s s
none_read F s e h = ([], (passes_none s, e), h)
