-- DRAT lines of what is written.
use Rattle.std.proofs.Common.{ℕ, ◌≡◌, ◌∙◌, Bool, true, false, Result, Ok, Err, List, [], ◌∷◌, ◌++◌, refl, sym, ap, subst}
use Rattle.std.specs.Prelude.{nat_eq, cond}
use Rattle.std.proofs.lemmas.List.{append-nil}
use Rattle.sat_base.specs.device.Device.{Writer, WriterFails, FlushesOnce}
use Rattle.sat_base.specs.device.Sink.{FlushesSink, empty_sink}
use Rattle.sat_base.specs.steps.Steps.{Step, ChangeHashBits}
use Rattle.sat_base.proofs.lemmas.device.Sending.{sent_none, sends_flush}
use Rattle.sat_solver.specs.proof.Counting.{width_change}
use Rattle.sat_solver.specs.proof.DratText.{drat_text}
use Rattle.sat_solver.specs.proof.OutputView.{is_drat_format, step_text, SpellsIn, text_in, AreSpeltInFormat, WritesToSink, WritesLines, drat_format}
use Rattle.sat_solver.specs.declared.proof.output.OutputError.{OutputError}
use Rattle.sat_solver.specs.declared.proof.output.OutputError.TheVariants.{Write, OutOfMemory}

module _ (binary : Bool) where
  step_is : (step : Step) → step_text (drat_format binary) step ≡ drat_text binary step
  step_is step = go binary
    where
      go : (b : Bool) → step_text (drat_format b) step ≡ drat_text b step
      go false = refl
      go true = refl

  -- a change of the width has no lines
  reported_text : (before now : ℕ) → text_in (drat_format binary) (width_change before now) ≡ []
  reported_text before now = go (nat_eq before now)
    where
      go : (b : Bool) → text_in (drat_format binary) (cond b [] (ChangeHashBits now ∷ [])) ≡ []
      go true = refl
      go false = step_is (ChangeHashBits now)

  -- so a step after a change of the width has only its own lines
  text_is : (before now : ℕ) (step : Step) → text_in (drat_format binary) (step ∷ width_change before now) ≡ drat_text binary step
  text_is before now step = ap (λ xs. xs ++ step_text (drat_format binary) step) (reported_text before now) ∙ step_is step

  spelt_any : (steps : List Step) → AreSpeltInFormat (drat_format binary) steps
  spelt_any [] = tt
  spelt_any (step ∷ steps) = (go binary, spelt_any steps)
    where
      go : (b : Bool) → SpellsIn (drat_format b) step
      go false = tt
      go true = tt

-- both DRAT formats consist of lines
pub lines_are : (binary : Bool) → true ≡ is_drat_format (drat_format binary)
lines_are false = refl
lines_are true = refl

-- lines were written, and nothing is buffered
pub lines_put : (binary : Bool) (r : Result (Unit {0}) OutputError) (before now : ℕ) (step : Step) (v w : Writer) → WritesLines binary r step v w → WritesToSink (drat_format binary) r (step ∷ width_change before now) (empty_sink v) (empty_sink w)
lines_put binary (Ok x) before now step v w h = record { spelt = spelt_any binary (step ∷ width_change before now); sent = record { fresh = drat_text binary step; flows = text_is binary before now step ∙ sym (append-nil (drat_text binary step)); takes = h } }
lines_put binary (Err (Write e)) before now step v w h = subst (WriterFails v w) (sym (text_is binary before now step)) h
lines_put binary (Err OutOfMemory) before now step v w h = ap empty_sink h

-- lines were flushed
pub lines_flushed : {E : Type 0} (r : Result (Unit {0}) E) (v w : Writer) → FlushesOnce r v w → FlushesSink r (empty_sink v) (empty_sink w)
lines_flushed r v w h = sends_flush (empty_sink v) v w [] r refl (sent_none (empty_sink v)) h
