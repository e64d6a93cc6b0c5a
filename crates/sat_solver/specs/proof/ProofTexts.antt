-- What the target of a proof has received until it was closed.
use Rattle.std.specs.Prelude.{◌≡◌, true, reverse, Some, List, [], ◌∷◌, ◌++◌}
use Rattle.sat_base.specs.device.Device.{Writer, WriterAccepts, WriterFails}
use Rattle.sat_base.specs.device.Sink.{empty_sink}
use Rattle.sat_base.specs.steps.Steps.{Step}
use Rattle.sat_base.specs.steps.StepText.{SpellsSteps}
use Rattle.sat_checker.specs.Accepts.{AcceptsAll}
use Rattle.sat_checker.specs.declared.processing.ProofProcessor.{Ghosts}
use Rattle.sat_solver.specs.proof.Counting.{nothing_counted, TruncatesHashes}
use Rattle.sat_solver.specs.proof.OutputView.{text_in}
use Rattle.sat_solver.specs.proof.ProofView.{Target, Open, TargetReceives, TargetFails, TargetReceivesAll, ReturnsWriter, target_of, steps_of}
use Rattle.sat_solver.specs.session.Session.{AreAllowedSteps}
use Rattle.sat_solver.specs.proof.Widths.{IsAllowedAtWidth}
use Rattle.sat_solver.specs.declared.proof.hash_bits.Counting.{Counting}
use Rattle.sat_solver.specs.declared.proof.format.ProofFormat.{ProofFormat}
use Rattle.sat_solver.specs.declared.proof.format.ProofFormat.TheVariants.{Varisat}
use Rattle.sat_solver.specs.declared.proof.Proof.{Proof}

-- `ReceivedText f from given steps` holds if, since it was `from`, the target `given` received exactly the complete
-- text written for `steps` in the format `f`, and was flushed. In the byte format, parsing the text gives the written
-- steps, the oldest first.
pub record ReceivedText (f : ProofFormat) (from given : Writer) (steps : List Step) : Type 0 where
  pub written : List Step
  pub counting : Counting
  pub cuts : TruncatesHashes nothing_counted steps written counting
  pub spells : f ≡ Varisat → SpellsSteps (reverse written) (text_in f written)
  pub takes : WriterAccepts from given (text_in f written)
  pub flushed : given.flushed ≡ true

-- `ReceivedTextPrefix f from given steps` holds if, since it was `from`, the target `given` received a prefix of the
-- text written for `steps` in the format `f`, and then a call of it failed, the last one
pub record ReceivedTextPrefix (f : ProofFormat) (from given : Writer) (steps : List Step) : Type 0 where
  pub written : List Step
  pub counting : Counting
  pub cuts : TruncatesHashes nothing_counted steps written counting
  pub breaks : WriterFails from given (text_in f written)

-- `ClosedIsText` holds if every target that was opened, received steps, and was closed with one more step has received
-- exactly the text of all these steps, and was flushed
abbrev pub ClosedIsText : Type 0
ClosedIsText = (f : ProofFormat) (from given : Writer) (steps : List Step) (last : Step) (t : Target) → TargetReceives (Open f nothing_counted (empty_sink from)) steps t → TargetReceivesAll t (last ∷ []) given → ReceivedText f from given (last ∷ steps)

-- `BrokenIsPrefix` holds if every opened target of which a call failed while the text of steps was written is returned
-- with a prefix of that text, and no call of it followed the failed one
abbrev pub BrokenIsPrefix : Type 0
BrokenIsPrefix = (f : ProofFormat) (from given : Writer) (steps : List Step) (t : Target) → TargetFails (Open f nothing_counted (empty_sink from)) steps t → ReturnsWriter t (Some given) → ReceivedTextPrefix f from given steps

-- `TruncationsAreAllowed` holds if whatever is written for allowed steps, with hashes cut to any widths, consists of
-- allowed steps and leaves the same session except for its width
abbrev pub TruncationsAreAllowed : Type 0
TruncationsAreAllowed = (made written : List Step) (c : Counting) → TruncatesHashes nothing_counted made written c → AreAllowedSteps made → IsAllowedAtWidth made written c.bits

-- `WroteSince seen f from before p` holds if a target that `seen` shows as `from` was opened in the format `f` when
-- exactly the steps `before` were made, and is open still: it has received the text of all later steps, or has it
-- pending
pub record WroteSince {W L : Type 0} {G : Ghosts L} (seen : W → Writer) (f : ProofFormat) (from : Writer) (before : List Step) (p : Proof W L G) : Type 0 where
  pub steps : List Step
  pub following : steps_of p ≡ steps ++ before
  pub target : TargetReceives (Open f nothing_counted (empty_sink from)) steps (target_of seen p)

-- `ReceivedTextSince f from given before now` holds if, since it was `from`, the returned target `given` received
-- exactly the complete text of those steps of `now` that were made after `before`, and was flushed
pub record ReceivedTextSince (f : ProofFormat) (from given : Writer) (before now : List Step) : Type 0 where
  pub steps : List Step
  pub following : now ≡ steps ++ before
  pub took : ReceivedText f from given steps

-- `ReceivedAcceptedSteps f from given before now` holds if, since it was `from`, the returned target `given` received
-- exactly the text of those steps of `now` made after `before`, was flushed, and a checker accepts what was written for
-- them
pub record ReceivedAcceptedSteps (f : ProofFormat) (from given : Writer) (before now : List Step) : Type 0 where
  pub since : ReceivedTextSince f from given before now
  pub accepted : AcceptsAll since.took.written
