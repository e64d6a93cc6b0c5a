-- What the target of a proof has received since it was opened, whichever call failed. Lists of steps have the newest
-- first.
use Rattle.std.specs.Prelude.{◌≡◌, ◌⊎◌, ℕ, false, Some, List, ◌++◌}
use Rattle.std.specs.Io.KnownBytes.{Appends}
use Rattle.sat_base.specs.device.Device.{Writer}
use Rattle.sat_base.specs.device.Sink.{empty_sink}
use Rattle.sat_base.specs.steps.Steps.{Step}
use Rattle.sat_checker.specs.Accepts.{AcceptsAll}
use Rattle.sat_checker.specs.declared.processing.ProofProcessor.{Ghosts}
use Rattle.sat_solver.specs.proof.Checked.{has_begun}
use Rattle.sat_solver.specs.proof.Counting.{nothing_counted, TruncatesHashes}
use Rattle.sat_solver.specs.proof.OutputView.{text_in}
use Rattle.sat_solver.specs.proof.ProofView.{Target, Open, TargetReceives, TargetFails, ReturnsWriter, target_of, steps_of}
use Rattle.sat_solver.specs.session.Session.{AreAllowedSteps}
use Rattle.sat_solver.specs.declared.proof.hash_bits.Counting.{Counting}
use Rattle.sat_solver.specs.declared.proof.format.ProofFormat.{ProofFormat}
use Rattle.sat_solver.specs.declared.proof.Proof.{Proof}

-- `PrefixText f from given steps` holds if, since it was `from`, the target `given` received a prefix of the text that
-- was written for `steps`, at some widths, in the format `f`. All written steps are allowed, and a checker accepts
-- them.
pub record PrefixText (f : ProofFormat) (from given : Writer) (steps : List Step) : Type 0 where
  pub written : List Step
  pub counting : Counting
  pub cuts : TruncatesHashes nothing_counted steps written counting
  pub may : AreAllowedSteps written
  pub accepts : AcceptsAll written
  pub front : List ℕ
  pub following : List ℕ
  pub whole : text_in f written ≡ front ++ following
  pub taken : given.taken ≡ from.taken ++ front
  pub known_bytes : Appends from.contents given.contents front

-- `PrefixSince f from given before now` holds if, of the steps of `now` made after `before`, the target `given`
-- received a prefix of the text of some oldest ones. Nothing is said of the later ones.
pub record PrefixSince (f : ProofFormat) (from given : Writer) (before now : List Step) : Type 0 where
  pub later : List Step
  pub steps : List Step
  pub following : now ≡ later ++ (steps ++ before)
  pub front : PrefixText f from given steps

-- `TargetReceivesPrefix old steps new` holds if the target received the text of all of `steps` (or has it pending), or
-- a call of it failed while the text of some oldest ones of them was written
abbrev pub TargetReceivesPrefix : Target → List Step → Target → Type 0
TargetReceivesPrefix old steps new = TargetReceives old steps new ⊎ ((later : List Step) × (first : List Step) × (steps ≡ later ++ first) × TargetFails old first new)

-- `ProofReachesBySteps seen old new` holds if some steps were made between `old` and `new`, and the target received
-- their text, or a call of it failed while the text of the oldest of them was written
pub record ProofReachesBySteps {W L : Type 0} {G : Ghosts L} (seen : W → Writer) (old new : Proof W L G) : Type 0 where
  pub steps : List Step
  pub history : steps_of new ≡ steps ++ steps_of old
  pub target : TargetReceivesPrefix (target_of seen old) steps (target_of seen new)

-- `PrefixesAreAccepted` holds if every target that is opened when only ends of proofs were made, and is returned after
-- allowed steps, has received a prefix of the text of steps that a checker accepts
abbrev pub PrefixesAreAccepted : Type 0
PrefixesAreAccepted = (f : ProofFormat) (from given : Writer) (before steps : List Step) (now : Target) → has_begun before ≡ false → AreAllowedSteps (steps ++ before)
    → TargetReceivesPrefix (Open f nothing_counted (empty_sink from)) steps now → ReturnsWriter now (Some given) → PrefixSince f from given before (steps ++ before)
