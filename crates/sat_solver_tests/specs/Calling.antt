-- What a caller's steps write to the target that it lent.
use Rattle.std.specs.Prelude.{List, [], ◌∷◌, Option, None, Some, Result, Ok, Err}
use Rattle.sat_base.specs.device.Device.{Writer, WritesText}
use Rattle.sat_base.specs.steps.Steps.{Step, Assumptions, End}
use Rattle.sat_solver.specs.proof.Counting.{nothing_counted, TruncatesHashes}
use Rattle.sat_solver.specs.proof.OutputView.{text_in}
use Rattle.sat_solver.specs.declared.proof.format.ProofFormat.TheVariants.{Varisat}
use Rattle.sat_solver.specs.declared.proof.hash_bits.Counting.{Counting}
use Rattle.sat_solver.specs.declared.proof.ProofError.{ProofError}
use Rattle.sat_solver.specs.declared.proof.ProofError.TheVariants.{Write, OutOfMemory, Check}

-- the steps, the newest first
abbrev pub made : List Step
made = End ∷ Assumptions [] ∷ []

-- the text of the steps was written, or a prefix of it, and then the last call failed
pub record PutsMade (r : Result (Unit {0}) ProofError) (old new : Writer) : Type 0 where
  pub written : List Step
  pub counting : Counting
  pub cuts : TruncatesHashes nothing_counted made written counting
  pub puts : WritesText (text_in Varisat written) r old new

-- if memory ran out, nothing more is promised; there is no checker
abbrev pub CallAnswers : Result (Unit {0}) ProofError → Writer → Writer → Type 0
CallAnswers (Ok x) old new = PutsMade (Ok x) old new
CallAnswers (Err (Write e)) old new = PutsMade (Err (Write e)) old new
CallAnswers (Err OutOfMemory) old new = Unit {0}
CallAnswers (Err (Check fault)) old new = ⊥

-- the target is returned
abbrev pub PutsOwned : {W : Type 0} → (W → Writer) → Result (Unit {0}) ProofError → W → Option W → Type 0
PutsOwned seen r old None = ⊥
PutsOwned seen r old (Some new) = CallAnswers r (seen old) (seen new)
