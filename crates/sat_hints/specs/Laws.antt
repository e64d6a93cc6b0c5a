-- What a derivation shows, and laws about conversions and verdicts.
use Rattle.std.specs.Prelude.{◌≡◌, ◌≢◌, ◌↔◌, ◌<◌, ◌^◌, Bool, true, ℕ, Some, List, [], ◌∷◌, ◌++◌, Result, Ok, Err, IfOk}
use Rattle.std.specs.List.{AllByRecursion}
use Rattle.sat_base.specs.values.Clauses.{Valuation, clause_true, AllLitsTrue, AllClausesTrue}
use Rattle.sat_base.specs.device.Device.{Reader, Writer, WriterAccepts, GaveEnough}
use Rattle.sat_base.specs.steps.Steps.{Step, AddClause, DeleteVar, End}
use Rattle.sat_base.specs.steps.StepText.{SpellsSteps}
use Rattle.sat_checker.specs.Accepts.{AcceptsAll, ready_after}
use Rattle.sat_checker.specs.Fold.{Holds}
use Rattle.sat_checker.specs.ProofView.{steps_after}
use Rattle.sat_hints.specs.Lines.{Line, Input, Derived, Removed, Core, Fresh}
use Rattle.sat_hints.specs.Hints.{IsHintDerivation, clause_under, derives_empty}
use Rattle.sat_hints.specs.Conversion.{lines_of_steps, hint_text, hint_verdict}
use Rattle.sat_hints.specs.Limits.{StepIsWithinLimits}
use Rattle.sat_hints.specs.Checks.{IsBadAt, IsProof, VerdictHolds}
use Rattle.sat_hints.specs.Converts.{Converts}
use Rattle.sat_hints.specs.inner.Holding.{VerdictIsCorrect}
use Rattle.sat_hints.specs.declared.answer.HintFault.{HintFault}
use Rattle.sat_hints.specs.declared.answer.HintVerdict.{HintVerdict}
use Rattle.sat_hints.specs.declared.answer.HintVerdict.TheVariants.{Proved}
use Rattle.sat_hints.specs.declared.answer.HintWhy.{HintWhy}
use Rattle.sat_hints.specs.declared.error.HintError.{HintError}
use Rattle.sat_hints.specs.declared.error.HintError.TheVariants.{Refused, HasDeleteVar, Read, Write, OutOfMemory}

-- proof steps that allow the same valuations as the lines: `AddClause` for an input clause, `DeleteVar` for a variable
-- that becomes new, and none for other lines; both lists have the newest first
abbrev pub steps_of_lines : List Line → List Step
steps_of_lines [] = []
steps_of_lines (Input id clause ∷ earlier) = AddClause clause ∷ steps_of_lines earlier
steps_of_lines (Derived id clause ids ∷ earlier) = steps_of_lines earlier
steps_of_lines (Removed id ∷ earlier) = steps_of_lines earlier
steps_of_lines (Core core ids ∷ earlier) = steps_of_lines earlier
steps_of_lines (Fresh v ∷ earlier) = DeleteVar v ∷ steps_of_lines earlier

-- `LinesAllow lines a` holds if the lines, the newest first, allow the valuation `a`: it satisfies the clauses of
-- the formula, where a variable that became new may have had either value before.
abbrev pub LinesAllow : List Line → Valuation → Type 0
LinesAllow lines = Holds (steps_of_lines lines)

-- `EachDerivedHolds lines` holds if every derived clause holds in every valuation that the lines before it allow.
abbrev pub EachDerivedHolds : List Line → Type 0
EachDerivedHolds [] = Unit {0}
EachDerivedHolds (Input id clause ∷ earlier) = EachDerivedHolds earlier
EachDerivedHolds (Derived id clause ids ∷ earlier) = EachDerivedHolds earlier × ((a : Valuation) → LinesAllow earlier a → clause_true a clause ≡ true)
EachDerivedHolds (Removed id ∷ earlier) = EachDerivedHolds earlier
EachDerivedHolds (Core core ids ∷ earlier) = EachDerivedHolds earlier
EachDerivedHolds (Fresh v ∷ earlier) = EachDerivedHolds earlier

-- `EachCoreFails lines` holds if for every core, no valuation that the lines before it allow satisfies all of its
-- literals.
abbrev pub EachCoreFails : List Line → Type 0
EachCoreFails [] = Unit {0}
EachCoreFails (Input id clause ∷ earlier) = EachCoreFails earlier
EachCoreFails (Derived id clause ids ∷ earlier) = EachCoreFails earlier
EachCoreFails (Removed id ∷ earlier) = EachCoreFails earlier
EachCoreFails (Core core ids ∷ earlier) = EachCoreFails earlier × ((a : Valuation) → LinesAllow earlier a → AllLitsTrue a core → ⊥)
EachCoreFails (Fresh v ∷ earlier) = EachCoreFails earlier

-- `DerivedClausesHold` holds if in every derivation, every derived clause holds in every valuation that the lines
-- before it allow.
abbrev pub DerivedClausesHold : Type 0
DerivedClausesHold = (lines : List Line) → IsHintDerivation lines → EachDerivedHolds lines

-- `CoreLinesFail` holds if in every derivation, no valuation that the lines before a core allow satisfies all literals
-- of the core.
abbrev pub CoreLinesFail : Type 0
CoreLinesFail = (lines : List Line) → IsHintDerivation lines → EachCoreFails lines

-- `PresentClausesHold` holds if every clause that is present after a derivation holds in every valuation that its lines
-- allow, even if one of the clause's variables became new after it was added.
abbrev pub PresentClausesHold : Type 0
PresentClausesHold = (lines : List Line) (a : Valuation) (id : ℕ) (clause : List ℕ) → IsHintDerivation lines → LinesAllow lines a → clause_under id lines ≡ Some clause → clause_true a clause ≡ true

-- `EmptyMeansNoModel` holds if every derivation that derives an empty clause allows no valuation.
abbrev pub EmptyMeansNoModel : Type 0
EmptyMeansNoModel = (lines : List Line) (a : Valuation) → IsHintDerivation lines → derives_empty lines ≡ true → LinesAllow lines a → ⊥

-- `MakesNoVarNew line` holds if the line makes no variable new.
abbrev pub MakesNoVarNew : Line → Type 0
MakesNoVarNew (Input id clause) = Unit {0}
MakesNoVarNew (Derived id clause ids) = Unit {0}
MakesNoVarNew (Removed id) = Unit {0}
MakesNoVarNew (Core core ids) = Unit {0}
MakesNoVarNew (Fresh v) = ⊥

-- the clauses of the `Input` lines; both lists have the newest first
abbrev pub inputs_of : List Line → List (List ℕ)
inputs_of [] = []
inputs_of (Input id clause ∷ earlier) = clause ∷ inputs_of earlier
inputs_of (Derived id clause ids ∷ earlier) = inputs_of earlier
inputs_of (Removed id ∷ earlier) = inputs_of earlier
inputs_of (Core core ids ∷ earlier) = inputs_of earlier
inputs_of (Fresh v ∷ earlier) = inputs_of earlier

-- `LinesAllowModels` holds if any lines allow every valuation that satisfies all their input clauses, whichever
-- variables become new.
abbrev pub LinesAllowModels : Type 0
LinesAllowModels = (lines : List Line) (a : Valuation) → AllClausesTrue a (inputs_of lines) → LinesAllow lines a

-- `LinesAllowOnlyModels` holds if any lines without `Fresh` lines allow exactly the valuations that satisfy all their
-- input clauses.
abbrev pub LinesAllowOnlyModels : Type 0
LinesAllowOnlyModels = (lines : List Line) (a : Valuation) → AllByRecursion MakesNoVarNew lines → LinesAllow lines a ↔ AllClausesTrue a (inputs_of lines)

-- `AnnouncedIsDerivation` holds if the lines of all accepted steps are a derivation.
abbrev pub AnnouncedIsDerivation : Type 0
AnnouncedIsDerivation = (steps : List Step) → AcceptsAll steps → IsHintDerivation (lines_of_steps steps)

-- `ReadStepsAreWithinLimits` holds if the literals and variables of all steps that some bytes spell are within their
-- limits.
abbrev pub ReadStepsAreWithinLimits : Type 0
ReadStepsAreWithinLimits = (steps : List Step) (bytes : List ℕ) → SpellsSteps steps bytes → AllByRecursion StepIsWithinLimits steps

-- `AnnouncedIsProved` holds if the hint text of all accepted steps that are within their limits, and whose next id is
-- below 2^64, gets the verdict `Proved` with the counts of `hint_verdict`.
abbrev pub AnnouncedIsProved : Type 0
AnnouncedIsProved = (steps : List Step) → AcceptsAll steps → AllByRecursion StepIsWithinLimits steps → (ready_after steps).next_id < 2 ^ 64 →
    VerdictHolds (hint_verdict steps) (hint_text steps)

-- `IsCertificate steps text` holds if the text is that of these steps and an end, all are accepted, and none of the
-- steps is an end.
pub record IsCertificate (steps : List Step) (text : List ℕ) : Type 0 where
  pub spelt : SpellsSteps (steps ++ End ∷ []) text
  pub unended : AllByRecursion (λ step. step ≢ End) steps
  pub accepted : AcceptsAll (End ∷ steps_after steps [])

-- `WritesTextOrFault result steps old new` holds if the result for accepted steps, the oldest first, is `Ok` and their
-- hint text was written, or the result is `Read`, `Write` or `OutOfMemory`.
abbrev pub WritesTextOrFault : Result (Unit {0}) HintError → List Step → Writer → Writer → Type 0
WritesTextOrFault (Ok x) steps old new = WriterAccepts old new (hint_text (End ∷ steps_after steps []))
WritesTextOrFault (Err HasDeleteVar) steps old new = ⊥
WritesTextOrFault (Err (Refused e)) steps old new = ⊥
WritesTextOrFault (Err Read) steps old new = Unit {0}
WritesTextOrFault (Err Write) steps old new = Unit {0}
WritesTextOrFault (Err OutOfMemory) steps old new = Unit {0}

-- `AcceptedConverts` holds if for every reader whose bytes are known and begin with a certificate, `convert` writes the
-- certificate's hint text or returns `Read`, `Write` or `OutOfMemory`.
abbrev pub AcceptedConverts : Type 0
AcceptedConverts = (steps : List Step) (text more : List ℕ) (result : Result (Unit {0}) HintError) (from to : Reader) (old new : Writer) → IsCertificate steps text → from.to_come ≡ Some (text ++ more)
    → Converts result from to old new → WritesTextOrFault result steps old new

-- `ProvedIsNotBad` holds if no text that is a derivation, as `IsProof` says, has a line at fault, as `IsBadAt` says.
abbrev pub ProvedIsNotBad : Type 0
ProvedIsNotBad = (text : List ℕ) (empty : Bool) (cores lines line : ℕ) (why : HintWhy) → IsProof text empty cores lines → IsBadAt text line why → ⊥

-- `OneVerdict` holds if a text has at most one verdict.
abbrev pub OneVerdict : Type 0
OneVerdict = (text : List ℕ) (v w : HintVerdict) → VerdictHolds v text → VerdictHolds w text → v ≡ w

-- `ProofIsProved` holds if for every reader whose bytes are known and are a proved text, `check` returns `Proved` with
-- the text's counts, or a fault.
abbrev pub ProofIsProved : Type 0
ProofIsProved = (text : List ℕ) (empty : Bool) (cores lines : ℕ) (result : Result HintVerdict HintFault) (from to : Reader) → IsProof text empty cores lines → from.to_come ≡ Some text
    → GaveEnough from to (VerdictIsCorrect result) → IfOk result (λ verdict. verdict ≡ Proved empty cores lines)
