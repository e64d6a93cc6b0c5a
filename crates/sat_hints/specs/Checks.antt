-- When a line of a hint text is at fault, and what a verdict means.
use Rattle.std.specs.Prelude.{ℕ, ◌+◌, ◌≡◌, ◌⊎◌, Bool, false, None, Some, List, [], ◌∷◌, ◌++◌, length}
use Rattle.sat_base.specs.text.Tokenizing.{capped}
use Rattle.sat_checker.specs.LiteralSets.{is_tautology}
use Rattle.sat_checker.specs.Propagation.{IsFalsified, IsUnit}
use Rattle.sat_hints.specs.Lines.{Line, LinesAreWithinLimits, text_of, SpellsLine, BeginsWithLine}
use Rattle.sat_hints.specs.Hints.{clauses_under, IsInOrder, named_ids, assumed_by, RenewsUsedVariable, IsHintDerivation, derives_empty, core_count}
use Rattle.sat_hints.specs.declared.answer.HintWhy.{HintWhy}
use Rattle.sat_hints.specs.declared.answer.HintWhy.TheVariants.{Syntax, IdOrder, UnknownId, NotUnit, NotFalsified, VarInUse}
use Rattle.sat_hints.specs.declared.answer.HintVerdict.{HintVerdict}
use Rattle.sat_hints.specs.declared.answer.HintVerdict.TheVariants.{Proved, Bad}

-- `SomeIsNotUnit assumed clauses` holds if some clause before the last is not unit when it is visited: under the
-- assumed literals and the open literals of the clauses before it, all of which are unit in turn.
abbrev pub SomeIsNotUnit : List ℕ → List (List ℕ) → Type 0
SomeIsNotUnit assumed [] = ⊥
SomeIsNotUnit assumed (clause ∷ []) = ⊥
SomeIsNotUnit assumed (clause ∷ next ∷ rest) =
    ((l : ℕ) → IsUnit assumed clause l → ⊥) ⊎ ((l : ℕ) × IsUnit assumed clause l × SomeIsNotUnit (l ∷ assumed) (next ∷ rest))

-- `LastIsNotFalsified assumed clauses` holds if under the assumed literals, there are no clauses, or those before the
-- last are unit in turn and the last is not falsified.
abbrev pub LastIsNotFalsified : List ℕ → List (List ℕ) → Type 0
LastIsNotFalsified assumed [] = Unit {0}
LastIsNotFalsified assumed (clause ∷ []) = IsFalsified assumed clause → ⊥
LastIsNotFalsified assumed (clause ∷ next ∷ rest) = (l : ℕ) × IsUnit assumed clause l × LastIsNotFalsified (l ∷ assumed) (next ∷ rest)

-- `RefutationFails earlier line Fails` holds if the line derives a clause or a core, is in order, names only present
-- clauses and assumes no variable with both signs, and `Fails` holds of the literals that it assumes and the clauses
-- that it names.
pub record RefutationFails (earlier : List Line) (line : Line) (Fails : List ℕ → List (List ℕ) → Type 0) : Type 0 where
  pub in_order : IsInOrder earlier line
  pub clauses : List (List ℕ)
  pub present : clauses_under (named_ids line) earlier ≡ Some clauses
  pub assumed : List ℕ
  pub assumes : assumed_by line ≡ Some assumed
  pub consistent : is_tautology assumed ≡ false
  pub fails : Fails assumed clauses

-- `IsFaultOf earlier line why` holds if `why` is the first fault of the line after the earlier lines: its id is not
-- above the last clause's, it names a clause that is not present, the clauses that it names do not conflict, or it
-- makes a variable new that is in use.
abbrev pub IsFaultOf : List Line → Line → HintWhy → Type 0
IsFaultOf earlier line IdOrder = IsInOrder earlier line → ⊥
-- a clause that it names is not present
IsFaultOf earlier line UnknownId = IsInOrder earlier line × (clauses_under (named_ids line) earlier ≡ None)
-- the clauses that it names do not lead to a conflict: one before the last is not unit, or the last is not falsified
IsFaultOf earlier line NotUnit = RefutationFails earlier line SomeIsNotUnit
IsFaultOf earlier line NotFalsified = RefutationFails earlier line LastIsNotFalsified
-- a present clause of two or more literals contains the variable that it makes new
IsFaultOf earlier line VarInUse = RenewsUsedVariable earlier line
IsFaultOf earlier line Syntax = ⊥

-- `IsAtFault earlier bytes why` holds if the bytes of a line are at fault after the earlier lines for the reason `why`:
-- `Syntax` if they spell no line, otherwise the fault of the line that they spell.
abbrev pub IsAtFault : List Line → List ℕ → HintWhy → Type 0
IsAtFault earlier bytes Syntax = (line : Line) → SpellsLine bytes line → ⊥
IsAtFault earlier bytes why = (line : Line) × SpellsLine bytes line × IsFaultOf earlier line why

-- `IsBadAt text line why` holds if the line with number `line` of the text is at fault for the reason `why`, and the
-- lines before it are a derivation. Lines are numbered from 1, and the number is capped at 2^64-1.
pub record IsBadAt (text : List ℕ) (line : ℕ) (why : HintWhy) : Type 0 where
  pub earlier : List Line
  pub bytes : List ℕ
  pub rest : List ℕ
  pub whole : text ≡ text_of earlier ++ (bytes ++ rest)
  pub are : LinesAreWithinLimits earlier
  pub derivation : IsHintDerivation earlier
  pub first : BeginsWithLine bytes rest
  pub fault : IsAtFault earlier bytes why
  pub number : line ≡ capped (length earlier + 1)

-- `IsProof text empty cores lines` holds if the text is that of a derivation with these numbers of cores and of lines,
-- capped at 2^64-1, and `empty` is true exactly if it derives an empty clause.
pub record IsProof (text : List ℕ) (empty : Bool) (cores lines : ℕ) : Type 0 where
  pub all : List Line
  pub whole : text ≡ text_of all
  pub are : LinesAreWithinLimits all
  pub derivation : IsHintDerivation all
  pub says_empty : empty ≡ derives_empty all
  pub counts_cores : cores ≡ capped (core_count all)
  pub counts_lines : lines ≡ capped (length all)

-- `VerdictHolds verdict text` holds if the verdict is `Proved` and the entire text is a derivation with the counts that
-- it gives, or if it is `Bad` and the first line at fault is the one that it gives, for the reason that it gives.
abbrev pub VerdictHolds : HintVerdict → List ℕ → Type 0
VerdictHolds (Proved empty cores lines) text = IsProof text empty cores lines
VerdictHolds (Bad line why) text = IsBadAt text line why
