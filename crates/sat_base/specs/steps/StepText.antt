-- The bytes of a proof step: a tag, and then its fields.
use Rattle.std.specs.Prelude.{◌≡◌, ℕ, ◌+◌, ◌*◌, ◌^◌, Bool, true, false, Option, Some, None, List, [], ◌∷◌}
use Rattle.sat_base.specs.steps.Formats.{Format, Both, Items, ListOf}
use Rattle.sat_base.specs.values.Literals.{var_limit}
use Rattle.sat_base.specs.steps.Numbers.{SpellsNumberBelow}
use Rattle.sat_base.specs.steps.Steps.{Deletion, Redundant, Simplified, Satisfied, Step, SolverVarName, UserVarName, DeleteVar, ChangeSamplingMode, AddClause, AtClause, UnitClauses, DeleteClause, ChangeHashBits, Model, Assumptions, FailedAssumptions, End}

-- `SpellsVariable v bytes` holds if the bytes spell the variable index `v`, below 2^28, in LEB128.
abbrev pub SpellsVariable : Format ℕ
SpellsVariable = SpellsNumberBelow var_limit

-- `SpellsOptionalVariable v bytes` holds if the bytes spell 0 and `v` is `None`, or spell one more than the index in
-- `v`, of a variable or a name, below 2^28.
abbrev pub SpellsOptionalVariable : Format (Option ℕ)
SpellsOptionalVariable None bytes = SpellsNumberBelow (var_limit + 1) 0 bytes
SpellsOptionalVariable (Some v) bytes = SpellsNumberBelow (var_limit + 1) (v + 1) bytes

-- `SpellsLiteral l bytes` holds if the bytes spell the literal code `l`, whose variable has an index below 2^28.
abbrev pub SpellsLiteral : Format ℕ
SpellsLiteral = SpellsNumberBelow (2 * var_limit)

-- `SpellsHash hash bytes` holds if the bytes spell a hash, of at most 64 bits.
abbrev pub SpellsHash : Format ℕ
SpellsHash = SpellsNumberBelow (2 ^ 64)

-- `SpellsFlag flag bytes` holds if the bytes spell 0 for false, or 1 for true.
abbrev pub SpellsFlag : Format Bool
SpellsFlag false bytes = SpellsNumberBelow 2 0 bytes
SpellsFlag true bytes = SpellsNumberBelow 2 1 bytes

-- `SpellsWidth width bytes` holds if the bytes spell a width, from 0 to 64.
abbrev pub SpellsWidth : Format ℕ
SpellsWidth = SpellsNumberBelow 65

-- `SpellsDeletion reason bytes` holds if the bytes spell the reason for which a clause is deleted: 0 for redundant, 1
-- for simplified, 2 for satisfied.
abbrev pub SpellsDeletion : Format Deletion
SpellsDeletion Redundant bytes = SpellsNumberBelow 3 0 bytes
SpellsDeletion Simplified bytes = SpellsNumberBelow 3 1 bytes
SpellsDeletion Satisfied bytes = SpellsNumberBelow 3 2 bytes

-- `SpellsLiterals ls bytes` holds if the bytes spell a list of literals, whose count is below 2^64.
abbrev pub SpellsLiterals : Format (List ℕ)
SpellsLiterals = ListOf (SpellsNumberBelow (2 ^ 64)) SpellsLiteral

-- `SpellsHashes hashes bytes` holds if the bytes spell a list of hashes, whose count is below 2^64.
abbrev pub SpellsHashes : Format (List ℕ)
SpellsHashes = ListOf (SpellsNumberBelow (2 ^ 64)) SpellsHash

-- `SpellsHashedLiterals units bytes` holds if the bytes spell a list of literals, each with a hash, whose count is
-- below 2^64.
abbrev pub SpellsHashedLiterals : Format (List (ℕ × ℕ))
SpellsHashedLiterals = ListOf (SpellsNumberBelow (2 ^ 64)) (Both SpellsLiteral SpellsHash)

-- the first byte of a step, which determines its kind
abbrev pub tag_of : Step → ℕ
tag_of (SolverVarName global solver) = 1
tag_of (UserVarName global user) = 2
tag_of (DeleteVar v) = 3
tag_of (ChangeSamplingMode v sample) = 4
tag_of (AddClause clause) = 5
tag_of (AtClause redundant clause hashes) = 6
tag_of (UnitClauses units) = 7
tag_of (DeleteClause clause proof) = 8
tag_of (ChangeHashBits bits) = 9
tag_of (Model assignment) = 10
tag_of (Assumptions assumptions) = 11
tag_of (FailedAssumptions core hashes) = 12
tag_of End = 13

-- `SpellsFields step bytes` holds if the bytes spell the fields of a step, which come after its tag.
abbrev pub SpellsFields : Format Step
SpellsFields (SolverVarName global solver) bytes = Both SpellsVariable SpellsOptionalVariable (global, solver) bytes
SpellsFields (UserVarName global user) bytes = Both SpellsVariable SpellsOptionalVariable (global, user) bytes
SpellsFields (DeleteVar v) bytes = SpellsVariable v bytes
SpellsFields (ChangeSamplingMode v sample) bytes = Both SpellsVariable SpellsFlag (v, sample) bytes
SpellsFields (AddClause clause) bytes = SpellsLiterals clause bytes
SpellsFields (AtClause redundant clause hashes) bytes = Both SpellsFlag (Both SpellsLiterals SpellsHashes) (redundant, (clause, hashes)) bytes
SpellsFields (UnitClauses units) bytes = SpellsHashedLiterals units bytes
SpellsFields (DeleteClause clause proof) bytes = Both SpellsLiterals SpellsDeletion (clause, proof) bytes
SpellsFields (ChangeHashBits bits) bytes = SpellsWidth bits bytes
SpellsFields (Model assignment) bytes = SpellsLiterals assignment bytes
SpellsFields (Assumptions assumptions) bytes = SpellsLiterals assumptions bytes
SpellsFields (FailedAssumptions core hashes) bytes = Both SpellsLiterals SpellsHashes (core, hashes) bytes
SpellsFields End bytes = bytes ≡ []

-- `SpellsStep step bytes` holds if the bytes are the tag of a step, and then spell its fields.
abbrev pub SpellsStep : Format Step
SpellsStep step bytes = (fields : List ℕ) × (bytes ≡ tag_of step ∷ fields) × SpellsFields step fields

-- `SpellsSteps steps bytes` holds if the bytes spell the steps, one after another.
abbrev pub SpellsSteps : Format (List Step)
SpellsSteps = Items SpellsStep
