-- The bytes of a proof step, as they are written. A law states that they are the only spelling of the step.
use Rattle.std.specs.Prelude.{ℕ, suc, zero, ◌+◌, ◌/◌, ◌%◌, Bool, true, false, Option, None, Some, List, [], ◌∷◌, ◌++◌, length, nat_lt, if◌then◌else◌}
use Rattle.sat_base.specs.steps.Steps.{Deletion, Redundant, Simplified, Satisfied, Step, SolverVarName, UserVarName, DeleteVar, ChangeSamplingMode, AddClause, AtClause, UnitClauses, DeleteClause, ChangeHashBits, Model, Assumptions, FailedAssumptions, End}
use Rattle.sat_base.specs.steps.StepText.{tag_of}

-- a number in groups of seven bits (LEB128), low group first; at most `k` groups are followed by another
unfoldable pub groups_of_seven_bits : ℕ → ℕ → List ℕ
groups_of_seven_bits zero n = n ∷ []
groups_of_seven_bits (suc k) n = if nat_lt n 128 then n ∷ [] else (n % 128 + 128) ∷ groups_of_seven_bits k (n / 128)

-- the bytes of a number of at most 64 bits: at most ten groups
abbrev pub number_bytes : ℕ → List ℕ
number_bytes n = groups_of_seven_bits 9 n

-- the bytes of an optional index: 0 for `None`, otherwise the index plus 1
abbrev pub optional_bytes : Option ℕ → List ℕ
optional_bytes None = number_bytes 0
optional_bytes (Some v) = number_bytes (v + 1)

-- the byte of a flag: 0 for false, and 1 for true
abbrev pub flag_bytes : Bool → List ℕ
flag_bytes false = number_bytes 0
flag_bytes true = number_bytes 1

-- the byte of the reason for which a clause is deleted: 0 redundant, 1 simplified, 2 satisfied
abbrev pub deletion_bytes : Deletion → List ℕ
deletion_bytes Redundant = number_bytes 0
deletion_bytes Simplified = number_bytes 1
deletion_bytes Satisfied = number_bytes 2

-- the bytes of literal codes or hashes, one after another, without a count
abbrev pub numbers_bytes : List ℕ → List ℕ
numbers_bytes [] = []
numbers_bytes (n ∷ ns) = number_bytes n ++ numbers_bytes ns

-- the bytes of literals, each with a hash, one after another
abbrev pub pairs_bytes : List (ℕ × ℕ) → List ℕ
pairs_bytes [] = []
pairs_bytes (p ∷ ps) = (number_bytes p.0 ++ number_bytes p.1) ++ pairs_bytes ps

-- the bytes of a list: a count, and then this number of literals or hashes
abbrev pub list_bytes : List ℕ → List ℕ
list_bytes ns = number_bytes (length ns) ++ numbers_bytes ns

-- the bytes of a list of units: a count, and then this number of literals, each with a hash
abbrev pub units_bytes : List (ℕ × ℕ) → List ℕ
units_bytes ps = number_bytes (length ps) ++ pairs_bytes ps

-- the bytes of a step's fields, which come after its tag
abbrev pub fields_bytes : Step → List ℕ
fields_bytes (SolverVarName global solver) = number_bytes global ++ optional_bytes solver
fields_bytes (UserVarName global user) = number_bytes global ++ optional_bytes user
fields_bytes (DeleteVar v) = number_bytes v
fields_bytes (ChangeSamplingMode v sample) = number_bytes v ++ flag_bytes sample
fields_bytes (AddClause clause) = list_bytes clause
fields_bytes (AtClause redundant clause hashes) = flag_bytes redundant ++ (list_bytes clause ++ list_bytes hashes)
fields_bytes (UnitClauses units) = units_bytes units
fields_bytes (DeleteClause clause proof) = list_bytes clause ++ deletion_bytes proof
fields_bytes (ChangeHashBits bits) = number_bytes bits
fields_bytes (Model assignment) = list_bytes assignment
fields_bytes (Assumptions assumptions) = list_bytes assumptions
fields_bytes (FailedAssumptions core hashes) = list_bytes core ++ list_bytes hashes
fields_bytes End = []

-- the bytes of a step: its tag, and then its fields
abbrev pub step_bytes : Step → List ℕ
step_bytes step = tag_of step ∷ fields_bytes step

-- the number of items in a step's lists; a unit counts as two
abbrev pub items_in : Step → ℕ
items_in (SolverVarName global solver) = 0
items_in (UserVarName global user) = 0
items_in (DeleteVar v) = 0
items_in (ChangeSamplingMode v sample) = 0
items_in (AddClause clause) = length clause
items_in (AtClause redundant clause hashes) = length clause + length hashes
items_in (UnitClauses units) = length units + length units
items_in (DeleteClause clause proof) = length clause
items_in (ChangeHashBits bits) = 0
items_in (Model assignment) = length assignment
items_in (Assumptions assumptions) = length assumptions
items_in (FailedAssumptions core hashes) = length core + length hashes
items_in End = 0
