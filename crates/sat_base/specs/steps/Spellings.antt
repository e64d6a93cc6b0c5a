-- Formats, with the bytes that are written for a value.
use Rattle.std.specs.Prelude.{ℕ, Bool, Option, List, Result, ◌++◌}
use Rattle.sat_base.specs.declared.device.output.Output.{Output}
use Rattle.sat_base.specs.device.Device.{Writer}
use Rattle.sat_base.specs.device.Sink.{AddsToSink, SendsValue, sink_of}
use Rattle.sat_base.specs.steps.Formats.{Format, Both}
use Rattle.sat_base.specs.steps.Steps.{Deletion, Step}
use Rattle.sat_base.specs.steps.StepText.{SpellsVariable, SpellsOptionalVariable, SpellsLiteral, SpellsHash, SpellsFlag, SpellsWidth, SpellsDeletion, SpellsLiterals, SpellsHashes, SpellsHashedLiterals, SpellsFields, SpellsStep}
use Rattle.sat_base.specs.steps.StepBytes.{number_bytes, optional_bytes, flag_bytes, deletion_bytes, list_bytes, units_bytes, fields_bytes, step_bytes}

-- a format, and the bytes that are written for every value
pub record Spelling (A : Type 0) : Type 1 where
  pub format : Format A
  pub bytes : A → List ℕ

-- the format and the written bytes of the index of a variable, below 2^28
abbrev pub a_variable : Spelling ℕ
a_variable = record { format = SpellsVariable; bytes = number_bytes }

-- the format and the written bytes of an optional index (of a solver's variable or of a user's name): 0 for `None`,
-- otherwise the index plus 1
abbrev pub an_optional_variable : Spelling (Option ℕ)
an_optional_variable = record { format = SpellsOptionalVariable; bytes = optional_bytes }

-- the format and the written byte of a flag: 0 for false, 1 for true
abbrev pub a_flag : Spelling Bool
a_flag = record { format = SpellsFlag; bytes = flag_bytes }

-- the format and the written byte of a width, from 0 to 64: how many top bits of hashes later steps contain
abbrev pub a_width : Spelling ℕ
a_width = record { format = SpellsWidth; bytes = number_bytes }

-- the format and the written byte of the reason for which a clause is deleted: 0 redundant, 1 simplified, 2 satisfied
abbrev pub a_deletion : Spelling Deletion
a_deletion = record { format = SpellsDeletion; bytes = deletion_bytes }

-- the format and the written bytes of a literal, as its code
abbrev pub a_literal : Spelling ℕ
a_literal = record { format = SpellsLiteral; bytes = number_bytes }

-- the format and the written bytes of the hash by which a clause is named, below 2^64
abbrev pub a_hash : Spelling ℕ
a_hash = record { format = SpellsHash; bytes = number_bytes }

-- the format and the written bytes of a list of literals: a count, and then this number of literal codes
abbrev pub literals : Spelling (List ℕ)
literals = record { format = SpellsLiterals; bytes = list_bytes }

-- the format and the written bytes of a list of hashes: a count, and then this number of hashes
abbrev pub hashes : Spelling (List ℕ)
hashes = record { format = SpellsHashes; bytes = list_bytes }

-- the format and the written bytes of a list of units: a count, and then this number of literals, each with the hash of
-- the clause that it follows from
abbrev pub units : Spelling (List (ℕ × ℕ))
units = record { format = SpellsHashedLiterals; bytes = units_bytes }

-- the spelling of pairs: the first value's bytes as `s` spells them, and then the second one's as `t` does
abbrev pub both : {A B : Type 0} → Spelling A → Spelling B → Spelling (A × B)
both s t = record { format = Both s.format t.format; bytes = λ x. s.bytes x.0 ++ t.bytes x.1 }

-- the spelling of a variable's index and then an optional index (of a solver's variable or of a user's name)
abbrev pub variables : Spelling (ℕ × Option ℕ)
variables = both a_variable an_optional_variable

-- the spelling of a variable's index and then a flag: whether its mode is sample
abbrev pub a_mode : Spelling (ℕ × Bool)
a_mode = both a_variable a_flag

-- the spelling of a list of literals and then a list of hashes, each after its count
abbrev pub both_lists : Spelling (List ℕ × List ℕ)
both_lists = both literals hashes

-- the spelling of a derived clause: a flag whether it is redundant, its literals, and the hashes of the clauses that it
-- follows from
abbrev pub a_derived : Spelling (Bool × (List ℕ × List ℕ))
a_derived = both a_flag both_lists

-- the spelling of a deleted clause: its literals, and then the reason for its deletion
abbrev pub a_deleted : Spelling (List ℕ × Deletion)
a_deleted = both literals a_deletion

-- the format and the written bytes of a step's fields, which come after its tag
abbrev pub fields : Spelling Step
fields = record { format = SpellsFields; bytes = fields_bytes }

-- the format and the written bytes of a step: its tag, and then its fields
abbrev pub a_step : Spelling Step
a_step = record { format = SpellsStep; bytes = step_bytes }

-- `SendsSpelling s x r seen waiting old new` holds if the result `r` is `Ok` and the bytes of the value `x`, in its
-- format, were put after the pending bytes of the output, or it is an error and one call of the writer failed.
abbrev pub SendsSpelling : {A E W P : Type 0} → Spelling A → A → Result (Unit {0}) E → (W → Writer) → (P → List ℕ)
    → Output W P → Output W P → Type 0
SendsSpelling s x r seen waiting old new = SendsValue s.format x (s.bytes x) r (sink_of seen waiting old) (sink_of seen waiting new)

-- `PushesSpelling s x seen waiting old new` holds if the spelling of the value `x` was put after the pending bytes of
-- an output, and no call failed.
abbrev pub PushesSpelling : {A W P : Type 0} → Spelling A → A → (W → Writer) → (P → List ℕ) → Output W P → Output W P → Type 0
PushesSpelling s x seen waiting old new = AddsToSink (sink_of seen waiting old) (sink_of seen waiting new) (s.bytes x) × s.format x (s.bytes x)
