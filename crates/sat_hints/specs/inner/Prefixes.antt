-- What may follow a prefix of a line.
use Rattle.std.specs.Prelude.{ℕ, ◌-◌, ◌^◌, ◌≤◌, ◌==◌, ◌≡◌, Option, None, Some, List, ◌∷◌, ◌++◌, decimal, codes, if◌then◌else◌}
use Rattle.sat_base.specs.values.Literals.{var_limit}
use Rattle.sat_hints.specs.Lines.{Line, AreIds, id_words, SpellsLine}
use Rattle.sat_hints.specs.inner.LineReading.{IsLiteralList, IsLiteralAndIdLists}
use Rattle.sat_base.specs.text.NumberWords.{IsNumberUpTo, digits_so_far}
use Rattle.sat_hints.specs.declared.prefixes.Part.{Part}
use Rattle.sat_hints.specs.declared.prefixes.Part.TheVariants.{InputId, DerivedId, RemovedId, FreshVar, Clause, Lists, Ids, End}
use Rattle.sat_hints.specs.declared.prefixes.Place.{Place}
use Rattle.sat_hints.specs.declared.prefixes.Place.TheVariants.{Letter, Space, Item, Digits, Over}

-- the largest number with which this part of a line may begin (an id plus 1, or a variable); not used for `End`, which
-- is `0`
abbrev pub limit_of : Part → ℕ
limit_of InputId = 2 ^ 64 - 1
limit_of DerivedId = 2 ^ 64 - 1
limit_of RemovedId = 2 ^ 64 - 1
limit_of FreshVar = var_limit
limit_of Clause = var_limit
limit_of Lists = var_limit
limit_of Ids = 2 ^ 64 - 1
limit_of End = 2 ^ 64 - 1

-- the part after a number at the start of this part; not used for `End`
abbrev pub next_of : Part → Part
next_of InputId = Clause
next_of DerivedId = Lists
next_of RemovedId = End
next_of FreshVar = End
next_of Clause = Clause
next_of Lists = Lists
next_of Ids = Ids
next_of End = End

-- `IsNumberThen limit Rest number bytes` holds if the digits of `number` (none for 0), which were read before, and then
-- the bytes are a number up to the limit, a space, and a text of which `Rest` holds.
pub record IsNumberThen (limit : ℕ) (Rest : List ℕ → Type 0) (number : ℕ) (bytes : List ℕ) : Type 0 where
  pub value : ℕ
  pub rest : List ℕ
  pub within : IsNumberUpTo limit value
  pub whole : digits_so_far number ++ bytes ≡ decimal value ++ (32 ∷ rest)
  pub following : Rest rest

-- `IsPartOfLine part bytes` holds if the bytes are the rest of a line from this part.
abbrev pub IsPartOfLine : Part → List ℕ → Type 0
IsPartOfLine InputId bytes = IsNumberThen (2 ^ 64 - 1) (λ rest. (ls : List ℕ) × IsLiteralList rest ls) 0 bytes
IsPartOfLine DerivedId bytes = IsNumberThen (2 ^ 64 - 1) (λ rest. (ls : List ℕ) × (ids : List ℕ) × IsLiteralAndIdLists rest ls ids) 0 bytes
IsPartOfLine RemovedId bytes = IsNumberThen (2 ^ 64 - 1) (λ rest. rest ≡ codes "0\n") 0 bytes
IsPartOfLine FreshVar bytes = IsNumberThen var_limit (λ rest. rest ≡ codes "0\n") 0 bytes
IsPartOfLine Clause bytes = (ls : List ℕ) × IsLiteralList bytes ls
IsPartOfLine Lists bytes = (ls : List ℕ) × (ids : List ℕ) × IsLiteralAndIdLists bytes ls ids
IsPartOfLine Ids bytes = (ids : List ℕ) × AreIds ids × (bytes ≡ id_words ids ++ codes "0\n")
IsPartOfLine End bytes = bytes ≡ codes "0\n"

-- `IsRestOfLine place bytes` holds if the bytes are the rest of a line from this place.
abbrev pub IsRestOfLine : Place → List ℕ → Type 0
IsRestOfLine Letter bytes = (line : Line) × SpellsLine bytes line
IsRestOfLine (Space part) bytes = (rest : List ℕ) × (bytes ≡ 32 ∷ rest) × IsPartOfLine part rest
IsRestOfLine (Item part) bytes = IsPartOfLine part bytes
IsRestOfLine (Digits part number) bytes = IsNumberThen (limit_of part) (IsPartOfLine (next_of part)) number bytes
IsRestOfLine Over bytes = bytes ≡ codes "\n"

-- `IsRestOfLineFrom place bytes` holds if there is a place, and the bytes are the rest of a line from it.
abbrev pub IsRestOfLineFrom : Option Place → List ℕ → Type 0
IsRestOfLineFrom None bytes = ⊥
IsRestOfLineFrom (Some place) bytes = IsRestOfLine place bytes

-- the place after a line's letter, which is `d` (100), `x` (120), `i` (105), `f` (102) or `e` (101), or `None` if the
-- byte is another
abbrev pub letter_place : ℕ → Option Place
letter_place b =
    if b == 100 then Some (Space DerivedId) else if b == 120 then Some (Space RemovedId) else if b == 105 then Some (Space InputId) else if b == 102 then Some (Space Lists) else if b == 101 then Some (Space FreshVar) else None

-- the place after a `0` at the start of a part, or `None` if the part can't begin with `0`
abbrev pub zero_place : Part → Option Place
zero_place InputId = None
zero_place DerivedId = None
zero_place RemovedId = None
zero_place FreshVar = None
zero_place Clause = Some Over
zero_place Lists = Some (Space Ids)
zero_place Ids = Some Over
zero_place End = Some Over

-- the place after a `-` at the start of a part, or `None` if the part can't begin with `-`
abbrev pub sign_place : Part → Option Place
sign_place InputId = None
sign_place DerivedId = None
sign_place RemovedId = None
sign_place FreshVar = None
sign_place Clause = Some (Digits Clause 0)
sign_place Lists = Some (Digits Lists 0)
sign_place Ids = None
sign_place End = None

-- `LeadsToPlace from bytes to` holds if whatever completes a line after the bytes, read from place `from`, completes it
-- from place `to`. If `to` is `None`, no line continues with the bytes.
abbrev pub LeadsToPlace : Place → List ℕ → Option Place → Type 0
LeadsToPlace from bytes to = (more : List ℕ) → IsRestOfLine from (bytes ++ more) → IsRestOfLineFrom to more

-- `IsWithinLimit place` holds if the number at the place, if there is one, is within its limit.
abbrev pub IsWithinLimit : Place → Type 0
IsWithinLimit Letter = Unit {0}
IsWithinLimit (Space part) = Unit {0}
IsWithinLimit (Item part) = Unit {0}
IsWithinLimit (Digits part number) = number ≤ limit_of part
IsWithinLimit Over = Unit {0}

-- `ReachesPlace from bytes to` holds if whatever completes a line from `to`, if there is such a place, also completes
-- it from `from`, after the bytes. If the number at `from` is within its limit, so is the number at `to`.
abbrev pub ReachesPlace : Place → List ℕ → Option Place → Type 0
ReachesPlace from bytes None = Unit {0}
ReachesPlace from bytes (Some to) = IsWithinLimit from → IsWithinLimit to × ((more : List ℕ) → IsRestOfLine to more → IsRestOfLine from (bytes ++ more))
