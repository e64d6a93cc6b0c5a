-- The lines of a hint text, and their bytes. Lists of lines have the newest first.
use Rattle.std.specs.Prelude.{ℕ, ◌+◌, ◌*◌, ◌-◌, ◌^◌, ◌<◌, ◌≡◌, List, [], ◌∷◌, ◌++◌, decimal, codes}
use Rattle.std.specs.List.{AllByRecursion}
use Rattle.sat_base.specs.values.Literals.{var_limit}
use Rattle.sat_base.specs.dimacs.DimacsText.{number_text}

-- A line of a hint text. Every clause has an id, and literals are codes.
pub data Line : Type 0 where
  Input : ℕ → List ℕ → Line  -- a clause of the formula, under this id
  Derived : ℕ → List ℕ → List ℕ → Line  -- a clause under this id, and the ids of those that it follows from
  Removed : ℕ → Line  -- the clause under this id is removed
  Core : List ℕ → List ℕ → Line  -- literals that fail together, and the ids of the clauses by which they do
  Fresh : ℕ → Line  -- a variable is new: its units are removed, and it may have another value than before

-- `AreIds ids` holds if every id is below 2^64-1.
abbrev pub AreIds : List ℕ → Type 0
AreIds = AllByRecursion (λ id. id < 2 ^ 64 - 1)

-- `AreVariables vs` holds if every variable is an index below 2^28.
abbrev pub AreVariables : List ℕ → Type 0
AreVariables = AllByRecursion (λ v. v < var_limit)

-- `AreLiteralCodes ls` holds if every literal is a code whose variable is below 2^28.
abbrev pub AreLiteralCodes : List ℕ → Type 0
AreLiteralCodes = AllByRecursion (λ l. l < 2 * var_limit)

-- `LineIsWithinLimits line` holds if the ids of the line are below 2^64-1, and its variables, also those of its
-- literals, below 2^28.
abbrev pub LineIsWithinLimits : Line → Type 0
LineIsWithinLimits (Input id clause) = AreIds (id ∷ []) × AreLiteralCodes clause
LineIsWithinLimits (Derived id clause ids) = AreIds (id ∷ []) × AreLiteralCodes clause × AreIds ids
LineIsWithinLimits (Removed id) = AreIds (id ∷ [])
LineIsWithinLimits (Core core ids) = AreLiteralCodes core × AreIds ids
LineIsWithinLimits (Fresh v) = AreVariables (v ∷ [])

-- `LinesAreWithinLimits lines` holds if in all lines, the ids are below 2^64-1 and the variables, also those of
-- literals, below 2^28.
abbrev pub LinesAreWithinLimits : List Line → Type 0
LinesAreWithinLimits = AllByRecursion LineIsWithinLimits

-- the texts that `word` gives for the items, each followed by a space (32)
abbrev pub spaced_words : (ℕ → List ℕ) → List ℕ → List ℕ
spaced_words word [] = []
spaced_words word (x ∷ xs) = word x ++ (32 ∷ spaced_words word xs)

-- the text of an id: the id plus 1, in decimal, so that `0` can end a list
abbrev pub id_text : ℕ → List ℕ
id_text id = decimal (id + 1)

-- the texts of ids, each followed by a space
abbrev pub id_words : List ℕ → List ℕ
id_words = spaced_words id_text

-- the DIMACS numbers of variables, which are their indices plus 1, each followed by a space
abbrev pub variable_words : List ℕ → List ℕ
variable_words = spaced_words id_text

-- the DIMACS numbers of literals, each followed by a space
abbrev pub literal_words : List ℕ → List ℕ
literal_words = spaced_words number_text

-- the text of a line: `i ID LITS 0`, `d ID LITS 0 IDS 0`, `x ID 0`, `f LITS 0 IDS 0` or `e VAR 0`, and LF
abbrev pub line_text : Line → List ℕ
line_text (Input id clause) = codes "i " ++ (id_words (id ∷ []) ++ (literal_words clause ++ codes "0\n"))
line_text (Derived id clause ids) = codes "d " ++ (id_words (id ∷ []) ++ (literal_words clause ++ (codes "0 " ++ (id_words ids ++ codes "0\n"))))
line_text (Removed id) = codes "x " ++ (id_words (id ∷ []) ++ codes "0\n")
line_text (Core core ids) = codes "f " ++ (literal_words core ++ (codes "0 " ++ (id_words ids ++ codes "0\n")))
line_text (Fresh v) = codes "e " ++ (variable_words (v ∷ []) ++ codes "0\n")

-- the text of all lines, the oldest line first in the text; the list has the newest first
abbrev pub text_of : List Line → List ℕ
text_of [] = []
text_of (line ∷ earlier) = text_of earlier ++ line_text line

-- `SpellsLine bytes line` holds if the bytes are the text of the line, and its ids, literals and variable are within
-- their limits.
abbrev pub SpellsLine : List ℕ → Line → Type 0
SpellsLine bytes line = LineIsWithinLimits line × (bytes ≡ line_text line)

-- `HasNoLf bytes` holds if no byte is LF (10).
abbrev pub HasNoLf : List ℕ → Type 0
HasNoLf = AllByRecursion (λ b. b ≡ 10 → ⊥)

-- `BeginsWithLine bytes rest` holds if `bytes` is the first line of a text, and `rest` follows it. The line has any
-- content, and LF ends it. Only the last line of a text may lack the LF, if it is not empty.
pub data BeginsWithLine (bytes rest : List ℕ) : Type 0 where
  ended : (front : List ℕ) → HasNoLf front → bytes ≡ front ++ (10 ∷ []) → BeginsWithLine bytes rest
  cut_off : HasNoLf bytes → (bytes ≡ [] → ⊥) → rest ≡ [] → BeginsWithLine bytes rest
