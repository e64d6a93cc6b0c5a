-- When bytes begin with numbers, with lists or with a line.
use Rattle.std.specs.Prelude.{ℕ, zero, suc, ◌*◌, ◌-◌, ◌^◌, ◌<◌, ◌≤◌, ◌≡◌, ◌⊎◌, List, [], ◌∷◌, ◌++◌, decimal, codes}
use Rattle.std.specs.List.{AllByRecursion}
use Rattle.sat_base.specs.values.Literals.{var_limit}
use Rattle.sat_base.specs.text.NumberWords.{BeginsWithNoWord}
use Rattle.sat_hints.specs.Lines.{Line, Input, Derived, Removed, Core, Fresh, LineIsWithinLimits, AreIds, AreLiteralCodes, spaced_words, id_words, literal_words, line_text}
use Rattle.sat_hints.specs.declared.line.HintLine.{HintLine}
use Rattle.sat_hints.specs.declared.line.HintLine.TheVariants as code
use Rattle.sat_hints.specs.declared.reading.Head.{Head}
use Rattle.sat_hints.specs.declared.reading.Head.TheVariants as head

-- `IsId id` holds if the id is below 2^64-1, so that its number in a text is below 2^64.
abbrev pub IsId : ℕ → Type 0
IsId id = id < 2 ^ 64 - 1

-- `IsVariableIndex v` holds if the variable is an index below 2^28.
abbrev pub IsVariableIndex : ℕ → Type 0
IsVariableIndex v = v < var_limit

-- `IsLiteralCode l` holds if the literal is a code whose variable is below 2^28.
abbrev pub IsLiteralCode : ℕ → Type 0
IsLiteralCode l = l < 2 * var_limit

-- `BeginsWithWords word P bytes xs rest` holds if the bytes begin with the words that `word` gives for `xs`, each
-- followed by a space, and then `rest`, which begins with no further word. `P` holds for all items.
pub record BeginsWithWords (word : ℕ → List ℕ) (P : ℕ → Type 0) (bytes xs rest : List ℕ) : Type 0 where
  pub are : AllByRecursion P xs
  pub whole : bytes ≡ spaced_words word xs ++ rest
  pub no_more : BeginsWithNoWord word P rest

-- `IsLiteralList bytes ls` holds if the bytes are `LITS 0` and LF, with the literals `ls`.
abbrev pub IsLiteralList : List ℕ → List ℕ → Type 0
IsLiteralList bytes ls = AreLiteralCodes ls × (bytes ≡ literal_words ls ++ codes "0\n")

-- `IsLiteralAndIdLists bytes ls ids` holds if the bytes are `LITS 0 IDS 0` and LF, with the literals `ls` and these
-- ids.
abbrev pub IsLiteralAndIdLists : List ℕ → List ℕ → List ℕ → Type 0
IsLiteralAndIdLists bytes ls ids = AreLiteralCodes ls × AreIds ids × (bytes ≡ literal_words ls ++ (codes "0 " ++ (id_words ids ++ codes "0\n")))

-- `BeginsWithLiteralList bytes ls rest` holds if the bytes are `LITS 0` and LF, with the literals `ls`, and then
-- `rest`.
abbrev pub BeginsWithLiteralList : List ℕ → List ℕ → List ℕ → Type 0
BeginsWithLiteralList bytes ls rest = AreLiteralCodes ls × (bytes ≡ literal_words ls ++ (codes "0\n" ++ rest))

-- `BeginsWithBothLists bytes ls ids rest` holds if the bytes are `LITS 0 IDS 0` and LF, with the literals `ls` and
-- these ids, and then `rest`.
abbrev pub BeginsWithBothLists : List ℕ → List ℕ → List ℕ → List ℕ → Type 0
BeginsWithBothLists bytes ls ids rest = AreLiteralCodes ls × AreIds ids × (bytes ≡ literal_words ls ++ (codes "0 " ++ (id_words ids ++ (codes "0\n" ++ rest))))

-- the line that a line of the code represents, with the contents of its slices as lists
abbrev pub line_of_view : HintLine → Line
line_of_view (code.Input id clause) = Input id clause.now
line_of_view (code.Derived id clause ids) = Derived id clause.now ids.now
line_of_view (code.Removed id) = Removed id
line_of_view (code.Core core ids) = Core core.now ids.now
line_of_view (code.Fresh var) = Fresh var

-- the line with this head, which gives its kind and its id or variable, and with these literals and ids as far as it
-- has any
abbrev pub line_with : Head → List ℕ → List ℕ → Line
line_with (head.Input id) ls ids = Input id ls
line_with (head.Derived id) ls ids = Derived id ls ids
line_with (head.Removed id) ls ids = Removed id
line_with head.Core ls ids = Core ls ids
line_with (head.Fresh var) ls ids = Fresh var

-- `BeginsWithHintLine bytes line rest` holds if the bytes are the text of this line, which is within its limits, and
-- then `rest`.
abbrev pub BeginsWithHintLine : List ℕ → Line → List ℕ → Type 0
BeginsWithHintLine bytes line rest = LineIsWithinLimits line × (bytes ≡ line_text line ++ rest)

-- `BeginsWithNoLine bytes` holds if the bytes do not begin with a line.
abbrev pub BeginsWithNoLine : List ℕ → Type 0
BeginsWithNoLine bytes = (line : Line) (rest : List ℕ) → BeginsWithHintLine bytes line rest → ⊥
