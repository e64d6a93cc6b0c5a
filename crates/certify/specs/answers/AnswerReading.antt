-- How an answer is read from bytes, and why no answer can be read. Bytes are ASCII codes: 10 is LF, 32 a space, 48 `0`,
-- 102 `f`, and 118 `v`.
use Rattle.std.specs.Prelude.{ℕ, ◌≡◌, ◌≢◌, ◌⊎◌, List, [], ◌∷◌, ◌++◌, decimal}
use Rattle.sat_base.specs.values.Literals.{variable}
use Rattle.sat_base.specs.script.Script.{Literal}
use Rattle.sat_base.specs.text.NumberWords.{BeginsWithNoWord}
use Rattle.certify.specs.answers.Answers.{s_satisfiable, s_unsatisfiable, s_unknown, v_line, f_line, literal_text, literals_text, outcome_text}
use Rattle.sat_checker.specs.matching.Expected.{Outcome, Sat, Unsat, Unknown}
use Rattle.certify.specs.answers.AnswerForms.{IsName, IsPrintable, named_literal, named_literals}
use Rattle.certify.specs.declared.answers.read.AnswerKind.{AnswerKind}
use Rattle.certify.specs.declared.answers.read.AnswerKind.TheVariants as kind
use Rattle.certify.specs.declared.answers.read.AnswerFault.{AnswerFault}
use Rattle.certify.specs.declared.answers.read.AnswerFault.TheVariants.{Missing, Text, OutOfMemory}

-- the outcome of this kind, with these literals as its model or its core; an unknown outcome has no literals
abbrev pub outcome_of : AnswerKind → List Literal → Outcome
outcome_of kind.Sat line = Sat line
outcome_of kind.Unsat core = Unsat core
outcome_of kind.Unknown line = Unknown

-- the first line of an answer of this kind, with LF
abbrev pub first_answer_line : AnswerKind → List ℕ
first_answer_line kind.Sat = s_satisfiable
first_answer_line kind.Unsat = s_unsatisfiable
first_answer_line kind.Unknown = s_unknown

-- the second line of an answer, with LF, or nothing if there is none
abbrev pub second_line : Outcome → List ℕ
second_line (Sat line) = v_line line
second_line (Unsat core) = f_line core
second_line Unknown = []

-- `HasSecondLine k` holds if an answer of kind `k` has a second line.
abbrev pub HasSecondLine : AnswerKind → Type 0
HasSecondLine kind.Unknown = ⊥
HasSecondLine k = Unit {0}

-- `IsSecondLineHead k head` holds if the second line of an answer of kind `k` begins with `head`: `v ` or `f `.
abbrev pub IsSecondLineHead : AnswerKind → List ℕ → Type 0
IsSecondLineHead kind.Sat head = head ≡ 118 ∷ 32 ∷ []
IsSecondLineHead kind.Unsat head = head ≡ 102 ∷ 32 ∷ []
IsSecondLineHead kind.Unknown head = ⊥

-- the sort key of a literal code in the second line of an answer: its variable in a model, the code itself in a core
abbrev pub literal_sort_key : AnswerKind → ℕ → ℕ
literal_sort_key kind.Sat l = variable l
literal_sort_key k l = l

-- `BeginsNoLiteral bytes` holds if the bytes do not begin with a literal whose name is allowed (`IsName`), and a space.
abbrev pub BeginsNoLiteral : List ℕ → Type 0
BeginsNoLiteral bytes = (l : Literal) (tail : List ℕ) → IsName l.name → bytes ≡ literal_text l ++ (32 ∷ tail) → ⊥

-- `CannotBeginName bytes` holds if the bytes, whatever follows them, do not begin with a name in decimal digits, which
-- is allowed (`IsName`), and a space.
abbrev pub CannotBeginName : List ℕ → Type 0
CannotBeginName bytes = (more : List ℕ) → BeginsWithNoWord decimal IsName (bytes ++ more)

-- `CannotBeginLiteral bytes` holds if the bytes, whatever follows them, do not begin with a literal whose name is
-- allowed (`IsName`), and a space.
abbrev pub CannotBeginLiteral : List ℕ → Type 0
CannotBeginLiteral bytes = (more : List ℕ) → BeginsNoLiteral (bytes ++ more)

-- `BeginsWithWordsOf text bytes` holds if `text` ends with `0` and LF, and `bytes` begins with all of `text` before
-- these two.
abbrev pub BeginsWithWordsOf : List ℕ → List ℕ → Type 0
BeginsWithWordsOf text bytes = (front : List ℕ) × (tail : List ℕ) × ((text ≡ front ++ (48 ∷ 10 ∷ [])) × (bytes ≡ front ++ tail))

-- `BeginsLineWithLiteral k text bytes` holds if answers of kind `k` have a second line, and the bytes begin with the
-- text of at least one literal, in form for kind `k`. `text` gives the text of literals, whose final `0` and LF need
-- not follow. Only then can memory be needed.
abbrev pub BeginsLineWithLiteral : AnswerKind → (List Literal → List ℕ) → List ℕ → Type 0
BeginsLineWithLiteral k text bytes = HasSecondLine k
    × ((ls : List Literal) × (l : Literal) × (IsPrintable (outcome_of k (ls ++ (l ∷ []))) × BeginsWithWordsOf (text (ls ++ (l ∷ []))) bytes))

-- `WhyNoLiterals k bytes fault` holds if `fault` is why the literals of a line of kind `k` cannot be read from the
-- bytes: they do not begin with literals in form (`Text`), or memory runs out after at least one. It is never
-- `Missing`.
abbrev pub WhyNoLiterals : AnswerKind → List ℕ → AnswerFault → Type 0
WhyNoLiterals k bytes Missing = ⊥
WhyNoLiterals k bytes Text = (ls : List Literal) (tail : List ℕ) → IsPrintable (outcome_of k ls) → bytes ≡ literals_text ls ++ tail → ⊥
WhyNoLiterals k bytes OutOfMemory = BeginsLineWithLiteral k literals_text bytes

-- `WhyNoFirstLine bytes fault` holds if `fault` is why the first line of an answer cannot be read: the bytes are empty
-- (`Missing`), or begin with none (`Text`). Memory never runs out.
abbrev pub WhyNoFirstLine : List ℕ → AnswerFault → Type 0
WhyNoFirstLine bytes Missing = bytes ≡ []
WhyNoFirstLine bytes Text = (bytes ≢ []) × ((k : AnswerKind) (tail : List ℕ) → bytes ≡ first_answer_line k ++ tail → ⊥)
WhyNoFirstLine bytes OutOfMemory = ⊥

-- `WhyNoSecondLine k bytes fault` holds if `fault` is why the second line of an answer of kind `k` cannot be read: the
-- bytes are empty (`Missing`), they do not begin with one in form (`Text`), or memory runs out after at least one
-- literal.
abbrev pub WhyNoSecondLine : AnswerKind → List ℕ → AnswerFault → Type 0
WhyNoSecondLine k bytes Missing = HasSecondLine k × (bytes ≡ [])
WhyNoSecondLine k bytes Text = (bytes ≢ [])
    × ((ls : List Literal) (tail : List ℕ) → IsPrintable (outcome_of k ls) → bytes ≡ second_line (outcome_of k ls) ++ tail → ⊥)
WhyNoSecondLine k bytes OutOfMemory = BeginsLineWithLiteral k (λ ls. second_line (outcome_of k ls)) bytes

-- `CannotBeginLiterals k bytes` holds if no text of literals in form for kind `k`, with its `0` and LF, begins with the
-- bytes.
abbrev pub CannotBeginLiterals : AnswerKind → List ℕ → Type 0
CannotBeginLiterals k bytes = (ls : List Literal) (more : List ℕ) → IsPrintable (outcome_of k ls) → literals_text ls ≡ bytes ++ more → ⊥

-- `CannotBeginFirstLine bytes` holds if no first line of an answer begins with the bytes.
abbrev pub CannotBeginFirstLine : List ℕ → Type 0
CannotBeginFirstLine bytes = (k : AnswerKind) (more : List ℕ) → first_answer_line k ≡ bytes ++ more → ⊥

-- `CannotBeginSecondLine k bytes` holds if no second line, in form, of an answer of kind `k` begins with the bytes.
abbrev pub CannotBeginSecondLine : AnswerKind → List ℕ → Type 0
CannotBeginSecondLine k bytes = (ls : List Literal) (more : List ℕ) → IsPrintable (outcome_of k ls) → second_line (outcome_of k ls) ≡ bytes ++ more → ⊥

-- `EndsBeforeLine bytes` holds if the bytes end where a line of an answer is expected: they are empty, or exactly the
-- line `s SATISFIABLE` or `s UNSATISFIABLE`.
abbrev pub EndsBeforeLine : List ℕ → Type 0
EndsBeforeLine bytes = (bytes ≡ []) ⊎ ((bytes ≡ s_satisfiable) ⊎ (bytes ≡ s_unsatisfiable))

-- `BeginsNoOutcome bytes` holds if the bytes do not begin with the text of an outcome in form.
abbrev pub BeginsNoOutcome : List ℕ → Type 0
BeginsNoOutcome bytes = (o : Outcome) (tail : List ℕ) → IsPrintable o → bytes ≡ outcome_text o ++ tail → ⊥

-- `WhyNoOutcome bytes fault` holds if `fault` is why no answer can be read: the bytes end where a line is expected
-- (`Missing`), they do not begin with an answer in form (`Text`), or memory runs out within the second line.
abbrev pub WhyNoOutcome : List ℕ → AnswerFault → Type 0
WhyNoOutcome bytes Missing = EndsBeforeLine bytes × BeginsNoOutcome bytes
WhyNoOutcome bytes Text = (EndsBeforeLine bytes → ⊥) × BeginsNoOutcome bytes
WhyNoOutcome bytes OutOfMemory = (k : AnswerKind) × (rest : List ℕ) × ((bytes ≡ first_answer_line k ++ rest) × WhyNoSecondLine k rest OutOfMemory)

-- `BeginsWithLiteral bytes l rest` holds if the bytes are the literal with code `l`, whose name is allowed, a space,
-- and then `rest`.
abbrev pub BeginsWithLiteral : List ℕ → ℕ → List ℕ → Type 0
BeginsWithLiteral bytes l rest = IsName (named_literal l).name × (bytes ≡ literal_text (named_literal l) ++ (32 ∷ rest))

-- `BeginsWithLiterals k bytes line rest` holds if the bytes are the literals with the codes `line`, in form for kind
-- `k`, with `0` and LF, and then `rest`.
abbrev pub BeginsWithLiterals : AnswerKind → List ℕ → List ℕ → List ℕ → Type 0
BeginsWithLiterals k bytes line rest = IsPrintable (outcome_of k (named_literals line)) × (bytes ≡ literals_text (named_literals line) ++ rest)

-- `BeginsWithSecondLine k bytes line rest` holds if the bytes are the second line of an answer of kind `k`, with the
-- literals of the codes `line`, in form, and then `rest`.
abbrev pub BeginsWithSecondLine : AnswerKind → List ℕ → List ℕ → List ℕ → Type 0
BeginsWithSecondLine k bytes line rest = IsPrintable (outcome_of k (named_literals line))
    × (bytes ≡ second_line (outcome_of k (named_literals line)) ++ rest)

-- `BeginsWithAnswer k bytes line rest` holds if the bytes are the lines of an answer of kind `k`, with the literals of
-- the codes `line`, in form, and then `rest`.
abbrev pub BeginsWithAnswer : AnswerKind → List ℕ → List ℕ → List ℕ → Type 0
BeginsWithAnswer k bytes line rest = IsPrintable (outcome_of k (named_literals line))
    × (bytes ≡ outcome_text (outcome_of k (named_literals line)) ++ rest)
