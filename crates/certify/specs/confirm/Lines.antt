-- Texts that are read line by line. 10 is the byte LF.
use Rattle.std.specs.Prelude.{ℕ, ◌≤◌, ◌≡◌, ◌⊎◌, Bool, true, false, List, [], ◌∷◌, ◌++◌, length, take, Result, Ok, Err}
use Rattle.std.specs.List.{AllByRecursion}
use Rattle.sat_base.specs.device.Device.{Reader}
use Rattle.sat_base.specs.device.Reading.{Source, ConsumesBytes, ConsumesToEnd}
use Rattle.sat_base.specs.declared.device.whole.ReadError.{ReadError}
use Rattle.sat_base.specs.declared.device.whole.ReadError.TheVariants as errors
use Rattle.sat_base.specs.script.Script.{Literal}
use Rattle.sat_checker.specs.matching.Expected.{Outcome, Unsat}
use Rattle.certify.specs.answers.Answers.{outcome_text}
use Rattle.certify.specs.answers.AnswerForms.{IsPrintable, named_literals}
use Rattle.certify.specs.answers.AnswerReading.{first_answer_line, second_line, outcome_of}
use Rattle.certify.specs.script.LastPiece.{ReadFailsAhead, NoReadFailedAhead, source_in, waiting_bytes}
use Rattle.certify.specs.declared.script.ahead.LastPiece.{LastPiece}
use Rattle.certify.specs.declared.answers.read.AnswerFault.{AnswerFault}
use Rattle.certify.specs.declared.answers.read.AnswerFault.TheVariants as unread
use Rattle.certify.specs.declared.answers.read.AnswerKind.{AnswerKind}
use Rattle.certify.specs.declared.confirm.stop.Stop.{Stop}
use Rattle.certify.specs.declared.confirm.stop.Stop.TheVariants as stop
use Rattle.certify.specs.declared.confirm.answers.Answers.{Answers}
use Rattle.certify.specs.declared.confirm.answers.Reply.{Reply}
use Rattle.certify.specs.declared.confirm.lines.Wanted.{Wanted}
use Rattle.certify.specs.declared.confirm.lines.Wanted.TheVariants as wanted
use Rattle.certify.specs.declared.verdict.Why.{Why}
use Rattle.certify.specs.declared.verdict.Why.TheVariants.{AnswerMissing, AnswerText}

-- `HasNoLf bytes` holds if no byte is LF.
abbrev pub HasNoLf : List ℕ → Type 0
HasNoLf = AllByRecursion (λ byte. byte ≡ 10 → ⊥)

-- `IsOneLine text` holds if LF is the last byte, and no other byte is LF.
pub record IsOneLine (text : List ℕ) : Type 0 where
  pub front : List ℕ
  pub none : HasNoLf front
  pub whole : text ≡ front ++ 10 ∷ []

-- `EndsLineAt whole bytes count` holds if the first `count` bytes are a line that ends with LF or, if `whole` is false,
-- there are exactly `count` bytes, and none is LF.
abbrev pub EndsLineAt : Bool → List ℕ → ℕ → Type 0
EndsLineAt true bytes count = (count ≤ length bytes) × IsOneLine (take count bytes)
EndsLineAt false bytes count = (count ≡ length bytes) × HasNoLf bytes

-- `IsLineOrAll whole text left` holds if `text` is a line that ends with LF or, if `whole` is false, contains no LF,
-- and no bytes are left after it.
abbrev pub IsLineOrAll : Bool → List ℕ → List ℕ → Type 0
IsLineOrAll true text left = IsOneLine text
IsLineOrAll false text left = HasNoLf text × (left ≡ [])

-- `MovesPrefix result old new before after` holds if bytes read ahead were appended to the line being read, which was
-- `before` and is `after`: those up to LF (`Ok true`), or all if there is no LF (`Ok false`). With an error, no byte
-- was taken from those read ahead.
abbrev pub MovesPrefix : {E : Type 0} → Result Bool E → LastPiece → LastPiece → List ℕ → List ℕ → Type 0
MovesPrefix (Ok whole) old new before after = (text : List ℕ) × (waiting_bytes old ≡ text ++ waiting_bytes new) × (new.reads ≡ old.reads)
    × (after ≡ before ++ text) × IsLineOrAll whole text (waiting_bytes new)
MovesPrefix (Err e) old new before after = new ≡ old

-- `IsWantedLine wanted due line` holds if the line is one that is expected next: `due` itself, any first line of an
-- answer, any second line, in form, of an answer of kind `k`, or none at all, as `wanted` says.
abbrev pub IsWantedLine : Wanted → List ℕ → List ℕ → Type 0
IsWantedLine wanted.Due due line = line ≡ due
IsWantedLine wanted.First due line = (k : AnswerKind) × (line ≡ first_answer_line k)
IsWantedLine (wanted.Second k) due line = (ls : List Literal) × (IsPrintable (outcome_of k ls) × (line ≡ second_line (outcome_of k ls)))
IsWantedLine wanted.Nothing due line = ⊥

-- `CannotBegin P bytes` holds if no text that satisfies `P` begins with the bytes.
abbrev pub CannotBegin : (List ℕ → Type 0) → List ℕ → Type 0
CannotBegin P bytes = (more : List ℕ) → P (bytes ++ more) → ⊥

-- `IsWrongStart P bytes` holds if there is at least one byte, and no text that satisfies `P` begins with the bytes.
abbrev pub IsWrongStart : (List ℕ → Type 0) → List ℕ → Type 0
IsWrongStart P bytes = CannotBegin P bytes × (bytes ≡ [] → ⊥)

-- `IsNextLine P a b line` holds if `line` was consumed from `a` to `b`: a line that ends with LF, or the rest of the
-- text without LF, or bytes without LF with which no line that satisfies `P` begins.
abbrev pub IsNextLine : (List ℕ → Type 0) → Source → Source → List ℕ → Type 0
IsNextLine P a b line = (ConsumesBytes a b line × IsOneLine line) ⊎ ((ConsumesToEnd a b line × HasNoLf line) ⊎ ((ConsumesBytes a b line × HasNoLf line) × IsWrongStart P line))

-- `ReadsLineOfKind P result a b line` holds if `IsNextLine` holds or, with an error, the reader failed, was read 2^48
-- times, or memory ran out.
abbrev pub ReadsLineOfKind : (List ℕ → Type 0) → Result (Unit {0}) ReadError → Source → Source → List ℕ → Type 0
ReadsLineOfKind P (Ok x) a b line = IsNextLine P a b line
ReadsLineOfKind P (Err errors.Failed) a b line = ReadFailsAhead a b
ReadsLineOfKind P (Err errors.OutOfMemory) a b line = NoReadFailedAhead a b

-- `NextLine P result a b line` holds if `IsNextLine` holds or, with an error, the answers' reader failed, was read 2^48
-- times, or memory ran out. No other error is possible.
abbrev pub NextLine : (List ℕ → Type 0) → Result (Unit {0}) Stop → Source → Source → List ℕ → Type 0
NextLine P (Ok x) a b line = IsNextLine P a b line
NextLine P (Err stop.AnswersRead) a b line = ReadFailsAhead a b
NextLine P (Err stop.OutOfMemory) a b line = NoReadFailedAhead a b
NextLine P (Err (stop.No why)) a b line = ⊥
NextLine P (Err stop.CertificateRead) a b line = ⊥
NextLine P (Err stop.CounterEnd) a b line = ⊥
NextLine P (Err stop.ScriptRead) a b line = ⊥
NextLine P (Err stop.TooMany) a b line = ⊥

-- the answers' reader, and the bytes read ahead from it
abbrev pub answers_source : {A : Type 0} → (A → Reader) → A → Answers → Source
answers_source seen answers s = source_in seen answers s.lines.ahead

-- `ReadsDueLine old new line result` holds if the remaining bytes were `old`, are now `new`, and the expected line
-- `line` was between them; or if, with an error, `old` does not begin with `line`.
abbrev pub ReadsDueLine : List ℕ → List ℕ → List ℕ → Result (Unit {0}) Why → Type 0
ReadsDueLine old new line (Ok x) = old ≡ line ++ new
ReadsDueLine old new line (Err why) = (tail : List ℕ) → old ≡ line ++ tail → ⊥

-- the error of a call for the reason why no answer can be read: a `No`, or out of memory
abbrev pub stop_for_answer : AnswerFault → Stop
stop_for_answer unread.Missing = stop.No AnswerMissing
stop_for_answer unread.Text = stop.No AnswerText
stop_for_answer unread.OutOfMemory = stop.OutOfMemory

-- `ReadsFirstLine before following result` holds if the remaining bytes `before` are the first line of an answer of the
-- returned kind, and then `following`; or if, with an error, they do not begin with the text of any outcome.
abbrev pub ReadsFirstLine : List ℕ → List ℕ → Result AnswerKind Why → Type 0
ReadsFirstLine before following (Ok kind) = before ≡ first_answer_line kind ++ following
ReadsFirstLine before following (Err why) = (o : Outcome) (tail : List ℕ) → before ≡ outcome_text o ++ tail → ⊥

-- `ReadsSecondLine kind line before following result` holds if the remaining bytes `before` are the second line of an
-- answer of this kind, with the literals of `line`, in form, and then `following`; or if, with an error, they begin
-- with no such line.
abbrev pub ReadsSecondLine : AnswerKind → List Literal → List ℕ → List ℕ → Result (Unit {0}) Why → Type 0
ReadsSecondLine kind line before following (Ok x) = (before ≡ second_line (outcome_of kind line) ++ following) × IsPrintable (outcome_of kind line)
ReadsSecondLine kind line before following (Err why) =
    (ls : List Literal) (tail : List ℕ) → IsPrintable (outcome_of kind ls) → before ≡ second_line (outcome_of kind ls) ++ tail → ⊥

-- the outcome that the code's value `r` represents: its kind, with its literal codes as literals
abbrev pub outcome_of_reply : Reply → Outcome
outcome_of_reply r = outcome_of r.kind (named_literals r.lits.items)

-- `ReadsReply before following reply settled result` holds if the remaining bytes `before` are the answer `reply`, in
-- form, and then `following`; or if, with an error, they begin with no answer that is allowed. If unsat is recorded
-- (`settled`), only the answer with the empty core is allowed.
abbrev pub ReadsReply : List ℕ → List ℕ → Outcome → Bool → Result (Unit {0}) Why → Type 0
ReadsReply before following reply settled (Ok x) = (before ≡ outcome_text reply ++ following) × IsPrintable reply × (settled ≡ true → reply ≡ Unsat [])
ReadsReply before following reply settled (Err why) =
    (o : Outcome) (tail : List ℕ) → IsPrintable o → (settled ≡ true → o ≡ Unsat []) → before ≡ outcome_text o ++ tail → ⊥
