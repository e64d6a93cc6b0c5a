-- The requests that arguments make, and the status of a call.
use Rattle.std.specs.Prelude.{ℕ, ◌≡◌, ◌≤◌, ◌<◌, ◌⊎◌, true, Option, MatchOption, List, [], ◌∷◌, length, codes, Result, Ok, Err, IfOk}
use Rattle.std.specs.Str.{all_ascii_digits}
use Rattle.std.specs.Str.Parse.{digits_value}
use Rattle.certify.specs.run.RoundsLeft.{most_rounds}
use Rattle.certify.specs.declared.program.call.Call.{Call}
use Rattle.certify.specs.declared.program.call.Call.TheVariants as call
use Rattle.certify.specs.declared.program.call.RunFiles.{RunFiles}

-- What the arguments of a call ask for: nothing (`Standard`), a run, a confirmation, writing a hint text, or checking
-- one. Each file is given by its argument, as bytes; `budget` is the limit on the rounds of each ask.
pub data Request : Type 0 where
  Standard : Request
  Run : (script answers certificate : List ℕ) (budget : ℕ) → Request
  Confirm : (script answers certificate : List ℕ) → Request
  Hints : (certificate hints : List ℕ) → Request
  Check : (hints : List ℕ) → Request

-- `IsRoundCount word steps` holds if the argument `word` has only decimal digits, at least one, and spells the number
-- of rounds `steps`, which is at most 2^64 - 1.
pub record IsRoundCount (word : List ℕ) (steps : ℕ) : Type 0 where
  pub digits : all_ascii_digits word ≡ true
  pub some : 0 < length word
  pub value : steps ≡ digits_value 10 word
  pub fits : steps ≤ most_rounds

-- `IsUsage words request` holds if the arguments `words` spell the request: they are none (`Standard`), `run S A C
-- [STEPS]`, `confirm S A C`, `hints C H` or `check H`. Without STEPS, the budget is 2^64 - 1.
abbrev pub IsUsage : List (List ℕ) → Request → Type 0
IsUsage words Standard = words ≡ []
IsUsage words (Run s a c budget) = ((words ≡ codes "run" ∷ s ∷ a ∷ c ∷ []) × (budget ≡ most_rounds))
    ⊎ ((steps : List ℕ) × (words ≡ codes "run" ∷ s ∷ a ∷ c ∷ steps ∷ []) × IsRoundCount steps budget)
IsUsage words (Confirm s a c) = words ≡ codes "confirm" ∷ s ∷ a ∷ c ∷ []
IsUsage words (Hints c h) = words ≡ codes "hints" ∷ c ∷ h ∷ []
IsUsage words (Check h) = words ≡ codes "check" ∷ h ∷ []

-- `OutputsDifferFromInput request` holds if no output file of the request has the same argument as its input file, byte
-- for byte. It holds of every request that writes no file. The two outputs of a run may have the same argument.
abbrev pub OutputsDifferFromInput : Request → Type 0
OutputsDifferFromInput Standard = Unit {0}
OutputsDifferFromInput (Run s a c budget) = (a ≡ s → ⊥) × (c ≡ s → ⊥)
OutputsDifferFromInput (Confirm s a c) = Unit {0}
OutputsDifferFromInput (Hints c h) = h ≡ c → ⊥
OutputsDifferFromInput (Check h) = Unit {0}

-- `AreArgumentsFor words request` holds if the arguments `words` spell the request (`IsUsage`), and none of its outputs
-- has the same argument as its input.
abbrev pub AreArgumentsFor : List (List ℕ) → Request → Type 0
AreArgumentsFor words request = IsUsage words request × OutputsDifferFromInput request

-- `AreInvalidArguments words` holds if the arguments `words` ask for no request, for instance because an output has the
-- same argument as the input.
abbrev pub AreInvalidArguments : List (List ℕ) → Type 0
AreInvalidArguments words = (request : Request) → AreArgumentsFor words request → ⊥

-- `NamesFiles request` holds if the request has arguments, which name files: it is not `Standard`.
abbrev pub NamesFiles : Request → Type 0
NamesFiles Standard = ⊥
NamesFiles request = Unit {0}

-- `WritesFiles request` holds if the request is a run, or asks for a hint text.
abbrev pub WritesFiles : Request → Type 0
WritesFiles Standard = ⊥
WritesFiles (Run s a c budget) = Unit {0}
WritesFiles (Confirm s a c) = ⊥
WritesFiles (Hints c h) = Unit {0}
WritesFiles (Check h) = ⊥

-- the request for a run over the files that these arguments name, with at most `budget` rounds for each ask
abbrev pub run_request : RunFiles → ℕ → Request
run_request files budget = Run files.script.now files.answers.now files.certificate.now budget

-- the request for a confirmation of the files that these arguments name
abbrev pub confirm_request : RunFiles → Request
confirm_request files = Confirm files.script.now files.answers.now files.certificate.now

-- the request that a parsed call represents, with the same files and budget
abbrev pub request_of : Call → Request
request_of call.Standard = Standard
request_of (call.Run files budget) = run_request files budget
request_of (call.Confirm files) = confirm_request files
request_of (call.Hints certificate hints) = Hints certificate.now hints.now
request_of (call.Check hints) = Check hints.now

-- `IsParsedAs words answer` holds if `answer` is a call whose request the arguments `words` ask for, or it is `None`
-- and they ask for no request.
abbrev pub IsParsedAs : List (List ℕ) → Option Call → Type 0
IsParsedAs words answer = MatchOption answer (AreInvalidArguments words) (λ c. AreArgumentsFor words (request_of c))

-- `AllowsRequest answer request` holds if no output of the request has the same argument as its input, and `answer` is
-- the call for the request; or if an output has, and `answer` is `None`.
abbrev pub AllowsRequest : Option Call → Request → Type 0
AllowsRequest answer request = MatchOption answer (OutputsDifferFromInput request → ⊥) (λ c. (request_of c ≡ request) × OutputsDifferFromInput request)

-- `HasStatus r` holds if `r` is an `Err`, or a status of 0 or 1.
abbrev pub HasStatus : {E : Type 0} → Result ℕ E → Type 0
HasStatus r = IfOk r (λ status. status ≤ 1)

-- the exit status for a result: the status in it or, for an `Err`, 3
abbrev pub status_of : {E : Type 0} → Result ℕ E → ℕ
status_of (Ok status) = status
status_of (Err fault) = 3
