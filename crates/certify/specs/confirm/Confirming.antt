-- How a command is confirmed by the rest of the answers and of the certificate.
use Rattle.std.specs.Prelude.{ℕ, ◌+◌, ◌≡◌, None, Result, Ok, Err, List, [], ◌∷◌, ◌++◌}
use Rattle.sat_base.specs.script.Script.{Literal, Command, Ask, ScriptEnding, names_of}
use Rattle.sat_base.specs.script.ScriptState.{ScriptState, after_command, refusal_of}
use Rattle.sat_base.specs.steps.Steps.{Step}
use Rattle.sat_checker.specs.matching.Expected.{Outcome, Adds, Opens, Closes, step_showing}
use Rattle.sat_checker.specs.matching.ProofChecking.{checker_rules}
use Rattle.certify.specs.confirm.LeftToMatch.{RemainsToMatch}
use Rattle.certify.specs.confirm.CertificateStates.{CertificateState}
use Rattle.certify.specs.refusals.Names.{NamesChangeBy, NamesHaveState}
use Rattle.sat_base.specs.script.ScriptStateLaws.{ScriptStateInvariant, NamesAreIncreasing}
use Rattle.certify.specs.confirm.Awaiting.{CheckerIsAt, MeetsDue}
use Rattle.certify.specs.confirm.Naming.{MeetsAll, expected_for_names, state_after_names}
use Rattle.sat_base.specs.script.Language.{Reading, Kind, OfClause, OfAsk, OfHide, OfWitness, OfSample, command_of}
use Rattle.certify.specs.declared.refusals.names.Names.{Names}
use Rattle.certify.specs.declared.confirm.variables.NamedVars.{NamedVars}
use Rattle.certify.specs.declared.confirm.names.Matching.{Matching}
use Rattle.certify.specs.declared.verdict.Why.{Why}

-- a table of names: which are in use, with their modes, and the proof variable of each
pub record NameTable : Type 0 where
  pub names : Names
  pub variables : NamedVars

-- the table of names that the code's state `m` represents
abbrev pub name_table_of : Matching → NameTable
name_table_of m = record { names = m.names; variables = m.certificate.names }

-- `TableHoldsAt t u j earlier` holds if the names and modes in the table `t` are those of the script state `j`, and the
-- checker in `u` accepted the steps `earlier`, after which the names have the variables in `t`.
pub record TableHoldsAt (t : NameTable) (u : CertificateState) (j : ScriptState) (earlier : List Step) : Type 0 where
  pub judged : NamesHaveState t.names j
  pub kept : ScriptStateInvariant j
  pub at : CheckerIsAt u.checker t.variables earlier

-- `RemainsToConfirm j n earlier commands ending answers certificate` holds if in state `j`, the remaining `commands`,
-- the first of which has number `n`, and the `ending` match the remaining bytes of answers and certificate, after the
-- steps `earlier`.
abbrev pub RemainsToConfirm : ScriptState → ℕ → List Step → List Command → ScriptEnding → List ℕ → List ℕ → Type 0
RemainsToConfirm j n earlier commands ending answers certificate = RemainsToMatch checker_rules j n earlier [] commands ending answers certificate

-- `CommandConfirmed before following old new j earlier n command t` holds if command `n` is confirmed: the script from
-- `n` on matches the answers `before` and the certificate at `old` exactly when the script after `n` matches the
-- answers `following` and the certificate at `new`. `t` is then the table of names.
pub record CommandConfirmed (before following : List ℕ) (old new : CertificateState) (j : ScriptState) (earlier : List Step) (n : ℕ)
    (command : Command) (t : NameTable) : Type 0 where
  pub later : List Step
  pub valid : TableHoldsAt t new (after_command command j) later
  pub on : (commands : List Command) (ending : ScriptEnding) → RemainsToConfirm j n earlier (command ∷ commands) ending before old.rest
      → RemainsToConfirm (after_command command j) (n + 1) later commands ending following new.rest
  pub back : (commands : List Command) (ending : ScriptEnding) → RemainsToConfirm (after_command command j) (n + 1) later commands ending following new.rest
      → RemainsToConfirm j n earlier (command ∷ commands) ending before old.rest

-- `ConfirmsCommand n command t next before following old new result` holds if command `n` is confirmed
-- (`CommandConfirmed`) or, with an error, no script that continues with it matches. `t` and `next` are the tables of
-- names before and after, `before` and `following` the answers left.
abbrev pub ConfirmsCommand : ℕ → Command → NameTable → NameTable → List ℕ → List ℕ → CertificateState → CertificateState → Result (Unit {0}) Why → Type 0
ConfirmsCommand n command t next before following old new (Ok x) =
    (j : ScriptState) (earlier : List Step) → TableHoldsAt t old j earlier → CommandConfirmed before following old new j earlier n command next
ConfirmsCommand n command t next before following old new (Err why) =
    (j : ScriptState) (earlier : List Step) → TableHoldsAt t old j earlier
    → (commands : List Command) (ending : ScriptEnding) → RemainsToConfirm j n earlier (command ∷ commands) ending before old.rest → ⊥

-- `MeetsCommandNames kind ls t next old new` holds if the command of this kind with the literals `ls` is not refused,
-- the steps expected for its names are met from `old` to `new`, and the table of names changes from `t` to `next` as
-- the command changes names.
pub record MeetsCommandNames (kind : Kind) (ls : List Literal) (t next : NameTable) (old new : CertificateState) : Type 0 where
  pub allowed : (j : ScriptState) → NamesHaveState t.names j → refusal_of j (command_of kind ls) ≡ None
  pub met : (j : ScriptState) → NamesHaveState t.names j → MeetsAll (expected_for_names kind (names_of ls) j) t.variables next.variables old new (Ok tt)
  pub changes : NamesChangeBy t.names next.names (state_after_names kind (names_of ls))

-- `MeetsContent kind ls before after old new r` holds if the step of a clause, or of an ask's assumptions, with the
-- literals `ls` is met from `old` to `new` or, with an error, cannot be. Other kinds of commands expect no further
-- step. `before` and `after` are the variables of names.
abbrev pub MeetsContent : Kind → List Literal → NamedVars → NamedVars → CertificateState → CertificateState → Result (Unit {0}) Why → Type 0
MeetsContent OfClause ls before after old new r = MeetsAll (Adds ls ∷ []) before after old new r
MeetsContent OfAsk ls before after old new r = MeetsDue (λ o ask. Opens ls o) before after old new r
MeetsContent OfHide ls before after old new r = MeetsAll [] before after old new r
MeetsContent OfWitness ls before after old new r = MeetsAll [] before after old new r
MeetsContent OfSample ls before after old new r = MeetsAll [] before after old new r

-- `ConfirmsContent n kind ls named next before following old new r` holds if command `n`, when the steps expected for
-- its names are met up to `old`, where the table of names is `named`, is confirmed by what follows up to `new` or, with
-- an error, cannot be.
abbrev pub ConfirmsContent : ℕ → Kind → List Literal → NameTable → NameTable → List ℕ → List ℕ → CertificateState → CertificateState → Result (Unit {0}) Why → Type 0
ConfirmsContent n kind ls named next before following old new r =
    (t : NameTable) (u : CertificateState) → MeetsCommandNames kind ls t named u old → ConfirmsCommand n (command_of kind ls) t next before following u new r

-- `ConfirmsAnswer n ask asked next before following old new r` holds if ask `n`, when its names and assumptions are met
-- up to `old`, where the table of names is `asked`, is confirmed by its answer and what follows up to `new` or, with an
-- error, cannot be. `before` and `following` are the answers left.
abbrev pub ConfirmsAnswer : ℕ → List Literal → NameTable → NameTable → List ℕ → List ℕ → CertificateState → CertificateState → Result (Unit {0}) Why → Type 0
ConfirmsAnswer n ask asked next before following old new r =
    (t named : NameTable) (u v : CertificateState) → MeetsCommandNames OfAsk ask t named u v → named.names ≡ asked.names
    → MeetsDue (λ o under. Opens ask o) named.variables asked.variables v old (Ok tt)
    → ConfirmsCommand n (Ask ask) t next before following u new r

-- `MeetsShowing names ask o before after old new r` holds if the step that shows the outcome `o` of the ask, if there
-- is one, is met from `old` to `new` or, with an error, cannot be. `names` are those in use; `before` and `after` are
-- their variables.
abbrev pub MeetsShowing : Names → List Literal → Outcome → NamedVars → NamedVars → CertificateState → CertificateState → Result (Unit {0}) Why → Type 0
MeetsShowing names ask o before after old new r =
    (j : ScriptState) → NamesHaveState names j → NamesAreIncreasing j.in_use → MeetsAll (step_showing j ask o) before after old new r

-- `MeetsOutcome names ask o before after old new r` holds if the step that shows the outcome `o` of the ask, if there
-- is one, and the end of the ask are met from `old` to `new` or, with an error, cannot be. `names` are those in use;
-- `before` and `after` are their variables.
abbrev pub MeetsOutcome : Names → List Literal → Outcome → NamedVars → NamedVars → CertificateState → CertificateState → Result (Unit {0}) Why → Type 0
MeetsOutcome names ask o before after old new r =
    (j : ScriptState) → NamesHaveState names j → NamesAreIncreasing j.in_use → MeetsAll (step_showing j ask o ++ Closes ∷ []) before after old new r

-- `ConfirmsRest n script t before old result` holds if the rest `script`, from command `n` on, matches the answers
-- `before` and the certificate at `old` or, with an error, does not. `t` is the table of names at `old`.
abbrev pub ConfirmsRest : ℕ → Reading → NameTable → List ℕ → CertificateState → Result (Unit {0}) Why → Type 0
ConfirmsRest n script t before old (Ok x) =
    (j : ScriptState) (earlier : List Step) → TableHoldsAt t old j earlier → RemainsToConfirm j n earlier script.0 script.1 before old.rest
ConfirmsRest n script t before old (Err why) =
    (j : ScriptState) (earlier : List Step) → TableHoldsAt t old j earlier → RemainsToConfirm j n earlier script.0 script.1 before old.rest → ⊥

-- `IsConfirmedUpTo old new j earlier n script before m left next following` holds if the script was confirmed from
-- command `n` up to, excluding, command `m`: `script` from `n` on matches the answers `before` and the certificate at
-- `old` exactly when the rest `left` matches the answers `following` and the certificate at `new`.
pub record IsConfirmedUpTo (old new : CertificateState) (j : ScriptState) (earlier : List Step) (n : ℕ) (script : Reading) (before : List ℕ)
    (m : ℕ) (left : Reading) (next : NameTable) (following : List ℕ) : Type 0 where
  pub judge : ScriptState
  pub later : List Step
  pub valid : TableHoldsAt next new judge later
  pub on : RemainsToConfirm j n earlier script.0 script.1 before old.rest → RemainsToConfirm judge m later left.0 left.1 following new.rest
  pub back : RemainsToConfirm judge m later left.0 left.1 following new.rest → RemainsToConfirm j n earlier script.0 script.1 before old.rest

-- `ConfirmsUpTo n script t m left next before following old new r` holds if the commands of `script` from `n` up to,
-- excluding, `m` were confirmed, and `left` remains, as in `IsConfirmedUpTo`, for every script state and all steps for
-- which the table `t` is correct at `old`. The result `r` plays no role.
abbrev pub ConfirmsUpTo : ℕ → Reading → NameTable → ℕ → Reading → NameTable → List ℕ → List ℕ → CertificateState → CertificateState → Result (Unit {0}) Why → Type 0
ConfirmsUpTo n script t m left next before following old new r =
    (j : ScriptState) (earlier : List Step) → TableHoldsAt t old j earlier → IsConfirmedUpTo old new j earlier n script before m left next following
