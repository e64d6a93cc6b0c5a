-- Confirming a script whose commands are read as they are needed.
use Rattle.std.proofs.Common.{ℕ, ◌+◌, ◌^◌, ◌<◌, ◌≤◌, ◌≡◌, true, false, List, [], ◌∷◌, Result, Ok, Err, refl, sym, ◌∙◌, ap, subst, arith}
use Rattle.sat_base.specs.device.Reading.{Source, AtEnd}
use Rattle.sat_base.specs.script.Script.{Command, Clean, Malformed}
use Rattle.sat_base.specs.script.Language.{Reading, prepend_commands}
use Rattle.sat_base.specs.script.ScriptState.{ScriptState, after_command}
use Rattle.sat_base.specs.steps.Steps.{Step}
use Rattle.certify.specs.confirm.Streams.{Stream, CertificateCall, CanBeTotal, rest_in}
use Rattle.certify.specs.confirm.VerdictPromises.{command_count}
use Rattle.certify.specs.confirm.CertificateStates.{CertificateState}
use Rattle.certify.specs.declared.confirm.stop.Stop.TheVariants as stop
use Rattle.certify.specs.declared.confirm.stop.Stop.{Stop}
use Rattle.certify.specs.declared.script.ScriptEnd.{ScriptEnd}
use Rattle.certify.specs.declared.script.reader.ScriptReader.{ScriptReader}
use Rattle.certify.specs.declared.script.stream.Next.TheVariants as next
use Rattle.certify.specs.declared.verdict.Why.{Why}
use Rattle.certify.specs.confirm.Confirming.{ConfirmsRest, ConfirmsCommand, TableHoldsAt, NameTable, RemainsToConfirm, ConfirmsUpTo}
use Rattle.certify.specs.confirm.CallResults.{Unconstrained, AnswersAndCertificateCall, stop_for_script_read}
use Rattle.sat_base.specs.declared.device.whole.ReadError.{ReadError}
use Rattle.sat_base.specs.declared.device.whole.ReadError.TheVariants as errors
use Rattle.certify.specs.confirm.ConfirmedScript.{ConfirmsScript, ConfirmsUpToPlace, ConfirmPlace}
use Rattle.certify.specs.script.LastPiece.{ReadFailsAhead, NoReadFailedAhead, ConsumesSome}
use Rattle.certify.specs.script.Commands.{HasWholeCommand, ReaderMeans, ReachesCommand, end_reading}
use Rattle.certify.specs.script.Streaming.{ReachesNext, NextCommandResult}
use Rattle.certify.proofs.lemmas.confirm.Streams.{all_over, confirms_none, nothing_after, says_stop, taken_front}
use Rattle.certify.proofs.lemmas.confirm.Joining.{covers_given, covers_took, failed_then, joins_stop, joins_then, kept_then, took_halted, took_kept, took_none, took_open, took_then}

-- BEFORE THE FIRST COMMAND

-- between a place and itself, no command was confirmed
pub through_none : (text : List ℕ → Reading) (s : ConfirmPlace) (reader : ScriptReader) → ReaderMeans reader text → ConfirmsUpToPlace text s s reader
through_none text s reader m = record {
  left = text;
  means = m;
  took = took_none s.script;
  counted = λ total k. refl;
  joins = λ total k. (
    took_none s.answers,
    λ more c. confirms_none tt s.certificate (ConfirmsUpTo s.number (text (rest_in total s.script)) s.table s.number (text (rest_in total s.script)) s.table (rest_in more s.answers) (rest_in more s.answers))
        (λ rest j earlier h. record { judge = j; later = earlier; valid = h; on = λ x. x; back = λ x. x }),
  );
}

-- ONE MORE COMMAND

-- one more command counts one more
pub numbers_more : (c : Command) (r : Reading) → command_count (prepend_commands (c ∷ []) r) ≡ command_count r + 1
numbers_more c (cs, Clean) = omega arith
numbers_more c (cs, Malformed) = omega arith

through_command : (n m k : ℕ) (script : Reading) (c : Command) (left : Reading) (t between next : NameTable) (p q z : List ℕ) (u v w : CertificateState) → k ≡ m + 1
    → ConfirmsUpTo n script t m (prepend_commands (c ∷ []) left) between p q u v (Ok tt) → ConfirmsCommand m c between next q z v w (Ok tt) → ConfirmsUpTo n script t k left next p z u w (Ok tt)
through_command n m k script c left t between next p q z u v w e f g j earlier s =
    let x = f j earlier s in
    let y = g x.judge x.later x.valid in
    record {
      judge = after_command c x.judge;
      later = y.later;
      valid = y.valid;
      on = λ h. subst (λ i. RemainsToConfirm (after_command c x.judge) i y.later left.0 left.1 z w.rest) (sym e) (y.on left.0 left.1 (x.on h));
      back = λ h. x.back (y.back left.0 left.1 (subst (λ i. RemainsToConfirm (after_command c x.judge) i y.later left.0 left.1 z w.rest) e h));
    }

-- `Nothing n script t before following old new r` holds if what is left of the script cannot be confirmed.
abbrev Nothing : ℕ → Reading → NameTable → List ℕ → List ℕ → CertificateState → CertificateState → Result (Unit {0}) Why → Type 0
Nothing n script t before following old new r = (j : ScriptState) (earlier : List Step) → TableHoldsAt t old j earlier → RemainsToConfirm j n earlier script.0 script.1 before old.rest → ⊥

through_last : (n m : ℕ) (script left : Reading) (t between : NameTable) (p q z : List ℕ) (u v w : CertificateState) (y : Result (Unit {0}) Why) → ConfirmsUpTo n script t m left between p q u v (Ok tt) → ConfirmsRest m left between q v y → ConfirmsRest n script t p u y
through_last n m script left t between p q z u v w (Ok x) f g = λ j earlier s. let h = f j earlier s in h.back (g h.judge h.later h.valid)
through_last n m script left t between p q z u v w (Err why) f g = λ j earlier s k. let h = f j earlier s in g h.judge h.later h.valid (h.on k)

through_nothing : (n m : ℕ) (script left : Reading) (t between : NameTable) (p q z : List ℕ) (u v w : CertificateState) (y : Result (Unit {0}) Why) → ConfirmsUpTo n script t m left between p q u v (Ok tt) → Nothing m left between q z v w y → Nothing n script t p z u w y
through_nothing n m script left t between p q z u v w y f g j earlier s k = let h = f j earlier s in g h.judge h.later h.valid (h.on k)

-- the effect of a successful call includes that of running out of memory
pub quits : (a b : Source) (s t : Stream) (P : List ℕ → List ℕ → CertificateState → CertificateState → Result (Unit {0}) Why → Type 0) → (AtEnd s.source → ⊥) → AnswersAndCertificateCall ⊥ true (Ok tt) a b s t P → NoReadFailedAhead a b × CertificateCall {A = Unit {0}} (Err stop.OutOfMemory) s t Unconstrained
quits a b s t P open_yet h =
    let total = b.reader.given in
    (took_kept true a b h.0, says_stop {B = ℕ} {C = Unit {0}} true stop.OutOfMemory s t (λ u v. P (rest_in total a) (rest_in total b) u v (Ok tt)) (λ y. ⊥) Unconstrained open_yet (λ more why f n. tt) (h.1 total (covers_given b)) tt)

-- a script has the result of its complete reading
ends_by : (M : Type 0) (text : List ℕ → Reading) (r : Result (Unit {0}) Stop) (old new : ConfirmPlace) → ConsumesSome false old.script new.script → (M → (total : List ℕ) → CanBeTotal new.script total → 2 ^ 64 < old.number + command_count (text (rest_in total old.script)))
    → ((total : List ℕ) → CanBeTotal new.script total → AnswersAndCertificateCall M false r old.answers new.answers old.certificate new.certificate (λ before following u v. ConfirmsRest old.number (text (rest_in total old.script)) old.table before u)) → ConfirmsScript text r old new
ends_by M text (Ok x) old new took many joins = (took, joins)
ends_by M text (Err (stop.No why)) old new took many joins = (took, joins)
ends_by M text (Err stop.ScriptRead) old new took many joins = absurd (joins new.script.reader.given (covers_given new.script))
ends_by M text (Err stop.TooMany) old new took many joins =
    let j = joins new.script.reader.given (covers_given new.script) in
    (took, (λ total k. many (joins total k).2 total k), (j.0, j.1))
ends_by M text (Err e) old new took many joins = (took_kept false old.script new.script took, joins new.script.reader.given (covers_given new.script))

module _ (text : List ℕ → Reading) (old mid : ConfirmPlace) (reader after_reader : ScriptReader) (through : ConfirmsUpToPlace text old mid reader) (script_open : AtEnd old.script → ⊥) (answers_open : AtEnd old.answers → ⊥) (open_yet : AtEnd old.certificate.source → ⊥) where
  mid_open : AtEnd mid.script → ⊥
  mid_open = took_open old.script mid.script script_open through.took

  -- the script cannot be read any further
  pub unread_script : (new : Source) → ReadFailsAhead mid.script new → ConfirmsScript text (Err stop.ScriptRead) old (record mid { script = new })
  unread_script new f = (failed_then old.script mid.script new through.took f, quits old.answers mid.answers old.certificate mid.certificate (ConfirmsUpTo old.number (text (rest_in mid.script.reader.given old.script)) old.table mid.number (through.left (rest_in mid.script.reader.given mid.script)) mid.table) open_yet (through.joins mid.script.reader.given (covers_given mid.script)))

  pub short_script : (new : Source) → NoReadFailedAhead mid.script new → ConfirmsScript text (Err stop.OutOfMemory) old (record mid { script = new })
  short_script new f = (kept_then old.script mid.script new (took_kept true old.script mid.script through.took) f, quits old.answers mid.answers old.certificate mid.certificate (ConfirmsUpTo old.number (text (rest_in mid.script.reader.given old.script)) old.table mid.number (through.left (rest_in mid.script.reader.given mid.script)) mid.table) open_yet (through.joins mid.script.reader.given (covers_given mid.script)))

  -- if the script cannot be read, the call stops for this reason
  pub unread : (e : ReadError) (new : Source) → NextCommandResult (Err e) mid.script new reader after_reader → ConfirmsScript text (Err (stop_for_script_read e)) old (record mid { script = new })
  unread errors.Failed new f = unread_script new f
  unread errors.OutOfMemory new f = short_script new (took_kept true mid.script new f)

  -- the end
  module _ (new : ConfirmPlace) (M : Type 0) (took : ConsumesSome false mid.script new.script) (left : Reading) (is : (total : List ℕ) → CanBeTotal new.script total → through.left (rest_in total mid.script) ≡ left) where
    whole : (r : Result (Unit {0}) Stop) → (M → 2 ^ 64 < mid.number + command_count left)
        → AnswersAndCertificateCall M false r mid.answers new.answers mid.certificate new.certificate (λ before following u v. ConfirmsRest mid.number left mid.table before u) → ConfirmsScript text r old new
    whole r many joins = ends_by M text r old new (took_then false old.script mid.script new.script through.took took)
        (λ x total k.
        let before = covers_took false mid.script new.script total mid_open took k in
        let c = through.counted total before in
        let l : command_count (through.left (rest_in total mid.script)) ≡ command_count left = ap command_count (is total k) in
        let m = many x in
        omega arith)
        (λ total k.
        let before = covers_took false mid.script new.script total mid_open took k in
        joins_then M false tt r old.answers mid.answers new.answers old.certificate mid.certificate new.certificate
        (ConfirmsUpTo old.number (text (rest_in total old.script)) old.table mid.number left mid.table) (λ before following u v. ConfirmsRest mid.number left mid.table before u) (λ before following u v. ConfirmsRest old.number (text (rest_in total old.script)) old.table before u)
        answers_open open_yet (λ p q z u v w y f g. through_last old.number mid.number (text (rest_in total old.script)) left old.table mid.table p q z u v w y f g)
        (subst (λ (x : Reading). AnswersAndCertificateCall M true (Ok tt) old.answers mid.answers old.certificate mid.certificate (ConfirmsUpTo old.number (text (rest_in total old.script)) old.table mid.number x mid.table)) (is total k) (through.joins total before)) joins)

  -- if no command is left, the end of the script decides
  pub ends_so : (new : ConfirmPlace) (e : ScriptEnd) (r : Result (Unit {0}) Stop) → ReachesNext (next.End e) mid.script new.script reader after_reader
      → AnswersAndCertificateCall (2 ^ 64 < mid.number + command_count (end_reading e)) false r mid.answers new.answers mid.certificate new.certificate (λ before following u v. ConfirmsRest mid.number (end_reading e) mid.table before u) → ConfirmsScript text r old new
  ends_so new e r a joins = whole new (2 ^ 64 < mid.number + command_count (end_reading e)) a.0 (end_reading e) (a.1 true through.left through.means) r (λ x. x) joins

  -- if the last command was read, this command and the end decide
  pub ends_last : (new : ConfirmPlace) (e : ScriptEnd) (r : Result (Unit {0}) Stop) → ReachesNext (next.Last e) mid.script new.script reader after_reader
      → ((c : Command) → HasWholeCommand after_reader c → AnswersAndCertificateCall (2 ^ 64 < mid.number + command_count (prepend_commands (c ∷ []) (end_reading e))) false r mid.answers new.answers mid.certificate new.certificate (λ before following u v. ConfirmsRest mid.number (prepend_commands (c ∷ []) (end_reading e)) mid.table before u)) → ConfirmsScript text r old new
  ends_last new e r a joins =
      let k = a.2 true through.left through.means in
      whole new (2 ^ 64 < mid.number + command_count (prepend_commands (k.0 ∷ []) (end_reading e))) ((a.0, a.1.0), λ h. all_over new.script a.1.1) (prepend_commands (k.0 ∷ []) (end_reading e))
      (λ total c. ap through.left (nothing_after mid.script new.script a.0 total a.1 c) ∙ k.2) r (λ x. x) (joins k.0 k.1)

  -- a command
  module _ (new : ConfirmPlace) (a : ReachesNext next.Command mid.script new.script reader after_reader) where
    reaches : ReachesCommand true through.left a.0 after_reader
    reaches = a.3 true through.left through.means

    took : ConsumesSome true mid.script new.script
    took = (a.0, a.1)

    left_is : (total : List ℕ) → CanBeTotal new.script total → through.left (rest_in total mid.script) ≡ prepend_commands (reaches.command ∷ []) (reaches.after (rest_in total new.script))
    left_is total k = ap through.left (taken_front 0 mid.script new.script a.0 total a.1 k) ∙ reaches.reads (rest_in total new.script)

    pub one_more : new.number ≡ mid.number + 1
        → ((c : Command) → HasWholeCommand after_reader c → AnswersAndCertificateCall (2 ^ 64 ≤ mid.number) true (Ok tt) mid.answers new.answers mid.certificate new.certificate (ConfirmsCommand mid.number c mid.table new.table)) → ConfirmsUpToPlace text old new after_reader
    one_more n joins = record {
      left = reaches.after;
      means = reaches.valid;
      took = took_then true old.script mid.script new.script through.took took;
      counted = λ total k.
          let c = through.counted total (covers_took true mid.script new.script total mid_open took k) in
          let l : command_count (through.left (rest_in total mid.script)) ≡ command_count (reaches.after (rest_in total new.script)) + 1 = ap command_count (left_is total k) ∙ numbers_more reaches.command (reaches.after (rest_in total new.script)) in
          omega arith;
      joins = λ total k.
          let before = covers_took true mid.script new.script total mid_open took k in
          let left = reaches.after (rest_in total new.script) in
          let script = text (rest_in total old.script) in
          joins_then ⊥ true tt (Ok tt) old.answers mid.answers new.answers old.certificate mid.certificate new.certificate
          (ConfirmsUpTo old.number script old.table mid.number (prepend_commands (reaches.command ∷ []) left) mid.table) (λ q z v w (y : Result (Unit {0}) Why). ConfirmsCommand mid.number reaches.command mid.table new.table q z v w (Ok tt)) (ConfirmsUpTo old.number script old.table new.number left new.table)
          answers_open open_yet (λ p q z u v w y f g. through_command old.number mid.number new.number script reaches.command left old.table mid.table new.table p q z u v w n f g)
          (subst (λ (x : Reading). AnswersAndCertificateCall ⊥ true (Ok tt) old.answers mid.answers old.certificate mid.certificate (ConfirmsUpTo old.number script old.table mid.number x mid.table)) (left_is total k) (through.joins total before)) (joins reaches.command reaches.whole);
    }

    pub stops : (e : Stop) → ((c : Command) → HasWholeCommand after_reader c → AnswersAndCertificateCall {A = Unit {0}} (2 ^ 64 ≤ mid.number) true (Err e) mid.answers new.answers mid.certificate new.certificate (ConfirmsCommand mid.number c mid.table new.table)) → ConfirmsScript text (Err e) old new
    stops e joins = ends_by (2 ^ 64 ≤ mid.number) text (Err e) old new (took_halted old.script new.script script_open (took_then true old.script mid.script new.script through.took took))
        (λ x total k.
        let c = through.counted total (covers_took true mid.script new.script total mid_open took k) in
        let l : command_count (through.left (rest_in total mid.script)) ≡ command_count (reaches.after (rest_in total new.script)) + 1 = ap command_count (left_is total k) ∙ numbers_more reaches.command (reaches.after (rest_in total new.script)) in
        omega arith)
        (λ total k.
        let before = covers_took true mid.script new.script total mid_open took k in
        let left = prepend_commands (reaches.command ∷ []) (reaches.after (rest_in total new.script)) in
        let script = text (rest_in total old.script) in
        let here = joins_stop (2 ^ 64 ≤ mid.number) false e mid.answers new.answers mid.certificate new.certificate (ConfirmsCommand mid.number reaches.command mid.table new.table) (Nothing mid.number left mid.table)
        (λ p q u v why f j earlier s h. f j earlier s (reaches.after (rest_in total new.script)).0 (reaches.after (rest_in total new.script)).1 h) (joins reaches.command reaches.whole) in
        joins_stop (2 ^ 64 ≤ mid.number) false e old.answers new.answers old.certificate new.certificate (Nothing old.number script old.table) (λ before following u v. ConfirmsRest old.number script old.table before u) (λ p q u v why f. f)
        (joins_then (2 ^ 64 ≤ mid.number) false tt (Err e) old.answers mid.answers new.answers old.certificate mid.certificate new.certificate
        (ConfirmsUpTo old.number script old.table mid.number left mid.table) (Nothing mid.number left mid.table) (Nothing old.number script old.table)
        answers_open open_yet (λ p q z u v w y f g. through_nothing old.number mid.number script left old.table mid.table p q z u v w y f g)
        (subst (λ (x : Reading). AnswersAndCertificateCall (2 ^ 64 ≤ mid.number) true (Ok tt) old.answers mid.answers old.certificate mid.certificate (ConfirmsUpTo old.number script old.table mid.number x mid.table)) (left_is total k) (through.joins total before)) here))
