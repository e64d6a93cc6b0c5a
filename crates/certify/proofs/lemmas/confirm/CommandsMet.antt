-- Commands, confirmed one after another.
use Rattle.std.proofs.Common.{ℕ, ◌+◌, ◌≡◌, ◌↔◌, true, List, [], ◌∷◌, ◌++◌, Some, None, Result, Ok, Err, refl, sym, ◌∙◌, ap, subst, append_assoc}
use Rattle.std.proofs.lemmas.List.{append_cancel_left, append-nil}
use Rattle.sat_base.specs.script.Script.{Literal, Command, Clause, Ask, Hide, Witness, Sample, ScriptEnding, Clean, Malformed, names_of}
use Rattle.sat_base.specs.script.ScriptState.{ScriptState, Sampled, Witnessed, Refusal, refusal_of, state_after_accepted, accepted_commands, after_command, introduce_all, with_clause}
use Rattle.sat_base.specs.steps.Steps.{Step}
use Rattle.sat_checker.specs.Accepts.{ready_after}
use Rattle.sat_checker.specs.KernelView.{KernelHasAccepted as HasTakenSteps}
use Rattle.sat_checker.specs.matching.Expected.{Outcome, Unsat, Expected, Adds, Opens, Closes, Finish, steps_introducing, steps_hiding, steps_setting_mode, step_showing, expected_steps}
use Rattle.certify.specs.answers.AnswerForms.{IsPrintable}
use Rattle.certify.specs.answers.Answers.{outcome_text, refused_line, malformed_line, answers_from, outcomes_left, answer_to_command}
use Rattle.certify.specs.confirm.CertificatePlaces.{RestMeets, MeetsNoneOf}
use Rattle.certify.specs.confirm.Lines.{ReadsDueLine}
use Rattle.certify.specs.confirm.Matches.{OneOutcomePerAsk}
use Rattle.certify.specs.confirm.CertificateStates.{CertificateState}
use Rattle.certify.specs.refusals.Names.{NamesHaveState}
use Rattle.certify.specs.confirm.Awaiting.{IsDueMet, MeetsDue}
use Rattle.certify.specs.confirm.Confirming.{NameTable, TableHoldsAt, RemainsToConfirm, CommandConfirmed, ConfirmsCommand, ConfirmsRest, MeetsCommandNames, MeetsOutcome}
use Rattle.certify.specs.confirm.Naming.{MeetsAll, MetBetween, expected_for_names, state_after_names}
use Rattle.sat_base.specs.script.Language.{Kind, OfClause, OfAsk, OfHide, OfWitness, OfSample, command_of}
use Rattle.certify.specs.declared.refusals.names.Names.{Names}
use Rattle.certify.specs.declared.confirm.variables.NamedVars.{NamedVars}
use Rattle.certify.specs.declared.verdict.Why.{Why}
use Rattle.certify.proofs.lemmas.confirm.LeftByCommand.{Rest, refused_on, refused_back, left_on, left_back, left_barred, end_on, end_back}
use Rattle.certify.proofs.lemmas.confirm.CertificatePlaces.{nothing_met}
use Rattle.sat_base.proofs.lemmas.script.ScriptStates.{accepted_kept}
use Rattle.certify.proofs.lemmas.confirm.AskedWhole.{Listed, all_listed, Within, all_within, ask_unnamed, ask_unopened, answered_on, answered_back, ask_unread}
use Rattle.certify.proofs.lemmas.confirm.NamesExpected.{names_are_expected}

-- WHAT A COMMAND EXPECTS

abbrev NoAsk : Command → Type 0
NoAsk (Ask ls) = ⊥
NoAsk e = Unit {0}

-- the steps that a command expects for its names
abbrev for_names : Command → ScriptState → List Expected
for_names (Clause ls) j = steps_introducing (names_of ls) j
for_names (Ask ls) j = steps_introducing (names_of ls) j
for_names (Hide names) j = steps_hiding names j
for_names (Witness names) j = steps_setting_mode Witnessed names j
for_names (Sample names) j = steps_setting_mode Sampled names j

-- the steps that it expects after them, if it is no ask
abbrev after_names : Command → List Expected
after_names (Clause ls) = Adds ls ∷ []
after_names e = []

expected_on : (c : Command) → NoAsk c → (j : ScriptState) (cs : List Command) (os : List Outcome) → expected_steps j (c ∷ cs) os ≡ (for_names c j ++ after_names c) ++ expected_steps (state_after_accepted c j) cs os
expected_on (Clause ls) a j cs os = sym (append_assoc (steps_introducing (names_of ls) j) (Adds ls ∷ []) (expected_steps (state_after_accepted (Clause ls) j) cs os))
expected_on (Ask ls) a j cs os = absurd a
expected_on (Hide names) a j cs os = ap (λ (es : List Expected). es ++ expected_steps (state_after_accepted (Hide names) j) cs os) (sym (append-nil (steps_hiding names j)))
expected_on (Witness names) a j cs os = ap (λ (es : List Expected). es ++ expected_steps (state_after_accepted (Witness names) j) cs os) (sym (append-nil (steps_setting_mode Witnessed names j)))
expected_on (Sample names) a j cs os = ap (λ (es : List Expected). es ++ expected_steps (state_after_accepted (Sample names) j) cs os) (sym (append-nil (steps_setting_mode Sampled names j)))

one_on : (c : Command) → NoAsk c → (cs : List Command) (os : List Outcome) → OneOutcomePerAsk (c ∷ cs) os ↔ OneOutcomePerAsk cs os
one_on (Ask ls) a cs os = absurd a
one_on e a cs os = ((λ h. h), (λ h. h))

no_piece : (c : Command) → NoAsk c → (n : ℕ) (os : List Outcome) → answer_to_command n None c os ≡ []
no_piece (Ask ls) a n os = absurd a
no_piece e a n os = refl

all_left : (c : Command) → NoAsk c → (os : List Outcome) → outcomes_left None c os ≡ os
all_left (Ask ls) a os = absurd a
all_left e a os = refl

command_pending : (c : Command) → NoAsk c → (j : ScriptState) (n : ℕ) (earlier : List Step) (cs : List Command) (ending : ScriptEnding) (answers certificate : List ℕ) → refusal_of j c ≡ None
    → Rest j n earlier [] (c ∷ cs) ending answers certificate ↔ Rest (state_after_accepted c j) (n + 1) earlier (for_names c j ++ after_names c) cs ending answers certificate
command_pending c a j n earlier cs ending answers certificate e =
    let next = state_after_accepted c j in
    let text : (os : List Outcome) → answer_to_command n None c os ++ answers_from (n + 1) next cs ending (outcomes_left None c os) ≡ answers_from (n + 1) next cs ending os = λ os.
    ap (λ (xs : List ℕ). xs ++ answers_from (n + 1) next cs ending (outcomes_left None c os)) (no_piece c a n os) ∙ ap (answers_from (n + 1) next cs ending) (all_left c a os) in (
      (λ l. record {
        outcomes = l.outcomes;
        answered = (rw e at l.answered) ∙ text l.outcomes;
        one_each = (one_on c a (accepted_commands next cs) l.outcomes).0 (rw e at l.one_each);
        in_form = l.in_form;
        certified = subst (λ es. RestMeets earlier es certificate) (expected_on c a j (accepted_commands next cs) l.outcomes) (rw e at l.certified);
      }),
      (λ l. record {
        outcomes = l.outcomes;
        answered = rw e (l.answered ∙ sym (text l.outcomes));
        one_each = rw e ((one_on c a (accepted_commands next cs) l.outcomes).1 l.one_each);
        in_form = l.in_form;
        certified = rw e (subst (λ es. RestMeets earlier es certificate) (sym (expected_on c a j (accepted_commands next cs) l.outcomes)) l.certified);
      }),
    )

-- A REFUSED COMMAND

after_refused : (j : ScriptState) (c : Command) (r : Refusal) → refusal_of j c ≡ Some r → after_command c j ≡ j
after_refused j c r e = rw e refl

after_accepted : (j : ScriptState) (c : Command) → refusal_of j c ≡ None → after_command c j ≡ state_after_accepted c j
after_accepted j c e = rw e refl

-- how a command that leads to state `next` is confirmed
confirmed : (before following : List ℕ) (old new : CertificateState) (j next : ScriptState) (earlier later : List Step) (n : ℕ) (c : Command) (t : NameTable) → after_command c j ≡ next → TableHoldsAt t new next later
    → ((cs : List Command) (ending : ScriptEnding) → RemainsToConfirm j n earlier (c ∷ cs) ending before old.rest → RemainsToConfirm next (n + 1) later cs ending following new.rest)
    → ((cs : List Command) (ending : ScriptEnding) → RemainsToConfirm next (n + 1) later cs ending following new.rest → RemainsToConfirm j n earlier (c ∷ cs) ending before old.rest)
    → CommandConfirmed before following old new j earlier n c t
confirmed before following old new j next earlier later n c t e s on back = record {
  later = later;
  valid = subst (λ x. TableHoldsAt t new x later) (sym e) s;
  on = λ cs ending h. subst (λ x. RemainsToConfirm x (n + 1) later cs ending following new.rest) (sym e) (on cs ending h);
  back = λ cs ending h. back cs ending (subst (λ x. RemainsToConfirm x (n + 1) later cs ending following new.rest) e h);
}

-- a refused command is confirmed exactly if its line is read
pub command_refused : (before following : List ℕ) (u : CertificateState) (n : ℕ) (c : Command) (t : NameTable) (r : Refusal) (y : Result (Unit {0}) Why) → ((j : ScriptState) → NamesHaveState t.names j → refusal_of j c ≡ Some r)
    → ReadsDueLine before following (refused_line n r) y → ConfirmsCommand n c t t before following u u y
command_refused before following u n c t r (Ok x) refused line = λ j earlier s.
    let e = refused j s.judged in
    confirmed before following u u j j earlier earlier n c t (after_refused j c r e) s
    (λ cs ending h.
    let p = refused_on j n earlier c cs ending before u.rest r e h in
    let tail : p.0 ≡ following = append_cancel_left (refused_line n r) p.0 following (sym p.1 ∙ line) in
    subst (λ x. Rest j (n + 1) earlier [] cs ending x u.rest) tail p.2)
    (λ cs ending h. refused_back j n earlier c cs ending before following u.rest r e line h)
command_refused before following u n c t r (Err why) refused line = λ j earlier s cs ending h.
    let p = refused_on j n earlier c cs ending before u.rest r (refused j s.judged) h in
    line p.0 p.1

-- AN ACCEPTED COMMAND

-- both definitions give the same steps for the names of a command
naming_is : (kind : Kind) (ls : List Literal) (j : ScriptState) → expected_for_names kind (names_of ls) j ≡ for_names (command_of kind ls) j
naming_is OfClause ls j = names_are_expected.clauses (names_of ls) j
naming_is OfAsk ls j = names_are_expected.asks (names_of ls) j
naming_is OfHide ls j = names_are_expected.hides (names_of ls) j
naming_is OfWitness ls j = names_are_expected.witnesses (names_of ls) j
naming_is OfSample ls j = names_are_expected.samples (names_of ls) j

-- names and modes don't depend on clauses
with_clauses : (names : Names) (ls : List Literal) (j : ScriptState) → NamesHaveState names j → NamesHaveState names (with_clause ls j)
with_clauses names ls j h = record { first = h.first; limit = h.limit; each = h.each; fresh = h.fresh; given = h.given; modes = h.modes; apart = h.apart }

-- a table that fits the state after the names of a command fits the state after the command
left_is : (kind : Kind) (ls : List Literal) (j : ScriptState) (names : Names) → NamesHaveState names (state_after_names kind (names_of ls) j) → NamesHaveState names (state_after_accepted (command_of kind ls) j)
left_is OfClause ls j names h = with_clauses names ls (introduce_all (names_of ls) j) (subst (NamesHaveState names) (names_are_expected.left_by_clause (names_of ls) j) h)
left_is OfAsk ls j names h = subst (NamesHaveState names) (names_are_expected.left_by_ask (names_of ls) j) h
left_is OfHide ls j names h = subst (NamesHaveState names) (names_are_expected.left_by_hide (names_of ls) j) h
left_is OfWitness ls j names h = subst (NamesHaveState names) (names_are_expected.left_by_witness (names_of ls) j) h
left_is OfSample ls j names h = subst (NamesHaveState names) (names_are_expected.left_by_sample (names_of ls) j) h

-- a command is not confirmed if the steps for its names cannot be met
unnamed_barred : (c : Command) (j : ScriptState) (n : ℕ) (earlier : List Step) (cs : List Command) (ending : ScriptEnding) (answers certificate : List ℕ) → refusal_of j c ≡ None → MeetsNoneOf earlier certificate (for_names c j) → Rest j n earlier [] (c ∷ cs) ending answers certificate → ⊥
unnamed_barred (Clause ls) j n earlier cs ending answers certificate e b h = left_barred (Adds ls ∷ []) (state_after_accepted (Clause ls) j) (n + 1) cs ending answers b ((command_pending (Clause ls) tt j n earlier cs ending answers certificate e).0 h)
unnamed_barred (Ask ls) j n earlier cs ending answers certificate e b h = ask_unnamed j n ls cs ending answers e earlier certificate b h
unnamed_barred x j n earlier cs ending answers certificate e b h = left_barred [] (state_after_accepted x j) (n + 1) cs ending answers b ((command_pending x tt j n earlier cs ending answers certificate e).0 h)

-- a command whose names cannot be met cannot be confirmed
pub command_unnamed : (kind : Kind) (ls : List Literal) (t next : NameTable) (before following : List ℕ) (u v : CertificateState) (n : ℕ) (after : NamedVars) (why : Why) → ((j : ScriptState) → NamesHaveState t.names j → refusal_of j (command_of kind ls) ≡ None)
    → ((j : ScriptState) → NamesHaveState t.names j → MeetsAll (expected_for_names kind (names_of ls) j) t.variables after u v (Err why)) → ConfirmsCommand n (command_of kind ls) t next before following u v (Err why)
command_unnamed kind ls t next before following u v n after why allowed met j earlier s cs ending h =
    unnamed_barred (command_of kind ls) j n earlier cs ending before u.rest (allowed j s.judged) (subst (MeetsNoneOf earlier u.rest) (naming_is kind ls j) (met j s.judged earlier s.at)) h

named_on : (kind : Kind) (ls : List Literal) (t next : NameTable) (u v : CertificateState) → MeetsCommandNames kind ls t next u v → (j : ScriptState) (earlier : List Step) → TableHoldsAt t u j earlier → MetBetween (for_names (command_of kind ls) j) next.variables u earlier v
named_on kind ls t next u v named j earlier s = subst (λ (es : List Expected). MetBetween es next.variables u earlier v) (naming_is kind ls j) (named.met j s.judged earlier s.at)

-- a command that is no ask
module _ (kind : Kind) (ls : List Literal) (a : NoAsk (command_of kind ls)) (t named : NameTable) (u v : CertificateState) (n : ℕ) (is : MeetsCommandNames kind ls t named u v) (before : List ℕ) where
  c : Command
  c = command_of kind ls

  -- a command that is not an ask is confirmed as its content is met
  pub plain_confirmed : (next : NameTable) (w : CertificateState) (y : Result (Unit {0}) Why) → next.names ≡ named.names → MeetsAll (after_names (command_of kind ls)) named.variables next.variables v w y → ConfirmsCommand n (command_of kind ls) t next before before u w y
  plain_confirmed next w (Ok x) same met = λ j earlier s.
      let e = is.allowed j s.judged in
      let first = named_on kind ls t named u v is j earlier s in
      let second = met first.later first.valid in
      let left = state_after_accepted (command_of kind ls) j in
      let pending = command_pending (command_of kind ls) a j n earlier in
      let valid : NamesHaveState next.names left = subst (λ (x : Names). NamesHaveState x left) (sym same) (left_is kind ls j named.names (is.changes j s.judged)) in
      confirmed before before u w j left earlier second.later n (command_of kind ls) next (after_accepted j (command_of kind ls) e)
      (record { judged = valid; kept = accepted_kept (command_of kind ls) j e s.kept; at = second.valid })
      (λ cs ending h. left_on [] left (n + 1) cs ending before second.leads
      (subst (λ (es : List Expected). Rest left (n + 1) first.later es cs ending before v.rest) (sym (append-nil (after_names (command_of kind ls))))
      (left_on (after_names (command_of kind ls)) left (n + 1) cs ending before first.leads ((pending cs ending before u.rest e).0 h))))
      (λ cs ending h. (pending cs ending before u.rest e).1
      (left_back (after_names (command_of kind ls)) left (n + 1) cs ending before first.leads
      (subst (λ (es : List Expected). Rest left (n + 1) first.later es cs ending before v.rest) (append-nil (after_names (command_of kind ls))) (left_back [] left (n + 1) cs ending before second.leads h))))
  plain_confirmed next w (Err why) same met = λ j earlier s cs ending h.
      let e = is.allowed j s.judged in
      let first = named_on kind ls t named u v is j earlier s in
      let left = state_after_accepted (command_of kind ls) j in
      left_barred [] left (n + 1) cs ending before (met first.later first.valid)
      (subst (λ (es : List Expected). Rest left (n + 1) first.later es cs ending before v.rest) (sym (append-nil (after_names (command_of kind ls))))
      (left_on (after_names (command_of kind ls)) left (n + 1) cs ending before first.leads ((command_pending (command_of kind ls) a j n earlier cs ending before u.rest e).0 h)))

-- AN ASK

module _ (ls : List Literal) (t named : NameTable) (u v : CertificateState) (n : ℕ) (is : MeetsCommandNames OfAsk ls t named u v) where
  first : (j : ScriptState) (earlier : List Step) → TableHoldsAt t u j earlier → MetBetween (steps_introducing (names_of ls) j) named.variables u earlier v
  first j earlier s = named_on OfAsk ls t named u v is j earlier s

  -- an ask whose assumptions cannot be met cannot be confirmed
  pub ask_without_assumptions : (next : NameTable) (before following : List ℕ) (after : NamedVars) (w : CertificateState) (why : Why) → MeetsDue (λ o ask. Opens ls o) named.variables after v w (Err why) → ConfirmsCommand n (Ask ls) t next before following u w (Err why)
  ask_without_assumptions next before following after w why bars j earlier s cs ending h =
      let f = first j earlier s in
      ask_unopened j n ls cs ending before (is.allowed j s.judged) earlier f.later u.rest v.rest f.leads (λ o. bars f.later f.valid o []) h

  module _ (asked : NameTable) (w : CertificateState) (same : named.names ≡ asked.names) (opens : MeetsDue (λ o ask. Opens ls o) named.variables asked.variables v w (Ok tt)) (before : List ℕ) where
    second : (j : ScriptState) (earlier : List Step) (s : TableHoldsAt t u j earlier) → IsDueMet (λ o ask. Opens ls o) asked.variables v (first j earlier s).later w
    second j earlier s = let f = first j earlier s in opens f.later f.valid

    holds : (j : ScriptState) (earlier : List Step) (s : TableHoldsAt t u j earlier) → TableHoldsAt asked w (state_after_accepted (Ask ls) j) (second j earlier s).later
    holds j earlier s =
        let e = is.allowed j s.judged in
        record {
          judged = subst (λ (x : Names). NamesHaveState x (state_after_accepted (Ask ls) j)) same (left_is OfAsk ls j named.names (is.changes j s.judged));
          kept = accepted_kept (Ask ls) j e s.kept;
          at = (second j earlier s).valid;
        }

    listed : (j : ScriptState) (earlier : List Step) → TableHoldsAt t u j earlier → Listed (state_after_accepted (Ask ls) j)
    listed j earlier s = let h = holds j earlier s in all_listed asked.names (state_after_accepted (Ask ls) j) h.judged h.kept.order

    within : (j : ScriptState) (earlier : List Step) (s : TableHoldsAt t u j earlier) → Within (second j earlier s).later
    within j earlier s = let h = holds j earlier s in all_within asked.variables (second j earlier s).later h.at.stand

    pub ask_without_answer : (next : NameTable) (following : List ℕ) (x : CertificateState) (why : Why)
        → ((steps : List Step) → HasTakenSteps w.checker steps → (o : Outcome) (tail : List ℕ) → IsPrintable o → ((ready_after steps).unsat ≡ true → o ≡ Unsat []) → before ≡ outcome_text o ++ tail → ⊥)
        → ConfirmsCommand n (Ask ls) t next before following u x (Err why)
    ask_without_answer next following x why none j earlier s cs ending h =
        let f = first j earlier s in
        let g = second j earlier s in
        ask_unread j n ls cs ending before (is.allowed j s.judged) earlier f.later u.rest v.rest f.leads g.later w.rest (λ o only. g.leads o [] only) (λ o es m closed. g.alone o [] es m closed) (listed j earlier s) (within j earlier s)
        (none g.later g.valid.taken.valid) h

    module _ (o : Outcome) (following : List ℕ)
        (read : (steps : List Step) → HasTakenSteps w.checker steps → (before ≡ outcome_text o ++ following) × IsPrintable o × ((ready_after steps).unsat ≡ true → o ≡ Unsat [])) where
      pub ask_answered : (next : NameTable) (y : CertificateState) (r : Result (Unit {0}) Why) → next.names ≡ asked.names → MeetsOutcome asked.names ls o asked.variables next.variables w y r → ConfirmsCommand n (Ask ls) t next before following u y r
      ask_answered next y (Ok z) kept met = λ j earlier s.
          let e = is.allowed j s.judged in
          let f = first j earlier s in
          let g = second j earlier s in
          let q = read g.later g.valid.taken.valid in
          let left = state_after_accepted (Ask ls) j in
          let h = holds j earlier s in
          let m = met left h.judged h.kept.order g.later g.valid in
          let more = step_showing left ls o ++ Closes ∷ [] in
          confirmed before following u y j left earlier m.later n (Ask ls) next (after_accepted j (Ask ls) e)
          (record { judged = subst (λ (x : Names). NamesHaveState x left) (sym kept) h.judged; kept = h.kept; at = m.valid })
          (λ cs ending p. left_on [] left (n + 1) cs ending following m.leads
          (subst (λ (es : List Expected). Rest left (n + 1) g.later es cs ending following w.rest) (sym (append-nil more))
          (answered_on j n ls cs ending before e earlier f.later u.rest v.rest f.leads g.later w.rest (λ o only. g.leads o [] only) (λ o es m closed. g.alone o [] es m closed) (listed j earlier s) (within j earlier s) o following q.1 q.0 p)))
          (λ cs ending p. answered_back j n ls cs ending before e earlier f.later u.rest v.rest f.leads g.later w.rest (λ o only. g.leads o [] only) (λ o es m closed. g.alone o [] es m closed) (listed j earlier s) (within j earlier s) o following q.1 q.0 q.2
          (subst (λ (es : List Expected). Rest left (n + 1) g.later es cs ending following w.rest) (append-nil more) (left_back [] left (n + 1) cs ending following m.leads p)))
      ask_answered next y (Err why) kept met = λ j earlier s cs ending p.
          let f = first j earlier s in
          let g = second j earlier s in
          let q = read g.later g.valid.taken.valid in
          let left = state_after_accepted (Ask ls) j in
          let h = holds j earlier s in
          let more = step_showing left ls o ++ Closes ∷ [] in
          left_barred [] left (n + 1) cs ending following (met left h.judged h.kept.order g.later g.valid)
          (subst (λ (es : List Expected). Rest left (n + 1) g.later es cs ending following w.rest) (sym (append-nil more))
          (answered_on j n ls cs ending before (is.allowed j s.judged) earlier f.later u.rest v.rest f.leads g.later w.rest (λ o only. g.leads o [] only) (λ o es m closed. g.alone o [] es m closed) (listed j earlier s) (within j earlier s) o following q.1 q.0 p))

-- THE END

-- if the end of the certificate cannot be met, the script cannot be confirmed
pub over_barred : (n : ℕ) (t : NameTable) (after : NamedVars) (before : List ℕ) (u v : CertificateState) (why : Why) → MeetsAll (Finish ∷ []) t.variables after u v (Err why) → ConfirmsRest n ([], Clean) t before u (Err why)
over_barred n t after before u v why bars j earlier s h = (bars earlier s.at).none [] (end_on j n earlier Clean before u.rest h).1

-- if the end of the certificate is met and the answers have ended, the script is confirmed
pub over_done : (n : ℕ) (t : NameTable) (after : NamedVars) (before : List ℕ) (u v : CertificateState) → MeetsAll (Finish ∷ []) t.variables after u v (Ok tt) → before ≡ [] → ConfirmsRest n ([], Clean) t before u (Ok tt)
over_done n t after before u v met a j earlier s =
    let o = met earlier s.at in
    end_back j n earlier Clean before u.rest a (o.leads.back [] (nothing_met o.later v.rest))

-- if the answers have not ended, the script cannot be confirmed
pub over_extra : (n : ℕ) (t : NameTable) (before : List ℕ) (u : CertificateState) (why : Why) → (before ≡ [] → ⊥) → ConfirmsRest n ([], Clean) t before u (Err why)
over_extra n t before u why x j earlier s h = x (end_on j n earlier Clean before u.rest h).0

-- a malformed script is not confirmed if the answers lack its last line
pub malformed_barred : (n : ℕ) (t : NameTable) (before following : List ℕ) (u : CertificateState) (why : Why) → ReadsDueLine before following (malformed_line n) (Err why) → ConfirmsRest n ([], Malformed) t before u (Err why)
malformed_barred n t before following u why line j earlier s h = line [] ((end_on j n earlier Malformed before u.rest h).0 ∙ sym (append-nil (malformed_line n)))

-- after the line of a malformed command, the rest decides
pub malformed_then : (n : ℕ) (t : NameTable) (before following : List ℕ) (u : CertificateState) (y : Result (Unit {0}) Why) → ReadsDueLine before following (malformed_line n) (Ok tt) → ConfirmsRest n ([], Clean) t following u y → ConfirmsRest n ([], Malformed) t before u y
malformed_then n t before following u (Ok x) line k = λ j earlier s.
    let p = end_on j n earlier Clean following u.rest (k j earlier s) in
    end_back j n earlier Malformed before u.rest (line ∙ ap (λ x. malformed_line n ++ x) p.0 ∙ append-nil (malformed_line n)) p.1
malformed_then n t before following u (Err why) line k = λ j earlier s h.
    let p = end_on j n earlier Malformed before u.rest h in
    k j earlier s
    (end_back j n earlier Clean following u.rest
    (append_cancel_left (malformed_line n) following [] (sym line ∙ p.0 ∙ sym (append-nil (malformed_line n)))) p.1)
