-- Confirming commands, call by call.
use Rattle.std.proofs.Common.{ℕ, ◌+◌, ◌≡◌, Bool, true, false, List, [], ◌∷◌, ◌++◌, Some, None, Result, Ok, Err, OnOk, refl, sym, ◌∙◌, ap, subst}
use Rattle.std.proofs.lemmas.List.{append-nil}
use Rattle.sat_base.specs.device.Reading.{Source, AtEnd}
use Rattle.sat_base.specs.script.Script.{Literal, Command, Ask, Clean, Malformed, names_of}
use Rattle.sat_base.specs.script.ScriptState.{ScriptState, after_command, refusal_of}
use Rattle.sat_base.specs.steps.Steps.{Step}
use Rattle.sat_checker.specs.Accepts.{ready_after}
use Rattle.sat_checker.specs.KernelView.{KernelHasAccepted as HasTakenSteps}
use Rattle.sat_checker.specs.matching.Expected.{Outcome, Sat, Unsat, Unknown, Opens, Shows, Fails, Closes, Finish, step_showing}
use Rattle.certify.specs.answers.Answers.{outcome_text, refused_line, malformed_line}
use Rattle.certify.specs.answers.AnswerForms.{IsPrintable, named_literals}
use Rattle.certify.specs.confirm.Lines.{ReadsDueLine}
use Rattle.certify.specs.confirm.Streams.{Stream, CertificateCall, certificate_state_in}
use Rattle.certify.specs.confirm.CertificateStates.{CertificateState}
use Rattle.certify.specs.refusals.Names.{states_of, NamesChangeBy, ReportsRefusal, NamesHaveState, refusal_of_code, names_in_use}
use Rattle.certify.specs.confirm.Awaiting.{MeetsDue}
use Rattle.certify.specs.confirm.Comparing.{OpensOnlyEmptyCore, Due}
use Rattle.certify.specs.confirm.Confirming.{ConfirmsAnswer, ConfirmsContent, ConfirmsRest, ConfirmsCommand, MeetsCommandNames, MeetsContent, MeetsOutcome, MeetsShowing, NameTable, RemainsToConfirm}
use Rattle.certify.specs.confirm.CallResults.{AnswersAndCertificateCall, AnswersCall, ResultDecides}
use Rattle.certify.specs.confirm.Lines.{ReadsReply}
use Rattle.certify.specs.confirm.Naming.{MeetsAll, MeetsNames, state_after_names}
use Rattle.certify.specs.script.Commands.{FirstIsPastLimit, RepresentsCommand, kind_of}
use Rattle.sat_base.specs.script.Language.{Reading, Kind, OfAsk, command_of}
use Rattle.certify.specs.declared.confirm.stop.Stop.{Stop}
use Rattle.certify.specs.declared.refusals.Refusal.{Refusal as CodeRefusal}
use Rattle.certify.specs.declared.refusals.names.Names.{Names}
use Rattle.certify.specs.declared.script.CommandKind.{CommandKind}
use Rattle.certify.specs.declared.script.CommandKind.TheVariants as kinds
use Rattle.certify.specs.declared.confirm.variables.NamedVars.{NamedVars}
use Rattle.certify.specs.declared.script.Command.{Command as Lent}
use Rattle.certify.specs.declared.verdict.Why.{Why}
use Rattle.certify.proofs.lemmas.confirm.Streams.{confirms_none, confirms_so, confirms_stop, confirms_then}
use Rattle.certify.proofs.lemmas.confirm.CommandsMet.{ask_answered, ask_without_answer, ask_without_assumptions, command_refused, command_unnamed, malformed_barred, malformed_then, over_barred, over_done, over_extra, plain_confirmed}
use Rattle.certify.proofs.lemmas.confirm.Joining.{certificate_goes, certificate_joins, certificate_stops, joins_stop, joins_then, replies_end, replies_go, replies_join}
use Rattle.certify.proofs.lemmas.confirm.Naming.{both, first_barred, nothing}
use Rattle.certify.proofs.lemmas.confirm.UsedNames.{used_names}

-- ONE EXPECTED STEP

at_ask : (due : Due) (o : Outcome) (ask : List Literal) → OpensOnlyEmptyCore (due o ask) → (before after : NamedVars) (u v : CertificateState) (y : Result (Unit {0}) Why) → MeetsDue due before after u v y → MeetsAll (due o ask ∷ []) before after u v y
at_ask due o ask free before after u v (Ok x) m = λ earlier s. let k = m earlier s in record { later = k.later; valid = k.valid; leads = k.leads o ask (λ closed. free) }
at_ask due o ask free before after u v (Err why) m = λ earlier s. m earlier s o ask

-- the result for one expected step is that for a list of this step
pub expects_one : (due : Due) (o : Outcome) (ask : List Literal) → OpensOnlyEmptyCore (due o ask) → (before after : NamedVars) (r : Result (Unit {0}) Stop) (s t : Stream) → CertificateCall r s t (MeetsDue due before after) → CertificateCall r s t (MeetsAll (due o ask ∷ []) before after)
expects_one due o ask free before after r s t p = confirms_so r s t (MeetsDue due before after) (MeetsAll (due o ask ∷ []) before after) (λ total y m. at_ask due o ask free before after (certificate_state_in total s) (certificate_state_in total t) y m) p

-- WHAT SHOWS AN OUTCOME

module _ (names : Names) (ask line : List Literal) (before after : NamedVars) (r : Result (Unit {0}) Stop) (s t : Stream) where
  pub shows_model : CertificateCall r s t (MeetsDue (λ o under. Shows (names_in_use (states_of names)) ask line) before after) → CertificateCall r s t (MeetsShowing names ask (Sat line) before after)
  shows_model p = confirms_so r s t (MeetsDue (λ o under. Shows (names_in_use (states_of names)) ask line) before after) (MeetsShowing names ask (Sat line) before after)
      (λ total y m j h up. subst (λ (used : List ℕ). MeetsAll (Shows used ask line ∷ []) before after (certificate_state_in total s) (certificate_state_in total t) y) (sym (used_names names j h up)) (at_ask (λ o under. Shows (names_in_use (states_of names)) ask line) Unknown [] tt before after (certificate_state_in total s) (certificate_state_in total t) y m)) p

  pub shows_core : CertificateCall r s t (MeetsDue (λ o under. Fails under line) before after) → CertificateCall r s t (MeetsShowing names ask (Unsat line) before after)
  shows_core p = confirms_so r s t (MeetsDue (λ o under. Fails under line) before after) (MeetsShowing names ask (Unsat line) before after)
      (λ total y m j h up. at_ask (λ o under. Fails under line) Unknown ask tt before after (certificate_state_in total s) (certificate_state_in total t) y m) p

pub shows_nothing : (names : Names) (ask : List Literal) (variables : NamedVars) (s : Stream) → CertificateCall (Ok tt) s s (MeetsShowing names ask Unknown variables variables)
shows_nothing names ask variables s = confirms_none tt s (MeetsShowing names ask Unknown variables variables) (λ total j h up. nothing variables (certificate_state_in total s))

module _ (names : Names) (ask : List Literal) (o : Outcome) (before mid after : NamedVars) where
  -- if showing the outcome stops, so does showing it and closing the ask
  pub unshown : (e : Stop) (s t : Stream) → CertificateCall {A = Unit {0}} (Err e) s t (MeetsShowing names ask o before mid) → CertificateCall {A = Unit {0}} (Err e) s t (MeetsOutcome names ask o before after)
  unshown e s t p = confirms_stop e s t (MeetsShowing names ask o before mid) (MeetsOutcome names ask o before after)
      (λ total why m j h up. first_barred (step_showing j ask o) (Closes ∷ []) before mid after (certificate_state_in total s) (certificate_state_in total t) why (m j h up)) p

  -- after the outcome is shown, the end of the ask decides
  pub shown_closes : (r : Result (Unit {0}) Stop) (s t u : Stream) → (AtEnd s.source → ⊥) → CertificateCall (Ok tt) s t (MeetsShowing names ask o before mid) → CertificateCall r t u (MeetsDue (λ p under. Closes) mid after) → CertificateCall r s u (MeetsOutcome names ask o before after)
  shown_closes r s t u open_yet p q = confirms_then tt r s t u (MeetsShowing names ask o before mid) (MeetsDue (λ p under. Closes) mid after) (MeetsOutcome names ask o before after) open_yet
      (λ total y f g j h up. both (step_showing j ask o) (Closes ∷ []) before mid after (certificate_state_in total s) (certificate_state_in total t) (certificate_state_in total u) y (f j h up) (at_ask (λ p under. Closes) Unknown [] tt mid after (certificate_state_in total t) (certificate_state_in total u) y g)) p q

-- AN ANSWER

module _ (n : ℕ) (ask : List Literal) (asked next : NameTable) (a b : Source) (s : Stream) (settled : Bool) (settled_is : (steps : List Step) → HasTakenSteps s.checker steps → settled ≡ (ready_after steps).unsat) (reply : Outcome) (here : AtEnd a → ⊥) (open_yet : AtEnd s.source → ⊥) where
  -- if reading the answer stops, so does confirming the ask
  pub answer_unread : (e : Stop) → AnswersCall {A = Unit {0}} true (Err e) a b (λ before following y. ReadsReply before following reply settled y) → AnswersAndCertificateCall {A = Unit {0}} ⊥ true (Err e) a b s s (ConfirmsAnswer n ask asked next)
  answer_unread e h = replies_end ⊥ true e a b s (λ before following y. ReadsReply before following reply settled y) (ConfirmsAnswer n ask asked next) open_yet
      (λ p q more why none t named x v is same opens. ask_without_answer ask t named x v n is asked (certificate_state_in more s) same opens p next q (certificate_state_in more s) why (λ steps taken o tail form alone e. none o tail form (λ closed. alone (sym (settled_is steps taken) ∙ closed)) e)) h

  -- `Answered before following u v y` holds if the answer was read, and `settled` is true exactly if unsat is recorded.
  abbrev Answered : List ℕ → List ℕ → CertificateState → CertificateState → Result (Unit {0}) Why → Type 0
  Answered before following u v y = (u ≡ v) × ReadsReply before following reply settled (Ok tt) × ((steps : List Step) → HasTakenSteps u.checker steps → settled ≡ (ready_after steps).unsat)

  -- after the answer is read, the steps that show it and close the ask decide
  pub answer_closes : (r : Result (Unit {0}) Stop) (t : Stream) → next.names ≡ asked.names → AnswersCall {A = Unit {0}} true (Ok tt) a b (λ before following y. ReadsReply before following reply settled y)
      → CertificateCall r s t (MeetsOutcome asked.names ask reply asked.variables next.variables) → (AtEnd b → ⊥) → AnswersAndCertificateCall ⊥ true r a b s t (ConfirmsAnswer n ask asked next)
  answer_closes r t kept h p after_open = joins_then ⊥ true tt r a b b s s t Answered (λ q z w y (m : Result (Unit {0}) Why). (q ≡ z) × MeetsOutcome asked.names ask reply asked.variables next.variables w y m) (ConfirmsAnswer n ask asked next)
      here open_yet
      (λ p q z v w y m f g t named x u is same opens.
      let read : (steps : List Step) → HasTakenSteps w.checker steps → (p ≡ outcome_text reply ++ z) × IsPrintable reply × ((ready_after steps).unsat ≡ true → reply ≡ Unsat []) = λ steps taken.
      (f.1.0 ∙ ap (λ (rest : List ℕ). outcome_text reply ++ rest) g.0, f.1.1, (λ closed. f.1.2 (f.2 steps (subst (λ (k : CertificateState). HasTakenSteps k.checker steps) (sym f.0) taken) ∙ closed))) in
      let opened : MeetsDue (λ o under. Opens ask o) named.variables asked.variables u w (Ok tt) = subst (λ (k : CertificateState). MeetsDue (λ o under. Opens ask o) named.variables asked.variables u k (Ok tt)) f.0 opens in
      ask_answered ask t named x u n is asked w same opened p reply z read next y m kept g.1)
      (replies_go ⊥ tt tt a b s (λ before following y. ReadsReply before following reply settled y) Answered (λ p q more k. (refl, k, settled_is)) h)
      (certificate_joins ⊥ r b s t (MeetsOutcome asked.names ask reply asked.variables next.variables) (λ q z w y (m : Result (Unit {0}) Why). (q ≡ z) × MeetsOutcome asked.names ask reply asked.variables next.variables w y m) after_open (λ p u v y k. (refl, k)) p)

-- A COMMAND'S CONTENT

content : (n : ℕ) (kind : Kind) (ls : List Literal) (named next : NameTable) (p : List ℕ) (u v : CertificateState) (y : Result (Unit {0}) Why) → (kind ≡ OfAsk → ⊥) → next.names ≡ named.names → MeetsContent kind ls named.variables next.variables u v y → ConfirmsContent n kind ls named next p p u v y
content n OfAsk ls named next p u v y a same m = absurd (a refl)
content n e ls named next p u v y a same m = λ t x is. plain_confirmed e ls tt t named x u n is p next v y same m

content_barred : (n : ℕ) (kind : Kind) (ls : List Literal) (named mid next : NameTable) (p : List ℕ) (u v : CertificateState) (why : Why) → mid.names ≡ named.names → MeetsContent kind ls named.variables mid.variables u v (Err why) → ConfirmsContent n kind ls named next p p u v (Err why)
content_barred n OfAsk ls named mid next p u v why same m = λ t x is. ask_without_assumptions ls t named x u n is next p p mid.variables v why m
content_barred n e ls named mid next p u v why same m = λ t x is. plain_confirmed e ls tt t named x u n is p (record mid { names = named.names }) v (Err why) refl m

module _ (n : ℕ) (kind : Kind) (ls : List Literal) (named next : NameTable) (a : Source) (s t : Stream) (here : AtEnd a → ⊥) where
  -- if meeting the content of a command stops, so does confirming the command
  pub content_stops : (mid : NameTable) (e : Stop) → mid.names ≡ named.names → CertificateCall {A = Unit {0}} (Err e) s t (MeetsContent kind ls named.variables mid.variables) → AnswersAndCertificateCall {A = Unit {0}} ⊥ true (Err e) a a s t (ConfirmsContent n kind ls named next)
  content_stops mid e same p = certificate_stops ⊥ true e a s t (MeetsContent kind ls named.variables mid.variables) (ConfirmsContent n kind ls named next) here (λ q u v why m. content_barred n kind ls named mid next q u v why same m) p

  pub content_goes : (kind ≡ OfAsk → ⊥) → next.names ≡ named.names → CertificateCall (Ok tt) s t (MeetsContent kind ls named.variables next.variables) → AnswersAndCertificateCall {A = Unit {0}} ⊥ true (Ok tt) a a s t (ConfirmsContent n kind ls named next)
  content_goes plain same p = certificate_goes ⊥ tt a s t (MeetsContent kind ls named.variables next.variables) (ConfirmsContent n kind ls named next) (λ q u v m. content n kind ls named next q u v (Ok tt) plain same m) p

-- after the assumptions of an ask are met, its answer decides
pub content_asked : (n : ℕ) (ls : List Literal) (named asked next : NameTable) (a b : Source) (s t u : Stream) (r : Result (Unit {0}) Stop) → (AtEnd a → ⊥) → (AtEnd s.source → ⊥) → named.names ≡ asked.names → CertificateCall (Ok tt) s t (MeetsContent OfAsk ls named.variables asked.variables)
    → AnswersAndCertificateCall ⊥ true r a b t u (ConfirmsAnswer n ls asked next) → AnswersAndCertificateCall ⊥ true r a b s u (ConfirmsContent n OfAsk ls named next)
content_asked n ls named asked next a b s t u r here open_yet same p h = joins_then ⊥ true tt r a a b s t u (λ p q v w (y : Result (Unit {0}) Why). (p ≡ q) × MeetsDue (λ o under. Opens ls o) named.variables asked.variables v w (Ok tt)) (ConfirmsAnswer n ls asked next) (ConfirmsContent n OfAsk ls named next) here open_yet
    (λ p q z v w y m f g t x is. subst (λ (k : List ℕ). ConfirmsCommand n (Ask ls) t next k z x y m) (sym f.0) (g t named x v is same f.1))
    (certificate_goes ⊥ tt a s t (MeetsDue (λ o under. Opens ls o) named.variables asked.variables) (λ p q v w (y : Result (Unit {0}) Why). (p ≡ q) × MeetsDue (λ o under. Opens ls o) named.variables asked.variables v w (Ok tt)) (λ p u v m. (refl, m)) p) h

-- A COMMAND

-- a command without a name past the limit is passed with all its literals
pub lent_whole : (lent : Lent) (c : Command) → lent.past_limit ≡ false → RepresentsCommand lent c → c ≡ command_of (kind_of lent.kind) (named_literals lent.literals.now)
lent_whole lent c none (ls, f, e) = e ∙ ap (command_of (kind_of lent.kind)) (f.whole ∙ ap (λ (bs : List Literal). named_literals lent.literals.now ++ bs) (go lent.past_limit none f.following f.limit) ∙ append-nil (named_literals lent.literals.now))
  where
    go : (b : Bool) → b ≡ false → (bs : List Literal) → FirstIsPastLimit b bs → bs ≡ []
    go false x bs h = h
    go true x bs h = absurd (cc)

-- a command is accepted if the names report no refusal
pub allowed_by : (names : Names) (lent : Lent) (c whole : Command) → c ≡ whole → RepresentsCommand lent c → ReportsRefusal None names lent → (j : ScriptState) → NamesHaveState names j → refusal_of j whole ≡ None
allowed_by names lent c whole e is judges j h = sym (subst (λ (w : Command). None ≡ refusal_of j w) e (judges j c h is))

pub not_ask : (k : CommandKind) → (k ≡ kinds.Ask → ⊥) → kind_of k ≡ OfAsk → ⊥
not_ask kinds.Ask u e = u refl
not_ask x u e = cc

pub if_ok : {T E P : Type 0} (r : Result T E) → P → OnOk r P
if_ok (Ok x) h = h
if_ok (Err e) h = tt

module _ (n : ℕ) (lent : Lent) (c : Command) (is : RepresentsCommand lent c) (t next : NameTable) (a b : Source) (s : Stream) where
  -- a refused command is confirmed as its line is read
  pub refused : (refusal : CodeRefusal) (r : Result (Unit {0}) Stop) → (AtEnd s.source → ⊥) → ReportsRefusal (Some refusal) t.names lent → next ≡ t → AnswersCall {A = Unit {0}} true r a b (λ before following. ReadsDueLine before following (refused_line n (refusal_of_code refusal)))
      → AnswersAndCertificateCall {A = Unit {0}} ⊥ true r a b s s (ConfirmsCommand n c t next)
  refused refusal r open_yet judges same h = subst (λ (x : NameTable). AnswersAndCertificateCall {A = Unit {0}} ⊥ true r a b s s (ConfirmsCommand n c t x)) (sym same)
      (replies_join ⊥ true r a b s (λ before following. ReadsDueLine before following (refused_line n (refusal_of_code refusal))) (ConfirmsCommand n c t t) open_yet
      (λ p q more y line. command_refused p q (certificate_state_in more s) n c t (refusal_of_code refusal) y (λ j h. sym (judges j c h is)) line) h)

module _ (n : ℕ) (kind : Kind) (ls : List Literal) (t next : NameTable) (a : Source) (s u : Stream) (here : AtEnd a → ⊥) (allowed : (j : ScriptState) → NamesHaveState t.names j → refusal_of j (command_of kind ls) ≡ None) where
  -- if meeting the names of a command stops, so does confirming the command
  pub names_stop : (after : NamedVars) (e : Stop) → CertificateCall {A = Unit {0}} (Err e) s u (MeetsNames kind (names_of ls) t.names t.variables after) → AnswersAndCertificateCall {A = Unit {0}} ⊥ true (Err e) a a s u (ConfirmsCommand n (command_of kind ls) t next)
  names_stop after e p = certificate_stops ⊥ true e a s u (MeetsNames kind (names_of ls) t.names t.variables after) (ConfirmsCommand n (command_of kind ls) t next) here
      (λ q v w why m. command_unnamed kind ls t next q q v w n after why allowed m) p

  -- after the names of a command are met, its content decides
  pub names_go : (named : NameTable) (b : Source) (v : Stream) (r : Result (Unit {0}) Stop) → (AtEnd s.source → ⊥) → NamesChangeBy t.names named.names (state_after_names kind (names_of ls)) → CertificateCall (Ok tt) s u (MeetsNames kind (names_of ls) t.names t.variables named.variables)
      → AnswersAndCertificateCall ⊥ true r a b u v (ConfirmsContent n kind ls named next) → AnswersAndCertificateCall ⊥ true r a b s v (ConfirmsCommand n (command_of kind ls) t next)
  names_go named b v r open_yet changes p h = joins_then ⊥ true tt r a a b s u v (λ p q x y (m : Result (Unit {0}) Why). (p ≡ q) × MeetsCommandNames kind ls t named x y) (ConfirmsContent n kind ls named next) (ConfirmsCommand n (command_of kind ls) t next) here open_yet
      (λ p q z x y w m f g. subst (λ (k : List ℕ). ConfirmsCommand n (command_of kind ls) t next k z x w m) (sym f.0) (g t x f.1))
      (certificate_goes ⊥ tt a s u (MeetsNames kind (names_of ls) t.names t.variables named.variables) (λ p q x y (m : Result (Unit {0}) Why). (p ≡ q) × MeetsCommandNames kind ls t named x y) (λ p x y m. (refl, record { allowed = allowed; met = m; changes = changes })) p) h

-- THE END

module _ (n : ℕ) (t : NameTable) (after : NamedVars) (a : Source) (s u : Stream) (here : AtEnd a → ⊥) where
  pub end_stops : (e : Stop) → CertificateCall {A = Unit {0}} (Err e) s u (MeetsDue (λ o under. Finish) t.variables after) → AnswersAndCertificateCall {A = Unit {0}} ⊥ false (Err e) a a s u (λ before following x y. ConfirmsRest n ([], Clean) t before x)
  end_stops e p = certificate_stops ⊥ false e a s u (MeetsDue (λ o under. Finish) t.variables after) (λ before following x y. ConfirmsRest n ([], Clean) t before x) here
      (λ q x y why m. over_barred n t after q x y why (at_ask (λ o under. Finish) Unknown [] tt t.variables after x y (Err why) m)) p

  -- after the end of the certificate is met, the end of the answers decides
  pub end_goes : (b : Source) (r : Result (Unit {0}) Stop) → (AtEnd s.source → ⊥) → (AtEnd u.source → ⊥) → CertificateCall (Ok tt) s u (MeetsDue (λ o under. Finish) t.variables after) → AnswersCall {A = Unit {0}} false r a b (λ before following. ResultDecides (before ≡ []))
      → AnswersAndCertificateCall {A = Unit {0}} ⊥ false r a b s u (λ before following x y. ConfirmsRest n ([], Clean) t before x)
  end_goes b r open_yet after_open p h = joins_then ⊥ false tt r a a b s u u (λ p q x y (m : Result (Unit {0}) Why). (p ≡ q) × MeetsDue (λ o under. Finish) t.variables after x y (Ok tt)) (λ q z x y. ResultDecides (q ≡ [])) (λ before following x y. ConfirmsRest n ([], Clean) t before x) here open_yet said
      (certificate_goes ⊥ tt a s u (MeetsDue (λ o under. Finish) t.variables after) (λ p q x y (m : Result (Unit {0}) Why). (p ≡ q) × MeetsDue (λ o under. Finish) t.variables after x y (Ok tt)) (λ p x y m. (refl, m)) p)
      (replies_join ⊥ false r a b u (λ before following. ResultDecides (before ≡ [])) (λ q z x y. ResultDecides (q ≡ [])) after_open (λ p q more y k. k) h)
    where
      said : (p q z : List ℕ) (v w y : CertificateState) (m : Result (Unit {0}) Why) → (p ≡ q) × MeetsDue (λ o under. Finish) t.variables after v w (Ok tt) → ResultDecides (q ≡ []) m → ConfirmsRest n ([], Clean) t p v m
      said p q z v w y (Ok x) f g = over_done n t after p v w (at_ask (λ o under. Finish) Unknown [] tt t.variables after v w (Ok tt) f.1) (f.0 ∙ g)
      said p q z v w y (Err why) f g = over_extra n t p v why (λ e. g (sym f.0 ∙ e))

module _ (n : ℕ) (t : NameTable) (a b : Source) (s : Stream) (here : AtEnd a → ⊥) (open_yet : AtEnd s.source → ⊥) where
  pub malformed_stops : (e : Stop) → AnswersCall {A = Unit {0}} true (Err e) a b (λ before following. ReadsDueLine before following (malformed_line n)) → AnswersAndCertificateCall {A = Unit {0}} ⊥ false (Err e) a b s s (λ before following x y. ConfirmsRest n ([], Malformed) t before x)
  malformed_stops e h = replies_end ⊥ false e a b s (λ before following. ReadsDueLine before following (malformed_line n)) (λ before following x y. ConfirmsRest n ([], Malformed) t before x) open_yet
      (λ p q more why line. malformed_barred n t p q (certificate_state_in more s) why line) h

  -- after the line of a malformed command is read, the end decides
  pub malformed_goes : (c : Source) (u : Stream) (r : Result (Unit {0}) Stop) → AnswersCall {A = Unit {0}} true (Ok tt) a b (λ before following. ReadsDueLine before following (malformed_line n)) → AnswersAndCertificateCall {A = Unit {0}} ⊥ false r b c s u (λ before following x y. ConfirmsRest n ([], Clean) t before x)
      → AnswersAndCertificateCall {A = Unit {0}} ⊥ false r a c s u (λ before following x y. ConfirmsRest n ([], Malformed) t before x)
  malformed_goes c u r h k = joins_then ⊥ false tt r a b c s s u (λ p q x y (m : Result (Unit {0}) Why). (x ≡ y) × ReadsDueLine p q (malformed_line n) (Ok tt)) (λ before following x y. ConfirmsRest n ([], Clean) t before x) (λ before following x y. ConfirmsRest n ([], Malformed) t before x) here open_yet
      (λ p q z v w y m f g. malformed_then n t p q v m f.1 (subst (λ (x : CertificateState). ConfirmsRest n ([], Clean) t q x m) (sym f.0) g))
      (replies_go ⊥ tt tt a b s (λ before following. ReadsDueLine before following (malformed_line n)) (λ p q x y (m : Result (Unit {0}) Why). (x ≡ y) × ReadsDueLine p q (malformed_line n) (Ok tt)) (λ p q more line. (refl, line)) h) k

-- an ask without literals, and the end
module _ (n m : ℕ) (t mid : NameTable) (a b c : Source) (s u v : Stream) (here : AtEnd a → ⊥) (open_yet : AtEnd s.source → ⊥) where
  asked_end : (w : Command) (r : Reading) (p q z : List ℕ) (x y k : CertificateState) (h : Result (Unit {0}) Why) → m ≡ n + 1 → ConfirmsCommand n w t mid p q x y (Ok tt) → ConfirmsRest m r mid q y h → ConfirmsRest n (w ∷ r.0, r.1) t p x h
  asked_end w r p q z x y k (Ok o) is f g = λ j earlier s.
      let d = f j earlier s in
      d.back r.0 r.1 (subst (λ (i : ℕ). RemainsToConfirm (after_command w j) i d.later r.0 r.1 q y.rest) is (g (after_command w j) d.later d.valid))
  asked_end w r p q z x y k (Err why) is f g = λ j earlier s e.
      let d = f j earlier s in
      g (after_command w j) d.later d.valid (subst (λ (i : ℕ). RemainsToConfirm (after_command w j) i d.later r.0 r.1 q y.rest) (sym is) (d.on r.0 r.1 e))

  -- after a command is confirmed, the rest of the script decides
  pub command_end : (M : Type 0) (w : Command) (r : Reading) (h : Result (Unit {0}) Stop) → m ≡ n + 1 → AnswersAndCertificateCall {A = Unit {0}} M true (Ok tt) a b s u (ConfirmsCommand n w t mid) → AnswersAndCertificateCall {A = Unit {0}} M false h b c u v (λ before following x y. ConfirmsRest m r mid before x)
      → AnswersAndCertificateCall {A = Unit {0}} M false h a c s v (λ before following x y. ConfirmsRest n (w ∷ r.0, r.1) t before x)
  command_end M w r h is p q = joins_then M false tt h a b c s u v (λ p q x y (k : Result (Unit {0}) Why). ConfirmsCommand n w t mid p q x y (Ok tt)) (λ before following x y. ConfirmsRest m r mid before x) (λ before following x y. ConfirmsRest n (w ∷ r.0, r.1) t before x) here open_yet
      (λ p q z x y k d f g. asked_end w r p q z x y k d is f g) p q

  -- if confirming a command stops, so does confirming the script
  pub command_stops : (M : Type 0) (w : Command) (r : Reading) (e : Stop) → AnswersAndCertificateCall {A = Unit {0}} M true (Err e) a b s u (ConfirmsCommand n w t mid) → AnswersAndCertificateCall {A = Unit {0}} M false (Err e) a b s u (λ before following x y. ConfirmsRest n (w ∷ r.0, r.1) t before x)
  command_stops M w r e p = joins_stop M false e a b s u (ConfirmsCommand n w t mid) (λ before following x y. ConfirmsRest n (w ∷ r.0, r.1) t before x) (λ p q x y why f j earlier s k. f j earlier s r.0 r.1 k) p
