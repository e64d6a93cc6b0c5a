-- How the steps for all names of a command are met.
use Rattle.std.proofs.Common.{ℕ, ◌+◌, ◌≤◌, ◌<◌, ◌≡◌, true, map, List, [], ◌∷◌, ◌++◌, length, get_or, take, drop, Ok, Err, refl, sym, ◌∙◌, ap, subst, append_assoc}
use Rattle.std.proofs.lemmas.List.{append-nil, take_more, take_all, take-append-drop}
use Rattle.std.proofs.lemmas.Bool.{true≢false}
use Rattle.std.specs.List.{AllByRecursion}
use Rattle.sat_base.specs.device.Reading.{AtEnd}
use Rattle.sat_base.specs.script.Script.{names_of}
use Rattle.sat_base.specs.script.ScriptState.{ScriptState, new_names}
use Rattle.sat_base.specs.values.Literals.{variable}
use Rattle.sat_checker.specs.matching.Expected.{Expected, NewName}
use Rattle.certify.specs.answers.AnswerForms.{named_literals}
use Rattle.certify.specs.confirm.Streams.{Stream, certificate_state_in, CertificateCall}
use Rattle.certify.specs.refusals.Names.{IntroducesNothing, NamesHaveState, NamesChangeBy, has_literals, state_after_name}
use Rattle.certify.specs.confirm.Naming.{MeetsAll, MeetsName, MeetsNames, expected_for_name, expected_for_names, state_after_names}
use Rattle.sat_base.specs.script.Language.{Kind, OfClause, OfAsk}
use Rattle.certify.specs.declared.confirm.stop.Stop.{Stop}
use Rattle.certify.specs.declared.refusals.names.Names.{Names}
use Rattle.certify.specs.declared.confirm.variables.NamedVars.{NamedVars}
use Rattle.certify.proofs.lemmas.confirm.Streams.{confirms_none, confirms_then, then_stop}
use Rattle.certify.proofs.lemmas.confirm.Naming.{both, first_barred, nothing}
use Rattle.certify.proofs.lemmas.judge.Taken.{untaken}

naming_append : (kind : Kind) (xs ys : List ℕ) (j : ScriptState) → expected_for_names kind (xs ++ ys) j ≡ expected_for_names kind xs j ++ expected_for_names kind ys (state_after_names kind xs j)
naming_append kind [] ys j = refl
naming_append kind (x ∷ xs) ys j = ap (λ (es : List Expected). expected_for_name kind x j ++ es) (naming_append kind xs ys (state_after_name kind x j)) ∙ sym (append_assoc (expected_for_name kind x j) (expected_for_names kind xs (state_after_name kind x j)) (expected_for_names kind ys (state_after_names kind xs (state_after_name kind x j))))

taken_append : (kind : Kind) (xs ys : List ℕ) (j : ScriptState) → state_after_names kind (xs ++ ys) j ≡ state_after_names kind ys (state_after_names kind xs j)
taken_append kind [] ys j = refl
taken_append kind (x ∷ xs) ys j = taken_append kind xs ys (state_after_name kind x j)

abbrev pub listed : List ℕ → List ℕ
listed codes = names_of (named_literals codes)

listed_append : (xs ys : List ℕ) → listed (xs ++ ys) ≡ listed xs ++ listed ys
listed_append [] ys = refl
listed_append (x ∷ xs) ys = ap (λ (ns : List ℕ). (variable x + 1) ∷ ns) (listed_append xs ys)

listed_more : (codes : List ℕ) (i code : ℕ) → i < length codes → code ≡ get_or codes i code → listed (take (i + 1) codes) ≡ listed (take i codes) ++ (variable code + 1) ∷ []
listed_more codes i code low at = ap listed (take_more codes i code low ∙ ap (λ (c : ℕ). take i codes ++ c ∷ []) (sym at)) ∙ listed_append (take i codes) (code ∷ [])

-- `SoFar kind codes i first now` holds if the first `i` names of the command were processed.
abbrev pub SoFar : Kind → List ℕ → ℕ → Names → Names → Type 0
SoFar kind codes i first now = NamesChangeBy first now (state_after_names kind (listed (take i codes)))

pub none_taken : (kind : Kind) (codes : List ℕ) (names : Names) → SoFar kind codes 0 names names
none_taken kind codes names j h = h

pub one_taken : (kind : Kind) (codes : List ℕ) (i code v : ℕ) (first now next : Names) → i < length codes → code ≡ get_or codes i code → v ≡ variable code → SoFar kind codes i first now → NamesChangeBy now next (state_after_name kind (v + 1)) → SoFar kind codes (i + 1) first next
one_taken kind codes i code v first now next low at is so_far change j h =
    let list = listed_more codes i code low at in
    let mid = state_after_names kind (listed (take i codes)) j in
    let whole : state_after_names kind (listed (take (i + 1) codes)) j ≡ state_after_name kind (v + 1) mid =
    ap (λ (ns : List ℕ). state_after_names kind ns j) list ∙ taken_append kind (listed (take i codes)) ((variable code + 1) ∷ []) j ∙ ap (λ (n : ℕ). state_after_name kind (n + 1) mid) (sym is) in
    subst (NamesHaveState next) (sym whole) (change mid (so_far j h))

pub all_taken : (kind : Kind) (codes : List ℕ) (i : ℕ) (first now : Names) → length codes ≤ i → SoFar kind codes i first now → NamesChangeBy first now (state_after_names kind (listed codes))
all_taken kind codes i first now over so_far j h = subst (λ (xs : List ℕ). NamesHaveState now (state_after_names kind (listed xs) j)) (take_all i codes over) (so_far j h)

pub none_met : (kind : Kind) (codes : List ℕ) (names : Names) (vars : NamedVars) (a : Stream) → CertificateCall (Ok tt) a a (MeetsNames kind (listed (take 0 codes)) names vars vars)
none_met kind codes names vars a = confirms_none tt a (MeetsNames kind (listed (take 0 codes)) names vars vars) (λ total j h. nothing vars (certificate_state_in total a))

module _ (kind : Kind) (codes : List ℕ) (i code v : ℕ) (first now : Names) (before mid after : NamedVars) (low : i < length codes) (at : code ≡ get_or codes i code) (is : v ≡ variable code) (so_far : SoFar kind codes i first now)
    (a b c : Stream) (open_yet : AtEnd a.source → ⊥) (p : CertificateCall (Ok tt) a b (MeetsNames kind (listed (take i codes)) first before mid)) where
  next_pending : (j : ScriptState) → expected_for_names kind (listed (take i codes)) j ++ expected_for_name kind (v + 1) (state_after_names kind (listed (take i codes)) j) ≡ expected_for_names kind (listed (take (i + 1) codes)) j
  next_pending j =
      let before = listed (take i codes) in
      let now = state_after_names kind before j in
      ap (λ (n : ℕ). expected_for_names kind before j ++ expected_for_name kind (n + 1) now) is
      ∙ ap (λ (es : List Expected). expected_for_names kind before j ++ es) (sym (append-nil (expected_for_name kind (variable code + 1) now)))
      ∙ sym (naming_append kind before ((variable code + 1) ∷ []) j)
      ∙ ap (λ (ns : List ℕ). expected_for_names kind ns j) (sym (listed_more codes i code low at))

  pub next_met : CertificateCall (Ok tt) b c (MeetsName kind (v + 1) now mid after) → CertificateCall (Ok tt) a c (MeetsNames kind (listed (take (i + 1) codes)) first before after)
  next_met q = confirms_then tt (Ok tt) a b c (MeetsNames kind (listed (take i codes)) first before mid) (MeetsName kind (v + 1) now mid after) (MeetsNames kind (listed (take (i + 1) codes)) first before after) open_yet
      (λ total y f g j h. subst (λ (es : List Expected). MeetsAll es before after (certificate_state_in total a) (certificate_state_in total c) y) (next_pending j)
      (both (expected_for_names kind (listed (take i codes)) j) (expected_for_name kind (v + 1) (state_after_names kind (listed (take i codes)) j)) before mid after (certificate_state_in total a) (certificate_state_in total b) (certificate_state_in total c) y (f j h) (g (state_after_names kind (listed (take i codes)) j) (so_far j h)))) p q

  pub next_stop : (e : Stop) → CertificateCall {A = Unit {0}} (Err e) b c (MeetsName kind (v + 1) now mid after) → CertificateCall {A = Unit {0}} (Err e) a c (MeetsNames kind (listed codes) first before after)
  next_stop e q = then_stop tt e a b c (MeetsNames kind (listed (take i codes)) first before mid) (MeetsName kind (v + 1) now mid after) (MeetsNames kind (listed codes) first before after) open_yet
      (λ total why f g j h.
      let rest = expected_for_names kind (listed (drop (i + 1) codes)) (state_after_names kind (listed (take (i + 1) codes)) j) in
      let whole : expected_for_names kind (listed (take (i + 1) codes)) j ++ rest ≡ expected_for_names kind (listed codes) j =
      sym (naming_append kind (listed (take (i + 1) codes)) (listed (drop (i + 1) codes)) j) ∙ ap (λ (ns : List ℕ). expected_for_names kind ns j) (sym (listed_append (take (i + 1) codes) (drop (i + 1) codes)) ∙ ap listed (take-append-drop (i + 1) codes)) in
      subst (λ (es : List Expected). MeetsAll es before after (certificate_state_in total a) (certificate_state_in total c) (Err why)) whole
      (first_barred (expected_for_names kind (listed (take (i + 1) codes)) j) rest before after after (certificate_state_in total a) (certificate_state_in total c) why
      (subst (λ (es : List Expected). MeetsAll es before after (certificate_state_in total a) (certificate_state_in total c) (Err why)) (next_pending j)
      (both (expected_for_names kind (listed (take i codes)) j) (expected_for_name kind (v + 1) (state_after_names kind (listed (take i codes)) j)) before mid after (certificate_state_in total a) (certificate_state_in total b) (certificate_state_in total c) (Err why) (f j h) (g (state_after_names kind (listed (take i codes)) j) (so_far j h)))))) p q

pub all_met : (kind : Kind) (codes : List ℕ) (i : ℕ) (names : Names) (before after : NamedVars) (a b : Stream) → length codes ≤ i → CertificateCall (Ok tt) a b (MeetsNames kind (listed (take i codes)) names before after) → CertificateCall (Ok tt) a b (MeetsNames kind (listed codes) names before after)
all_met kind codes i names before after a b over p = subst (λ (xs : List ℕ). CertificateCall (Ok tt) a b (MeetsNames kind (listed xs) names before after)) (take_all i codes over) p

-- NAMES IN USE
unmoved : (kind : Kind) (list : List ℕ) (j : ScriptState) → has_literals kind ≡ true → AllByRecursion (λ name. new_names name j ≡ []) list → state_after_names kind list j ≡ j
unmoved kind [] j k h = refl
unmoved kind (name ∷ list) j k h = ap (state_after_names kind list) (untaken kind name j k h.0) ∙ unmoved kind list j k h.1

unnamed : (kind : Kind) (name : ℕ) (j : ScriptState) → has_literals kind ≡ true → new_names name j ≡ [] → expected_for_name kind name j ≡ []
unnamed OfClause name j k e = ap (λ (ns : List ℕ). map NewName ns ++ []) e
unnamed OfAsk name j k e = ap (λ (ns : List ℕ). map NewName ns ++ []) e
unnamed x name j k e = absurd (true≢false (sym k))

unnamed_all : (kind : Kind) (list : List ℕ) (j : ScriptState) → has_literals kind ≡ true → AllByRecursion (λ name. new_names name j ≡ []) list → expected_for_names kind list j ≡ []
unnamed_all kind [] j k h = refl
unnamed_all kind (name ∷ list) j k h =
    ap (λ (es : List Expected). es ++ expected_for_names kind list (state_after_name kind name j)) (unnamed kind name j k h.0)
    ∙ ap (expected_for_names kind list) (untaken kind name j k h.0) ∙ unnamed_all kind list j k h.1

-- names that are all known do not change
pub known_taken : (kind : Kind) (codes : List ℕ) (names : Names) → IntroducesNothing kind (listed codes) names → NamesChangeBy names names (state_after_names kind (listed codes))
known_taken kind codes names b j h = subst (NamesHaveState names) (sym (unmoved kind (listed codes) j b.of_literals (b.known j h))) h

-- names that are all known expect no step
pub known_met : (kind : Kind) (codes : List ℕ) (names : Names) (vars : NamedVars) (a : Stream) → IntroducesNothing kind (listed codes) names → CertificateCall (Ok tt) a a (MeetsNames kind (listed codes) names vars vars)
known_met kind codes names vars a b = confirms_none tt a (MeetsNames kind (listed codes) names vars vars)
    (λ total j h. subst (λ (es : List Expected). MeetsAll es vars vars (certificate_state_in total a) (certificate_state_in total a) (Ok tt)) (sym (unnamed_all kind (listed codes) j b.of_literals (b.known j h))) (nothing vars (certificate_state_in total a)))
