-- How the steps for one name of a command are met.
use Rattle.std.proofs.Common.{ℕ, true, ◌+◌, ◌-◌, ◌<◌, ◌≡◌, List, [], ◌∷◌, ◌++◌, map, Result, Ok, Err, refl, sym, ◌∙◌, ap, subst, arith}
use Rattle.std.proofs.lemmas.List.{map-append}
use Rattle.sat_base.specs.device.Reading.{AtEnd}
use Rattle.sat_base.specs.script.Script.{Literal}
use Rattle.sat_base.specs.script.ScriptState.{ScriptState, names_from, new_names}
use Rattle.sat_checker.specs.matching.Expected.{Outcome, Unknown, Expected, NewName}
use Rattle.certify.specs.confirm.CertificatePlaces.{MeetsExactly, MeetsNoneOf}
use Rattle.certify.specs.confirm.Streams.{Stream, certificate_state_in, CertificateCall}
use Rattle.certify.specs.confirm.CertificateStates.{CertificateState}
use Rattle.certify.specs.refusals.Names.{NamesHaveState}
use Rattle.certify.specs.confirm.Awaiting.{MeetsDue}
use Rattle.certify.specs.confirm.Comparing.{OpensOnlyEmptyCore, Due}
use Rattle.certify.specs.confirm.Naming.{MeetsAll, MeetsName, hiding_step_of}
use Rattle.sat_base.specs.script.Language.{Kind}
use Rattle.certify.specs.declared.confirm.stop.Stop.{Stop}
use Rattle.certify.specs.declared.confirm.stop.Stop.TheVariants as stop
use Rattle.certify.specs.declared.refusals.names.Names.{Names}
use Rattle.certify.specs.declared.confirm.variables.NamedVars.{NamedVars}
use Rattle.certify.specs.declared.verdict.Why.{Why}
use Rattle.certify.proofs.lemmas.confirm.CertificatePlaces.{leads_nowhere, leads_on, bars_after, bars_more}
use Rattle.certify.proofs.lemmas.confirm.NamesFrom.{from_more, from_split}
use Rattle.certify.proofs.lemmas.confirm.Streams.{confirms_none, confirms_so, confirms_stop, confirms_then, says_stop}

pub nothing : (names : NamedVars) (u : CertificateState) → MeetsAll [] names names u u (Ok tt)
nothing names u earlier s = record { later = earlier; valid = s; leads = leads_nowhere earlier u.rest }

pub all_none : (names : NamedVars) (a : Stream) → CertificateCall (Ok tt) a a (MeetsAll [] names names)
all_none names a = confirms_none tt a (MeetsAll [] names names) (λ total earlier s. record { later = earlier; valid = s; leads = leads_nowhere earlier (certificate_state_in total a).rest })

-- one expected step that is the same for any outcome and ask
pub one : (due : Due) (e : Expected) → ((o : Outcome) (ask : List Literal) → due o ask ≡ e) → OpensOnlyEmptyCore e → (before after : NamedVars) (u v : CertificateState) (y : Result (Unit {0}) Why) → MeetsDue due before after u v y → MeetsAll (e ∷ []) before after u v y
one due e is free before after u v (Ok x) m = λ earlier s.
    let k = m earlier s in
    record {
      later = k.later;
      valid = k.valid;
      leads = subst (λ (d : Expected). MeetsExactly earlier u.rest (d ∷ []) k.later v.rest) (is Unknown []) (k.leads Unknown [] (λ closed. subst OpensOnlyEmptyCore (sym (is Unknown [])) free));
    }
one due e is free before after u v (Err why) m = λ earlier s. subst (λ (d : Expected). MeetsNoneOf earlier u.rest (d ∷ [])) (is Unknown []) (m earlier s Unknown [])

-- the first expected steps, and then the others
pub both : (p q : List Expected) (first mid last : NamedVars) (u v w : CertificateState) (y : Result (Unit {0}) Why) → MeetsAll p first mid u v (Ok tt) → MeetsAll q mid last v w y → MeetsAll (p ++ q) first last u w y
both p q first mid last u v w (Ok x) f g = λ earlier s.
    let k = f earlier s in
    let m = g k.later k.valid in
    record { later = m.later; valid = m.valid; leads = leads_on k.leads m.leads }
both p q first mid last u v w (Err why) f g = λ earlier s. let k = f earlier s in bars_after k.leads (g k.later k.valid)

-- if the first expected steps cannot be met, neither can all of them
pub first_barred : (p q : List Expected) (before after end : NamedVars) (u v : CertificateState) (why : Why) → MeetsAll p before after u v (Err why) → MeetsAll (p ++ q) before end u v (Err why)
first_barred p q before after end u v why f earlier s = bars_more q (f earlier s)

pub meets_one : (due : Due) (e : Expected) → ((o : Outcome) (ask : List Literal) → due o ask ≡ e) → OpensOnlyEmptyCore e → (before after : NamedVars) (r : Result (Unit {0}) Stop) (a b : Stream) → CertificateCall r a b (MeetsDue due before after) → CertificateCall r a b (MeetsAll (e ∷ []) before after)
meets_one due e is free before after r a b p = confirms_so r a b (MeetsDue due before after) (MeetsAll (e ∷ []) before after) (λ total y m. one due e is free before after (certificate_state_in total a) (certificate_state_in total b) y m) p

-- after some expected steps are met, the others decide
pub meets_both : (p q : List Expected) (first mid last : NamedVars) (r : Result (Unit {0}) Stop) (a b c : Stream) → (AtEnd a.source → ⊥) → CertificateCall (Ok tt) a b (MeetsAll p first mid) → CertificateCall r b c (MeetsAll q mid last) → CertificateCall r a c (MeetsAll (p ++ q) first last)
meets_both p q first mid last r a b c open_yet f g = confirms_then tt r a b c (MeetsAll p first mid) (MeetsAll q mid last) (MeetsAll (p ++ q) first last) open_yet
    (λ total y x z. both p q first mid last (certificate_state_in total a) (certificate_state_in total b) (certificate_state_in total c) y x z) f g

barred_more : (e : Stop) (a c : Stream) (p q : List Expected) (before after : NamedVars) → CertificateCall {A = Unit {0}} (Err e) a c (MeetsAll p before after) → CertificateCall {A = Unit {0}} (Err e) a c (MeetsAll (p ++ q) before after)
barred_more e a c p q before after h = confirms_stop e a c (MeetsAll p before after) (MeetsAll (p ++ q) before after) (λ total why f. first_barred p q before after after (certificate_state_in total a) (certificate_state_in total c) why f) h

-- NEW NAMES
abbrev pub news : ℕ → ℕ → List Expected
news count first = map NewName (names_from count first)

news_more : (count first : ℕ) → news count first ++ NewName (first + count) ∷ [] ≡ news (count + 1) first
news_more count first = sym (map-append NewName (names_from count first) ((first + count) ∷ [])) ∙ ap (map NewName) (sym (from_more count first))

news_split : (done count first : ℕ) → done < count → (news done first ++ NewName (first + done) ∷ []) ++ news (count - (done + 1)) (first + (done + 1)) ≡ news count first
news_split done count first low =
    let total : done + 1 + (count - (done + 1)) ≡ count = omega arith in
    ap (λ (xs : List Expected). xs ++ news (count - (done + 1)) (first + (done + 1))) (news_more done first)
    ∙ sym (map-append NewName (names_from (done + 1) first) (names_from (count - (done + 1)) (first + (done + 1))))
    ∙ ap (map NewName) (sym (from_split (done + 1) (count - (done + 1)) first))
    ∙ ap (λ (n : ℕ). map NewName (names_from n first)) total

module _ (count first done name : ℕ) (low : done < count) (is : name ≡ first + done) (before mid after : NamedVars) (a b c : Stream) (open_yet : AtEnd a.source → ⊥) (so_far : CertificateCall (Ok tt) a b (MeetsAll (news done first) before mid)) where
  pub new_more : CertificateCall (Ok tt) b c (MeetsDue (λ o ask. NewName name) mid after) → CertificateCall (Ok tt) a c (MeetsAll (news (done + 1) first) before after)
  new_more p =
      let q = meets_both (news done first) (NewName name ∷ []) before mid after (Ok tt) a b c open_yet so_far (meets_one (λ o ask. NewName name) (NewName name) (λ o ask. refl) tt mid after (Ok tt) b c p) in
      subst (λ (es : List Expected). CertificateCall (Ok tt) a c (MeetsAll es before after)) (ap (λ (n : ℕ). news done first ++ NewName n ∷ []) is ∙ news_more done first) q

  pub new_stop : (e : Stop) → CertificateCall {A = Unit {0}} (Err e) b c (MeetsDue (λ o ask. NewName name) mid after) → CertificateCall {A = Unit {0}} (Err e) a c (MeetsAll (news count first) before after)
  new_stop e p =
      let prefix = news done first ++ NewName (first + done) ∷ [] in
      let rest = news (count - (done + 1)) (first + (done + 1)) in
      let q : CertificateCall {A = Unit {0}} (Err e) a c (MeetsAll prefix before after) =
      subst (λ (n : ℕ). CertificateCall {A = Unit {0}} (Err e) a c (MeetsAll (news done first ++ NewName n ∷ []) before after)) is
      (meets_both (news done first) (NewName name ∷ []) before mid after (Err e) a b c open_yet so_far (meets_one (λ o ask. NewName name) (NewName name) (λ o ask. refl) tt mid after (Err e) b c p)) in
      subst (λ (es : List Expected). CertificateCall {A = Unit {0}} (Err e) a c (MeetsAll es before after)) (news_split done count first low) (barred_more e a c prefix rest before after q)

-- THE NAMES OF A COMMAND

module _ (kind : Kind) (name : ℕ) (names : Names) (count first : ℕ) (new_names_are : (j : ScriptState) → NamesHaveState names j → new_names name j ≡ names_from count first) (before after : NamedVars) where
  pub name_stop : (unused : NamedVars) (e : Stop) (a b : Stream) → CertificateCall {A = Unit {0}} (Err e) a b (MeetsAll (news count first) before unused) → CertificateCall {A = Unit {0}} (Err e) a b (MeetsName kind name names before after)
  name_stop unused e a b p = confirms_stop e a b (MeetsAll (news count first) before unused) (MeetsName kind name names before after)
      (λ total why f j s. subst (λ (ns : List ℕ). MeetsAll (map NewName ns ++ hiding_step_of kind name) before after (certificate_state_in total a) (certificate_state_in total b) (Err why)) (sym (new_names_are j s))
      (first_barred (news count first) (hiding_step_of kind name) before unused after (certificate_state_in total a) (certificate_state_in total b) why f)) p

  pub name_goes : (mid : NamedVars) (r : Result (Unit {0}) Stop) (a b c : Stream) → (AtEnd a.source → ⊥) → CertificateCall (Ok tt) a b (MeetsAll (news count first) before mid) → CertificateCall r b c (MeetsAll (hiding_step_of kind name) mid after)
      → CertificateCall r a c (MeetsName kind name names before after)
  name_goes mid r a b c open_yet p q = confirms_so r a c (MeetsAll (news count first ++ hiding_step_of kind name) before after) (MeetsName kind name names before after)
      (λ total y f j s. subst (λ (ns : List ℕ). MeetsAll (map NewName ns ++ hiding_step_of kind name) before after (certificate_state_in total a) (certificate_state_in total c) y) (sym (new_names_are j s)) f)
      (meets_both (news count first) (hiding_step_of kind name) before mid after r a b c open_yet p q)

  pub name_short : (mid : NamedVars) (a b c : Stream) → (AtEnd a.source → ⊥) → CertificateCall (Ok tt) a b (MeetsAll (news count first) before mid) → CertificateCall (Ok tt) b c (MeetsAll (hiding_step_of kind name) mid after)
      → CertificateCall {A = Unit {0}} (Err stop.OutOfMemory) a c (MeetsName kind name names before after)
  name_short mid a b c open_yet p q = says_stop {B = ℕ} true stop.OutOfMemory a c (λ u v. MeetsName kind name names before after u v (Ok tt)) (λ y. ⊥) (MeetsName kind name names before after) open_yet (λ total why h n. absurd n) (name_goes mid (Ok tt) a b c open_yet p q) tt
