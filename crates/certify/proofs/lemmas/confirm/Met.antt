-- How the next ordered step meets what is expected.
use Rattle.std.proofs.Common.{◌≡◌, ℕ, true, false, List, [], ◌∷◌, Option, Some, None, Result, Ok, Err, sym, ◌∙◌, subst}
use Rattle.std.proofs.lemmas.Bool.{true≢false}
use mathlib.Core.Path.{fun_ext}
use Rattle.sat_base.specs.device.Reading.{AtEnd}
use Rattle.sat_base.specs.script.Script.{Literal}
use Rattle.sat_base.specs.steps.Steps.{Step, Assumptions}
use Rattle.sat_checker.specs.Accepts.{Accepts, effect, ready_after}
use Rattle.sat_checker.specs.KernelView.{LooksAtMost}
use Rattle.sat_checker.specs.declared.kernel.Kernel.{Kernel}
use Rattle.sat_checker.specs.matching.Expected.{Outcome, Unknown, Expected, Opens, FitsExpected, new_name, no_name, adds, opens, shows, fails, closes, finish}
use Rattle.sat_checker.specs.matching.ProofChecking.{checker_rules}
use Rattle.certify.specs.confirm.Feeding.{HasAcceptedSteps, FeedsStep}
use Rattle.certify.specs.confirm.Matches.{IsOptionalOnceUnsat}
use Rattle.certify.specs.confirm.Stepping.{is_fed}
use Rattle.certify.specs.confirm.Streams.{Stream, certificate_state_in, CallReturns, CertificateCall}
use Rattle.certify.specs.confirm.CertificateStates.{CertificateState}
use Rattle.certify.specs.confirm.Awaiting.{CheckerIsAt, AwaitsNext, MeetsDue, IsUnmetResult}
use Rattle.certify.specs.confirm.Comparing.{OpensOnlyEmptyCore, IsKnownAfter, ComparesStep, Due, DecidesMayBeUnmet}
use Rattle.certify.specs.confirm.NamesAfterStep.{NamesFollowStep}
use Rattle.certify.specs.confirm.Variables.{variable_in}
use Rattle.certify.specs.declared.confirm.ordered.Awaited.{Awaited}
use Rattle.certify.specs.declared.confirm.ordered.Awaited.TheVariants as awaited
use Rattle.certify.specs.declared.confirm.stop.Stop.{Stop}
use Rattle.certify.specs.declared.confirm.stop.Stop.TheVariants as stop
use Rattle.certify.specs.declared.confirm.expect.Known.{Known}
use Rattle.certify.specs.declared.confirm.variables.NamedVars.{NamedVars}
use Rattle.certify.specs.declared.verdict.Why.{Why}
use Rattle.certify.proofs.lemmas.confirm.CertificatePlaces.{when_cut, leads_skip, leads_step, bars_stop, bars_skip, bars_unfit, bars_refused}
use Rattle.certify.proofs.lemmas.confirm.Settled.{settled_unsat}
use Rattle.certify.proofs.lemmas.confirm.Streams.{confirms_stop, says_stop, feeds_on, feeds_stop}

allowed : (e : Expected) → IsOptionalOnceUnsat e → OpensOnlyEmptyCore e
allowed (Opens ls o) h = h
allowed e h = tt

-- if a step records unsat, the expected step that it fits may stay unmet
still_allowed : (earlier : List Step) (e : Expected) (step : Step) → FitsExpected (checker_rules.knows earlier) earlier e step → (ready_after earlier).unsat ≡ false → (ready_after (step ∷ earlier)).unsat ≡ true → OpensOnlyEmptyCore e
still_allowed earlier e step (opens {c = c} same) u v = absurd (true≢false (sym v ∙ settled_unsat (effect (Assumptions c) (ready_after earlier)) ∙ u))
still_allowed earlier e step (new_name is unknown) u v = tt
still_allowed earlier e step (no_name at) u v = tt
still_allowed earlier e step (adds same) u v = tt
still_allowed earlier e step (shows n spelt asked) u v = tt
still_allowed earlier e step (fails same) u v = tt
still_allowed earlier e step closes u v = tt
still_allowed earlier e step finish u v = tt

module _ (due : Due) (before after : NamedVars) (old mid : CertificateState) where
  met_stop : (why : Why) → AwaitsNext before old mid (Err why) → MeetsDue due before after old mid (Err why)
  met_stop why h earlier s o ask = bars_stop (due o ask) (h earlier s)

  unmet_barred : (why : Why) → AwaitsNext before old mid (Ok awaited.Cut) → DecidesMayBeUnmet due (Some why) → MeetsDue due before after old mid (Err why)
  unmet_barred why h x = λ earlier s o ask. let k = h earlier s in bars_skip (due o ask) k.skips k.closed (x o ask)

  module _ (h : AwaitsNext before old mid (Ok awaited.Step)) (known : Known) (at : (earlier : List Step) → CheckerIsAt mid.checker before earlier → IsKnownAfter known earlier) where
    met_unfit : (why : Why) → ComparesStep due known mid.step (Some why) → MeetsDue due before after old mid (Err why)
    met_unfit why x earlier s o ask = let k = h earlier s in bars_unfit (due o ask) k.offers (x k.later (at k.later k.valid) o ask)

    met_fed : (next : Kernel) → ComparesStep due known mid.step None → FeedsStep (Ok tt) mid.checker mid.step next → NamesFollowStep due before mid.step after → MeetsDue due before after old (record mid { checker = next }) (Ok tt)
    met_fed next x d follows = λ earlier s.
        let k = h earlier s in
        let fit = λ (o : Outcome) (ask : List Literal). x k.later (at k.later k.valid) o ask in
        let fed = d k.later k.valid.taken in
        record {
          later = mid.step ∷ k.later;
          valid = record { taken = fed.1; stand = follows k.later Unknown [] k.valid.stand (fit Unknown []) fed.0 };
          leads = λ o ask only. leads_step (due o ask) k.offers (fit o ask) fed.0;
          alone = λ o ask es m v. still_allowed k.later (due o ask) mid.step (fit o ask) k.open_yet v;
        }

  met_refused : (next : Kernel) (why : Why) → AwaitsNext before old mid (Ok awaited.Step) → ((steps : List Step) → HasAcceptedSteps mid.checker steps → Accepts (ready_after steps) mid.step → ⊥) → MeetsDue due before after old (record mid { checker = next }) (Err why)
  met_refused next why h d = λ earlier s o ask. let k = h earlier s in bars_refused (due o ask) k.offers (d k.later k.valid.taken)

unmet_met : (due : Due) (names : NamedVars) (old mid : CertificateState) → AwaitsNext names old mid (Ok awaited.Cut) → DecidesMayBeUnmet due None → MeetsDue due names names old mid (Ok tt)
unmet_met due names old mid h x = λ earlier s.
    let k = h earlier s in
    record {
      later = k.later;
      valid = k.valid;
      leads = λ o ask only. leads_skip (due o ask) k.skips k.closed (x o ask (only k.closed));
      alone = λ o ask es m v. allowed (due o ask) (when_cut k.later (due o ask ∷ es) mid.rest v (k.skips.on (due o ask) es m)).0;
    }

module _ (due : Due) (before after : NamedVars) (a b : Stream) (open_yet : AtEnd a.source → ⊥) where
  -- if finding an ordered step stops, so does meeting the expected step
  pub expects_stop : (e : Stop) → CertificateCall {A = Awaited} (Err e) a b (AwaitsNext before) → CertificateCall {A = Unit {0}} (Err e) a b (MeetsDue due before after)
  expects_stop e p = confirms_stop e a b (AwaitsNext before) (MeetsDue due before after) (λ total why. met_stop due before after (certificate_state_in total a) (certificate_state_in total b) why) p

  module _ (p : CallReturns is_fed (Ok awaited.Step) a b (AwaitsNext before)) where
    -- memory ran out before the step was compared
    pub expects_short : CertificateCall {A = Unit {0}} (Err stop.OutOfMemory) a b (MeetsDue due before after)
    expects_short = says_stop {B = ℕ} false stop.OutOfMemory a b (λ u v. AwaitsNext before u v (Ok awaited.Step)) (λ y. ⊥) (MeetsDue due before after) open_yet (λ total why h n. absurd n) p tt

  module _ (x : Step) (held : x ≡ b.step) (p : CallReturns is_fed (Ok awaited.Step) a b (AwaitsNext before)) where
    pub expects_unfit : (known : Known) → ((earlier : List Step) → CheckerIsAt b.checker before earlier → IsKnownAfter known earlier) → (why : Why) → ComparesStep due known x (Some why) → CertificateCall {A = Unit {0}} (Err (stop.No why)) a b (MeetsDue due before after)
    expects_unfit known at why s = says_stop {B = ℕ} false (stop.No why) a b (λ u v. AwaitsNext before u v (Ok awaited.Step)) (λ y. ComparesStep due known b.step (Some why)) (MeetsDue due before after) open_yet
        (λ total w h n earlier t o ask. met_unfit due before after (certificate_state_in total a) (certificate_state_in total b) h known at why n earlier t o ask) p (subst (λ z. ComparesStep due known z (Some why)) held s)

    pub expects_refused : (e : Stop) (next : Kernel) → FeedsStep (Err e) b.checker x next → LooksAtMost b.checker x next → CertificateCall {A = Unit {0}} (Err e) a (record b { checker = next }) (MeetsDue due before after)
    expects_refused e next s l = feeds_stop e a b next (λ u v. AwaitsNext before u v (Ok awaited.Step)) (MeetsDue due before after) open_yet (subst (λ z. FeedsStep (Err e) b.checker z next) held s) (subst (λ z. LooksAtMost b.checker z next) held l)
        (λ total why h d. met_refused due before after (certificate_state_in total a) (certificate_state_in total b) next why h d) p

    -- memory ran out after the step was accepted
    pub expects_crowded : (next : Kernel) → FeedsStep (Ok tt) b.checker x next → LooksAtMost b.checker x next → CertificateCall {A = Unit {0}} (Err stop.OutOfMemory) a (record b { checker = next }) (MeetsDue due before after)
    expects_crowded next fed most = says_stop {B = ℕ} true stop.OutOfMemory a (record b { checker = next }) (λ u v. Unit {0}) (λ y. ⊥) (MeetsDue due before after) open_yet (λ total why h n. absurd n)
        (feeds_on a b next (λ u v. AwaitsNext before u v (Ok awaited.Step)) (λ u v. Unit {0}) (subst (λ z. FeedsStep (Ok tt) b.checker z next) held fed) (subst (λ z. LooksAtMost b.checker z next) held most) (λ total h. tt) p) tt

    pub expects_fed : (known : Known) → ((earlier : List Step) → CheckerIsAt b.checker before earlier → IsKnownAfter known earlier) → (next : Kernel) → FeedsStep (Ok tt) b.checker x next → LooksAtMost b.checker x next
        → ComparesStep due known x None → NamesFollowStep due before x after → CertificateCall (Ok tt) a (record b { checker = next }) (MeetsDue due before after)
    expects_fed known at next fed most k f = feeds_on a b next (λ u v. AwaitsNext before u v (Ok awaited.Step)) (λ u v. MeetsDue due before after u v (Ok tt)) (subst (λ z. FeedsStep (Ok tt) b.checker z next) held fed) (subst (λ z. LooksAtMost b.checker z next) held most)
        (λ total h. met_fed due before after (certificate_state_in total a) (certificate_state_in total b) h known at next (subst (λ z. ComparesStep due known z None) held k) (subst (λ z. FeedsStep (Ok tt) b.checker z next) held fed) (subst (λ z. NamesFollowStep due before z after) held f)) p

-- once unsat is recorded, the expected step is met if it may be unmet, and cannot be met otherwise
pub expects_cut : (due : Due) (names : NamedVars) (a b : Stream) → (AtEnd a.source → ⊥) → (r : Result (Unit {0}) Stop) → CallReturns is_fed (Ok awaited.Cut) a b (AwaitsNext names) → IsUnmetResult due r → CertificateCall r a b (MeetsDue due names names)
expects_cut due names a b open_yet (Ok u) p s = (p.0, (λ total k. unmet_met due names (certificate_state_in total a) (certificate_state_in total b) (p.1 total k) s), p.2)
expects_cut due names a b open_yet (Err (stop.No why)) p s = says_stop {B = ℕ} true (stop.No why) a b (λ u v. AwaitsNext names u v (Ok awaited.Cut)) (λ y. DecidesMayBeUnmet due (Some why)) (MeetsDue due names names) open_yet
    (λ total w h x earlier t o ask. unmet_barred due names names (certificate_state_in total a) (certificate_state_in total b) why h x earlier t o ask) p s
expects_cut due names a b open_yet (Err e) p s = absurd s

-- before the first step, no name has a variable
pub begins_at : (checker : Kernel) (names : NamedVars) → HasAcceptedSteps checker [] → ((name : ℕ) → variable_in names name ≡ None) → CheckerIsAt checker names []
begins_at checker names taken none = record {
  taken = taken;
  stand = record {
    accepted = tt;
    named = fun_ext (λ name. sym (none name));
    apart = λ m n v x y. absurd (let e : ◌≡◌ {A = Option ℕ} None (Some v) = x in cc);
    known = λ m v x. absurd (let e : ◌≡◌ {A = Option ℕ} None (Some v) = x in cc);
    few = λ m v x. absurd (let e : ◌≡◌ {A = Option ℕ} None (Some v) = x in cc);
  };
}
