-- Reading a certificate step by step, up to the next ordered step.
use Rattle.std.proofs.Common.{◌≡◌, Bool, true, false, List, ◌∷◌, Option, Some, None, Result, Ok, Err, sym, subst, ◌∙◌}
use Rattle.sat_base.specs.device.Reading.{AtEnd}
use Rattle.sat_base.specs.steps.Steps.{Step}
use Rattle.sat_checker.specs.Accepts.{Accepts, ready_after}
use Rattle.sat_checker.specs.KernelView.{KernelHasAccepted, LooksAtMost}
use Rattle.sat_checker.specs.declared.kernel.Kernel.{Kernel}
use Rattle.sat_checker.specs.matching.Checking.{is_ordered}
use Rattle.certify.specs.confirm.CertificatePlaces.{MeetsNothing}
use Rattle.certify.specs.confirm.Feeding.{HasAcceptedSteps, FeedsStep, SettlesConflict}
use Rattle.certify.specs.confirm.ReadSteps.{ReadsStep}
use Rattle.certify.specs.confirm.Stepping.{ReadsOneStep, is_fed, is_fed_so_far}
use Rattle.certify.specs.confirm.Streams.{Stream, certificate_state_in, rest_in, CallReturns, CertificateCall}
use Rattle.certify.specs.confirm.CertificateStates.{CertificateState, certificate_place}
use Rattle.certify.specs.confirm.Awaiting.{CheckerIsAt, StepIsReady, UnsatIsRecorded, OnlyUnorderedAccepted, AwaitsNext, AwaitsByOneStep, PassesUnordered}
use Rattle.certify.specs.declared.confirm.ordered.Awaited.{Awaited}
use Rattle.certify.specs.declared.confirm.ordered.Awaited.TheVariants as awaited
use Rattle.certify.specs.declared.confirm.stop.Stop.{Stop}
use Rattle.certify.specs.declared.confirm.variables.NamedVars.{NamedVars}
use Rattle.certify.specs.declared.verdict.Why.{Why}
use Rattle.certify.proofs.lemmas.confirm.CertificatePlaces.{no_step, skips_none, skips_on, skips_stop, skips_offer, skips_step, stops_at_step, offers_step}
use Rattle.certify.proofs.lemmas.confirm.OneStep.{one_step}
use Rattle.certify.proofs.lemmas.confirm.Streams.{going_then, confirms_none, confirms_then, then_stop, confirms_stop, feeds_on, feeds_stop, settles_on, settles_stop}
use Rattle.certify.proofs.lemmas.confirm.Following.{others}

-- the results of trying to read one more step
module _ (names : NamedVars) (old : CertificateState) (new : CertificateState) (unsat : Bool) (unsat_is : (steps : List Step) → KernelHasAccepted old.checker steps → unsat ≡ (ready_after steps).unsat) where
  -- unsat is recorded
  is_cut : unsat ≡ true → (earlier : List Step) → CheckerIsAt old.checker names earlier → UnsatIsRecorded names old earlier old
  is_cut is earlier s = record { later = earlier; valid = s; closed = sym (unsat_is earlier s.taken.valid) ∙ is; skips = skips_none earlier old.rest }

  module _ (is : unsat ≡ false) where
    -- the next step is ordered
    is_step : ReadsStep (certificate_place old) (certificate_place new) → is_ordered new.step ≡ true → new.checker ≡ old.checker → (earlier : List Step) → CheckerIsAt old.checker names earlier → StepIsReady names old earlier new
    is_step r o k earlier s =
        let open_yet = sym (unsat_is earlier s.taken.valid) ∙ is in
        record {
          later = earlier;
          valid = record { taken = subst (λ x. HasAcceptedSteps x earlier) (sym k) s.taken; stand = s.stand };
          open_yet = open_yet;
          offers = offers_step one_step earlier new.step old.rest r.text new.rest open_yet r.front r.spelt o;
        }

    -- the next step is unordered and accepted
    is_passed : ReadsStep (certificate_place old) (certificate_place new) → is_ordered new.step ≡ false → FeedsStep (Ok tt) old.checker new.step new.checker → (earlier : List Step) → CheckerIsAt old.checker names earlier → OnlyUnorderedAccepted names old earlier new
    is_passed r o a earlier s =
        let open_yet = sym (unsat_is earlier s.taken.valid) ∙ is in
        let fed = a earlier s.taken in
        record {
          later = new.step ∷ earlier;
          valid = record { taken = fed.1; stand = others names earlier new.step s.stand o fed.0 };
          skips = skips_step one_step earlier new.step old.rest r.text new.rest open_yet r.front r.spelt o fed.0;
        }

    -- the next step is unordered and refused
    is_refused : (mid : CertificateState) → ReadsStep (certificate_place old) (certificate_place mid) → is_ordered mid.step ≡ false → ((steps : List Step) → HasAcceptedSteps old.checker steps → Accepts (ready_after steps) mid.step → ⊥)
        → (earlier : List Step) → CheckerIsAt old.checker names earlier → MeetsNothing earlier old.rest
    is_refused mid r o a earlier s =
        let open_yet = sym (unsat_is earlier s.taken.valid) ∙ is in
        stops_at_step one_step earlier mid.step old.rest r.text mid.rest open_yet r.front r.spelt o (a earlier s.taken)

-- ONE STEP

module _ (names : NamedVars) (a : Stream) (unsat : Bool) (unsat_is : (steps : List Step) → KernelHasAccepted a.checker steps → unsat ≡ (ready_after steps).unsat) where
  pub steps_cut : unsat ≡ true → CallReturns is_fed_so_far (Ok (Some awaited.Cut)) a a (AwaitsByOneStep names)
  steps_cut is = confirms_none (Some awaited.Cut) a (AwaitsByOneStep names) (λ total. is_cut names (certificate_state_in total a) (certificate_state_in total a) unsat unsat_is is)

  module _ (b : Stream) (open_yet : AtEnd a.source → ⊥) (is : unsat ≡ false) where
    pub steps_none : (e : Stop) → CertificateCall {A = Unit {0}} (Err e) a b ReadsOneStep → CertificateCall {A = Option Awaited} (Err e) a b (AwaitsByOneStep names)
    steps_none e p = confirms_stop e a b ReadsOneStep (AwaitsByOneStep names) (λ total why none earlier s. no_step earlier (rest_in total a.source) (sym (unsat_is earlier s.taken.valid) ∙ is) none) p

    module _ (p : CallReturns {A = Unit {0}} (λ x. false) (Ok tt) a b ReadsOneStep) (c : b.checker ≡ a.checker) where
      pub steps_step : is_ordered b.step ≡ true → CallReturns is_fed_so_far (Ok (Some awaited.Step)) a b (AwaitsByOneStep names)
      steps_step o = (p.0, (λ total k. is_step names (certificate_state_in total a) (certificate_state_in total b) unsat unsat_is is (p.1 total k) o c), p.2)

      pub steps_passed : (next : Kernel) → is_ordered b.step ≡ false → FeedsStep (Ok tt) b.checker b.step next → LooksAtMost b.checker b.step next → CallReturns is_fed_so_far (Ok None) a (record b { checker = next }) (AwaitsByOneStep names)
      steps_passed next o d l = feeds_on a b next (λ x y. ReadsOneStep x y (Ok tt)) (λ x y. AwaitsByOneStep names x y (Ok None)) d l
          (λ total r. is_passed names (certificate_state_in total a) (certificate_state_in total (record b { checker = next })) unsat unsat_is is r o (subst (λ (x : Kernel). FeedsStep (Ok tt) x b.step next) c d)) p

      pub steps_refused : (e : Stop) (next : Kernel) → is_ordered b.step ≡ false → FeedsStep (Err e) b.checker b.step next → LooksAtMost b.checker b.step next → CertificateCall {A = Option Awaited} (Err e) a (record b { checker = next }) (AwaitsByOneStep names)
      steps_refused e next o d l = feeds_stop e a b next (λ x y. ReadsOneStep x y (Ok tt)) (AwaitsByOneStep names) open_yet d l
          (λ total why r h. is_refused names (certificate_state_in total a) (certificate_state_in total (record b { checker = next })) unsat unsat_is is (certificate_state_in total b) r o
          (subst (λ (x : Kernel). (steps : List Step) → HasAcceptedSteps x steps → Accepts (ready_after steps) b.step → ⊥) c h)) p

-- STEP AFTER STEP

module _ (names : NamedVars) where
  pub passed_none : (a : Stream) → CertificateCall (Ok tt) a a (PassesUnordered names)
  passed_none a = confirms_none tt a (PassesUnordered names) (λ total earlier s. record { later = earlier; valid = s; skips = skips_none earlier (rest_in total a.source) })

  passed_on : (u v w : CertificateState) → PassesUnordered names u v (Ok tt) → AwaitsByOneStep names v w (Ok None) → PassesUnordered names u w (Ok tt)
  passed_on u v w p h earlier s =
      let x = p earlier s in
      let y = h x.later x.valid in
      record { later = y.later; valid = y.valid; skips = skips_on x.skips y.skips }

  ends : (u v w : CertificateState) (y : Result Awaited Why) → PassesUnordered names u v (Ok tt) → AwaitsNext names v w y → AwaitsNext names u w y
  ends u v w (Ok awaited.Step) p h = λ earlier s. let x = p earlier s in let y = h x.later x.valid in record { later = y.later; valid = y.valid; open_yet = y.open_yet; offers = skips_offer x.skips y.offers }
  ends u v w (Ok awaited.Cut) p h = λ earlier s. let x = p earlier s in let y = h x.later x.valid in record { later = y.later; valid = y.valid; closed = y.closed; skips = skips_on x.skips y.skips }
  ends u v w (Err why) p h = λ earlier s. let x = p earlier s in skips_stop x.skips (h x.later x.valid)

  module _ (a b c : Stream) (open_yet : AtEnd a.source → ⊥) (p : CertificateCall (Ok tt) a b (PassesUnordered names)) where
    pub rounds_more : CallReturns is_fed_so_far (Ok None) b c (AwaitsByOneStep names) → CertificateCall (Ok tt) a c (PassesUnordered names)
    rounds_more q = confirms_then tt (Ok tt) a b c (PassesUnordered names) (λ u v r. AwaitsByOneStep names u v (Ok None)) (PassesUnordered names) open_yet (λ total y f g. passed_on (certificate_state_in total a) (certificate_state_in total b) (certificate_state_in total c) f g) p q

    pub rounds_end : (x : Awaited) → CallReturns is_fed_so_far (Ok (Some x)) b c (AwaitsByOneStep names) → CallReturns is_fed (Ok x) a c (AwaitsNext names)
    rounds_end x q = going_then (is_fed x) a b c (λ u v. PassesUnordered names u v (Ok tt)) (λ u v. AwaitsNext names u v (Ok x)) (λ u v. AwaitsNext names u v (Ok x)) open_yet (λ total f g. ends (certificate_state_in total a) (certificate_state_in total b) (certificate_state_in total c) (Ok x) f g) p q

    pub rounds_stop : (e : Stop) → CertificateCall {A = Option Awaited} (Err e) b c (AwaitsByOneStep names) → CertificateCall {A = Awaited} (Err e) a c (AwaitsNext names)
    rounds_stop e q = then_stop tt e a b c (PassesUnordered names) (AwaitsByOneStep names) (AwaitsNext names) open_yet (λ total why f g. ends (certificate_state_in total a) (certificate_state_in total b) (certificate_state_in total c) (Err why) f g) p q

  -- A UNIT CONFLICT IS SETTLED

  -- what was found still holds after a unit conflict is settled
  awaits_settled : (x : Awaited) (u v : CertificateState) (next : Kernel) → SettlesConflict (Ok tt) v.checker next → AwaitsNext names u v (Ok x) → AwaitsNext names u (record v { checker = next }) (Ok x)
  awaits_settled awaited.Step u v next settled h = λ earlier s.
      let y = h earlier s in
      record { later = y.later; valid = record { taken = (settled y.later y.valid.taken).0; stand = y.valid.stand }; open_yet = y.open_yet; offers = y.offers }
  awaits_settled awaited.Cut u v next settled h = λ earlier s.
      let y = h earlier s in
      record { later = y.later; valid = record { taken = (settled y.later y.valid.taken).0; stand = y.valid.stand }; closed = y.closed; skips = y.skips }

  -- a checker that has not failed never refuses to settle a unit conflict
  awaits_never : (x : Awaited) (u v w : CertificateState) (why : Why) → AwaitsNext names u v (Ok x) → ((steps : List Step) → HasAcceptedSteps v.checker steps → ⊥) → AwaitsNext names u w (Err why)
  awaits_never awaited.Step u v w why h none = λ earlier s. let y = h earlier s in absurd (none y.later y.valid.taken)
  awaits_never awaited.Cut u v w why h none = λ earlier s. let y = h earlier s in absurd (none y.later y.valid.taken)

  module _ (a b : Stream) (x : Awaited) (p : CallReturns is_fed (Ok x) a b (AwaitsNext names)) (next : Kernel) where
    pub settled_goes : SettlesConflict (Ok tt) b.checker next → CallReturns is_fed (Ok x) a (record b { checker = next }) (AwaitsNext names)
    settled_goes settled = settles_on (is_fed x) a b next (λ u v. AwaitsNext names u v (Ok x)) (λ u v. AwaitsNext names u v (Ok x)) settled (λ total h. awaits_settled x (certificate_state_in total a) (certificate_state_in total b) next settled h) p

    pub settled_stops : (e : Stop) → (AtEnd a.source → ⊥) → SettlesConflict (Err e) b.checker next → CertificateCall {A = Awaited} (Err e) a (record b { checker = next }) (AwaitsNext names)
    settled_stops e open_yet settled = settles_stop e (is_fed x) a b next (λ u v. AwaitsNext names u v (Ok x)) (AwaitsNext names) open_yet settled
        (λ total why h none. awaits_never x (certificate_state_in total a) (certificate_state_in total b) (certificate_state_in total (record b { checker = next })) why h none) p
