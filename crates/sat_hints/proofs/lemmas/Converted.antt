-- The result of converting a certificate of accepted steps.
use Rattle.std.proofs.Common.{ℕ, ◌≡◌, List, [], ◌∷◌, ◌++◌, Option, Some, Ok, Err, refl, sym, ◌∙◌, ap, subst, append_assoc, append-nil}
use Rattle.std.specs.Io.KnownBytes.{IsAtEnd}
use Rattle.sat_base.specs.device.Device.{Reader, WriterAccepts}
use Rattle.sat_base.specs.steps.Steps.{Step, End}
use Rattle.sat_base.specs.steps.StepText.{SpellsStep, SpellsSteps}
use Rattle.sat_base.proofs.lemmas.steps.Prefixes.{no_whole, no_way}
use Rattle.sat_base.proofs.lemmas.steps.StepReads.{one_step}
use Rattle.sat_checker.specs.Accepts.{Accepts, AcceptsAll, ready_after}
use Rattle.sat_checker.specs.ProofView.{steps_after}
use Rattle.sat_checker.specs.declared.error.CheckerError.TheVariants as errors
use Rattle.sat_hints.specs.Conversion.{hint_text}
use Rattle.sat_hints.specs.Converts.{GaveAcceptedSteps}
use Rattle.sat_hints.specs.Laws.{IsCertificate, AcceptedConverts}
use Rattle.sat_hints.specs.declared.error.HintError.TheVariants.{Refused, HasDeleteVar, Read, Write, OutOfMemory}
use Rattle.sat_hints.proofs.lemmas.Certificates.{accepted_at, taken_append, Left, left_of, Next, next_of, none_left, cut_at}
use Rattle.sat_hints.proofs.lemmas.Rechecked.{reported_left}

at_end : (now : Option (List ℕ)) (ys : List ℕ) → now ≡ Some ys → IsAtEnd now → ys ≡ []
at_end now ys e h = subst (λ o. IsAtEnd o) e h

module _ (steps : List Step) (text more : List ℕ) (from to : Reader) (cert : IsCertificate steps text) (text_is : from.to_come ≡ Some (text ++ more)) where
  -- `Readings passed last rest` holds if the steps read are those of the certificate, and the rest of the certificate
  -- follows.
  record Readings (passed last : List Step) (rest : List ℕ) : Type 0 where
    to_come : List ℕ
    left_is : to.to_come ≡ Some to_come
    second : List ℕ
    of_last : SpellsSteps last second
    left : Left steps passed (second ++ (rest ++ to_come)) more

  read_of : (passed last : List Step) (rest : List ℕ) → GaveAcceptedSteps from to passed last rest → Readings passed last rest
  read_of passed last rest g =
      let t = reported_left (text ++ more) from.to_come to.to_come (g.steps.text ++ rest) text_is g.steps.front.known_bytes in
      let c = cut_at passed last g.steps.text g.steps.spelt in
      let e : c.first ++ (c.second ++ (rest ++ t.0)) ≡ text ++ more =
      sym (append_assoc c.first c.second (rest ++ t.0)) ∙ ap (λ x. x ++ (rest ++ t.0)) (sym c.whole) ∙ sym (append_assoc g.steps.text rest t.0) ∙ sym t.2 in
      record { to_come = t.0; left_is = t.1; second = c.second; of_last = c.of_last; left = left_of passed steps c.first text (c.second ++ (rest ++ t.0)) more c.of_front cert.spelt g.unended e }

  module _ (passed last : List Step) (rest : List ℕ) (r : Readings passed last rest) where
    abbrev n : Next r.left.tail r.left.text
    n = next_of r.left.tail r.left.text r.left.spelt

    next_bytes : r.second ++ (rest ++ r.to_come) ≡ n.bytes ++ (n.others ++ more)
    next_bytes = r.left.is ∙ ap (λ x. x ++ more) n.is ∙ append_assoc n.bytes n.others more

    whole : steps ++ End ∷ [] ≡ passed ++ (n.step ∷ n.following)
    whole = ap (λ x. x ++ End ∷ []) r.left.all ∙ append_assoc passed r.left.tail (End ∷ []) ∙ ap (λ x. passed ++ x) n.all

    next_accepted : Accepts (ready_after (steps_after passed [])) n.step
    next_accepted = accepted_at passed n.step n.following [] (subst (λ x. AcceptsAll (steps_after x [])) whole (subst AcceptsAll (sym (taken_append steps (End ∷ []) [])) cert.accepted))

    -- the step that was read is the next one
    read_next : (step : Step) → last ≡ step ∷ [] → step ≡ n.step
    read_next step is =
        let s = subst (λ x. SpellsSteps x r.second) is r.of_last in
        (one_step step n.step s.0 n.bytes (s.1 ++ (rest ++ r.to_come)) (n.others ++ more) s.2 n.spelt (sym (append_assoc s.0 s.1 (rest ++ r.to_come)) ∙ ap (λ x. x ++ (rest ++ r.to_come)) (sym s.4) ∙ next_bytes)).1

    not_refused : (step : Step) → last ≡ step ∷ [] → Accepts (ready_after (steps_after passed [])) step
    not_refused step is = subst (Accepts (ready_after (steps_after passed []))) (sym (read_next step is)) next_accepted

    -- after the end, no step is left
    all_passed : last ≡ End ∷ [] → steps ≡ passed
    all_passed is =
        let none : r.left.tail ≡ [] = none_left steps passed r.left.tail n.following r.left.all cert.unended (n.all ∙ ap (λ x. x ∷ n.following) (sym (read_next End is))) in
        r.left.all ∙ ap (λ x. passed ++ x) none ∙ append-nil passed

    -- if no further step was read, the rest begins with the bytes of the next one
    rest_is : last ≡ [] → rest ++ r.to_come ≡ n.bytes ++ (n.others ++ more)
    rest_is is = ap (λ x. x ++ (rest ++ r.to_come)) (sym (subst (λ x. SpellsSteps x r.second) is r.of_last)) ∙ next_bytes

pub accepted_converts : AcceptedConverts
accepted_converts steps text more (Ok x) from to old new cert text_is c =
    let r = read_of steps text more from to cert text_is c.0 (End ∷ []) c.1 c.2.gave in
    subst (λ z. WriterAccepts old new (hint_text (End ∷ steps_after z []))) (sym (all_passed steps text more from to cert text_is c.0 (End ∷ []) c.1 r refl)) c.4
accepted_converts steps text more (Err HasDeleteVar) from to old new cert text_is c = c
accepted_converts steps text more (Err (Refused errors.CheckFailed)) from to old new cert text_is c =
    let w = c.2 in
    absurd (w.3 (not_refused steps text more from to cert text_is c.0 (w.0 ∷ []) w.1 (read_of steps text more from to cert text_is c.0 (w.0 ∷ []) w.1 w.2) w.0 refl))
accepted_converts steps text more (Err (Refused errors.ProofIncomplete)) from to old new cert text_is c =
    let w = c.2 in
    let r = read_of steps text more from to cert text_is c.0 [] w.0 w.1 in
    let k = next_of r.left.tail r.left.text r.left.spelt in
    let over : r.to_come ≡ [] = at_end to.to_come r.to_come r.left_is w.2.over in
    absurd (no_whole SpellsStep one_step w.0 w.3 k.step k.bytes (k.others ++ more) (sym (append-nil w.0) ∙ ap (λ x. w.0 ++ x) (sym over) ∙ rest_is steps text more from to cert text_is c.0 [] w.0 r refl) k.spelt)
accepted_converts steps text more (Err (Refused errors.ParseError)) from to old new cert text_is c =
    let w = c.2 in
    let r = read_of steps text more from to cert text_is c.0 [] w.0 w.1 in
    let k = next_of r.left.tail r.left.text r.left.spelt in
    let spoilt = w.2 in
    absurd (no_way SpellsStep one_step (w.0 ++ r.to_come) spoilt.front (spoilt.following ++ r.to_come) spoilt.byte (ap (λ x. x ++ r.to_come) spoilt.whole ∙ append_assoc spoilt.front (spoilt.byte ∷ spoilt.following) r.to_come) spoilt.live spoilt.shut k.step k.bytes (k.others ++ more) (rest_is steps text more from to cert text_is c.0 [] w.0 r refl) k.spelt)
accepted_converts steps text more (Err (Refused errors.CounterEnd)) from to old new cert text_is c = c.2
accepted_converts steps text more (Err Read) from to old new cert text_is c = tt
accepted_converts steps text more (Err Write) from to old new cert text_is c = tt
accepted_converts steps text more (Err OutOfMemory) from to old new cert text_is c = tt
accepted_converts steps text more (Err e) from to old new cert text_is c = absurd c.2
