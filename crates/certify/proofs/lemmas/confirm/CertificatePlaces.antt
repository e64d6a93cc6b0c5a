-- Which expected steps are met from one place of a certificate to another.
use Rattle.std.proofs.Common.{ℕ, ◌≡◌, Bool, true, false, List, [], ◌∷◌, ◌++◌, refl, sym, ◌∙◌, ap, subst, append_assoc}
use Rattle.std.proofs.lemmas.Bool.{true≢false}
use Rattle.std.proofs.lemmas.List.{append_cancel_left}
use Rattle.std.specs.List.{AllByRecursion}
use Rattle.sat_base.specs.steps.Formats.{IsUniquelyDecodable}
use Rattle.sat_base.specs.steps.Steps.{Step}
use Rattle.sat_base.specs.steps.StepText.{SpellsStep, SpellsSteps}
use Rattle.sat_checker.specs.Accepts.{Accepts, ready_after}
use Rattle.sat_checker.specs.matching.Checking.{is_ordered}
use Rattle.certify.specs.confirm.Matches.{Meets, IsOptionalOnceUnsat, met, cut, other, ordered}
use Rattle.sat_checker.specs.matching.Expected.{Expected, FitsExpected}
use Rattle.sat_checker.specs.matching.ProofChecking.{checker_rules}
use Rattle.certify.specs.confirm.CertificatePlaces.{RestMeets, MeetsExactly, MeetsNoneOf, MeetsSameSteps, MeetsNothing, NextIsOrdered}
use Rattle.certify.proofs.lemmas.confirm.NextStep.{taken, skipped}

-- between a place and itself, no expected step is met
pub leads_nowhere : (earlier : List Step) (certificate : List ℕ) → MeetsExactly earlier certificate [] earlier certificate
leads_nowhere earlier certificate = record { on = λ es m. m; back = λ es m. m }

-- what is met up to a place and after it is met together
pub leads_on : {earlier mid later : List Step} {bytes between rest : List ℕ} {p q : List Expected} → MeetsExactly earlier bytes p mid between → MeetsExactly mid between q later rest → MeetsExactly earlier bytes (p ++ q) later rest
leads_on {earlier} {mid} {later} {bytes} {between} {rest} {p} {q} l m = record {
  on = λ es h. m.on es (l.on (q ++ es) (subst (λ xs. RestMeets earlier xs bytes) (append_assoc p q es) h));
  back = λ es h. subst (λ xs. RestMeets earlier xs bytes) (sym (append_assoc p q es)) (l.back (q ++ es) (m.back es h));
}

-- what cannot be met after a place cannot be met before it
pub bars_after : {earlier mid : List Step} {bytes between : List ℕ} {p q : List Expected} → MeetsExactly earlier bytes p mid between → MeetsNoneOf mid between q → MeetsNoneOf earlier bytes (p ++ q)
bars_after {earlier} {mid} {bytes} {between} {p} {q} l b = record { none = λ es h. b.none es (l.on (q ++ es) (subst (λ xs. RestMeets earlier xs bytes) (append_assoc p q es) h)) }

-- if steps cannot be met, no more can be
pub bars_more : {earlier : List Step} {bytes : List ℕ} {p : List Expected} (q : List Expected) → MeetsNoneOf earlier bytes p → MeetsNoneOf earlier bytes (p ++ q)
bars_more {earlier} {bytes} {p} q b = record { none = λ es h. b.none (q ++ es) (subst (λ xs. RestMeets earlier xs bytes) (append_assoc p q es) h) }

-- if expected steps are met once unsat is recorded, all of them may be unmet
pub when_cut : (earlier : List Step) (es : List Expected) (bytes : List ℕ) → (ready_after earlier).unsat ≡ true → RestMeets earlier es bytes → AllByRecursion IsOptionalOnceUnsat es
when_cut earlier es bytes u m = go m.steps es m.meets
  where
    go : (steps : List Step) (es : List Expected) → Meets checker_rules earlier steps es → AllByRecursion IsOptionalOnceUnsat es
    go steps es (met v) = absurd (true≢false (sym u ∙ v))
    go steps es (cut v x) = x
    go steps es (other v n a k) = absurd (true≢false (sym u ∙ v))
    go steps es (ordered v f a k) = absurd (true≢false (sym u ∙ v))

-- once unsat is recorded, expected steps that may be unmet are met without a step
pub cut_met : (earlier : List Step) (es : List Expected) (bytes : List ℕ) → (ready_after earlier).unsat ≡ true → AllByRecursion IsOptionalOnceUnsat es → RestMeets earlier es bytes
cut_met earlier es bytes u x = record { steps = []; text = []; rest = bytes; begins = refl; spelt = refl; meets = cut u x }

all_back : (p es : List Expected) → AllByRecursion IsOptionalOnceUnsat p → AllByRecursion IsOptionalOnceUnsat es → AllByRecursion IsOptionalOnceUnsat (p ++ es)
all_back [] es x y = y
all_back (e ∷ p) es x y = (x.0, all_back p es x.1 y)

all_after : (p es : List Expected) → AllByRecursion IsOptionalOnceUnsat (p ++ es) → AllByRecursion IsOptionalOnceUnsat es
all_after [] es x = x
all_after (e ∷ p) es x = all_after p es x.1

all_before : (p es : List Expected) → AllByRecursion IsOptionalOnceUnsat (p ++ es) → AllByRecursion IsOptionalOnceUnsat p
all_before [] es x = tt
all_before (e ∷ p) es x = (x.0, all_before p es x.1)

-- once unsat is recorded, expected steps that may be unmet are met where they are
pub leads_cut : (earlier : List Step) (bytes : List ℕ) (p : List Expected) → (ready_after earlier).unsat ≡ true → AllByRecursion IsOptionalOnceUnsat p → MeetsExactly earlier bytes p earlier bytes
leads_cut earlier bytes p u x = record {
  on = λ es h. cut_met earlier es bytes u (all_after p es (when_cut earlier (p ++ es) bytes u h));
  back = λ es h. cut_met earlier (p ++ es) bytes u (all_back p es x (when_cut earlier es bytes u h));
}

-- once unsat is recorded, an expected step that may not be unmet cannot be met
pub bars_cut : (earlier : List Step) (bytes : List ℕ) (p : List Expected) → (ready_after earlier).unsat ≡ true → (AllByRecursion IsOptionalOnceUnsat p → ⊥) → MeetsNoneOf earlier bytes p
bars_cut earlier bytes p u x = record { none = λ es h. x (all_before p es (when_cut earlier (p ++ es) bytes u h)) }

-- an expected step is not met without further steps, unless unsat is recorded
not_over : (earlier : List Step) (e : Expected) (es : List Expected) → (ready_after earlier).unsat ≡ false → Meets checker_rules earlier [] (e ∷ es) → ⊥
not_over earlier e es u (cut v x) = true≢false (sym v ∙ u)

-- nothing is met if the bytes begin with no step
pub no_step : (earlier : List Step) (bytes : List ℕ) → (ready_after earlier).unsat ≡ false → ((step : Step) (text rest : List ℕ) → bytes ≡ text ++ rest → SpellsStep step text → ⊥) → MeetsNothing earlier bytes
no_step earlier bytes u none = record { none = λ e es m. go e es m.rest m.steps m.text m.begins m.spelt m.meets }
  where
    go : (e : Expected) (es : List Expected) (following : List ℕ) (steps : List Step) (text : List ℕ) → bytes ≡ text ++ following → SpellsSteps steps text → Meets checker_rules earlier steps (e ∷ es) → ⊥
    go e es following [] text b s k = not_over earlier e es u k
    go e es following (step ∷ steps) text b s k = none step s.0 (s.1 ++ following) (b ∙ ap (λ x. x ++ following) s.4 ∙ append_assoc s.0 s.1 following) s.2

-- `Begun earlier step es more` holds if `step` and steps from the bytes after it meet what is expected.
record Begun (earlier : List Step) (step : Step) (es : List Expected) (more : List ℕ) : Type 0 where
  steps : List Step
  text : List ℕ
  rest : List ℕ
  begins : more ≡ text ++ rest
  spelt : SpellsSteps steps text
  meets : Meets checker_rules earlier (step ∷ steps) es

begun : IsUniquelyDecodable SpellsStep → (earlier : List Step) (step : Step) (bytes text more : List ℕ) (e : Expected) (es : List Expected)
    → (ready_after earlier).unsat ≡ false → bytes ≡ text ++ more → SpellsStep step text → RestMeets earlier (e ∷ es) bytes → Begun earlier step (e ∷ es) more
begun one earlier step bytes text more e es u b s m = go m.steps m.text m.begins m.spelt m.meets
  where
    go : (steps : List Step) (front : List ℕ) → bytes ≡ front ++ m.rest → SpellsSteps steps front → Meets checker_rules earlier steps (e ∷ es) → Begun earlier step (e ∷ es) more
    go [] front c t k = absurd (not_over earlier e es u k)
    go (first ∷ steps) front c t k =
        let whole : text ++ more ≡ t.0 ++ (t.1 ++ m.rest) = sym b ∙ c ∙ ap (λ x. x ++ m.rest) t.4 ∙ append_assoc t.0 t.1 m.rest in
        let same = one step first text t.0 more (t.1 ++ m.rest) s t.2 whole in
        record {
          steps = steps;
          text = t.1;
          rest = m.rest;
          begins = append_cancel_left text more (t.1 ++ m.rest) (whole ∙ ap (λ z. z ++ (t.1 ++ m.rest)) (sym same.0));
          spelt = t.3;
          meets = subst (λ x. Meets checker_rules earlier (x ∷ steps) (e ∷ es)) (sym same.1) k;
        }

-- an accepted unordered step changes nothing of what is met
pub skips_step : IsUniquelyDecodable SpellsStep → (earlier : List Step) (step : Step) (bytes text more : List ℕ) → (ready_after earlier).unsat ≡ false → bytes ≡ text ++ more → SpellsStep step text → is_ordered step ≡ false
    → Accepts (ready_after earlier) step → MeetsSameSteps earlier bytes (step ∷ earlier) more
skips_step one earlier step bytes text more u b s o a = record {
  on = λ e es m. let g = begun one earlier step bytes text more e es u b s m in record { steps = g.steps; text = g.text; rest = g.rest; begins = g.begins; spelt = g.spelt; meets = (skipped checker_rules o g.meets).1 };
  back = λ e es m. record {
    steps = step ∷ m.steps;
    text = text ++ m.text;
    rest = m.rest;
    begins = b ∙ ap (λ x. text ++ x) m.begins ∙ sym (append_assoc text m.text m.rest);
    spelt = (text, m.text, s, m.spelt, refl);
    meets = other u o a m.meets;
  };
}

-- nothing is met if the next step is unordered and the checker refuses it
pub stops_at_step : IsUniquelyDecodable SpellsStep → (earlier : List Step) (step : Step) (bytes text more : List ℕ) → (ready_after earlier).unsat ≡ false → bytes ≡ text ++ more → SpellsStep step text → is_ordered step ≡ false
    → (Accepts (ready_after earlier) step → ⊥) → MeetsNothing earlier bytes
stops_at_step one earlier step bytes text more u b s o a = record { none = λ e es m. let g = begun one earlier step bytes text more e es u b s m in a (skipped checker_rules o g.meets).0 }

-- an ordered step is the next one
pub offers_step : IsUniquelyDecodable SpellsStep → (earlier : List Step) (step : Step) (bytes text more : List ℕ) → (ready_after earlier).unsat ≡ false → bytes ≡ text ++ more → SpellsStep step text → is_ordered step ≡ true
    → NextIsOrdered earlier bytes earlier step more
offers_step one earlier step bytes text more u b s o = record {
  on = λ e es m.
      let g = begun one earlier step bytes text more e es u b s m in
      let t = taken checker_rules o g.meets in
      (t.0, t.1, record { steps = g.steps; text = g.text; rest = g.rest; begins = g.begins; spelt = g.spelt; meets = t.2 });
  back = λ e es f a m. record {
    steps = step ∷ m.steps;
    text = text ++ m.text;
    rest = m.rest;
    begins = b ∙ ap (λ x. text ++ x) m.begins ∙ sym (append_assoc text m.text m.rest);
    spelt = (text, m.text, s, m.spelt, refl);
    meets = ordered u f a m.meets;
  };
}

pub skips_none : (earlier : List Step) (bytes : List ℕ) → MeetsSameSteps earlier bytes earlier bytes
skips_none earlier bytes = record { on = λ e es m. m; back = λ e es m. m }

pub skips_on : {earlier mid later : List Step} {bytes between rest : List ℕ} → MeetsSameSteps earlier bytes mid between → MeetsSameSteps mid between later rest → MeetsSameSteps earlier bytes later rest
skips_on s t = record { on = λ e es m. t.on e es (s.on e es m); back = λ e es m. s.back e es (t.back e es m) }

-- if nothing is met after unordered steps, nothing is met before them
pub skips_stop : {earlier mid : List Step} {bytes between : List ℕ} → MeetsSameSteps earlier bytes mid between → MeetsNothing mid between → MeetsNothing earlier bytes
skips_stop s t = record { none = λ e es m. t.none e es (s.on e es m) }

-- the next ordered step after unordered steps is the next one before them
pub skips_offer : {earlier mid later : List Step} {bytes between rest : List ℕ} {step : Step} → MeetsSameSteps earlier bytes mid between → NextIsOrdered mid between later step rest → NextIsOrdered earlier bytes later step rest
skips_offer s o = record { on = λ e es m. o.on e es (s.on e es m); back = λ e es f a m. s.back e es (o.back e es f a m) }

-- the next ordered step meets the expected step if it fits and is accepted
pub leads_step : {earlier later : List Step} {bytes rest : List ℕ} {step : Step} (e : Expected) → NextIsOrdered earlier bytes later step rest → FitsExpected (checker_rules.knows later) later e step → Accepts (ready_after later) step → MeetsExactly earlier bytes (e ∷ []) (step ∷ later) rest
leads_step e o f a = record { on = λ es m. (o.on e es m).2; back = λ es m. o.back e es f a m }

-- an expected step that the next ordered step does not fit cannot be met
pub bars_unfit : {earlier later : List Step} {bytes rest : List ℕ} {step : Step} (e : Expected) → NextIsOrdered earlier bytes later step rest → (FitsExpected (checker_rules.knows later) later e step → ⊥) → MeetsNoneOf earlier bytes (e ∷ [])
bars_unfit e o n = record { none = λ es m. n (o.on e es m).0 }

-- if the next ordered step is not accepted, no expected step can be met
pub bars_refused : {earlier later : List Step} {bytes rest : List ℕ} {step : Step} (e : Expected) → NextIsOrdered earlier bytes later step rest → (Accepts (ready_after later) step → ⊥) → MeetsNoneOf earlier bytes (e ∷ [])
bars_refused e o n = record { none = λ es m. n (o.on e es m).1 }

pub bars_stop : {earlier : List Step} {bytes : List ℕ} (e : Expected) → MeetsNothing earlier bytes → MeetsNoneOf earlier bytes (e ∷ [])
bars_stop e s = record { none = λ es m. s.none e es m }

-- an expected step that may be unmet counts as met if unsat is recorded before the next ordered step
pub leads_skip : {earlier later : List Step} {bytes rest : List ℕ} (e : Expected) → MeetsSameSteps earlier bytes later rest → (ready_after later).unsat ≡ true → IsOptionalOnceUnsat e → MeetsExactly earlier bytes (e ∷ []) later rest
leads_skip {earlier} {later} {bytes} {rest} e s u x =
    let l = leads_cut later rest (e ∷ []) u (x, tt) in record { on = λ es m. l.on es (s.on e es m); back = λ es m. s.back e es (l.back es m) }

-- if unsat is recorded before an ordered step, a step that may not be unmet cannot be met
pub bars_skip : {earlier later : List Step} {bytes rest : List ℕ} (e : Expected) → MeetsSameSteps earlier bytes later rest → (ready_after later).unsat ≡ true → (IsOptionalOnceUnsat e → ⊥) → MeetsNoneOf earlier bytes (e ∷ [])
bars_skip {earlier} {later} {bytes} {rest} e s u x = record { none = λ es m. (bars_cut later rest (e ∷ []) u (λ h. x h.0)).none es (s.on e es m) }

-- any certificate meets what is expected if nothing is expected
pub nothing_met : (earlier : List Step) (bytes : List ℕ) → RestMeets earlier [] bytes
nothing_met earlier bytes = go (ready_after earlier).unsat refl
  where
    go : (b : Bool) → (ready_after earlier).unsat ≡ b → RestMeets earlier [] bytes
    go true u = cut_met earlier [] bytes u tt
    go false u = record { steps = []; text = []; rest = bytes; begins = refl; spelt = refl; meets = met u }
