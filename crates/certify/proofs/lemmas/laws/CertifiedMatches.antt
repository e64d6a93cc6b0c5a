-- If steps are certified for commands and outcomes, they match them.
use Rattle.std.proofs.Common.{ℕ, ◌≡◌, ◌∙◌, Bool, true, false, Option, None, List, [], ◌∷◌, ◌++◌, refl, sym, ap, subst, append_assoc}
use Rattle.std.proofs.lemmas.Bool.{both_ways}
use Rattle.std.proofs.lemmas.List.{append-nil, reverse-append}
use Rattle.std.specs.Prelude.{reverse}
use Rattle.std.specs.List.{AllByRecursion}
use Rattle.sat_base.specs.script.Script.{Command, Clause, Ask, Hide, Witness, Sample, ScriptEnding}
use Rattle.sat_base.specs.script.ScriptState.{ScriptState, state_after_accepted, accepted_commands, initial_state}
use Rattle.sat_base.specs.steps.Steps.{Step}
use Rattle.sat_base.specs.steps.StepText.{SpellsSteps}
use Rattle.sat_checker.specs.Accepts.{AcceptsAll, effect, ready_after}
use Rattle.sat_checker.proofs.lemmas.invariants.Stored.{unsat_stays}
use Rattle.sat_checker.specs.matching.Checking.{AreAcceptedBy}
use Rattle.sat_checker.specs.matching.Expected.{Outcome, Sat, Unsat, Unknown, Expected, Adds, Opens, Shows, Fails, expected_steps}
use Rattle.sat_checker.specs.matching.ProofChecking.{checker_rules}
use Rattle.certify.specs.answers.Answers.{answers_text}
use Rattle.certify.specs.answers.RightAnswers.{OutcomesAreRight, AnswersAreRight}
use Rattle.certify.specs.confirm.Matches.{OneOutcomePerAsk, CoreIsInOrder, IsOptionalOnceUnsat, Meets, met, cut, other, ordered, Matches}
use Rattle.certify.specs.run.Certifies as by
use Rattle.certify.specs.run.Certifies.{Certifies, CanBeOmittedOnceUnsat, CanHaveStep}
use Rattle.certify.proofs.lemmas.confirm.Settled.{settled_unsat}

-- once recorded, unsat stays recorded
stays : (s : List Step) (step : Step) → checker_rules.unsat s ≡ true → checker_rules.unsat (step ∷ s) ≡ true
stays s step u = settled_unsat (effect step (ready_after s)) ∙ unsat_stays (ready_after s) step u

-- WHAT MAY BE LEFT UNMET

lacked_excused : (e : Expected) → CanBeOmittedOnceUnsat e → IsOptionalOnceUnsat e
lacked_excused (Adds ls) h = tt
lacked_excused (Fails ask core) h = h
lacked_excused e h = absurd h

stood_excused : (e : Expected) → CanHaveStep true e → IsOptionalOnceUnsat e
stood_excused (Fails ask core) h = absurd (both_ways true h refl)
stood_excused (Opens ls o) h = absurd h
stood_excused (Shows names ask line) h = absurd (both_ways true h refl)
stood_excused e h = tt

-- once unsat is recorded, every expected step may be unmet
excused : {all : List Step} {current : Option Outcome} {earlier : List Step} {es : List Expected} {counts : List ℕ}
    → Certifies checker_rules all current earlier es counts → checker_rules.unsat earlier ≡ true → AllByRecursion IsOptionalOnceUnsat es
excused by.complete u = tt
excused (by.left_out {e = e} m r c) u = (lacked_excused e m, excused c u)
excused (by.other {earlier = earlier} {step = step} n c) u = excused c (stays earlier step u)
excused (by.ordered {earlier = earlier} {step = step} {e = e} m f c) u =
    (stood_excused e (subst (λ b. CanHaveStep b e) u m), excused c (stays earlier step u))
excused (by.asked {earlier = earlier} {step = step} i f c) u = ((i u).outcome, excused c (stays earlier step u))
excused (by.answered {earlier = earlier} {step = step} i f c) u = (tt, excused c (stays earlier step u))

-- STEPS AFTER STEPS

-- these steps, the oldest first, after the earlier ones
abbrev onto : List Step → List Step → List Step
onto [] earlier = earlier
onto (step ∷ steps) earlier = onto steps (step ∷ earlier)

onto_reversed : (steps earlier : List Step) → reverse (onto steps earlier) ≡ reverse earlier ++ steps
onto_reversed [] earlier = sym (append-nil (reverse earlier))
onto_reversed (step ∷ steps) earlier =
    onto_reversed steps (step ∷ earlier) ∙ ap (λ s. s ++ steps) (reverse-append (step ∷ []) earlier) ∙ append_assoc (reverse earlier) (step ∷ []) steps

accepted_front : (steps earlier : List Step) → AreAcceptedBy checker_rules (onto steps earlier) → AreAcceptedBy checker_rules earlier
accepted_front [] earlier h = h
accepted_front (step ∷ steps) earlier h = (accepted_front steps (step ∷ earlier) h).0

-- all steps are the earlier ones and some after them
following : {all : List Step} {current : Option Outcome} {earlier : List Step} {es : List Expected} {counts : List ℕ}
    → Certifies checker_rules all current earlier es counts → (steps : List Step) × (all ≡ onto steps earlier)
following by.complete = ([], refl)
following (by.left_out m r c) = following c
following (by.other {step = step} n c) = let h = following c in (step ∷ h.0, h.1)
following (by.ordered {step = step} m f c) = let h = following c in (step ∷ h.0, h.1)
following (by.asked {step = step} i f c) = let h = following c in (step ∷ h.0, h.1)
following (by.answered {step = step} i f c) = let h = following c in (step ∷ h.0, h.1)

-- the next step is accepted
next_accepted : {all : List Step} {current : Option Outcome} {step : Step} {earlier : List Step} {es : List Expected} {counts : List ℕ}
    → AreAcceptedBy checker_rules all → Certifies checker_rules all current (step ∷ earlier) es counts → checker_rules.Accepts earlier step
next_accepted {step = step} {earlier = earlier} a c =
    let h = following c in
    (accepted_front h.0 (step ∷ earlier) (subst (AreAcceptedBy checker_rules) h.1 a)).1

-- WHAT IS MET

-- `Front all earlier es` holds if steps after the earlier ones meet what is expected, and others may follow.
record Front (all earlier : List Step) (es : List Expected) : Type 0 where
  pub steps : List Step
  pub rest : List Step
  pub meets : Meets checker_rules earlier steps es
  pub whole : all ≡ onto (steps ++ rest) earlier

module _ (all : List Step) (a : AreAcceptedBy checker_rules all) where
  met_by : {current : Option Outcome} {earlier : List Step} {es : List Expected} {counts : List ℕ}
      → Certifies checker_rules all current earlier es counts → (b : Bool) → checker_rules.unsat earlier ≡ b → Front all earlier es
  met_by c true u = let h = following c in record { steps = []; rest = h.0; meets = cut u (excused c u); whole = h.1 }
  met_by by.complete false u = record { steps = []; rest = []; meets = met u; whole = refl }
  met_by (by.left_out {earlier = earlier} m r c) false u = absurd (both_ways (checker_rules.unsat earlier) u r.recorded)
  met_by (by.other {earlier = earlier} {step = step} n c) false u =
      let h = met_by c (checker_rules.unsat (step ∷ earlier)) refl in
      record { steps = step ∷ h.steps; rest = h.rest; meets = other u n (next_accepted a c) h.meets; whole = h.whole }
  met_by (by.ordered {earlier = earlier} {step = step} m f c) false u =
      let h = met_by c (checker_rules.unsat (step ∷ earlier)) refl in
      record { steps = step ∷ h.steps; rest = h.rest; meets = ordered u f (next_accepted a c) h.meets; whole = h.whole }
  met_by (by.asked {earlier = earlier} {step = step} i f c) false u =
      let h = met_by c (checker_rules.unsat (step ∷ earlier)) refl in
      record { steps = step ∷ h.steps; rest = h.rest; meets = ordered u f (next_accepted a c) h.meets; whole = h.whole }
  met_by (by.answered {earlier = earlier} {step = step} i f c) false u =
      let h = met_by c (checker_rules.unsat (step ∷ earlier)) refl in
      record { steps = step ∷ h.steps; rest = h.rest; meets = ordered u f (next_accepted a c) h.meets; whole = h.whole }

accepted_each : (steps : List Step) → AcceptsAll steps → AreAcceptedBy checker_rules steps
accepted_each [] h = tt
accepted_each (step ∷ earlier) h = (accepted_each earlier h.0, h.1)

-- OUTCOMES

one_each : (j : ScriptState) (commands : List Command) (outcomes : List Outcome) → OutcomesAreRight j commands outcomes → OneOutcomePerAsk commands outcomes
one_each j [] [] h = tt
one_each j [] (o ∷ os) h = absurd h
one_each j (Ask ls ∷ commands) [] h = absurd h
one_each j (Ask ls ∷ commands) (o ∷ os) h = one_each (state_after_accepted (Ask ls) j) commands os h.1
one_each j (Clause ls ∷ commands) os h = one_each (state_after_accepted (Clause ls) j) commands os h
one_each j (Hide names ∷ commands) os h = one_each (state_after_accepted (Hide names) j) commands os h
one_each j (Witness names ∷ commands) os h = one_each (state_after_accepted (Witness names) j) commands os h
one_each j (Sample names ∷ commands) os h = one_each (state_after_accepted (Sample names) j) commands os h

in_form : (j : ScriptState) (commands : List Command) (outcomes : List Outcome) → OutcomesAreRight j commands outcomes → AllByRecursion CoreIsInOrder outcomes
in_form j commands [] h = tt
in_form j [] (o ∷ os) h = absurd h
in_form j (Ask ls ∷ commands) (Sat line ∷ os) h = (tt, in_form (state_after_accepted (Ask ls) j) commands os h.1)
in_form j (Ask ls ∷ commands) (Unsat core ∷ os) h = (h.0.order, in_form (state_after_accepted (Ask ls) j) commands os h.1)
in_form j (Ask ls ∷ commands) (Unknown ∷ os) h = (tt, in_form (state_after_accepted (Ask ls) j) commands os h.1)
in_form j (Clause ls ∷ commands) (o ∷ os) h = in_form (state_after_accepted (Clause ls) j) commands (o ∷ os) h
in_form j (Hide names ∷ commands) (o ∷ os) h = in_form (state_after_accepted (Hide names) j) commands (o ∷ os) h
in_form j (Witness names ∷ commands) (o ∷ os) h = in_form (state_after_accepted (Witness names) j) commands (o ∷ os) h
in_form j (Sample names ∷ commands) (o ∷ os) h = in_form (state_after_accepted (Sample names) j) commands (o ∷ os) h

-- TEXTS

-- `TextFront front rest text` holds if the text begins with the text of the steps in `front`.
record TextFront (front rest : List Step) (text : List ℕ) : Type 0 where
  pub begins : List ℕ
  pub following : List ℕ
  pub parts : text ≡ begins ++ following
  pub spelt : SpellsSteps front begins

text_front : (front rest : List Step) (text : List ℕ) → SpellsSteps (front ++ rest) text → TextFront front rest text
text_front [] rest text h = record { begins = []; following = text; parts = refl; spelt = refl }
text_front (step ∷ front) rest text h =
    let more = text_front front rest h.1 h.3 in
    record {
      begins = h.0 ++ more.begins;
      following = more.following;
      parts = h.4 ∙ ap (λ s. h.0 ++ s) more.parts ∙ sym (append_assoc h.0 more.begins more.following);
      spelt = (h.0, more.begins, h.2, more.spelt, refl);
    }

pub certified_matches : (reading : List ℕ → List Command × ScriptEnding) (script certificate : List ℕ) (outcomes : List Outcome) (steps : List Step) (counts : List ℕ)
    → AnswersAreRight (reading script).0 outcomes
    → AcceptsAll steps
    → Certifies checker_rules steps None [] (expected_steps initial_state (accepted_commands initial_state (reading script).0) outcomes) counts
    → SpellsSteps (reverse steps) certificate
    → Matches checker_rules reading script (answers_text (reading script).0 (reading script).1 outcomes) certificate
certified_matches reading script certificate outcomes steps counts right a c spelt =
    let commands : List Command = accepted_commands initial_state (reading script).0 in
    let h = met_by steps (accepted_each steps a) c (checker_rules.unsat []) refl in
    let whole : reverse steps ≡ h.steps ++ h.rest = ap reverse h.whole ∙ onto_reversed (h.steps ++ h.rest) [] in
    let t = text_front h.steps h.rest certificate (subst (λ s. SpellsSteps s certificate) whole spelt) in
    record {
      outcomes = outcomes;
      steps = h.steps;
      text = t.begins;
      rest = t.following;
      answered = refl;
      begins = t.parts;
      spelt = t.spelt;
      match = record { one_each = one_each initial_state commands outcomes right; in_form = in_form initial_state commands outcomes right; meets = h.meets };
    }
