-- Steps that a call makes certify what was expected before it.
use Rattle.std.proofs.Common.{ℕ, ◌≡◌, ◌∙◌, Bool, true, false, Option, Some, None, List, [], ◌∷◌, ◌++◌, map, refl, sym, subst, append_assoc}
use Rattle.std.proofs.lemmas.Bool.{both_ways}
use Rattle.std.specs.List.{AllByRecursion}
use Rattle.sat_base.specs.script.Script.{Literal, Command, Clause, Ask, Hide, Witness, Sample, names_of}
use Rattle.sat_base.specs.script.ScriptState.{ScriptState, NameMode, Sampled, Witnessed, introduce, new_names, with_mode, without_name}
use Rattle.sat_base.specs.steps.Steps.{Step}
use Rattle.sat_checker.specs.Accepts.{effect, ready_after}
use Rattle.sat_checker.proofs.lemmas.invariants.Stored.{unsat_stays}
use Rattle.sat_checker.specs.matching.Checking.{is_ordered}
use Rattle.sat_checker.specs.matching.Expected.{Outcome, Unsat, Expected, NewName, NoName, Adds, Opens, Closes, steps_introducing, steps_hiding, steps_setting_mode}
use Rattle.sat_checker.specs.matching.ProofChecking.{checker_rules}
use Rattle.certify.specs.run.Certifies.{Certifies, IsKnownUnsat, HasRecordedUnsat, CanHaveStep, CanBeOmittedOnceUnsat, left_out, other, ordered, asked, answered}
use Rattle.sat_checker.specs.matching.Traces.{HasTrace, no_step, silent, visible}
use Rattle.certify.specs.run.Stretches.{due_for_command}
use Rattle.certify.proofs.lemmas.confirm.Settled.{settled_unsat}

-- `Leads from to es` holds if whenever further steps are certified after `to`, `es` and the further steps are certified
-- after `from`.
abbrev pub Leads : List Step → List Step → List Expected → Type 0
Leads from to es = (all : List Step) (current : Option Outcome) (e : Expected) (fs : List Expected) (counts : List ℕ)
    → Certifies checker_rules all current to (e ∷ fs) counts → Certifies checker_rules all current from (es ++ (e ∷ fs)) counts

-- `IsFree e` holds if the expected step may be written whether or not unsat is recorded.
abbrev pub IsFree : Expected → Type 0
IsFree e = (unsat : Bool) → CanHaveStep unsat e

-- an unordered step may come before any expected step
other_before : (es : List Expected) {all : List Step} {current : Option Outcome} {earlier : List Step} {step : Step} (e : Expected) (fs : List Expected) {counts : List ℕ}
    → is_ordered step ≡ false → Certifies checker_rules all current (step ∷ earlier) (es ++ (e ∷ fs)) counts → Certifies checker_rules all current earlier (es ++ (e ∷ fs)) counts
other_before [] e fs q c = other q c
other_before (x ∷ es) e fs q c = other q c

-- expected steps that may always be written are certified
pub leads_free : {s t : List Step} {es : List Expected} → HasTrace checker_rules s t es → AllByRecursion IsFree es → Leads s t es
leads_free no_step h = λ all current e fs counts c. c
leads_free (silent {es = es} q m) h = λ all current e fs counts c. other_before es e fs q (leads_free m h all current e fs counts c)
leads_free (visible {s = s} f m) h = λ all current e fs counts c. ordered (h.0 (checker_rules.unsat s)) f (leads_free m h.1 all current e fs counts c)

pub leads_both : {s t u : List Step} (es gs : List Expected) → Leads s t es → Leads t u gs → Leads s u (es ++ gs)
leads_both {s} {t} {u} es gs f g = λ all current e fs counts c.
    subst (λ xs. Certifies checker_rules all current s xs counts) (sym (append_assoc es gs (e ∷ fs))) (following all current e fs counts (g all current e fs counts c))
  where
    following : (all : List Step) (current : Option Outcome) (e : Expected) (fs : List Expected) (counts : List ℕ) → Certifies checker_rules all current t (gs ++ (e ∷ fs)) counts → Certifies checker_rules all current s (es ++ (gs ++ (e ∷ fs))) counts
    following all current e fs counts = at gs
      where
        at : (gs : List Expected) → Certifies checker_rules all current t (gs ++ (e ∷ fs)) counts → Certifies checker_rules all current s (es ++ (gs ++ (e ∷ fs))) counts
        at [] c = f all current e fs counts c
        at (x ∷ xs) c = f all current x (xs ++ (e ∷ fs)) counts c

-- an expected step that may be left out
pub leads_lacking : (s : List Step) (e : Expected) → CanBeOmittedOnceUnsat e → HasRecordedUnsat checker_rules s → Leads s s (e ∷ [])
leads_lacking s x h r = λ all current e fs counts c. left_out h r c

-- once recorded, unsat stays recorded
stays_once : (s : List Step) (step : Step) → checker_rules.unsat s ≡ true → checker_rules.unsat (step ∷ s) ≡ true
stays_once s step u = settled_unsat (effect step (ready_after s)) ∙ unsat_stays (ready_after s) step u

-- unsat stays recorded
pub unsat_made : {s t : List Step} {es : List Expected} → HasTrace checker_rules s t es → checker_rules.unsat s ≡ true → checker_rules.unsat t ≡ true
unsat_made no_step u = u
unsat_made (silent {s = s} {step = step} q m) u = unsat_made m (stays_once s step u)
unsat_made (visible {s = s} {step = step} f m) u = unsat_made m (stays_once s step u)

going_by : {s t : List Step} {es : List Expected} → HasTrace checker_rules s t es → checker_rules.unsat t ≡ false → checker_rules.unsat s ≡ false
going_by {s} {t} m g = at (checker_rules.unsat s) refl
  where
    at : (b : Bool) → checker_rules.unsat s ≡ b → checker_rules.unsat s ≡ false
    at false e = e
    at true e = absurd (both_ways (checker_rules.unsat t) g (unsat_made m e))

-- an ask is opened
pub opens_ask : {s t : List Step} {ls : List Literal} {o : Outcome} (n : ℕ) → HasTrace checker_rules s t (Opens ls o ∷ []) → (checker_rules.unsat t ≡ true → IsKnownUnsat o n)
    → (all : List Step) (e : Expected) (fs : List Expected) (counts : List ℕ) → Certifies checker_rules all (Some o) t (e ∷ fs) counts → Certifies checker_rules all None s (Opens ls o ∷ e ∷ fs) (n ∷ counts)
opens_ask n (silent q m) known all e fs counts c = other q (opens_ask n m known all e fs counts c)
opens_ask n (visible {s = s} {step = step} f m) known all e fs counts c =
    asked (λ u. known (unsat_made m (stays_once s step u))) f (leads_free m tt all (Some _) e fs counts c)

-- an ask is closed
pub closes_ask : {s t : List Step} {o : Outcome} → HasTrace checker_rules s t (Closes ∷ []) → (checker_rules.unsat t ≡ true → o ≡ Unsat [])
    → (all : List Step) (e : Expected) (fs : List Expected) (counts : List ℕ) → Certifies checker_rules all None t (e ∷ fs) counts → Certifies checker_rules all (Some o) s (Closes ∷ e ∷ fs) counts
closes_ask (silent q m) known all e fs counts c = other q (closes_ask m known all e fs counts c)
closes_ask (visible {s = s} {step = step} f m) known all e fs counts c =
    answered (λ u. known (unsat_made m (stays_once s step u))) f (leads_free m tt all None e fs counts c)

-- `IsGoing e` holds if the expected step may be written if unsat is not recorded.
abbrev pub IsGoing : Expected → Type 0
IsGoing e = CanHaveStep false e

-- the expected steps of a call that does not record unsat
pub leads_going : {s t : List Step} {es : List Expected} → HasTrace checker_rules s t es → checker_rules.unsat t ≡ false → AllByRecursion IsGoing es → Leads s t es
leads_going no_step g h = λ all current e fs counts c. c
leads_going (silent {es = es} q m) g h = λ all current e fs counts c. other_before es e fs q (leads_going m g h all current e fs counts c)
leads_going {t = t} (visible {s = s} {step = step} {e = x} f m) g h = λ all current e fs counts c.
    ordered (subst (λ b. CanHaveStep b x) (sym (going_by (visible f m) g)) h.0) f (leads_going m g h.1 all current e fs counts c)

-- the steps that introduce and remove names may be written whether or not unsat is recorded
free_both : (es fs : List Expected) → AllByRecursion IsFree es → AllByRecursion IsFree fs → AllByRecursion IsFree (es ++ fs)
free_both [] fs h k = k
free_both (e ∷ es) fs h k = (h.0, free_both es fs h.1 k)

names_free : (names : List ℕ) → AllByRecursion IsFree (map NewName names)
names_free [] = tt
names_free (n ∷ ns) = ((λ b. tt), names_free ns)

-- the steps that introduce names may always be written
pub bringing_free : (names : List ℕ) (j : ScriptState) → AllByRecursion IsFree (steps_introducing names j)
bringing_free [] j = tt
bringing_free (name ∷ names) j = free_both (map NewName (new_names name j)) (steps_introducing names (introduce name j)) (names_free (new_names name j)) (bringing_free names (introduce name j))

hiding_free : (names : List ℕ) (j : ScriptState) → AllByRecursion IsFree (steps_hiding names j)
hiding_free [] j = tt
hiding_free (name ∷ names) j =
    let next = without_name name (introduce name j) in
    free_both (map NewName (new_names name j)) (NoName name ∷ steps_hiding names next) (names_free (new_names name j)) ((λ b. tt), hiding_free names next)

setting_free : (mode : NameMode) (names : List ℕ) (j : ScriptState) → AllByRecursion IsFree (steps_setting_mode mode names j)
setting_free mode [] j = tt
setting_free mode (name ∷ names) j =
    let next = with_mode mode name (introduce name j) in
    free_both (map NewName (new_names name j)) (steps_setting_mode mode names next) (names_free (new_names name j)) (setting_free mode names next)

-- the steps due for any command may be written whether or not unsat is recorded
pub due_free : (unsat : Bool) (c : Command) (j : ScriptState) → AllByRecursion IsFree (due_for_command unsat c j)
due_free true (Clause ls) j = free_both (steps_introducing (names_of ls) j) [] (bringing_free (names_of ls) j) tt
due_free false (Clause ls) j = free_both (steps_introducing (names_of ls) j) (Adds ls ∷ []) (bringing_free (names_of ls) j) ((λ b. tt), tt)
due_free unsat (Ask ls) j = tt
due_free unsat (Hide names) j = hiding_free names j
due_free unsat (Witness names) j = setting_free Witnessed names j
due_free unsat (Sample names) j = setting_free Sampled names j
