-- The steps that a solver made for commands certify the commands.
use Rattle.std.proofs.Common.{ℕ, ◌≡◌, ◌∙◌, Bool, true, false, None, Some, List, [], ◌∷◌, ◌++◌, refl, sym, ap, subst, append_assoc, append-nil}
use Rattle.std.proofs.lemmas.Bool.{both_ways}
use Rattle.std.specs.List.{AllByRecursion}
use Rattle.sat_base.specs.script.Script.{Literal, Command, Clause, Ask, Hide, Witness, Sample, names_of}
use Rattle.sat_base.specs.script.ScriptState.{ScriptState, Sampled, Witnessed, state_after_accepted}
use Rattle.sat_base.specs.steps.Steps.{Step}
use Rattle.sat_checker.specs.matching.Expected.{Outcome, Sat, Unsat, Unknown, Expected, Adds, Opens, Fails, Closes, Finish, steps_introducing, steps_hiding, steps_setting_mode, step_showing, expected_steps}
use Rattle.sat_checker.specs.matching.ProofChecking.{checker_rules}
use Rattle.sat_solver.specs.session.Session.{AreAllowedSteps}
use Rattle.certify.specs.run.Certifies.{Certifies}
use Rattle.sat_checker.specs.matching.Traces.{HasTrace}
use Rattle.certify.specs.run.Stretches.{MakesAskSteps, IsNoAsk, ServesCommands, due_for_command, made_ask, made_none, made_one, showing_if}
use Rattle.certify.proofs.lemmas.run.Closing.{closing}
use Rattle.sat_checker.proofs.lemmas.matching.Traces.{trace_apart}
use Rattle.certify.proofs.lemmas.run.Making.{IsGoing, Leads, bringing_free, closes_ask, due_free, leads_both, leads_free, leads_going, leads_lacking, opens_ask, unsat_made}
use Rattle.certify.proofs.lemmas.run.Recorded.{recorded_at}

-- EARLIER STEPS

-- if steps are allowed, so are the earlier ones among them
may_before : (later earlier : List Step) → AreAllowedSteps (later ++ earlier) → AreAllowedSteps earlier
may_before [] earlier m = m
may_before (step ∷ later) earlier m = may_before later earlier m.0

may_at : (from to later : List Step) → to ≡ later ++ from → AreAllowedSteps to → AreAllowedSteps from
may_at from to later e m = may_before later from (subst AreAllowedSteps e m)

following_both : (from mid to xs ys : List Step) → mid ≡ xs ++ from → to ≡ ys ++ mid → to ≡ (ys ++ xs) ++ from
following_both from mid to xs ys a b = b ∙ ap (λ s. ys ++ s) a ∙ sym (append_assoc ys xs from)

made_after : {j : ScriptState} {from to : List Step} {cs : List Command} {os : List Outcome} {counts : List ℕ} → ServesCommands j from to cs os counts → (later : List Step) × (to ≡ later ++ from)
made_after made_none = ([], refl)
made_after (made_one {from = from} {to = to} mid h s m) = let r = made_after m in (r.0 ++ s.comes.steps, following_both from mid to s.comes.steps r.0 s.comes.following r.1)
made_after (made_ask {from = from} {to = to} mid a m) =
    let r = made_after m in
    let x = a.opens.comes in let y = a.searches.comes in let z = a.closes.comes in
    let searched = following_both from a.opened a.shown x.steps y.steps x.following y.following in
    let whole = following_both from a.shown mid (y.steps ++ x.steps) z.steps searched z.following in
    (r.0 ++ (z.steps ++ (y.steps ++ x.steps)), following_both from mid to (z.steps ++ (y.steps ++ x.steps)) r.0 whole r.1)

-- A STEP IS ALWAYS EXPECTED

expects_more : (j : ScriptState) (cs : List Command) (os : List Outcome) → (e : Expected) × (es : List Expected) × (expected_steps j cs os ≡ e ∷ es)
expects_more j [] os = (Finish, [], refl)
expects_more j (Clause ls ∷ cs) os = some (steps_introducing (names_of ls) j) (Adds ls) (expected_steps (state_after_accepted (Clause ls) j) cs os)
  where
    some : (xs : List Expected) (e : Expected) (es : List Expected) → (f : Expected) × (fs : List Expected) × (xs ++ (e ∷ es) ≡ f ∷ fs)
    some [] e es = (e, es, refl)
    some (x ∷ xs) e es = (x, xs ++ (e ∷ es), refl)
expects_more j (Ask ls ∷ cs) [] = (Finish, [], refl)
expects_more j (Ask ls ∷ cs) (o ∷ os) = some (steps_introducing (names_of ls) j) (Opens ls o) (step_showing (state_after_accepted (Ask ls) j) ls o ++ (Closes ∷ expected_steps (state_after_accepted (Ask ls) j) cs os))
  where
    some : (xs : List Expected) (e : Expected) (es : List Expected) → (f : Expected) × (fs : List Expected) × (xs ++ (e ∷ es) ≡ f ∷ fs)
    some [] e es = (e, es, refl)
    some (x ∷ xs) e es = (x, xs ++ (e ∷ es), refl)
expects_more j (Hide names ∷ cs) os = either (steps_hiding names j) (expects_more (state_after_accepted (Hide names) j) cs os)
  where
    either : (xs : List Expected) {es : List Expected} → (e : Expected) × (fs : List Expected) × (es ≡ e ∷ fs) → (f : Expected) × (fs : List Expected) × (xs ++ es ≡ f ∷ fs)
    either [] h = h
    either (x ∷ xs) {es} h = (x, xs ++ es, refl)
expects_more j (Witness names ∷ cs) os = either (steps_setting_mode Witnessed names j) (expects_more (state_after_accepted (Witness names) j) cs os)
  where
    either : (xs : List Expected) {es : List Expected} → (e : Expected) × (fs : List Expected) × (es ≡ e ∷ fs) → (f : Expected) × (fs : List Expected) × (xs ++ es ≡ f ∷ fs)
    either [] h = h
    either (x ∷ xs) {es} h = (x, xs ++ es, refl)
expects_more j (Sample names ∷ cs) os = either (steps_setting_mode Sampled names j) (expects_more (state_after_accepted (Sample names) j) cs os)
  where
    either : (xs : List Expected) {es : List Expected} → (e : Expected) × (fs : List Expected) × (es ≡ e ∷ fs) → (f : Expected) × (fs : List Expected) × (xs ++ es ≡ f ∷ fs)
    either [] h = h
    either (x ∷ xs) {es} h = (x, xs ++ es, refl)

-- A COMMAND THAT IS NO ASK

expects_next : (j : ScriptState) (c : Command) (cs : List Command) (os : List Outcome) → IsNoAsk c → expected_steps j (c ∷ cs) os ≡ due_for_command false c j ++ expected_steps (state_after_accepted c j) cs os
expects_next j (Clause ls) cs os h = sym (append_assoc (steps_introducing (names_of ls) j) (Adds ls ∷ []) (expected_steps (state_after_accepted (Clause ls) j) cs os))
expects_next j (Ask ls) cs os h = absurd h
expects_next j e cs os h = refl

-- the steps in `es` are certified before those of more commands
leads_expected : {s t : List Step} (es : List Expected) → Leads s t es → (all : List Step) (j : ScriptState) (cs : List Command) (os : List Outcome) (counts : List ℕ)
    → Certifies checker_rules all None t (expected_steps j cs os) counts → Certifies checker_rules all None s (es ++ expected_steps j cs os) counts
leads_expected {s} {t} es leads all j cs os counts c =
    let m = expects_more j cs os in
    subst (λ fs. Certifies checker_rules all None s (es ++ fs) counts) (sym m.2)
    (leads all None m.0 m.1 counts (subst (λ fs. Certifies checker_rules all None t fs counts) m.2 c))

-- the steps of a command are certified, with its clause left out once unsat is recorded
plain_leads : (from mid : List Step) (j : ScriptState) (c : Command) → HasTrace checker_rules from mid (due_for_command (checker_rules.unsat from) c j) → AreAllowedSteps mid → Leads from mid (due_for_command false c j)
plain_leads from mid j c m may = at (checker_rules.unsat from) refl
  where
    left_out : (c : Command) → checker_rules.unsat from ≡ true → HasTrace checker_rules from mid (due_for_command true c j) → Leads from mid (due_for_command false c j)
    left_out (Clause ls) u m =
        let names : HasTrace checker_rules from mid (steps_introducing (names_of ls) j) = subst (λ es. HasTrace checker_rules from mid es) (append-nil (steps_introducing (names_of ls) j)) m in
        leads_both (steps_introducing (names_of ls) j) (Adds ls ∷ []) (leads_free names (bringing_free (names_of ls) j)) (leads_lacking mid (Adds ls) tt (recorded_at mid may (unsat_made m u)))
    left_out (Ask ls) u m = leads_free m (due_free true (Ask ls) j)
    left_out (Hide names) u m = leads_free m (due_free true (Hide names) j)
    left_out (Witness names) u m = leads_free m (due_free true (Witness names) j)
    left_out (Sample names) u m = leads_free m (due_free true (Sample names) j)

    at : (b : Bool) → checker_rules.unsat from ≡ b → Leads from mid (due_for_command false c j)
    at true e = left_out c e (subst (λ b. HasTrace checker_rules from mid (due_for_command b c j)) e m)
    at false e = leads_free (subst (λ b. HasTrace checker_rules from mid (due_for_command b c j)) e m) (due_free false c j)

-- AN ASK

showing_going : (j : ScriptState) (ls : List Literal) (o : Outcome) → AllByRecursion IsGoing (step_showing j ls o)
showing_going j ls (Sat line) = (refl, tt)
showing_going j ls (Unsat core) = (refl, tt)
showing_going j ls Unknown = tt

-- the step that shows an outcome is certified, or left out once unsat is recorded
shown_leads : {opened shown : List Step} (j : ScriptState) (ls : List Literal) (o : Outcome) → HasTrace checker_rules opened shown (showing_if (checker_rules.unsat shown) j ls o)
    → (checker_rules.unsat shown ≡ true → o ≡ Unsat []) → AreAllowedSteps shown → Leads opened shown (step_showing j ls o)
shown_leads {opened} {shown} j ls o m recorded may = at (checker_rules.unsat shown) refl
  where
    at : (b : Bool) → checker_rules.unsat shown ≡ b → Leads opened shown (step_showing j ls o)
    at true e =
        let none : HasTrace checker_rules opened shown [] = subst (λ b. HasTrace checker_rules opened shown (showing_if b j ls o)) e m in
        let all : Leads opened shown (Fails ls [] ∷ []) = leads_both [] (Fails ls [] ∷ []) (leads_free none tt) (leads_lacking shown (Fails ls []) refl (recorded_at shown may e)) in
        subst (λ o. Leads opened shown (step_showing j ls o)) (sym (recorded e)) all
    at false e = leads_going (subst (λ b. HasTrace checker_rules opened shown (showing_if b j ls o)) e m) e (showing_going j ls o)

module _ {from to : List Step} {j : ScriptState} {ls : List Literal} {o : Outcome} {rounds : ℕ} (a : MakesAskSteps j ls o rounds from to) (may : AreAllowedSteps to) where
  may_shown : AreAllowedSteps a.shown
  may_shown = may_at a.shown to a.closes.comes.steps a.closes.comes.following may

  -- if unsat is recorded after an ask, its outcome is the empty core
  knows : checker_rules.unsat to ≡ true → o ≡ Unsat []
  knows u = at (checker_rules.unsat a.shown) refl
    where
      at : (b : Bool) → checker_rules.unsat a.shown ≡ b → o ≡ Unsat []
      at true e = a.recorded e
      at false e = absurd (both_ways (checker_rules.unsat to) (closing a.closes.due (refl, tt) a.closes.comes.steps a.closes.comes.following a.closes.comes.each e) u)

  opening : (all : List Step) (counts : List ℕ) (s : List Step) → HasTrace checker_rules s a.opened (Opens ls o ∷ []) → (es : List Expected) (e : Expected) (fs : List Expected)
      → Certifies checker_rules all (Some o) a.opened (es ++ (e ∷ fs)) counts → Certifies checker_rules all None s (Opens ls o ∷ (es ++ (e ∷ fs))) (rounds ∷ counts)
  opening all counts s m [] e fs x = opens_ask rounds m a.known all e fs counts x
  opening all counts s m (y ∷ es) e fs x = opens_ask rounds m a.known all y (es ++ (e ∷ fs)) counts x

  ask_leads : (all : List Step) (cs : List Command) (os : List Outcome) (counts : List ℕ) → Certifies checker_rules all None to (expected_steps (state_after_accepted (Ask ls) j) cs os) counts
      → Certifies checker_rules all None from (expected_steps j (Ask ls ∷ cs) (o ∷ os)) (rounds ∷ counts)
  ask_leads all cs os counts c =
      let next = state_after_accepted (Ask ls) j in
      let m = expects_more next cs os in
      let split = trace_apart (steps_introducing (names_of ls) j) (Opens ls o ∷ []) a.opens.due in
      let closed : Certifies checker_rules all (Some o) a.shown (Closes ∷ m.0 ∷ m.1) counts = closes_ask a.closes.due knows all m.0 m.1 counts (subst (λ fs. Certifies checker_rules all None to fs counts) m.2 c) in
      let shown : Certifies checker_rules all (Some o) a.opened (step_showing next ls o ++ (Closes ∷ m.0 ∷ m.1)) counts = shown_leads next ls o a.searches.due a.recorded may_shown all (Some o) Closes (m.0 ∷ m.1) counts closed in
      let opened : Certifies checker_rules all None split.0 (Opens ls o ∷ (step_showing next ls o ++ (Closes ∷ m.0 ∷ m.1))) (rounds ∷ counts) = opening all counts split.0 split.2 (step_showing next ls o) Closes (m.0 ∷ m.1) shown in
      subst (λ fs. Certifies checker_rules all None from (steps_introducing (names_of ls) j ++ (Opens ls o ∷ (step_showing next ls o ++ (Closes ∷ fs)))) (rounds ∷ counts)) (sym m.2)
      (leads_free split.1 (bringing_free (names_of ls) j) all None (Opens ls o) (step_showing next ls o ++ (Closes ∷ m.0 ∷ m.1)) (rounds ∷ counts) opened)

-- ALL COMMANDS

pub made_certifies : {j : ScriptState} {from to : List Step} {cs : List Command} {os : List Outcome} {counts : List ℕ} (all : List Step) → ServesCommands j from to cs os counts → AreAllowedSteps to
    → Certifies checker_rules all None to (Finish ∷ []) [] → Certifies checker_rules all None from (expected_steps j cs os) counts
made_certifies all made_none may last = last
made_certifies {j} {from} {to} all (made_one {c = c} {cs = cs} {os = os} {counts = counts} mid h s m) may last =
    let r = made_after m in
    subst (λ es. Certifies checker_rules all None from es counts) (sym (expects_next j c cs os h))
    (leads_expected (due_for_command false c j) (plain_leads from mid j c s.due (may_at mid to r.0 r.1 may)) all (state_after_accepted c j) cs os counts (made_certifies all m may last))
made_certifies {to = to} all (made_ask {cs = cs} {os = os} {counts = counts} mid a m) may last =
    let r = made_after m in
    ask_leads a (may_at mid to r.0 r.1 may) all cs os counts (made_certifies all m may last)
