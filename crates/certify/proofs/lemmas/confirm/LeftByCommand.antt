-- What is left to confirm, command by command.
use Rattle.std.proofs.Common.{ℕ, ◌+◌, ◌≡◌, ◌↔◌, ◌⊎◌, inl, inr, List, [], ◌∷◌, ◌++◌, Option, Some, None, refl, sym, ◌∙◌, ap, subst, append_assoc}
use Rattle.std.specs.List.{AllByRecursion}
use Rattle.sat_base.specs.script.Script.{Literal, Command, Ask, ScriptEnding, names_of}
use Rattle.sat_base.specs.script.ScriptState.{ScriptState, Refusal, state_after_accepted, accepted_commands, refusal_of, initial_state}
use Rattle.sat_base.specs.steps.Steps.{Step}
use Rattle.certify.specs.answers.Answers.{answers_from, refused_line, outcome_text, outcomes_left, answer_to_command, ending_text}
use Rattle.sat_checker.specs.matching.Expected.{Outcome, EachHasItsLiteral, Expected, Opens, Shows, Fails, Closes, Finish, steps_introducing, step_showing, expected_steps, shows, fails}
use Rattle.sat_checker.specs.matching.Checking.{variable_named}
use Rattle.certify.specs.confirm.Matches.{OneOutcomePerAsk, CoreIsInOrder, Meets, cut, other, ordered, MatchesCommands}
use Rattle.certify.specs.confirm.LeftToMatch.{RemainsToMatch, AskRemainsToMatch}
use Rattle.sat_checker.specs.matching.ProofChecking.{checker_rules}
use Rattle.certify.specs.confirm.CertificatePlaces.{RestMeets, MeetsExactly, MeetsNoneOf}
use Rattle.certify.proofs.lemmas.confirm.StepTags.{unordered_names}

-- `Rest j n earlier pending commands ending answers certificate` holds if the rest matches from command `n` on.
abbrev pub Rest : ScriptState → ℕ → List Step → List Expected → List Command → ScriptEnding → List ℕ → List ℕ → Type 0
Rest j n earlier pending commands ending answers certificate = RemainsToMatch checker_rules j n earlier pending commands ending answers certificate

-- what matches is what remains to be matched at the start
pub left_begins : (commands : List Command) (ending : ScriptEnding) (answers certificate : List ℕ) → MatchesCommands checker_rules commands ending answers certificate ↔ Rest initial_state 1 [] [] commands ending answers certificate
left_begins commands ending answers certificate = (
  (λ m. record { outcomes = m.outcomes; answered = m.answered; one_each = m.match.one_each; in_form = m.match.in_form; certified = record { steps = m.steps; text = m.text; rest = m.rest; begins = m.begins; spelt = m.spelt; meets = m.match.meets } }),
  (λ l. let c = l.certified in record { outcomes = l.outcomes; steps = c.steps; text = c.text; rest = c.rest; answered = l.answered; begins = c.begins; spelt = c.spelt; match = record { one_each = l.one_each; in_form = l.in_form; meets = c.meets } }),
)

-- the answer to a refused command is its line
pub refused_on : (j : ScriptState) (n : ℕ) (earlier : List Step) (c : Command) (cs : List Command) (ending : ScriptEnding) (answers certificate : List ℕ) (refusal : Refusal) → refusal_of j c ≡ Some refusal
    → Rest j n earlier [] (c ∷ cs) ending answers certificate → (tail : List ℕ) × (answers ≡ refused_line n refusal ++ tail) × Rest j (n + 1) earlier [] cs ending tail certificate
refused_on j n earlier c cs ending answers certificate refusal e l =
    (answers_from (n + 1) j cs ending l.outcomes, rw e at l.answered, record { outcomes = l.outcomes; answered = refl; one_each = rw e at l.one_each; in_form = l.in_form; certified = rw e at l.certified })

-- if the rest after a refused command matches, so does the rest before it
pub refused_back : (j : ScriptState) (n : ℕ) (earlier : List Step) (c : Command) (cs : List Command) (ending : ScriptEnding) (answers tail certificate : List ℕ) (refusal : Refusal) → refusal_of j c ≡ Some refusal
    → answers ≡ refused_line n refusal ++ tail → Rest j (n + 1) earlier [] cs ending tail certificate → Rest j n earlier [] (c ∷ cs) ending answers certificate
refused_back j n earlier c cs ending answers tail certificate refusal e a l =
    record { outcomes = l.outcomes; answered = rw e (a ∙ ap (λ t. refused_line n refusal ++ t) l.answered); one_each = rw e l.one_each; in_form = l.in_form; certified = rw e l.certified }

-- the answer to an accepted ask is the text of an outcome
module _ (j : ScriptState) (n : ℕ) (earlier : List Step) (ls : List Literal) (cs : List Command) (ending : ScriptEnding) (answers certificate : List ℕ) where
  same : (v : Outcome) (vs : List Outcome) → (steps_introducing (names_of ls) j ++ (Opens ls v ∷ (step_showing (state_after_accepted (Ask ls) j) ls v ++ (Closes ∷ [])))) ++ expected_steps (state_after_accepted (Ask ls) j) (accepted_commands (state_after_accepted (Ask ls) j) cs) vs
      ≡ steps_introducing (names_of ls) j ++ (Opens ls v ∷ (step_showing (state_after_accepted (Ask ls) j) ls v ++ (Closes ∷ expected_steps (state_after_accepted (Ask ls) j) (accepted_commands (state_after_accepted (Ask ls) j) cs) vs)))
  same v vs = append_assoc (steps_introducing (names_of ls) j) (Opens ls v ∷ (step_showing (state_after_accepted (Ask ls) j) ls v ++ (Closes ∷ []))) (expected_steps (state_after_accepted (Ask ls) j) (accepted_commands (state_after_accepted (Ask ls) j) cs) vs)
      ∙ ap (λ es. steps_introducing (names_of ls) j ++ (Opens ls v ∷ es)) (append_assoc (step_showing (state_after_accepted (Ask ls) j) ls v) (Closes ∷ []) (expected_steps (state_after_accepted (Ask ls) j) (accepted_commands (state_after_accepted (Ask ls) j) cs) vs))

  to : (vs : List Outcome) → OneOutcomePerAsk (Ask ls ∷ accepted_commands (state_after_accepted (Ask ls) j) cs) vs → AllByRecursion CoreIsInOrder vs
      → answers ≡ answer_to_command n None (Ask ls) vs ++ answers_from (n + 1) (state_after_accepted (Ask ls) j) cs ending (outcomes_left None (Ask ls) vs)
      → RestMeets earlier (expected_steps j (Ask ls ∷ accepted_commands (state_after_accepted (Ask ls) j) cs) vs) certificate
      → AskRemainsToMatch checker_rules (state_after_accepted (Ask ls) j) (n + 1) earlier (steps_introducing (names_of ls) j) ls cs ending answers certificate
  to [] o f a m = absurd o
  to (v ∷ vs) o f a m = record {
    outcome = v;
    tail = answers_from (n + 1) (state_after_accepted (Ask ls) j) cs ending vs;
    answered = a;
    in_form = f.0;
    left = record { outcomes = vs; answered = refl; one_each = o; in_form = f.1; certified = subst (λ es. RestMeets earlier es certificate) (sym (same v vs)) m };
  }

  -- before an ask, the rest matches only if it does from the answer on
  pub ask_on : refusal_of j (Ask ls) ≡ None → Rest j n earlier [] (Ask ls ∷ cs) ending answers certificate → AskRemainsToMatch checker_rules (state_after_accepted (Ask ls) j) (n + 1) earlier (steps_introducing (names_of ls) j) ls cs ending answers certificate
  ask_on e l = to l.outcomes (rw e at l.one_each) l.in_form (rw e at l.answered) (rw e at l.certified)

  -- if the rest matches from the answer to an ask on, it does before the ask
  pub ask_back : refusal_of j (Ask ls) ≡ None → AskRemainsToMatch checker_rules (state_after_accepted (Ask ls) j) (n + 1) earlier (steps_introducing (names_of ls) j) ls cs ending answers certificate → Rest j n earlier [] (Ask ls ∷ cs) ending answers certificate
  ask_back e p =
      let l = p.left in
      record {
        outcomes = p.outcome ∷ l.outcomes;
        answered = rw e (p.answered ∙ ap (λ t. outcome_text p.outcome ++ t) l.answered);
        one_each = rw e l.one_each;
        in_form = (p.in_form, l.in_form);
        certified = rw e (subst (λ es. RestMeets earlier es certificate) (same p.outcome l.outcomes) l.certified);
      }

-- once the pending steps `p` are met, `q` and the rest are left
pub left_on : {earlier later : List Step} {certificate rest : List ℕ} {p : List Expected} (q : List Expected) (j : ScriptState) (n : ℕ) (cs : List Command) (ending : ScriptEnding) (answers : List ℕ)
    → MeetsExactly earlier certificate p later rest → Rest j n earlier (p ++ q) cs ending answers certificate → Rest j n later q cs ending answers rest
left_on {earlier} {later} {certificate} {rest} {p} q j n cs ending answers l m =
    let more = expected_steps j (accepted_commands j cs) m.outcomes in
    record { outcomes = m.outcomes; answered = m.answered; one_each = m.one_each; in_form = m.in_form; certified = l.on (q ++ more) (subst (λ es. RestMeets earlier es certificate) (append_assoc p q more) m.certified) }

-- if the rest matches after the expected steps, it does before them
pub left_back : {earlier later : List Step} {certificate rest : List ℕ} {p : List Expected} (q : List Expected) (j : ScriptState) (n : ℕ) (cs : List Command) (ending : ScriptEnding) (answers : List ℕ)
    → MeetsExactly earlier certificate p later rest → Rest j n later q cs ending answers rest → Rest j n earlier (p ++ q) cs ending answers certificate
left_back {earlier} {later} {certificate} {rest} {p} q j n cs ending answers l m =
    let more = expected_steps j (accepted_commands j cs) m.outcomes in
    record { outcomes = m.outcomes; answered = m.answered; one_each = m.one_each; in_form = m.in_form; certified = subst (λ es. RestMeets earlier es certificate) (sym (append_assoc p q more)) (l.back (q ++ more) m.certified) }

-- if the expected steps cannot be met, the rest does not match
pub left_barred : {earlier : List Step} {certificate : List ℕ} {p : List Expected} (q : List Expected) (j : ScriptState) (n : ℕ) (cs : List Command) (ending : ScriptEnding) (answers : List ℕ)
    → MeetsNoneOf earlier certificate p → Rest j n earlier (p ++ q) cs ending answers certificate → ⊥
left_barred {earlier} {certificate} {p} q j n cs ending answers b m =
    let more = expected_steps j (accepted_commands j cs) m.outcomes in
    b.none (q ++ more) (subst (λ es. RestMeets earlier es certificate) (append_assoc p q more) m.certified)

-- if no command is left, only the last line and the end of the certificate are
pub end_on : (j : ScriptState) (n : ℕ) (earlier : List Step) (ending : ScriptEnding) (answers certificate : List ℕ) → Rest j n earlier [] [] ending answers certificate → (answers ≡ ending_text n ending) × RestMeets earlier (Finish ∷ []) certificate
end_on j n earlier ending answers certificate l = go l.outcomes l.one_each l.answered l.certified
  where
    go : (vs : List Outcome) → OneOutcomePerAsk [] vs → answers ≡ answers_from n j [] ending vs → RestMeets earlier (expected_steps j [] vs) certificate → (answers ≡ ending_text n ending) × RestMeets earlier (Finish ∷ []) certificate
    go [] o a m = (a, m)
    go (v ∷ vs) o a m = absurd o

-- if the answers end and the end of the certificate is met, the rest matches
pub end_back : (j : ScriptState) (n : ℕ) (earlier : List Step) (ending : ScriptEnding) (answers certificate : List ℕ) → answers ≡ ending_text n ending → RestMeets earlier (Finish ∷ []) certificate → Rest j n earlier [] [] ending answers certificate
end_back j n earlier ending answers certificate a m = record { outcomes = []; answered = a; one_each = tt; in_form = tt; certified = m }

-- a model line that is met lists exactly these names
shown_names : (earlier steps : List Step) (names : List ℕ) (ask line : List Literal) (es : List Expected) → Meets checker_rules earlier steps (Shows names ask line ∷ es) → names_of line ≡ names
shown_names earlier steps names ask line es (cut u x) = absurd x.0
shown_names earlier (step ∷ steps) names ask line es (other u n a m) = shown_names (step ∷ earlier) steps names ask line es m
shown_names earlier (step ∷ steps) names ask line es (ordered u (shows n s k) a m) = n

pub met_shows : (earlier : List Step) (names : List ℕ) (ask line : List Literal) (es : List Expected) (certificate : List ℕ) → RestMeets earlier (Shows names ask line ∷ es) certificate → names_of line ≡ names
met_shows earlier names ask line es certificate m = shown_names earlier m.steps names ask line es m.meets

-- `HaveVariables earlier core` holds if the name of every literal has a variable.
abbrev pub HaveVariables : List Step → List Literal → Type 0
HaveVariables earlier core = AllByRecursion (λ l. (v : ℕ) × (variable_named earlier l.name ≡ Some v)) core

have_variables : (names : ℕ → Option ℕ) (core : List Literal) (codes : List ℕ) → EachHasItsLiteral names core codes → AllByRecursion (λ l. (v : ℕ) × (names l.name ≡ Some v)) core
have_variables names [] codes s = tt
have_variables names (l ∷ ls) codes s = ((s.0.1.variable, s.0.1.named), have_variables names ls codes s.1)

failed_core : (earlier steps : List Step) (ask core : List Literal) (es : List Expected) → Meets checker_rules earlier steps (Fails ask core ∷ es) → (core ≡ []) ⊎ HaveVariables earlier core
failed_core earlier steps ask core es (cut u x) = inl x.0
failed_core earlier (step ∷ steps) ask core es (other u n a m) =
    elim (failed_core (step ∷ earlier) steps ask core es m) [
      | inl e ↦ inl e
      | inr h ↦ inr (subst (λ names. AllByRecursion (λ l. (v : ℕ) × (names l.name ≡ Some v)) core) (unordered_names step earlier n) h)
    ]
failed_core earlier (step ∷ steps) ask core es (ordered u (fails {c = c} s) a m) = inr (have_variables (variable_named earlier) core c s.0)

pub met_fails : (earlier : List Step) (ask core : List Literal) (es : List Expected) (certificate : List ℕ) → RestMeets earlier (Fails ask core ∷ es) certificate → (core ≡ []) ⊎ HaveVariables earlier core
met_fails earlier ask core es certificate m = failed_core earlier m.steps ask core es m.meets
