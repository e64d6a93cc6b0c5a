-- An ask, from its names to its end.
use Rattle.std.proofs.Common.{ℕ, append_assoc, ◌+◌, ◌≤◌, ◌≡◌, inl, inr, true, List, [], ◌∷◌, ◌++◌, map, Option, Some, None, sym, ◌∙◌, ap, subst, zero, suc, arith}
use Rattle.sat_base.specs.values.Literals.{var_limit}
use Rattle.sat_base.specs.script.Script.{Literal, Command, Ask, ScriptEnding, names_of}
use Rattle.sat_base.specs.script.ScriptState.{ScriptState, state_after_accepted, accepted_commands, refusal_of}
use Rattle.sat_base.specs.steps.Steps.{Step}
use Rattle.sat_checker.specs.Accepts.{ready_after}
use Rattle.sat_checker.specs.matching.Checking.{variable_named}
use Rattle.sat_checker.specs.matching.Expected.{Outcome, Sat, Unsat, Unknown, Expected, Fails, Opens, Closes, steps_introducing, step_showing, expected_steps}
use Rattle.certify.specs.answers.AnswerForms.{IsName, HaveNames, NamesStrictlyIncrease, IsPrintable}
use Rattle.certify.specs.answers.Answers.{outcome_text}
use Rattle.certify.specs.confirm.CertificatePlaces.{RestMeets, MeetsExactly, MeetsNoneOf}
use Rattle.certify.specs.confirm.Matches.{CoreIsInOrder}
use Rattle.certify.specs.refusals.Names.{NamesHaveState}
use Rattle.sat_base.specs.script.ScriptStateLaws.{NamesAreIncreasing}
use Rattle.certify.specs.confirm.NamesAfterStep.{AreVariablesOfNames}
use Rattle.certify.specs.confirm.Variables.{variable_in}
use Rattle.certify.specs.declared.refusals.names.Names.{Names}
use Rattle.certify.specs.declared.confirm.variables.NamedVars.{NamedVars}
use Rattle.certify.proofs.lemmas.confirm.LeftByCommand.{Rest, ask_on, ask_back, left_on, left_back, left_barred, HaveVariables, met_shows, met_fails}
use Rattle.certify.proofs.lemmas.answers.AnswerLines.{printed}
use Rattle.certify.proofs.lemmas.laws.DistinctTexts.{same_outcome}
use Rattle.certify.proofs.lemmas.confirm.UsedNames.{used_names, line_form}

-- `Listed j` holds if every line that lists the names in use has valid names in increasing order.
abbrev pub Listed : ScriptState → Type 0
Listed j = (line : List Literal) → names_of line ≡ map (λ n. n.name) j.in_use → HaveNames line × NamesStrictlyIncrease (names_of line)

pub all_listed : (names : Names) (j : ScriptState) → NamesHaveState names j → NamesAreIncreasing j.in_use → Listed j
all_listed names j h up line e =
    let f = h.first in
    let l = h.limit in
    line_form names line (omega arith) (e ∙ used_names names j h up)

-- `Within earlier` holds if every name that has a variable is valid.
abbrev pub Within : List Step → Type 0
Within earlier = (name v : ℕ) → variable_named earlier name ≡ Some v → IsName name

pub all_within : (variables : NamedVars) (earlier : List Step) → AreVariablesOfNames variables earlier → Within earlier
all_within variables earlier s name v e = go name (sym (ap (λ (f : ℕ → Option ℕ). f name) s.named) ∙ e) (s.few name v e)
  where
    go : (name : ℕ) → variable_in variables name ≡ Some v → name ≤ var_limit → IsName name
    go zero e k = absurd (cc)
    go (suc i) e k = (omega arith, k)

variables_named : (earlier : List Step) (core : List Literal) → Within earlier → HaveVariables earlier core → HaveNames core
variables_named earlier [] f h = tt
variables_named earlier (l ∷ ls) f h = (f l.name h.0.0 h.0.1, variables_named earlier ls f h.1)

core_form : (ask core : List Literal) (earlier : List Step) (certificate : List ℕ) (es : List Expected) → Within earlier → RestMeets earlier (Fails ask core ∷ es) certificate → HaveNames core
core_form ask core earlier certificate es named m = elim (met_fails earlier ask core es certificate m) [ inl e ↦ subst HaveNames (sym e) tt | inr h ↦ variables_named earlier core named h ]

-- an outcome whose steps can be met is in form
shown_form : (j : ScriptState) (ask : List Literal) (o : Outcome) (earlier : List Step) (certificate : List ℕ) (es : List Expected) → Listed j → Within earlier → CoreIsInOrder o → RestMeets earlier (step_showing j ask o ++ es) certificate → IsPrintable o
shown_form j ask (Sat line) earlier certificate es listed named form m = listed line (met_shows earlier (map (λ n. n.name) j.in_use) ask line es certificate m)
shown_form j ask (Unsat core) earlier certificate es listed named form m = (core_form ask core earlier certificate es named m, form)
shown_form j ask Unknown earlier certificate es listed named form m = (tt, tt)

form_of : (o : Outcome) → IsPrintable o → CoreIsInOrder o
form_of (Sat line) h = tt
form_of (Unsat core) h = h.1
form_of Unknown h = tt

-- `Answerable j n earlier ask cs ending answers certificate` holds if an outcome can be read next, and the steps that
-- show it and close the ask are still to be met.
pub record Answerable (j : ScriptState) (n : ℕ) (earlier : List Step) (ask : List Literal) (cs : List Command) (ending : ScriptEnding) (answers certificate : List ℕ) : Type 0 where
  pub outcome : Outcome
  pub tail : List ℕ
  pub answered : answers ≡ outcome_text outcome ++ tail
  pub readable : IsPrintable outcome
  pub alone : (ready_after earlier).unsat ≡ true → outcome ≡ Unsat []
  pub left : Rest j n earlier (step_showing j ask outcome ++ (Closes ∷ [])) cs ending tail certificate

module _ (j : ScriptState) (n : ℕ) (ask : List Literal) (cs : List Command) (ending : ScriptEnding) (answers : List ℕ) (e : refusal_of j (Ask ask) ≡ None) where
  -- an ask is not confirmed if the steps for its names cannot be met
  pub ask_unnamed : (first : List Step) (c : List ℕ) → MeetsNoneOf first c (steps_introducing (names_of ask) j) → Rest j n first [] (Ask ask ∷ cs) ending answers c → ⊥
  ask_unnamed first c b l =
      let a = ask_on j n first ask cs ending answers c e l in
      left_barred (Opens ask a.outcome ∷ (step_showing (state_after_accepted (Ask ask) j) ask a.outcome ++ (Closes ∷ []))) (state_after_accepted (Ask ask) j) (n + 1) cs ending a.tail b a.left

  module _ (first second : List Step) (c d : List ℕ) (named : MeetsExactly first c (steps_introducing (names_of ask) j) second d) where
    -- an ask is not confirmed if its assumptions cannot be met
    pub ask_unopened : ((o : Outcome) → MeetsNoneOf second d (Opens ask o ∷ [])) → Rest j n first [] (Ask ask ∷ cs) ending answers c → ⊥
    ask_unopened b l =
        let a = ask_on j n first ask cs ending answers c e l in
        let next = state_after_accepted (Ask ask) j in
        let more = step_showing next ask a.outcome ++ (Closes ∷ []) in
        left_barred more next (n + 1) cs ending a.tail (b a.outcome) (left_on (Opens ask a.outcome ∷ more) next (n + 1) cs ending a.tail named a.left)

    module _ (third : List Step) (f : List ℕ)
        (opened : (o : Outcome) → ((ready_after third).unsat ≡ true → o ≡ Unsat []) → MeetsExactly second d (Opens ask o ∷ []) third f)
        (alone : (o : Outcome) (es : List Expected) → RestMeets second (Opens ask o ∷ es) d → (ready_after third).unsat ≡ true → o ≡ Unsat [])
        (listed : Listed (state_after_accepted (Ask ask) j)) (within : Within third) where
      answerable : Rest j n first [] (Ask ask ∷ cs) ending answers c → Answerable (state_after_accepted (Ask ask) j) (n + 1) third ask cs ending answers f
      answerable l =
          let a = ask_on j n first ask cs ending answers c e l in
          let next = state_after_accepted (Ask ask) j in
          let more = step_showing next ask a.outcome ++ (Closes ∷ []) in
          let here = left_on (Opens ask a.outcome ∷ more) next (n + 1) cs ending a.tail named a.left in
          let allowed : (ready_after third).unsat ≡ true → a.outcome ≡ Unsat [] = λ u. alone a.outcome (more ++ expected_steps next (accepted_commands next cs) here.outcomes) here.certified u in
          let there = left_on more next (n + 1) cs ending a.tail (opened a.outcome allowed) here in
          let following = expected_steps next (accepted_commands next cs) there.outcomes in
          record {
            outcome = a.outcome;
            tail = a.tail;
            answered = a.answered;
            readable = shown_form next ask a.outcome third f (Closes ∷ following) listed within a.in_form (subst (λ es. RestMeets third es f) (append_assoc (step_showing next ask a.outcome) (Closes ∷ []) following) there.certified);
            alone = allowed;
            left = there;
          }

      -- once the outcome was read, the steps that show it are left to confirm
      pub answered_on : (o : Outcome) (tail : List ℕ) → IsPrintable o → answers ≡ outcome_text o ++ tail → Rest j n first [] (Ask ask ∷ cs) ending answers c
          → Rest (state_after_accepted (Ask ask) j) (n + 1) third (step_showing (state_after_accepted (Ask ask) j) ask o ++ (Closes ∷ [])) cs ending tail f
      answered_on o tail form answered l =
          let a = answerable l in
          let same = same_outcome a.outcome o a.tail tail (printed a.outcome a.readable) (printed o form) (sym a.answered ∙ answered) in
          subst (λ t. Rest (state_after_accepted (Ask ask) j) (n + 1) third (step_showing (state_after_accepted (Ask ask) j) ask o ++ (Closes ∷ [])) cs ending t f) same.1
          (subst (λ v. Rest (state_after_accepted (Ask ask) j) (n + 1) third (step_showing (state_after_accepted (Ask ask) j) ask v ++ (Closes ∷ [])) cs ending a.tail f) same.0 a.left)

      pub answered_back : (o : Outcome) (tail : List ℕ) → IsPrintable o → answers ≡ outcome_text o ++ tail → ((ready_after third).unsat ≡ true → o ≡ Unsat [])
          → Rest (state_after_accepted (Ask ask) j) (n + 1) third (step_showing (state_after_accepted (Ask ask) j) ask o ++ (Closes ∷ [])) cs ending tail f → Rest j n first [] (Ask ask ∷ cs) ending answers c
      answered_back o tail form answered allowed h =
          let next = state_after_accepted (Ask ask) j in
          let more = step_showing next ask o ++ (Closes ∷ []) in
          ask_back j n first ask cs ending answers c e (record {
            outcome = o;
            tail = tail;
            answered = answered;
            in_form = form_of o form;
            left = left_back (Opens ask o ∷ more) next (n + 1) cs ending tail named (left_back more next (n + 1) cs ending tail (opened o allowed) h);
          })

      -- an ask is not confirmed if no outcome can be read
      pub ask_unread : ((o : Outcome) (tail : List ℕ) → IsPrintable o → ((ready_after third).unsat ≡ true → o ≡ Unsat []) → answers ≡ outcome_text o ++ tail → ⊥) → Rest j n first [] (Ask ask ∷ cs) ending answers c → ⊥
      ask_unread none l = let a = answerable l in none a.outcome a.tail a.readable a.alone a.answered
