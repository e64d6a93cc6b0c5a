-- Why the guarantee of `certify_over` implies the headline.
use Rattle.std.proofs.Common.{ℕ, ◌+◌, ◌≡◌, ◌∙◌, List, [], ◌∷◌, map, refl, sym, ap, subst}
use Rattle.std.specs.Prelude.{◌↔◌, length}
use Rattle.sat_base.specs.script.Script.{Command}
use Rattle.sat_base.specs.script.ScriptState.{accepted_commands, initial_state as code_initial}
use Rattle.sat_base.specs.script.Language.{Reading, reading}
use Rattle.sat_base.specs.steps.Steps.{Step}
use Rattle.sat_checker.specs.matching.Expected.{Outcome, Unknown}
use Rattle.sat_checker.specs.matching.ProofChecking.{checker_rules}
use Rattle.certify.specs.answers.Answers.{answers_text}
use Rattle.certify.specs.answers.AnswersText.{event_lines}
use Rattle.certify.specs.answers.Events.{Event, Refused, Asked, MalformedAt, EachIsRight, events, refusals_among, variables_at}
use Rattle.certify.specs.answers.RightAnswers.{AnswersAreRight}
use Rattle.certify.specs.answers.ScriptNames.{initial_state}
use Rattle.certify.specs.answers.ScriptText.{parse_script}
use Rattle.certify.specs.confirm.Matches.{StepsMatch}
use Rattle.certify.specs.confirm.VerdictPromises.{AreRightAnswers}
use Rattle.certify.specs.run.FinishedRun.{AreWithinBudget, answer_kind, identities_given, malformed_at, rounds_of_asks}
use Rattle.certify.specs.laws.Headline.{EachTookRounds}
use Rattle.certify.specs.laws.HeadlineLaws.{CertifyImpliesHeadline, MatchingAnswersAreRight, RightByOutcomes, SameMatches, SameReports}
use Rattle.certify.specs.declared.summary.Answer.TheVariants as kind
use Rattle.certify.specs.declared.summary.AskReport.{AskReport}
use Rattle.certify.specs.declared.summary.Summary.{Summary}
use Rattle.sat_checker.proofs.lemmas.matching.CheckerIsSound.{the_checking_sound}
use Rattle.certify.proofs.lemmas.laws.ExpectedOutcomes.{matching_right}
use Rattle.certify.proofs.lemmas.answers.ShortReading.{says_the_same, same_written}
use Rattle.certify.proofs.lemmas.answers.ShortEvents.{same_answers, right_by_events, counts_by_events}

-- the events of a reading of a script
abbrev events_of : Reading → List Event
events_of r = events 1 initial_state r.0 r.1

-- ANSWERS

-- `AreRightBy answers outcomes r` holds if outcomes are correct and have these answers, for a reading of the script.
abbrev AreRightBy : List ℕ → List Outcome → Reading → Type 0
AreRightBy answers outcomes r = (answers ≡ event_lines (events_of r) outcomes) × EachIsRight (events_of r) outcomes

pub right_answers : (script answers : List ℕ) (outcomes : List Outcome) → answers ≡ answers_text (reading script).0 (reading script).1 outcomes
    → AnswersAreRight (reading script).0 outcomes → AreRightAnswers script answers
right_answers script answers outcomes e h =
    let r = reading script in
    let p = subst (AreRightBy answers outcomes) (sym (says_the_same script)) (e ∙ sym (same_answers r.0 r.1 outcomes), (right_by_events r.0 r.1 outcomes).0 h) in
    record { outcomes = outcomes; lines = p.0; right = p.1 }

pub right_by_outcomes : RightByOutcomes
right_by_outcomes script answers =
    let r = reading script in (
      λ a. let p = subst (AreRightBy answers a.outcomes) (says_the_same script) (a.lines, a.right) in
          (a.outcomes, p.0 ∙ same_answers r.0 r.1 a.outcomes, (right_by_events r.0 r.1 a.outcomes).1 p.1),
      λ h. right_answers script answers h.0 h.1 h.2,
    )

-- MATCHING

-- `MatchesBy answers outcomes steps r` holds if the answers and the steps match a reading of the script.
abbrev MatchesBy : List ℕ → List Outcome → List Step → Reading → Type 0
MatchesBy answers outcomes steps r = (answers ≡ event_lines (events_of r) outcomes) × StepsMatch checker_rules r.0 outcomes steps

pub same_matches : SameMatches
same_matches script answers certificate =
    let r = reading script in (
      λ m. let p = subst (MatchesBy answers m.outcomes m.steps) (says_the_same script) (m.answered, m.match) in
          record { outcomes = m.outcomes; steps = m.steps; text = m.text; rest = m.rest; answered = p.0 ∙ same_answers r.0 r.1 m.outcomes; begins = m.begins; spelt = m.spelt; match = p.1 },
      λ m. let p = subst (MatchesBy answers m.outcomes m.steps) (sym (says_the_same script)) (m.answered ∙ sym (same_answers r.0 r.1 m.outcomes), m.match) in
          record { outcomes = m.outcomes; steps = m.steps; text = m.text; rest = m.rest; answered = p.0; begins = m.begins; spelt = m.spelt; match = p.1 },
    )

pub matching_answers : MatchingAnswersAreRight
matching_answers script answers certificate h =
    let m = (same_matches script answers certificate).0 h in
    right_answers script answers m.outcomes m.answered (matching_right checker_rules the_checking_sound (reading script).0 m.outcomes m.steps m.match)

-- REPORTS

-- `ReportsBy budget summary answered outcomes r` holds if the answers and the summary of a run are correct, for a
-- reading of the script.
abbrev ReportsBy : ℕ → Summary → List ℕ → List Outcome → Reading → Type 0
ReportsBy budget summary answered outcomes r =
    (answered ≡ event_lines (events_of r) outcomes) × EachIsRight (events_of r) outcomes × (summary.refused ≡ refusals_among (events_of r))
    × (summary.malformed ≡ malformed_at (length r.0 + 1) r.1) × AreWithinBudget budget 0 (variables_at (events_of r)) summary.asks.items

pub same_reports : SameReports
same_reports text budget summary answered =
    let r = reading text in
    let counts = counts_by_events r.0 r.1 in
    let Spent : List ℕ → Type 0 = λ ns. AreWithinBudget budget 0 ns summary.asks.items in (
      λ a. let p = subst (ReportsBy budget summary answered a.outcomes) (says_the_same text) (a.answers, a.right, a.refused, a.malformed, a.spent) in
          record {
            outcomes = a.outcomes;
            right = (right_by_events r.0 r.1 a.outcomes).1 p.1;
            answers = p.0 ∙ same_answers r.0 r.1 a.outcomes;
            commands = a.commands ∙ ap (λ (q : Reading). length q.0) (same_written text);
            refused = p.2 ∙ counts.0;
            malformed = p.3;
            kinds = a.kinds;
            spent = subst Spent counts.1 p.4;
          },
      λ a. let p = subst (ReportsBy budget summary answered a.outcomes) (sym (says_the_same text)) (
        a.answers ∙ sym (same_answers r.0 r.1 a.outcomes),
        (right_by_events r.0 r.1 a.outcomes).0 a.right,
        a.refused ∙ sym counts.0,
        a.malformed,
        subst Spent (sym counts.1) a.spent,
      ) in
          record {
            outcomes = a.outcomes;
            right = p.1;
            answers = p.0;
            commands = a.commands ∙ ap (λ (q : Reading). length q.0) (sym (same_written text));
            refused = p.2;
            malformed = p.3;
            kinds = a.kinds;
            spent = p.4;
          },
    )

-- ROUNDS

took : (es : List Event) (budget before : ℕ) (outcomes : List Outcome) (reports : List AskReport)
    → map (λ r. r.answer) reports ≡ map answer_kind outcomes → AreWithinBudget budget before (variables_at es) reports
    → EachTookRounds budget before es outcomes (rounds_of_asks reports)
took [] budget before [] [] k h = tt
took [] budget before (o ∷ os) [] k h = absurd (cc)
took [] budget before os (r ∷ rs) k h = absurd h
took (Refused n refusal ∷ es) budget before [] [] k h = took es budget before [] [] k h
took (Refused n refusal ∷ es) budget before [] (r ∷ rs) k h = took es budget before [] (r ∷ rs) k h
took (Refused n refusal ∷ es) budget before (o ∷ os) [] k h = took es budget before (o ∷ os) [] k h
took (Refused n refusal ∷ es) budget before (o ∷ os) (r ∷ rs) k h = took es budget before (o ∷ os) (r ∷ rs) k h
took (MalformedAt n ∷ es) budget before [] [] k h = took es budget before [] [] k h
took (MalformedAt n ∷ es) budget before [] (r ∷ rs) k h = took es budget before [] (r ∷ rs) k h
took (MalformedAt n ∷ es) budget before (o ∷ os) [] k h = took es budget before (o ∷ os) [] k h
took (MalformedAt n ∷ es) budget before (o ∷ os) (r ∷ rs) k h = took es budget before (o ∷ os) (r ∷ rs) k h
took (Asked state ls ∷ es) budget before os [] k h = absurd h
took (Asked state ls ∷ es) budget before [] (r ∷ rs) k h = absurd (cc)
took (Asked state ls ∷ es) budget before (o ∷ os) (r ∷ rs) k h =
    let first : r.answer ≡ answer_kind o = cc in
    let rest : map (λ r. r.answer) rs ≡ map answer_kind os = cc in
    (record { within = h.0.within; few = h.1.few; unknown = λ e. h.0.unknown (first ∙ ap answer_kind e) }, took es budget (before + r.steps) os rs rest h.2)

pub certified_headline : CertifyImpliesHeadline
unfolding right_answers
certified_headline script budget claimed shown summary answers certificate own other before after c =
    let g = c.answered in
    let a = g.is_answered in
    let r = reading script in
    let counts = counts_by_events r.0 r.1 in
    record {
      answered = right_answers script answers a.outcomes a.answers a.right;
      spent = subst (λ (r : Reading). EachTookRounds budget 0 (events_of r) a.outcomes (rounds_of_asks summary.asks.items)) (sym (says_the_same script))
          (took (events_of r) budget 0 a.outcomes summary.asks.items a.kinds (subst (λ ns. AreWithinBudget budget 0 ns summary.asks.items) (sym counts.1) a.spent));
      learned = record { steps = g.steps; spelt = g.certificate; accepted = g.accepted; learns = g.learns };
      confirmed = c.confirmed;
      any = c.any.sound;
      looks = c.looks;
    }
