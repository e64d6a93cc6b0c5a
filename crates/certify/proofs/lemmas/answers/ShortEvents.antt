-- By the short definitions, a script has the same answers, the same correct outcomes and the same numbers of refusals
-- and variables.
use Rattle.std.proofs.Common.{ℕ, ◌+◌, ◌≡◌, ◌∙◌, ◌↔◌, cond, Option, Some, None, List, [], ◌∷◌, ◌++◌, is_some, refl, sym, ap, subst, zero-add}
use Rattle.std.specs.Prelude.{decimal, if◌then◌else◌}
use Rattle.sat_base.specs.script.Script.{Literal, Command, Clause, Ask, Hide, Witness, Sample, ScriptEnding, Clean, Malformed}
use Rattle.sat_base.specs.script.ScriptState.{Refusal, PastLimit, WitnessName, accepted_commands, ScriptState as CodeState, initial_state as code_initial, state_after_accepted as code_accepted, refusal_of as code_refusal_of, after_command as code_after_command}
use Rattle.sat_checker.specs.matching.Expected.{Outcome, Sat, Unsat, Unknown}
use Rattle.certify.specs.answers.Answers.{answers_from, literals_text, outcome_text, refused_line, answer_to_command, outcomes_left}
use Rattle.certify.specs.answers.AnswersText.{event_lines, literals_line, outcome_lines, refusal_line}
use Rattle.certify.specs.answers.Events.{Event, event_of, events, EachIsRight, refusals_among, variables_at}
use Rattle.certify.specs.answers.RightAnswers.{OutcomesAreRight}
use Rattle.certify.specs.answers.ScriptNames.{ScriptState, initial_state}
use Rattle.certify.specs.run.FinishedRun.{identities_given, refused_count}
use Rattle.certify.specs.laws.HeadlineLaws.{SameAnswers, RightByEvents}
use Rattle.certify.proofs.lemmas.answers.ShortStates.{Keeps, short_state, same_refusal, same_after, same_outcome, accepted_kept, after_kept, kept_at_start}

-- the events of a command and of those after it, by the state of the code
next_events : (k : ℕ) (j : CodeState) (c : Command) (commands : List Command) (ending : ScriptEnding) → Keeps j
    → events k (short_state j) (c ∷ commands) ending
    ≡ event_of k (code_refusal_of j c) c (short_state (code_after_command c j)) ++ events (k + 1) (short_state (code_after_command c j)) commands ending
next_events k j c commands ending h =
    let refused = same_refusal j c in
    let state = sym (same_after c j h) in
    λ i. event_of k (refused i) c (state i) ++ events (k + 1) (state i) commands ending

-- LINES

same_literals : (ls : List Literal) → literals_line ls ≡ literals_text ls
same_literals [] = refl
same_literals (l ∷ ls) = ap (λ (t : List ℕ). ((if l.positive then [] else 45 ∷ []) ++ decimal l.name) ++ 32 ∷ t) (same_literals ls)

same_outcome_lines : (o : Outcome) → outcome_lines o ≡ outcome_text o
same_outcome_lines (Sat line) = ap (λ (t : List ℕ). 115 ∷ 32 ∷ 83 ∷ 65 ∷ 84 ∷ 73 ∷ 83 ∷ 70 ∷ 73 ∷ 65 ∷ 66 ∷ 76 ∷ 69 ∷ 10 ∷ 118 ∷ 32 ∷ t) (same_literals line)
same_outcome_lines (Unsat core) = ap (λ (t : List ℕ). 115 ∷ 32 ∷ 85 ∷ 78 ∷ 83 ∷ 65 ∷ 84 ∷ 73 ∷ 83 ∷ 70 ∷ 73 ∷ 65 ∷ 66 ∷ 76 ∷ 69 ∷ 10 ∷ 102 ∷ 32 ∷ t) (same_literals core)
same_outcome_lines Unknown = refl

same_refusal_line : (k : ℕ) (r : Refusal) → refusal_line k r ≡ refused_line k r
same_refusal_line k PastLimit = refl
same_refusal_line k (WitnessName name) = refl

next_lines : (k : ℕ) (r : Option Refusal) (c : Command) (state : ScriptState) (rest : List Event) (os : List Outcome) (long : List Outcome → List ℕ)
    → ((os : List Outcome) → event_lines rest os ≡ long os)
    → event_lines (event_of k r c state ++ rest) os ≡ answer_to_command k r c os ++ long (outcomes_left r c os)
next_lines k (Some r) c state rest os long same = ap (λ (t : List ℕ). refusal_line k r ++ t) (same os) ∙ ap (λ (t : List ℕ). t ++ long os) (same_refusal_line k r)
next_lines k None (Ask ls) state rest [] long same = same []
next_lines k None (Ask ls) state rest (o ∷ os) long same = ap (λ (t : List ℕ). outcome_lines o ++ t) (same os) ∙ ap (λ (t : List ℕ). t ++ long os) (same_outcome_lines o)
next_lines k None (Clause ls) state rest os long same = same os
next_lines k None (Hide names) state rest os long same = same os
next_lines k None (Witness names) state rest os long same = same os
next_lines k None (Sample names) state rest os long same = same os

same_lines : (k : ℕ) (j : CodeState) (commands : List Command) (ending : ScriptEnding) (os : List Outcome) → Keeps j
    → event_lines (events k (short_state j) commands ending) os ≡ answers_from k j commands ending os
same_lines k j [] Clean os h = refl
same_lines k j [] Malformed [] h = refl
same_lines k j [] Malformed (o ∷ os) h = refl
same_lines k j (c ∷ commands) ending os h =
    let after = code_after_command c j in
    ap (λ (es : List Event). event_lines es os) (next_events k j c commands ending h)
    ∙ next_lines k (code_refusal_of j c) c (short_state after) (events (k + 1) (short_state after) commands ending) os (answers_from (k + 1) after commands ending)
    (λ os. same_lines (k + 1) after commands ending os (after_kept c j h))

pub same_answers : SameAnswers
same_answers commands ending outcomes = same_lines 1 code_initial commands ending outcomes kept_at_start

-- OUTCOMES

-- `Same j commands` holds if outcomes are correct for the commands exactly when they are correct for their events.
abbrev Same : CodeState → List Command → Type 0
Same j commands = (k : ℕ) (ending : ScriptEnding) (os : List Outcome)
    → OutcomesAreRight j (accepted_commands j commands) os ↔ EachIsRight (events k (short_state j) commands ending) os

-- a command that is no ask, refused or not
plain_right : (r : Option Refusal) (k : ℕ) (j after : CodeState) (c : Command) (commands : List Command)
    → ((s : ScriptState) → event_of k None c s ≡ [])
    → ((os : List Outcome) → OutcomesAreRight j (c ∷ accepted_commands after commands) os ↔ OutcomesAreRight after (accepted_commands after commands) os)
    → Same j commands → Same after commands → (ending : ScriptEnding) (os : List Outcome)
    → OutcomesAreRight j (cond (is_some r) (accepted_commands j commands) (c ∷ accepted_commands after commands)) os
    ↔ EachIsRight (event_of k r c (short_state (cond (is_some r) j after)) ++ events (k + 1) (short_state (cond (is_some r) j after)) commands ending) os
plain_right (Some r) k j after c commands none f old new ending [] = old (k + 1) ending []
plain_right (Some r) k j after c commands none f old new ending (o ∷ os) = old (k + 1) ending (o ∷ os)
plain_right None k j after c commands none f old new ending os =
    let rest = new (k + 1) ending os in
    subst (λ (es : List Event). OutcomesAreRight j (c ∷ accepted_commands after commands) os ↔ EachIsRight (es ++ events (k + 1) (short_state after) commands ending) os)
    (sym (none (short_state after))) (λ h. rest.0 ((f os).0 h), λ h. (f os).1 (rest.1 h))

ask_right : (r : Option Refusal) (k : ℕ) (j : CodeState) (ls : List Literal) (commands : List Command)
    → Same j commands → Same (code_accepted (Ask ls) j) commands → (ending : ScriptEnding) (os : List Outcome)
    → OutcomesAreRight j (cond (is_some r) (accepted_commands j commands) (Ask ls ∷ accepted_commands (code_accepted (Ask ls) j) commands)) os
    ↔ EachIsRight (event_of k r (Ask ls) (short_state (cond (is_some r) j (code_accepted (Ask ls) j)))
    ++ events (k + 1) (short_state (cond (is_some r) j (code_accepted (Ask ls) j))) commands ending) os
ask_right (Some r) k j ls commands old new ending [] = old (k + 1) ending []
ask_right (Some r) k j ls commands old new ending (o ∷ os) = old (k + 1) ending (o ∷ os)
ask_right None k j ls commands old new ending [] = (λ h. h, λ h. h)
ask_right None k j ls commands old new ending (o ∷ os) =
    let first = same_outcome (code_accepted (Ask ls) j) ls o in
    let rest = new (k + 1) ending os in
    (λ h. (first.0 h.0, rest.0 h.1), λ h. (first.1 h.0, rest.1 h.1))

next_right : (k : ℕ) (j : CodeState) (c : Command) (commands : List Command) (ending : ScriptEnding) (os : List Outcome) → Keeps j
    → (OutcomesAreRight j (accepted_commands j (c ∷ commands)) os
    ↔ EachIsRight (event_of k (code_refusal_of j c) c (short_state (code_after_command c j)) ++ events (k + 1) (short_state (code_after_command c j)) commands ending) os)
    → OutcomesAreRight j (accepted_commands j (c ∷ commands)) os ↔ EachIsRight (events k (short_state j) (c ∷ commands) ending) os
next_right k j c commands ending os h f =
    subst (λ (es : List Event). OutcomesAreRight j (accepted_commands j (c ∷ commands)) os ↔ EachIsRight es os) (sym (next_events k j c commands ending h)) f

same_right : (j : CodeState) (commands : List Command) → Keeps j → Same j commands
same_right j [] h k Clean [] = (λ h. h, λ h. h)
same_right j [] h k Clean (o ∷ os) = (λ h. h, λ h. h)
same_right j [] h k Malformed [] = (λ h. h, λ h. h)
same_right j [] h k Malformed (o ∷ os) = (λ h. h, λ h. h)
same_right j (Ask ls ∷ commands) h k ending os =
    let c = Ask ls in
    next_right k j c commands ending os h (ask_right (code_refusal_of j c) k j ls commands
    (same_right j commands h) (same_right (code_accepted c j) commands (accepted_kept c j h)) ending os)
same_right j (Clause ls ∷ commands) h k ending os =
    let c = Clause ls in
    next_right k j c commands ending os h (plain_right (code_refusal_of j c) k j (code_accepted c j) c commands (λ s. refl) (λ os. (λ h. h, λ h. h))
    (same_right j commands h) (same_right (code_accepted c j) commands (accepted_kept c j h)) ending os)
same_right j (Hide names ∷ commands) h k ending os =
    let c = Hide names in
    next_right k j c commands ending os h (plain_right (code_refusal_of j c) k j (code_accepted c j) c commands (λ s. refl) (λ os. (λ h. h, λ h. h))
    (same_right j commands h) (same_right (code_accepted c j) commands (accepted_kept c j h)) ending os)
same_right j (Witness names ∷ commands) h k ending os =
    let c = Witness names in
    next_right k j c commands ending os h (plain_right (code_refusal_of j c) k j (code_accepted c j) c commands (λ s. refl) (λ os. (λ h. h, λ h. h))
    (same_right j commands h) (same_right (code_accepted c j) commands (accepted_kept c j h)) ending os)
same_right j (Sample names ∷ commands) h k ending os =
    let c = Sample names in
    next_right k j c commands ending os h (plain_right (code_refusal_of j c) k j (code_accepted c j) c commands (λ s. refl) (λ os. (λ h. h, λ h. h))
    (same_right j commands h) (same_right (code_accepted c j) commands (accepted_kept c j h)) ending os)

pub right_by_events : RightByEvents
right_by_events commands ending outcomes = same_right code_initial commands kept_at_start 1 ending outcomes

-- REFUSALS AND VARIABLES

-- `Counted j all accepted es` holds if events have the refusals and the variables of commands.
abbrev pub Counted : CodeState → List Command → List Command → List Event → Type 0
Counted j all accepted es = (refusals_among es ≡ refused_count j all) × (variables_at es ≡ identities_given j accepted)

abbrev SameCounts : CodeState → List Command → Type 0
SameCounts j commands = (k : ℕ) (ending : ScriptEnding) → Counted j commands (accepted_commands j commands) (events k (short_state j) commands ending)

-- what the definitions count for a command that is refused or not, and for the commands after it
abbrev NextCounts : Option Refusal → ℕ → CodeState → CodeState → Command → List Command → ScriptEnding → Type 0
NextCounts r k j after c commands ending =
    let es = event_of k r c (short_state (cond (is_some r) j after)) ++ events (k + 1) (short_state (cond (is_some r) j after)) commands ending in
    (refusals_among es ≡ cond (is_some r) 1 0 + refused_count (cond (is_some r) j after) commands)
    × (variables_at es ≡ identities_given j (cond (is_some r) (accepted_commands j commands) (c ∷ accepted_commands after commands)))

plain_counts : (r : Option Refusal) (k : ℕ) (j after : CodeState) (c : Command) (commands : List Command) (ending : ScriptEnding)
    → ((s : ScriptState) → event_of k None c s ≡ [])
    → identities_given j (c ∷ accepted_commands after commands) ≡ identities_given after (accepted_commands after commands)
    → SameCounts j commands → SameCounts after commands → NextCounts r k j after c commands ending
plain_counts (Some r) k j after c commands ending none f old new = let rest = old (k + 1) ending in (ap (λ n. 1 + n) rest.0, rest.1)
plain_counts None k j after c commands ending none f old new =
    let es = events (k + 1) (short_state after) commands ending in
    let rest = new (k + 1) ending in
    let no = none (short_state after) in (
      ap (λ (front : List Event). refusals_among (front ++ es)) no ∙ rest.0 ∙ sym (zero-add (refused_count after commands)),
      ap (λ (front : List Event). variables_at (front ++ es)) no ∙ rest.1 ∙ sym f,
    )

ask_counts : (r : Option Refusal) (k : ℕ) (j : CodeState) (ls : List Literal) (commands : List Command) (ending : ScriptEnding)
    → SameCounts j commands → SameCounts (code_accepted (Ask ls) j) commands → NextCounts r k j (code_accepted (Ask ls) j) (Ask ls) commands ending
ask_counts (Some r) k j ls commands ending old new = let rest = old (k + 1) ending in (ap (λ n. 1 + n) rest.0, rest.1)
ask_counts None k j ls commands ending old new =
    let rest = new (k + 1) ending in
    (rest.0 ∙ sym (zero-add (refused_count (code_accepted (Ask ls) j) commands)), ap (λ (ns : List ℕ). (code_accepted (Ask ls) j).identity_count ∷ ns) rest.1)

next_counts : (k : ℕ) (j : CodeState) (c : Command) (commands : List Command) (ending : ScriptEnding) → Keeps j
    → NextCounts (code_refusal_of j c) k j (code_accepted c j) c commands ending
    → Counted j (c ∷ commands) (accepted_commands j (c ∷ commands)) (events k (short_state j) (c ∷ commands) ending)
next_counts k j c commands ending h f =
    subst (Counted j (c ∷ commands) (accepted_commands j (c ∷ commands))) (sym (next_events k j c commands ending h)) f

same_counts : (j : CodeState) (commands : List Command) → Keeps j → SameCounts j commands
same_counts j [] h k Clean = (refl, refl)
same_counts j [] h k Malformed = (refl, refl)
same_counts j (Ask ls ∷ commands) h k ending =
    let c = Ask ls in
    next_counts k j c commands ending h (ask_counts (code_refusal_of j c) k j ls commands ending
    (same_counts j commands h) (same_counts (code_accepted c j) commands (accepted_kept c j h)))
same_counts j (Clause ls ∷ commands) h k ending =
    let c = Clause ls in
    next_counts k j c commands ending h (plain_counts (code_refusal_of j c) k j (code_accepted c j) c commands ending (λ s. refl) refl
    (same_counts j commands h) (same_counts (code_accepted c j) commands (accepted_kept c j h)))
same_counts j (Hide names ∷ commands) h k ending =
    let c = Hide names in
    next_counts k j c commands ending h (plain_counts (code_refusal_of j c) k j (code_accepted c j) c commands ending (λ s. refl) refl
    (same_counts j commands h) (same_counts (code_accepted c j) commands (accepted_kept c j h)))
same_counts j (Witness names ∷ commands) h k ending =
    let c = Witness names in
    next_counts k j c commands ending h (plain_counts (code_refusal_of j c) k j (code_accepted c j) c commands ending (λ s. refl) refl
    (same_counts j commands h) (same_counts (code_accepted c j) commands (accepted_kept c j h)))
same_counts j (Sample names ∷ commands) h k ending =
    let c = Sample names in
    next_counts k j c commands ending h (plain_counts (code_refusal_of j c) k j (code_accepted c j) c commands ending (λ s. refl) refl
    (same_counts j commands h) (same_counts (code_accepted c j) commands (accepted_kept c j h)))

-- the events of a script have its refusals, and the variables of its accepted asks
pub counts_by_events : (commands : List Command) (ending : ScriptEnding)
    → Counted code_initial commands (accepted_commands code_initial commands) (events 1 initial_state commands ending)
counts_by_events commands ending = same_counts code_initial commands kept_at_start 1 ending
