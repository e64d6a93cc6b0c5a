-- From expected steps back to the commands and their outcomes.
use Rattle.std.proofs.Common.{ℕ, List, [], ◌∷◌, ◌++◌, map, Option, Some, None, refl, subst, append_assoc}
use Rattle.std.specs.List.{AllByRecursion}
use Rattle.sat_base.specs.script.Script.{Literal, Command, Clause, Ask, Hide, Witness, Sample, names_of}
use Rattle.sat_base.specs.script.ScriptState.{ScriptState, NameMode, Sampled, Witnessed, with_name, with_names, new_names, introduce, introduce_all, without_name, with_mode, with_clause, hide_all, set_mode_all, state_after_accepted, accepted_commands, initial_state}
use Rattle.sat_base.specs.steps.Steps.{Step}
use Rattle.sat_checker.specs.matching.Expected.{Outcome, Sat, Unsat, Unknown, Expected, NewName, NoName, Adds, Opens, Shows, Fails, Closes, Finish, steps_introducing, steps_hiding, steps_setting_mode, step_showing, expected_steps}
use Rattle.certify.specs.answers.RightAnswers.{OutcomeIsRight, OutcomesAreRight, AnswersAreRight}
use Rattle.sat_checker.specs.matching.Checking.{CheckerRules, IsSound}
use Rattle.certify.specs.confirm.Matches.{OneOutcomePerAsk, CoreIsInOrder, StepsMatch}
use Rattle.sat_checker.proofs.lemmas.matching.Bridge.{begun}
use Rattle.certify.proofs.lemmas.laws.MatchingSteps.{RightFor, right_for}

-- modes do not matter for expected steps
modes_aside : (es : List Expected) (q : Option (List Literal)) (j : ScriptState) (m : List NameMode) → RightFor q j es → RightFor q (record j { modes = m }) es
modes_aside [] q j m h = tt
modes_aside (NewName name ∷ es) q j m h = modes_aside es None (with_name name j) (m ++ Sampled ∷ []) h
modes_aside (NoName name ∷ es) q j m h = modes_aside es None (without_name name j) m h
modes_aside (Adds ls ∷ es) q j m h = modes_aside es q (with_clause ls j) m h
modes_aside (Opens ls v ∷ es) q j m h = modes_aside es (Some ls) j m h
modes_aside (Shows names ask line ∷ es) q j m h = ((λ e. let r = h.0 e in record { names = r.names; valuation = r.valuation; agrees = r.agrees; clauses = r.clauses; asked = r.asked }), modes_aside es q j m h.1)
modes_aside (Fails ask core ∷ es) q j m h = ((λ e. let r = h.0 e in record { among = r.among; none = r.none }), modes_aside es q j m h.1)
modes_aside (Closes ∷ es) q j m h = modes_aside es None j m h
modes_aside (Finish ∷ es) q j m h = modes_aside es q j m h

-- `From j es` holds if the expected steps show correct answers, for some open ask or none.
abbrev From : ScriptState → List Expected → Type 0
From j es = (q : Option (List Literal)) × RightFor q j es

named : (names : List ℕ) (q : Option (List Literal)) (j : ScriptState) (es : List Expected) → RightFor q j (map NewName names ++ es) → From (with_names names j) es
named [] q j es h = (q, h)
named (name ∷ names) q j es h = named names None (with_name name j) es h

brought : (names : List ℕ) (q : Option (List Literal)) (j : ScriptState) (es : List Expected) → RightFor q j (steps_introducing names j ++ es) → From (introduce_all names j) es
brought [] q j es h = (q, h)
brought (name ∷ names) q j es h =
    let p = named (new_names name j) q j (steps_introducing names (introduce name j) ++ es) (subst (RightFor q j) (append_assoc (map NewName (new_names name j)) (steps_introducing names (introduce name j)) es) h) in
    brought names p.0 (introduce name j) es p.1

hidden : (names : List ℕ) (q : Option (List Literal)) (j : ScriptState) (es : List Expected) → RightFor q j (steps_hiding names j ++ es) → From (hide_all names j) es
hidden [] q j es h = (q, h)
hidden (name ∷ names) q j es h =
    let rest = steps_hiding names (without_name name (introduce name j)) in
    let p = named (new_names name j) q j (NoName name ∷ (rest ++ es)) (subst (RightFor q j) (append_assoc (map NewName (new_names name j)) (NoName name ∷ rest) es) h) in
    hidden names None (without_name name (introduce name j)) es p.1

set_to : (mode : NameMode) (names : List ℕ) (q : Option (List Literal)) (j : ScriptState) (es : List Expected) → RightFor q j (steps_setting_mode mode names j ++ es) → From (set_mode_all mode names j) es
set_to mode [] q j es h = (q, h)
set_to mode (name ∷ names) q j es h =
    let next = with_mode mode name (introduce name j) in
    let p = named (new_names name j) q j (steps_setting_mode mode names next ++ es) (subst (RightFor q j) (append_assoc (map NewName (new_names name j)) (steps_setting_mode mode names next) es) h) in
    set_to mode names p.0 next es (modes_aside (steps_setting_mode mode names next ++ es) p.0 (introduce name j) next.modes p.1)

answered : (v : Outcome) (ask : List Literal) (j : ScriptState) (es : List Expected) → CoreIsInOrder v → RightFor (Some ask) j (step_showing j ask v ++ (Closes ∷ es)) → OutcomeIsRight j ask v × RightFor None j es
answered (Sat line) ask j es f h = (h.0 refl, h.1)
answered (Unsat core) ask j es f h = let r = h.0 refl in (record { order = f; among = r.among; none = r.none }, h.1)
answered Unknown ask j es f h = (tt, h)

rights : (commands : List Command) (vs : List Outcome) (q : Option (List Literal)) (j : ScriptState) → OneOutcomePerAsk commands vs → AllByRecursion CoreIsInOrder vs → RightFor q j (expected_steps j commands vs) → OutcomesAreRight j commands vs
rights [] [] q j o f h = tt
rights [] (v ∷ vs) q j o f h = o
rights (Ask ls ∷ commands) [] q j o f h = o
rights (Ask ls ∷ commands) (v ∷ vs) q j o f h =
    let next = state_after_accepted (Ask ls) j in
    let p = brought (names_of ls) q j (Opens ls v ∷ (step_showing next ls v ++ (Closes ∷ expected_steps next commands vs))) h in
    let r = answered v ls next (expected_steps next commands vs) f.0 p.1 in
    (r.0, rights commands vs None next o f.1 r.1)
rights (Clause ls ∷ commands) vs q j o f h =
    let p = brought (names_of ls) q j (Adds ls ∷ expected_steps (state_after_accepted (Clause ls) j) commands vs) h in
    rights commands vs p.0 (state_after_accepted (Clause ls) j) o f p.1
rights (Hide names ∷ commands) vs q j o f h =
    let p = hidden names q j (expected_steps (state_after_accepted (Hide names) j) commands vs) h in
    rights commands vs p.0 (state_after_accepted (Hide names) j) o f p.1
rights (Witness names ∷ commands) vs q j o f h =
    let p = set_to Witnessed names q j (expected_steps (state_after_accepted (Witness names) j) commands vs) h in
    rights commands vs p.0 (state_after_accepted (Witness names) j) o f p.1
rights (Sample names ∷ commands) vs q j o f h =
    let p = set_to Sampled names q j (expected_steps (state_after_accepted (Sample names) j) commands vs) h in
    rights commands vs p.0 (state_after_accepted (Sample names) j) o f p.1

-- if the steps match, the answers are correct
pub matching_right : (k : CheckerRules) → IsSound k → (commands : List Command) (outcomes : List Outcome) (steps : List Step) → StepsMatch k commands outcomes steps → AnswersAreRight commands outcomes
matching_right k sound commands outcomes steps m =
    rights (accepted_commands initial_state commands) outcomes None initial_state m.one_each m.in_form (right_for k sound m.meets None initial_state [] (begun k) tt)
