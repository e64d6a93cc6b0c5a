-- Names after steps of a search.
use Rattle.std.proofs.Common.{ℕ, ◌≡◌, ◌∙◌, false, Option, List, [], ◌∷◌, ◌++◌, map, refl, sym, subst}
use Rattle.std.specs.List.{AllByRecursion}
use Rattle.sat_base.specs.values.Literals.{variable}
use Rattle.sat_base.specs.script.ScriptState.{ScriptState}
use Rattle.sat_base.specs.steps.Steps.{Step, AtClause, UnitClauses, DeleteClause}
use Rattle.sat_solver.specs.session.Session.{Session, AreAllowedSteps, session_after}
use Rattle.sat_solver.specs.cdcl.StepEffects.{HaveIndices, IsSearchStep}
use Rattle.sat_checker.specs.matching.Bridge.{LiveVariables}
use Rattle.sat_solver.specs.variables.Variables.{NamesMatchSteps}
use Rattle.sat_checker.specs.matching.Checking.{is_ordered}
use Rattle.sat_checker.specs.matching.Expected.{Expected}
use Rattle.sat_checker.specs.matching.ProofChecking.{checker_rules}
use Rattle.sat_checker.specs.matching.Traces.{HasTrace, no_step, silent}
use Rattle.sat_solver.specs.variables.Calls.{NamesInvariant, NamesAgree, ChangesScriptState, KeepsScriptState}
use Rattle.sat_solver.specs.variables.Searching.{AreIndexed, IsSearchStepOver}
use Rattle.sat_solver.specs.declared.variables.Variables.{Variables}
use Rattle.sat_checker.proofs.lemmas.matching.Traces.{traces_both}
use Rattle.sat_solver.proofs.lemmas.variables.Doing.{does_both}
use Rattle.sat_solver.proofs.lemmas.variables.Searched.{searches_preserve_names, searches_agree}
use Rattle.std.proofs.lemmas.List.{append-nil}

indexed : (n : Variables) (s : Session) (ls : List ℕ) → NamesMatchSteps n s → HaveIndices s.solver_names ls → AreIndexed n ls
indexed n s [] said h = tt
indexed n s (l ∷ ls) said h = ((h.0.0, sym (said.solver_names (variable l)) ∙ h.0.1), indexed n s ls said h.1)

of_search : (n : Variables) (s : Session) (step : Step) → NamesMatchSteps n s → IsSearchStep s.solver_names step → IsSearchStepOver n step
of_search n s (AtClause redundant clause hashes) said h = indexed n s clause said h
of_search n s (UnitClauses us) said h = indexed n s (map (λ u. u.0) us) said h
of_search n s (DeleteClause clause proof) said h = tt
of_search n s step said h = absurd h

unordered : (names : ℕ → Option ℕ) (step : Step) → IsSearchStep names step → is_ordered step ≡ false
unordered names (AtClause redundant clause hashes) h = refl
unordered names (UnitClauses us) h = refl
unordered names (DeleteClause clause proof) h = refl
unordered names step h = absurd h

-- steps of a search preserve the invariant of names
pub stands_after : (n : Variables) (earlier steps : List Step) → NamesInvariant n earlier → AreAllowedSteps (steps ++ earlier) → AllByRecursion (IsSearchStep (session_after earlier).solver_names) steps → NamesInvariant n (steps ++ earlier)
stands_after n earlier [] valid may h = valid
stands_after n earlier (step ∷ steps) valid may h =
    searches_preserve_names n (steps ++ earlier) step (stands_after n earlier steps valid may.0 h.1) may.1 (of_search n (session_after earlier) step valid.said h.0)

agree_after : (n : Variables) (earlier steps : List Step) → NamesInvariant n earlier → AreAllowedSteps (steps ++ earlier) → AllByRecursion (IsSearchStep (session_after earlier).solver_names) steps →
    (j : ScriptState) (live : LiveVariables) → NamesAgree n earlier j live → NamesAgree n (steps ++ earlier) j live
agree_after n earlier [] valid may h j live a = a
agree_after n earlier (step ∷ steps) valid may h j live a =
    searches_agree n (steps ++ earlier) step (stands_after n earlier steps valid may.0 h.1) may.1 (of_search n (session_after earlier) step valid.said h.0) j live
    (agree_after n earlier steps valid may.0 h.1 j live a)

quiet_writes : (names : ℕ → Option ℕ) (earlier steps : List Step) → AllByRecursion (IsSearchStep names) steps → HasTrace checker_rules earlier (steps ++ earlier) []
quiet_writes names earlier [] h = no_step
quiet_writes names earlier (step ∷ steps) h = traces_both (quiet_writes names earlier steps h.1) (silent (unordered names step h.0) no_step)

-- these steps do not change the script state
pub nothing_after : (n : Variables) (earlier steps : List Step) → NamesInvariant n earlier → AreAllowedSteps (steps ++ earlier) → AllByRecursion (IsSearchStep (session_after earlier).solver_names) steps → KeepsScriptState n n earlier (steps ++ earlier)
nothing_after n earlier steps valid may h = record {
  valid = stands_after n earlier steps valid may h;
  kept = λ j live a. record { live = live; agree = agree_after n earlier steps valid may h j live a; trace = quiet_writes (session_after earlier).solver_names earlier steps h };
}

-- a call over names, followed by steps of a search
pub does_after : (old new : Variables) (from to steps : List Step) (judge : ScriptState → ScriptState) (due : ScriptState → List Expected) → ChangesScriptState old new from to judge due → AreAllowedSteps (steps ++ to) → AllByRecursion (IsSearchStep (session_after to).solver_names) steps →
    ChangesScriptState old new from (steps ++ to) judge due
does_after old new from to steps judge due does may h =
    let both = does_both old new new from to (steps ++ to) judge (λ j. j) due (λ j. []) does (nothing_after new to steps does.valid may h) in
    record {
      valid = both.valid;
      kept = λ j live a. let k = both.kept j live a in record { live = k.live; agree = k.agree; trace = subst (HasTrace checker_rules from (steps ++ to)) (append-nil (due j)) k.trace };
    }
