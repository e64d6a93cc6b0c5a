-- How the calls of the solver serve a clause.
use Rattle.std.proofs.Common.{ℕ, ◌≡◌, ◌∙◌, Bool, true, false, List, [], ◌∷◌, ◌++◌, refl, sym, ap, subst, append-nil}
use Rattle.sat_base.specs.script.Script.{Clause, names_of}
use Rattle.sat_base.specs.script.ScriptState.{ScriptState, state_after_accepted, introduce_all, with_clause}
use Rattle.sat_checker.specs.matching.Expected.{Expected, Adds, steps_introducing}
use Rattle.sat_checker.specs.matching.ProofChecking.{checker_rules}
use Rattle.sat_solver.specs.declared.state.SatState.{SatState}
use Rattle.sat_solver.specs.declared.state.SatState.TheVariants as states
use Rattle.sat_solver.specs.variables.NamingSteps.{IsClauseStep}
use Rattle.sat_checker.specs.matching.Bridge.{LiveVariables}
use Rattle.sat_solver.specs.variables.Refusing.{names_in}
use Rattle.sat_solver.specs.session.AllowedSteps.{OnlyAllowedSteps}
use Rattle.sat_solver.specs.solver.Adding.{due_for_clause, with_added}
use Rattle.sat_solver.specs.facade.Adding.{Added, StepsOfClause}
use Rattle.sat_solver.specs.facade.Recording.{RecordsAnswer}
use Rattle.sat_solver.specs.facade.States.{IsInState}
use Rattle.certify.specs.answers.AnswerForms.{named_literals}
use Rattle.sat_checker.specs.matching.Traces.{HasTrace}
use Rattle.certify.specs.run.Stretches.{IsCommandStep, MakesExpectedSteps, due_for_command}
use Rattle.certify.proofs.lemmas.run.NamesIn.{names_same}
use Rattle.certify.proofs.lemmas.run.Reaching.{makes_from, reaches}
use Rattle.certify.specs.run.RunSolver.{Solver}

module _ (old new : Solver) (user : List ℕ) (records : RecordsAnswer old) (added : Added old new user) (steps : StepsOfClause old new user) (after : RecordsAnswer new) (j : ScriptState) (live : LiveVariables) (agree : IsInState old j live) where
  kept : (then : LiveVariables) × IsInState new (with_added user j) then
  kept = reaches old new (with_added user) added.did after.state j live agree

  trace : HasTrace checker_rules old.steps new.steps (due_for_clause old.answer user j)
  trace = makes_from old new (due_for_clause old.answer user) steps.ordered j live agree

  pub clause_agrees : (then : LiveVariables) × IsInState new (state_after_accepted (Clause (named_literals user)) j) then
  clause_agrees = (kept.0, subst (λ ns. IsInState new (with_clause (named_literals user) (introduce_all ns j)) kept.0) (sym (names_same user)) kept.1)

  abbrev Due : Bool → Type 0
  Due unsat = HasTrace checker_rules old.steps new.steps (due_for_command unsat (Clause (named_literals user)) j)

  made_by : (unsat : Bool) (es : List Expected) → due_for_command unsat (Clause (named_literals user)) j ≡ steps_introducing (names_of (named_literals user)) j ++ es → HasTrace checker_rules old.steps new.steps (steps_introducing (names_in user) j ++ es) → Due unsat
  made_by unsat es e w = subst (HasTrace checker_rules old.steps new.steps) (ap (λ ns. steps_introducing ns j ++ es) (sym (names_same user)) ∙ sym e) w

  added_due : (old.answer ≡ states.Unsat → ⊥) → HasTrace checker_rules old.steps new.steps (steps_introducing (names_in user) j ++ (Adds (named_literals user) ∷ [])) → Due (checker_rules.unsat old.steps)
  added_due n w = subst Due (sym (records.unrecorded n)) (made_by false (Adds (named_literals user) ∷ []) refl w)

  due_by : (st : SatState) → old.answer ≡ st → HasTrace checker_rules old.steps new.steps (due_for_clause st user j) → Due (checker_rules.unsat old.steps)
  due_by states.Unknown e w = added_due (λ f. apart (sym e ∙ f)) w
    where
      apart : states.Unknown ≡ states.Unsat → ⊥
      apart x = cc
  due_by states.Sat e w = added_due (λ f. apart (sym e ∙ f)) w
    where
      apart : states.Sat ≡ states.Unsat → ⊥
      apart x = cc
  due_by states.UnsatUnderAssumptions e w = added_due (λ f. apart (sym e ∙ f)) w
    where
      apart : states.UnsatUnderAssumptions ≡ states.Unsat → ⊥
      apart x = cc
  due_by states.Unsat e w = subst Due (sym (records.recorded e)) (made_by true [] refl (subst (HasTrace checker_rules old.steps new.steps) (sym (append-nil (steps_introducing (names_in user) j))) w))

  -- the names are introduced, and the clause is written, or left out once unsat is recorded
  pub clause_stretch : MakesExpectedSteps (IsCommandStep (Clause (named_literals user))) old.steps new.steps (due_for_command (checker_rules.unsat old.steps) (Clause (named_literals user)) j)
  clause_stretch = record {
    due = due_by old.answer refl trace;
    comes = subst (λ ns. OnlyAllowedSteps (IsClauseStep ns) old.steps new.steps) (sym (names_same user)) steps.comes;
  }
