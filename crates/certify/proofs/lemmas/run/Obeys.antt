-- Commands that a solver carries out by itself.
use Rattle.std.proofs.Common.{ℕ, ◌+◌, ◌<◌, ◌≡◌, ◌∙◌, Bool, List, [], ◌∷◌, ◌++◌, map, length, get_or, take, inl, inr, refl, sym, ap, subst, append_assoc}
use Rattle.std.proofs.lemmas.List.{map-append, take_more}
use Rattle.sat_base.specs.values.Literals.{variable}
use Rattle.sat_base.specs.script.Script.{Clause, Among}
use Rattle.sat_base.specs.script.ScriptState.{ScriptState, NameMode, Sampled, Witnessed, state_after_accepted, introduce, hide_all, new_names, set_mode_all, with_mode, without_name}
use Rattle.sat_base.specs.steps.Steps.{Step}
use Rattle.sat_checker.specs.matching.Expected.{NewName, NoName, steps_hiding, steps_setting_mode}
use Rattle.sat_checker.specs.matching.ProofChecking.{checker_rules}
use Rattle.sat_solver.specs.variables.Refusing.{names_in}
use Rattle.sat_solver.specs.facade.Calls.{MakesSteps}
use Rattle.sat_solver.specs.facade.Naming.{NameCallEffect, OnlyMakes}
use Rattle.sat_solver.specs.facade.States.{IsInState}
use Rattle.sat_solver.proofs.lemmas.facade.Steps.{makes_more, makes_none}
use Rattle.sat_solver.proofs.lemmas.session.ComingLemmas.{comes_both, comes_map, comes_none}
use Rattle.certify.specs.answers.AnswerForms.{named_literals}
use Rattle.certify.specs.declared.refusals.NameState.{NameState}
use Rattle.certify.specs.declared.refusals.NameState.TheVariants as state
use Rattle.certify.specs.run.SolverCalls.{ClauseAccepted, IsReadySolver}
use Rattle.certify.specs.run.NonAskCommands.{NonAskCarriedOut, command_for_state, due_for_state, IsStepForState}
use Rattle.sat_checker.specs.matching.Traces.{HasTrace, no_step}
use Rattle.certify.specs.run.Stretches.{IsNoAsk, IsCommandStep, due_for_command}
use Rattle.certify.proofs.lemmas.run.ClauseServed.{clause_agrees, clause_stretch}
use Rattle.certify.proofs.lemmas.run.Reaching.{makes_from, reaches}
use Rattle.sat_checker.proofs.lemmas.matching.Traces.{traces_both}
use Rattle.certify.specs.run.RunSolver.{Solver}

-- SOME NAMES, AND THEN OTHERS

hidden_both : (xs ys : List ℕ) (j : ScriptState) → hide_all (xs ++ ys) j ≡ hide_all ys (hide_all xs j)
hidden_both [] ys j = refl
hidden_both (x ∷ xs) ys j = hidden_both xs ys (without_name x (introduce x j))

set_both : (mode : NameMode) (xs ys : List ℕ) (j : ScriptState) → set_mode_all mode (xs ++ ys) j ≡ set_mode_all mode ys (set_mode_all mode xs j)
set_both mode [] ys j = refl
set_both mode (x ∷ xs) ys j = set_both mode xs ys (with_mode mode x (introduce x j))

hiding_both : (xs ys : List ℕ) (j : ScriptState) → steps_hiding (xs ++ ys) j ≡ steps_hiding xs j ++ steps_hiding ys (hide_all xs j)
hiding_both [] ys j = refl
hiding_both (x ∷ xs) ys j =
    let next = without_name x (introduce x j) in
    ap (λ es. map NewName (new_names x j) ++ (NoName x ∷ es)) (hiding_both xs ys next) ∙ sym (append_assoc (map NewName (new_names x j)) (NoName x ∷ steps_hiding xs next) (steps_hiding ys (hide_all xs next)))

setting_both : (mode : NameMode) (xs ys : List ℕ) (j : ScriptState) → steps_setting_mode mode (xs ++ ys) j ≡ steps_setting_mode mode xs j ++ steps_setting_mode mode ys (set_mode_all mode xs j)
setting_both mode [] ys j = refl
setting_both mode (x ∷ xs) ys j =
    let next = with_mode mode x (introduce x j) in
    ap (λ es. map NewName (new_names x j) ++ es) (setting_both mode xs ys next) ∙ sym (append_assoc (map NewName (new_names x j)) (steps_setting_mode mode xs next) (steps_setting_mode mode ys (set_mode_all mode xs next)))

pub accepted_both : (st : NameState) (xs ys : List ℕ) (j : ScriptState) → state_after_accepted (command_for_state st (xs ++ ys)) j ≡ state_after_accepted (command_for_state st ys) (state_after_accepted (command_for_state st xs) j)
accepted_both state.Hidden xs ys j = hidden_both xs ys j
accepted_both state.Sampled xs ys j = set_both Sampled xs ys j
accepted_both state.Witnessed xs ys j = set_both Witnessed xs ys j

-- recorded unsat does not matter for commands about names
due_both : (st : NameState) (u v : Bool) (xs ys : List ℕ) (j : ScriptState) → due_for_command u (command_for_state st (xs ++ ys)) j ≡ due_for_command u (command_for_state st xs) j ++ due_for_command v (command_for_state st ys) (state_after_accepted (command_for_state st xs) j)
due_both state.Hidden u v xs ys j = hiding_both xs ys j
due_both state.Sampled u v xs ys j = setting_both Sampled xs ys j
due_both state.Witnessed u v xs ys j = setting_both Witnessed xs ys j

due_same : (st : NameState) (u : Bool) (names : List ℕ) (j : ScriptState) → due_for_state st names j ≡ due_for_command u (command_for_state st names) j
due_same state.Hidden u names j = refl
due_same state.Sampled u names j = refl
due_same state.Witnessed u names j = refl

-- what is allowed for some names is allowed for more names
front_among : (x : ℕ) (xs ys : List ℕ) → Among x xs → Among x (xs ++ ys)
front_among x [] ys m = absurd m
front_among x (y ∷ xs) ys m = elim m [ inl e ↦ inl e | inr k ↦ inr (front_among x xs ys k) ]

back_among : (x : ℕ) (xs ys : List ℕ) → Among x ys → Among x (xs ++ ys)
back_among x [] ys m = m
back_among x (y ∷ xs) ys m = inr (back_among x xs ys m)

may_one : (st : NameState) (name : ℕ) (earlier : List Step) (step : Step) → IsStepForState st name earlier step → IsCommandStep (command_for_state st (name ∷ [])) earlier step
may_one state.Hidden name earlier step m = m
may_one state.Sampled name earlier step m = (name, inl refl, m)
may_one state.Witnessed name earlier step m = (name, inl refl, m)

may_front : (st : NameState) (xs ys : List ℕ) (earlier : List Step) (step : Step) → IsCommandStep (command_for_state st xs) earlier step → IsCommandStep (command_for_state st (xs ++ ys)) earlier step
may_front state.Hidden xs ys earlier step m = m
may_front state.Sampled xs ys earlier step m = (m.0, front_among m.0 xs ys m.1, m.2)
may_front state.Witnessed xs ys earlier step m = (m.0, front_among m.0 xs ys m.1, m.2)

may_back : (st : NameState) (xs ys : List ℕ) (earlier : List Step) (step : Step) → IsCommandStep (command_for_state st ys) earlier step → IsCommandStep (command_for_state st (xs ++ ys)) earlier step
may_back state.Hidden xs ys earlier step m = m
may_back state.Sampled xs ys earlier step m = (m.0, back_among m.0 xs ys m.1, m.2)
may_back state.Witnessed xs ys earlier step m = (m.0, back_among m.0 xs ys m.1, m.2)

pub names_ask_nothing : (st : NameState) (names : List ℕ) → IsNoAsk (command_for_state st names)
names_ask_nothing state.Hidden names = tt
names_ask_nothing state.Sampled names = tt
names_ask_nothing state.Witnessed names = tt

none_accepted : (st : NameState) (j : ScriptState) → state_after_accepted (command_for_state st []) j ≡ j
none_accepted state.Hidden j = refl
none_accepted state.Sampled j = refl
none_accepted state.Witnessed j = refl

none_due : (st : NameState) (u : Bool) (j : ScriptState) → due_for_command u (command_for_state st []) j ≡ []
none_due state.Hidden u j = refl
none_due state.Sampled u j = refl
none_due state.Witnessed u j = refl

-- the names up to the next one
pub name_more : (codes : List ℕ) (k code v : ℕ) → k < length codes → code ≡ get_or codes k code → v ≡ variable code → names_in (take k codes) ++ ((v + 1) ∷ []) ≡ names_in (take (k + 1) codes)
name_more codes k code v within at e =
    let cut : take (k + 1) codes ≡ take k codes ++ (code ∷ []) = take_more codes k code within ∙ ap (λ (x : ℕ). take k codes ++ (x ∷ [])) (sym at) in
    ap (λ (x : ℕ). names_in (take k codes) ++ ((x + 1) ∷ [])) e ∙ sym (map-append (λ (l : ℕ). variable l + 1) (take k codes) (code ∷ [])) ∙ ap names_in (sym cut)

-- a name was hidden, or its mode was set
pub name_obeyed : (st : NameState) (name : ℕ) (a b : Solver) → IsReadySolver b → MakesSteps a b → NameCallEffect a b (state_after_accepted (command_for_state st (name ∷ []))) → OnlyMakes (IsStepForState st name) (due_for_state st (name ∷ [])) a b → NonAskCarriedOut (command_for_state st (name ∷ [])) a b
name_obeyed st name a b ready took r steps = record {
  ready = ready;
  took = took;
  assumed = r.same.assumed;
  clock = r.same.clock;
  keeps = λ j live agree.
      let k = reaches a b (state_after_accepted (command_for_state st (name ∷ []))) r.did ready.records.state j live agree in
      let u = checker_rules.unsat a.steps in
      let c = command_for_state st (name ∷ []) in (
        k.0,
        k.1,
        record {
          due = subst (HasTrace checker_rules a.steps b.steps) (due_same st u (name ∷ []) j) (makes_from a b (due_for_state st (name ∷ [])) steps.ordered j live agree);
          comes = comes_map (IsStepForState st name) (IsCommandStep c) (may_one st name) a.steps b.steps steps.comes;
        },
      );
}

pub none_obeyed : (st : NameState) (a : Solver) → IsReadySolver a → NonAskCarriedOut (command_for_state st []) a a
none_obeyed st a ready = record {
  ready = ready;
  took = makes_none a;
  assumed = refl;
  clock = refl;
  keeps = λ j live agree. (
    live,
    subst (λ k. IsInState a k live) (sym (none_accepted st j)) agree,
    record {
      due = subst (HasTrace checker_rules a.steps a.steps) (sym (none_due st (checker_rules.unsat a.steps) j)) no_step;
      comes = comes_none (IsCommandStep (command_for_state st [])) a.steps;
    },
  );
}

pub names_obeyed : (st : NameState) (xs ys : List ℕ) (a b c : Solver) → NonAskCarriedOut (command_for_state st xs) a b → NonAskCarriedOut (command_for_state st ys) b c → NonAskCarriedOut (command_for_state st (xs ++ ys)) a c
names_obeyed st xs ys a b c f g = record {
  ready = g.ready;
  took = makes_more a b c f.took g.took;
  assumed = g.assumed ∙ f.assumed;
  clock = g.clock ∙ f.clock;
  keeps = λ j live agree.
      let x = f.keeps j live agree in
      let y = g.keeps (state_after_accepted (command_for_state st xs) j) x.0 x.1 in (
        y.0,
        subst (λ k. IsInState c k y.0) (sym (accepted_both st xs ys j)) y.1,
        record {
          due = subst (HasTrace checker_rules a.steps c.steps) (sym (due_both st (checker_rules.unsat a.steps) (checker_rules.unsat b.steps) xs ys j)) (traces_both x.2.due y.2.due);
          comes = comes_both (IsCommandStep (command_for_state st (xs ++ ys))) a.steps b.steps c.steps
              (comes_map (IsCommandStep (command_for_state st xs)) (IsCommandStep (command_for_state st (xs ++ ys))) (may_front st xs ys) a.steps b.steps x.2.comes)
              (comes_map (IsCommandStep (command_for_state st ys)) (IsCommandStep (command_for_state st (xs ++ ys))) (may_back st xs ys) b.steps c.steps y.2.comes);
        },
      );
}

-- a clause was added
pub clause_obeyed : (user : List ℕ) (a b : Solver) → IsReadySolver a → ClauseAccepted a b user → NonAskCarriedOut (Clause (named_literals user)) a b
clause_obeyed user a b before accepted = record {
  ready = accepted.ready;
  took = accepted.took;
  assumed = accepted.added.assumed;
  clock = accepted.added.clock;
  keeps = λ j live agree.
      let then = clause_agrees a b user before.records accepted.added accepted.steps accepted.ready.records j live agree in
      (then.0, then.1, clause_stretch a b user before.records accepted.added accepted.steps accepted.ready.records j live agree);
}
