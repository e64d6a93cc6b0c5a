-- Why answers are right.
use Rattle.std.proofs.Common.{ℕ, ◌<◌, ◌≡◌, ◌∙◌, refl, Bool, false, Option, List, [], ◌∷◌, length, get_or, sym, ap, subst}
use Rattle.std.specs.List.{AllByRecursion}
use Rattle.sat_base.specs.script.Script.{Among}
use Rattle.sat_checker.specs.declared.processing.ProofProcessor.{Ghosts}
use Rattle.sat_parts.specs.prop.Values.{IsTrueLit}
use Rattle.sat_solver.specs.proof.ProofView.{session_of}
use Rattle.sat_solver.proofs.lemmas.session.NamedLemmas.{named_unsat_is_right}
use Rattle.sat_checker.specs.matching.Checking.{variable_named}
use Rattle.sat_solver.specs.declared.solver.Engine.{Engine}
use Rattle.sat_solver.specs.declared.state.SatState.{SatState}
use Rattle.sat_solver.specs.declared.state.SatState.TheVariants as states
use Rattle.sat_solver.specs.solver.Whole.{SolverInvariant, HoldsInState, steps_in, engine_line}
use Rattle.sat_solver.specs.solver.Answers.{EngineIsModel, EngineIsRightLine, EngineIsRightCore, EngineIsCore, engine_core_for}
use Rattle.sat_solver.specs.facade.Answers.{is_unsat}
use Rattle.sat_solver.proofs.lemmas.solver.ShownLemmas.{shown_may}
use Rattle.sat_solver.proofs.lemmas.solver.LineLemmas.{model_line, core_of, means_of}
use Rattle.sat_solver.proofs.lemmas.solver.AnsweredLemmas.{asked_shown}

-- an unsatisfiable answer that doesn't rest on assumptions
unsat_unless : (st : SatState) → is_unsat st → (st ≡ states.UnsatUnderAssumptions → ⊥) → st ≡ states.Unsat
unsat_unless states.Unknown unsat n = absurd unsat
unsat_unless states.Sat unsat n = absurd unsat
unsat_unless states.UnsatUnderAssumptions unsat n = absurd (n refl)
unsat_unless states.Unsat unsat n = refl

module _ {W L : Type 0} {G : Ghosts L} (s : Engine W L G) (whole : SolverInvariant s) where
  -- the line of a model is right
  pub model_rests : s.failed ≡ false → s.state ≡ states.Sat → (line : List ℕ) → line ≡ engine_line s → EngineIsModel s line
  model_rests going state line e = record {
    going = going;
    answer = state;
    line_is = e;
    right = subst (EngineIsRightLine s) (sym e) (λ j live agree. model_line s.names (steps_in s) values whole.valid j live agree s.assumed.items
        (shown_may s.names (session_of s.context.proof) s.context.search whole.valid.tidy whole.valid.said says.0.joined.sound.search says.0.joined.shares says.1)
        (asked_shown s.names values s.assumed.items s.asked.order.items whole.images
        (subst (λ ls. (k : ℕ) → k < length ls → IsTrueLit values (get_or ls k 0)) says.0.lits says.1.assumed)));
  }
    where
      values : List (Option Bool)
      values = s.context.search.parts.assignment.current

      says : HoldsInState states.Sat s.context s.names s.asked s.assumed.items s.reported.failed_core.items
      says = subst (λ st. HoldsInState st s.context s.names s.asked s.assumed.items s.reported.failed_core.items) state whole.says

  -- a failed core consists of assumptions, so there are some
  core_assumed : s.state ≡ states.UnsatUnderAssumptions → s.assumed.items ≡ [] → ⊥
  core_assumed state none = some_assumed s.reported.failed_core.items says.1.some (subst (λ ls. AllByRecursion (λ l. Among l ls) s.reported.failed_core.items) none says.1.among)
    where
      some_assumed : (core : List ℕ) → (core ≡ [] → ⊥) → AllByRecursion (λ l. Among l []) core → ⊥
      some_assumed [] some among = some refl
      some_assumed (l ∷ ls) some among = among.0

      says : HoldsInState states.UnsatUnderAssumptions s.context s.names s.asked s.assumed.items s.reported.failed_core.items
      says = subst (λ st. HoldsInState st s.context s.names s.asked s.assumed.items s.reported.failed_core.items) state whole.says

  -- without assumptions, the clauses alone are unsatisfiable
  pub unsat_without : s.assumed.items ≡ [] → is_unsat s.state → s.state ≡ states.Unsat
  unsat_without none unsat = unsat_unless s.state unsat (λ state. core_assumed state none)

  -- a failed core is right
  pub core_rests : s.failed ≡ false → s.state ≡ states.UnsatUnderAssumptions → (core : List ℕ) → core ≡ s.reported.failed_core.items → EngineIsCore s core
  core_rests going state core e = (record { going = going; unsat = subst is_unsat (sym state) tt; core_is = e ∙ sym (ap (λ st. engine_core_for st s) state); some = λ _ none. says.1.some (sym e ∙ none); right = subst (EngineIsRightCore s) (sym e) (λ j live agree. core_of s.names (steps_in s) j live agree s.assumed.items s.reported.failed_core.items says.1.codes says.1.none says.1.same says.1.among) })
    where
      says : HoldsInState states.UnsatUnderAssumptions s.context s.names s.asked s.assumed.items s.reported.failed_core.items
      says = subst (λ st. HoldsInState st s.context s.names s.asked s.assumed.items s.reported.failed_core.items) state whole.says

  -- the empty core is right if the clauses are unsatisfiable without assumptions
  pub unsat_rests : s.failed ≡ false → s.state ≡ states.Unsat → (core : List ℕ) → core ≡ [] → EngineIsCore s core
  unsat_rests going state core e = (record {
    going = going;
    unsat = subst is_unsat (sym state) tt;
    core_is = e ∙ sym (ap (λ st. engine_core_for st s) state);
    some = λ under _. unsat_alone (sym state ∙ under);
    right = subst (EngineIsRightCore s) (sym e) (λ j live agree. record {
      among = tt;
      none = (named_unsat_is_right j (variable_named (steps_in s)) (steps_in s) [] (means_of s.names (steps_in s) j live agree) whole.valid.may says).none;
    });
  })
    where
      unsat_alone : states.Unsat ≡ states.UnsatUnderAssumptions → ⊥
      unsat_alone q = cc

      says : HoldsInState states.Unsat s.context s.names s.asked s.assumed.items s.reported.failed_core.items
      says = subst (λ st. HoldsInState st s.context s.names s.asked s.assumed.items s.reported.failed_core.items) state whole.says
