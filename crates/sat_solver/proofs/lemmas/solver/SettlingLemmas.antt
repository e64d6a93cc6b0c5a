-- A solver after an ask.
use Rattle.std.proofs.Common.{ℕ, ◌+◌, ◌-◌, ◌*◌, ◌^◌, ◌≤◌, ◌<◌, ◌≡◌, ◌∙◌, true, false, Ok, Err, List, [], ◌∷◌, ◌++◌, length, map, get_or, refl, sym, ap, subst, arith, inl}
use Rattle.std.specs.List.{AllByRecursion, Contains}
use Rattle.sat_base.specs.device.Device.{Writer}
use Rattle.sat_base.specs.script.Script.{names_of, Among}
use Rattle.sat_base.specs.steps.Steps.{Step, FailedAssumptions, Model}
use Rattle.sat_base.specs.values.Clauses.{Valuation, AllLitsTrue}
use Rattle.sat_checker.specs.Fold.{Holds}
use Rattle.sat_checker.specs.declared.processing.ProofProcessor.{Ghosts}
use Rattle.sat_parts.specs.prop.Values.{IsTrueLit}
use Rattle.sat_solver.specs.session.LiveClauses.{with_var}
use Rattle.sat_solver.specs.proof.ProofView.{Target, Closed, Open, Broken, TargetFlushed, FlushesAndNotifies, FlushesOrFails, EmitsExactly, EmitsChecked, FailsCheck, AllStepsReported, has_missed_step, steps_of, session_of, target_of}
use Rattle.sat_solver.specs.declared.proof.emitted.CheckFault.{CheckFault}
use Rattle.sat_solver.specs.declared.proof.emitted.CheckFault.TheVariants as checks
use Rattle.sat_solver.specs.declared.proof.Proof.{Proof}
use Rattle.sat_solver.specs.declared.proof.ProofError.{ProofError}
use Rattle.sat_solver.specs.declared.proof.ProofError.TheVariants.{Write, OutOfMemory, Check}
use Rattle.sat_solver.specs.cdcl.StepEffects.{error_of_check, error_of_proof}
use Rattle.sat_solver.specs.session.Session.{Session, AreAllowedSteps, session_after}
use Rattle.sat_solver.specs.session.AllowedSteps.{OnlyAllowedSteps, OnlyWidthAfterUnsat}
use Rattle.sat_solver.proofs.lemmas.session.ComingLemmas.{comes_none, comes_one, comes_both, comes_open}
use Rattle.std.proofs.lemmas.Bool.{true≢false}
use Rattle.sat_solver.proofs.lemmas.session.ProofLemmas.{adds_none, adds_more, gained_width, gains_adds, gains_more, fails_later, flush_records, check_later}
use Rattle.sat_solver.proofs.lemmas.cdcl.GoingLemmas.{check_loss, complaint_kept, went_checked, fault_checked}
use Rattle.sat_base.specs.script.ScriptState.{ScriptState}
use Rattle.sat_solver.specs.schedule.Counting.{RoundsAreBounded, round_allowance}
use Rattle.sat_solver.proofs.lemmas.schedule.GapLemmas.{pow_pos, pow_mono}
use Rattle.sat_solver.specs.declared.schedule.RoundOutcome.TheVariants as outcomes
use Rattle.sat_solver.specs.declared.context.Context.{Context}
use Rattle.sat_solver.specs.declared.config.SolverConfig.{SolverConfig}
use Rattle.sat_solver.specs.declared.context.Search.{Search}
use Rattle.sat_solver.specs.assumptions.Core.{causes_hashes}
use Rattle.sat_solver.specs.cdcl.Joint.{global_in, AssumptionsMatch, SearchInvariant, SameVarsAndAssumptions}
use Rattle.sat_solver.specs.clause.Activity.{DecaysAreInRange}
use Rattle.sat_solver.specs.cdcl.Iterations.{IsComplete}
use Rattle.sat_solver.specs.schedule.Solving.{CountsEmpoweringIn, CountsEmpowering, IsNeverEmpoweringByForm, AskEnds, search_var_count}
use Rattle.sat_solver.specs.load.Literals.{user_literal, AreImages, AreGlobalImages}
use Rattle.sat_checker.specs.matching.Checking.{variable_named}
use Rattle.sat_checker.specs.matching.Expected.{Shows, IsSameLiteralSet}
use Rattle.sat_solver.specs.Models.{named_to}
use Rattle.sat_solver.specs.variables.Variables.{names_used}
use Rattle.sat_solver.specs.variables.Calls.{NamesInvariant, NamesAgree, ChangesScriptState, HasScriptState}
use Rattle.sat_checker.specs.matching.Bridge.{LiveVariables}
use Rattle.sat_solver.specs.declared.variables.Variables.{Variables}
use Rattle.sat_solver.specs.declared.load.literals.MappedLits.{MappedLits}
use Rattle.sat_solver.proofs.lemmas.variables.Doing.{does_none, does_both, judged_by}
use Rattle.sat_solver.specs.declared.solver.Engine.{Engine}
use Rattle.sat_solver.specs.declared.state.SatState.{SatState}
use Rattle.sat_solver.specs.declared.state.SatState.TheVariants as states
use Rattle.sat_solver.specs.declared.solver.find.LastAnswers.{LastAnswers}
use Rattle.sat_solver.specs.declared.solver.find.Schedule.{Schedule}
use Rattle.sat_solver.specs.solver.Joined.{NamesSearchInvariant, lit_over_names}
use Rattle.sat_solver.specs.solver.Answering.{CallFailsWithStoredError, EngineFlushFails, WritesFailedCore, line_of_names, model_of}
use Rattle.sat_solver.specs.solver.Found.{FoundModel, FoundCore, NoAnswerFound, AnswerFound}
use Rattle.sat_solver.specs.solver.Calls.{EngineAnswered, EngineAskCountsRounds, EngineCountsRounds, RoundsWithinBudget, IsFlushed, MakesRounds, RecordsAsk, learned_of, due_between_states, engine_due_for_answer}
use Rattle.sat_solver.specs.solver.SearchingForAnswer.{SearchedForAnswer}
use Rattle.sat_solver.specs.solver.Whole.{SolverInvariant, SolverPartsInvariant, HoldsInState, SearchCanContinue, HasCore, steps_in, session_in, engine_line}
use Rattle.sat_solver.proofs.lemmas.solver.AnsweredLemmas.{asked_shown, core_among, core_spelt, core_none, joined_by, does_shown, does_failed}
use Rattle.sat_solver.proofs.lemmas.solver.KeptLemmas.{images_kept, globals_kept}
use Rattle.sat_solver.specs.unit_simplify.FreedIndices.{KeepsAsked}

apart_sat : states.Sat ≡ states.Unknown → ⊥
apart_sat e = cc

apart_core : states.UnsatUnderAssumptions ≡ states.Unknown → ⊥
apart_core e = cc

apart_unsat : states.Unsat ≡ states.Unknown → ⊥
apart_unsat e = cc

some_mapped : (f : ℕ → ℕ) (ls : List ℕ) → 0 < length ls → map f ls ≡ [] → ⊥
some_mapped f [] lt e = omega arith
some_mapped f (l ∷ ls) lt e = cc

assumed_moved : (s t : Session) (c c' : Search) → AssumptionsMatch s c → AssumptionsMatch t c' → SameVarsAndAssumptions c c' → t.assumed ≡ s.assumed
assumed_moved s t c c' h k moved =
    k ∙ ap (λ gs. map (with_var (λ x. get_or gs x 0)) c'.assumptions.lits.items) (ap (λ gs. gs.items) moved.globals)
    ∙ ap (λ ls. map (with_var (global_in c)) ls) (ap (λ ls. ls.items) moved.lits) ∙ sym h

-- no round was made
no_rounds : (st : SatState) (n : ℕ) → learned_of st (n - n) ≡ 0
no_rounds states.Unknown n = omega arith
no_rounds e n = omega arith

-- a last step that does not advance leaves the number of advancing steps unchanged
then_still : (from mids to steps : List Step) (step : Step) (k : ℕ) → mids ≡ steps ++ from → to ≡ step ∷ mids → CountsEmpowering from steps k → IsNeverEmpoweringByForm (session_after (steps ++ from)) step → CountsEmpoweringIn from to k
then_still from mids to steps step k e f times still = record { steps = step ∷ steps; following = f ∙ ap (λ ss. step ∷ ss) e; times = inl (times, still) }

module _ {W L : Type 0} {G : Ghosts L} (seen : W → Writer) (s : Engine W L G) (whole : SolverInvariant s) where
  -- the answer was known before
  pub settled_known : (s.state ≡ states.Unknown → ⊥) → SearchedForAnswer seen s s
  settled_known n = record {
    whole = whole;
    does = none s.state n;
    comes = comes_none OnlyWidthAfterUnsat (steps_in s);
    took = ([], adds_none seen s.context.proof);
    width = λ k. absurd (k refl);
    same = refl;
    users = refl;
    config = refl;
    counts = record {
      on = record { more = omega arith; within = omega arith; few = λ j live a. (let q = pow_pos (2 * j.identity_count + 3) in omega arith) };
      round = λ u. absurd (n u);
      spent = λ u. absurd (n u);
      answered = λ j live a fits u. n u;
    };
    times = record { steps = []; following = refl; times = no_rounds s.state s.clock.rounds };
    known = λ k. (adds_none seen s.context.proof, refl);
  }
    where
      none : (st : SatState) → (st ≡ states.Unknown → ⊥) → ChangesScriptState s.names s.names (steps_in s) (steps_in s) (λ j. j) (λ j. due_between_states st st (engine_line s) s.assumed.items s.reported.failed_core.items)
      none states.Unknown n = absurd (n refl)
      none states.Sat n = does_none s.names (steps_in s) whole.valid
      none states.UnsatUnderAssumptions n = does_none s.names (steps_in s) whole.valid
      none states.Unsat n = does_none s.names (steps_in s) whole.valid

  module _ (goes : SearchCanContinue s.context s.names s.asked) (core : Context W L G) (m : Variables) (reported : LastAnswers) (clock : Schedule) (scale : clock.restarts.scale ≡ s.clock.restarts.scale) where
    positive : 0 < clock.restarts.scale
    positive = subst (λ (k : ℕ). 0 < k) (sym scale) whole.positive

    scaled : (core : Context W L G) → core.config ≡ s.context.config → clock.restarts.scale ≡ core.config.luby_restart_interval_scale
    scaled core e = scale ∙ whole.scaled ∙ ap (λ (x : SolverConfig). x.luby_restart_interval_scale) (sym e)

    kept_images : {t : Session} → KeepsAsked s.names m (session_in s) t → AreImages m s.assumed.items s.asked.order.items
    kept_images {t} k =
        images_kept s.names m (steps_in s) s.context.search (session_in s) t goes.joined.valid goes.joined.shares s.assumed.items s.asked.order.items
        (goes.joined.sound.search.ready.asked ∙ ap (map (with_var (global_in s.context.search))) goes.lits) whole.images k

    kept_spelt : {t : Session} → KeepsAsked s.names m (session_in s) t → AreGlobalImages m s.assumed.items s.asked.globals.items
    kept_spelt {t} k = globals_kept s.names m s.assumed.items s.asked.globals.items whole.spelt k.users

    -- no answer was found
    pub settled_none : s.state ≡ states.Unknown → EngineAskCountsRounds s (record s { context = core; names = m; reported = reported; clock = clock }) → NoAnswerFound seen (clock.rounds - s.clock.rounds) s.names m s.context core → SearchedForAnswer seen s (record s { context = core; names = m; reported = reported; clock = clock })
    settled_none unknown counts found = record {
      whole = record {
        valid = found.joined.valid;
        images = kept_images found.gone.asked;
        spelt = kept_spelt found.gone.asked;
        globals = whole.globals ∙ sym found.gone.asked.assumed;
        positive = positive;
        scaled = scaled core found.gone.config;
        decays = subst DecaysAreInRange (sym found.gone.config) whole.decays;
        taking = found.gone.adds.taking ∙ whole.taking;
        judged = judged_by found.gone.does whole.judged;
        says = subst (λ st. HoldsInState st core m s.asked s.assumed.items reported.failed_core.items) (sym unknown) (record { joined = found.joined; lits = ap (λ ls. ls.items) found.gone.moved.lits ∙ goes.lits });
      };
      does = subst (λ st. ChangesScriptState s.names m (steps_in s) (steps_of core.proof) (λ j. j) (λ j. due_between_states st st (line_of_names m core) s.assumed.items reported.failed_core.items)) (sym unknown) found.gone.does;
      comes = comes_open (steps_in s) (steps_of core.proof) found.gone.steps found.gone.adds.history found.joined.sound.search.valid.fits.consistent;
      took = (found.gone.steps, gains_adds seen found.gone.steps s.context.proof core.proof found.gone.adds);
      width = gained_width seen s.context.proof core.proof (found.gone.steps, found.gone.adds);
      same = refl;
      users = found.gone.asked.users;
      config = found.gone.config;
      counts = counts;
      times = subst (λ st. CountsEmpoweringIn (steps_in s) (steps_of core.proof) (learned_of st (clock.rounds - s.clock.rounds))) (sym unknown) (record { steps = found.gone.steps; following = found.gone.adds.history; times = found.gone.times });
      known = λ k. absurd (k unknown);
    }

    module _ (unknown : s.state ≡ states.Unknown) where
      abbrev pub new : SatState → Engine W L G
      new st = record s { context = core; names = m; reported = reported; clock = clock; state = st }

      from_unknown : (st : SatState) → ChangesScriptState s.names m (steps_in s) (steps_of core.proof) (λ j. j) (λ j. due_between_states states.Unknown st (line_of_names m core) s.assumed.items reported.failed_core.items) → ChangesScriptState s.names m (steps_in s) (steps_of core.proof) (λ j. j) (λ j. due_between_states s.state st (line_of_names m core) s.assumed.items reported.failed_core.items)
      from_unknown st d = subst (λ before. ChangesScriptState s.names m (steps_in s) (steps_of core.proof) (λ j. j) (λ j. due_between_states before st (line_of_names m core) s.assumed.items reported.failed_core.items)) (sym unknown) d

      -- a model was found
      pub settled_model : EngineAskCountsRounds s (new states.Sat) → FoundModel seen (clock.rounds - s.clock.rounds) s.names m s.context core → SearchedForAnswer seen s (new states.Sat)
      settled_model counts found = record {
        whole = record {
          valid = found.shown.joined.valid;
          images = images;
          spelt = kept_spelt found.ended.asked;
          globals = whole.globals ∙ sym (assumed_moved (session_in s) (session_of core.proof) s.context.search core.search goes.joined.sound.search.ready.asked found.shown.joined.sound.search.ready.asked moved);
          positive = positive;
          scaled = scaled core (found.shown.config ∙ found.ended.config);
          decays = subst DecaysAreInRange (sym (found.shown.config ∙ found.ended.config)) whole.decays;
          taking = found.shown.adds.taking ∙ found.ended.adds.taking ∙ whole.taking;
          judged = judged_by does whole.judged;
          says = (
            record { joined = found.shown.joined; lits = lits },
            complete,
          );
        };
        does = from_unknown states.Sat does;
        comes = comes_both OnlyWidthAfterUnsat (steps_in s) (steps_of found.mid.proof) (steps_of core.proof) found.ended.comes
            (comes_one OnlyWidthAfterUnsat (steps_of found.mid.proof) (steps_of core.proof) _ found.shown.adds.history (λ u. absurd (true≢false (sym u ∙ found.ended.says.0.search.valid.fits.consistent))));
        took = (_, gains_adds seen _ s.context.proof core.proof both);
        width = gained_width seen s.context.proof core.proof (_, both);
        same = refl;
        users = found.ended.asked.users;
        config = found.shown.config ∙ found.ended.config;
        counts = counts;
        times = then_still (steps_in s) (steps_of found.mid.proof) (steps_of core.proof) found.ended.steps _ _ found.ended.adds.history found.shown.adds.history found.ended.times (record { quiet = refl; never = tt });
        known = λ k. absurd (k unknown);
      }
        where
          line_by : Search → List ℕ
          line_by c = named_to m c.parts.assignment.current (names_used m)

          images : AreImages m s.assumed.items s.asked.order.items
          images = kept_images found.ended.asked

          mid : NamesSearchInvariant m found.mid
          mid = joined_by s.names m s.context found.mid goes.joined found.ended.config found.ended.keeps found.ended.does.valid found.ended.says.0.search found.ended.says.1

          moved : SameVarsAndAssumptions s.context.search core.search
          moved = subst (SameVarsAndAssumptions s.context.search) (sym found.shown.search) found.ended.says.0.moved

          lits : core.search.assumptions.lits.items ≡ s.asked.order.items
          lits = ap (λ ls. ls.items) moved.lits ∙ goes.lits

          complete : IsComplete core.search.assumptions.lits.items core.search.parts
          complete = subst (λ (c : Search). IsComplete c.assumptions.lits.items c.parts) (sym found.shown.search) found.ended.says.0.complete

          asked : AllByRecursion (λ l. Among l (line_by core.search)) s.assumed.items
          asked = asked_shown m core.search.parts.assignment.current s.assumed.items s.asked.order.items images
              (subst (λ ls. (k : ℕ) → k < length ls → IsTrueLit core.search.parts.assignment.current (get_or ls k 0)) lits complete.assumed)

          both : EmitsChecked seen (Model (model_of m found.mid) ∷ found.ended.steps) s.context.proof core.proof
          both = gains_more seen found.ended.steps (Model (model_of m found.mid) ∷ []) s.context.proof found.mid.proof core.proof found.ended.adds found.shown.adds

          does : ChangesScriptState s.names m (steps_in s) (steps_of core.proof) (λ j. j) (λ j. due_between_states states.Unknown states.Sat (line_of_names m core) s.assumed.items reported.failed_core.items)
          does = does_both s.names m m (steps_in s) (steps_of found.mid.proof) (steps_of core.proof) (λ j. j) (λ j. j) (λ j. []) (λ j. due_between_states states.Unknown states.Sat (line_of_names m core) s.assumed.items reported.failed_core.items)
              found.ended.does
              (subst (λ c. ChangesScriptState m m (steps_of found.mid.proof) (steps_of core.proof) (λ j. j) (λ j. Shows (names_of (map user_literal (line_by c))) (map user_literal s.assumed.items) (map user_literal (line_by c)) ∷ [])) (sym found.shown.search)
              (does_shown seen m found.mid mid core found.shown s.assumed.items (subst (λ c. AllByRecursion (λ l. Among l (line_by c)) s.assumed.items) found.shown.search asked)))

      -- a failed core was found
      pub settled_core : EngineAskCountsRounds s (new states.UnsatUnderAssumptions) → FoundCore seen (clock.rounds - s.clock.rounds) s.names m s.context core reported.failed_core.items → SearchedForAnswer seen s (new states.UnsatUnderAssumptions)
      settled_core counts found = record {
        whole = record {
          valid = found.failed.joined.valid;
          images = images;
          spelt = kept_spelt found.ended.asked;
          globals = whole.globals ∙ sym (assumed_moved (session_in s) (session_of core.proof) s.context.search core.search goes.joined.sound.search.ready.asked found.failed.joined.sound.search.ready.asked moved);
          positive = positive;
          scaled = scaled core (found.failed.config ∙ found.ended.config);
          decays = subst DecaysAreInRange (sym (found.failed.config ∙ found.ended.config)) whole.decays;
          taking = found.failed.adds.taking ∙ found.ended.adds.taking ∙ whole.taking;
          judged = judged_by does whole.judged;
          says = (
            record { joined = found.failed.joined; lits = ap (λ ls. ls.items) moved.lits ∙ goes.lits },
            failed_is found.mid mid lits found.failed,
          );
        };
        does = from_unknown states.UnsatUnderAssumptions does;
        comes = comes_both OnlyWidthAfterUnsat (steps_in s) (steps_of found.mid.proof) (steps_of core.proof) found.ended.comes
            (comes_one OnlyWidthAfterUnsat (steps_of found.mid.proof) (steps_of core.proof) _ (found.failed.adds.history ∙ ap (λ ss. ss ++ steps_of found.mid.proof) found.failed.reported.is) (λ u. absurd (true≢false (sym u ∙ found.ended.says.0.search.valid.fits.consistent))));
        took = (_, gains_adds seen _ s.context.proof core.proof both);
        width = gained_width seen s.context.proof core.proof (_, both);
        same = refl;
        users = found.ended.asked.users;
        config = found.failed.config ∙ found.ended.config;
        counts = counts;
        times = then_still (steps_in s) (steps_of found.mid.proof) (steps_of core.proof) found.ended.steps _ _ found.ended.adds.history (found.failed.adds.history ∙ ap (λ ss. ss ++ steps_of found.mid.proof) found.failed.reported.is) found.ended.times (record { quiet = refl; never = tt });
        known = λ k. absurd (k unknown);
      }
        where
          images : AreImages m s.assumed.items s.asked.order.items
          images = kept_images found.ended.asked

          mid : NamesSearchInvariant m found.mid
          mid = joined_by s.names m s.context found.mid goes.joined found.ended.config found.ended.keeps found.ended.does.valid found.ended.says.0.search found.ended.says.1

          moved : SameVarsAndAssumptions s.context.search core.search
          moved = record {
            globals = found.failed.reported.moved.globals ∙ found.ended.says.0.moved.globals;
            lits = found.failed.reported.moved.lits ∙ found.ended.says.0.moved.lits;
            size = found.failed.reported.moved.size ∙ found.ended.says.0.moved.size;
          }

          lits : found.mid.search.assumptions.lits.items ≡ s.asked.order.items
          lits = ap (λ ls. ls.items) found.ended.says.0.moved.lits ∙ goes.lits

          both : EmitsChecked seen (found.failed.steps ++ found.ended.steps) s.context.proof core.proof
          both = gains_more seen found.ended.steps found.failed.steps s.context.proof found.mid.proof core.proof found.ended.adds found.failed.adds

          does : ChangesScriptState s.names m (steps_in s) (steps_of core.proof) (λ j. j) (λ j. due_between_states states.Unknown states.UnsatUnderAssumptions (line_of_names m core) s.assumed.items reported.failed_core.items)
          does = does_both s.names m m (steps_in s) (steps_of found.mid.proof) (steps_of core.proof) (λ j. j) (λ j. j) (λ j. []) (λ j. due_between_states states.Unknown states.UnsatUnderAssumptions (line_of_names m core) s.assumed.items reported.failed_core.items)
              found.ended.does (does_failed seen m found.mid mid core reported.failed_core.items found.failed s.assumed.items s.asked.order.items images lits)

          failed_is : (mid : Context W L G) → NamesSearchInvariant m mid → mid.search.assumptions.lits.items ≡ s.asked.order.items → WritesFailedCore seen m mid core reported.failed_core.items → HasCore core s.assumed.items reported.failed_core.items
          failed_is mid joined lits f =
              let used = core.search.analysis.core in
              let codes = map (with_var (global_in mid.search)) used in
              let history : steps_of core.proof ≡ FailedAssumptions codes (causes_hashes mid.search.parts core.search.analysis.used) ∷ steps_of mid.proof = f.adds.history ∙ ap (λ ss. ss ++ steps_of mid.proof) f.reported.is in
              let among : (k : ℕ) → k < length used → Contains s.asked.order.items (get_or used k 0) = λ k lt. subst (λ ls. Contains ls (get_or used k 0)) lits (f.reported.failed.among k lt) in
              record {
                some = λ e. some_mapped (lit_over_names m) used f.reported.failed.some (sym f.named ∙ e);
                codes = codes;
                none = subst (λ ss. (a : Valuation) → Holds ss a → AllLitsTrue a codes → ⊥) (sym history) (core_none (steps_of mid.proof) codes (causes_hashes mid.search.parts core.search.analysis.used) (subst AreAllowedSteps history f.joined.sound.keeps));
                same = subst (λ xs. IsSameLiteralSet (variable_named (steps_of core.proof)) (map user_literal xs) codes) (sym f.named)
                    (core_spelt m (steps_of core.proof) f.joined.valid mid.search joined.shares s.assumed.items s.asked.order.items images used among);
                among = subst (AllByRecursion (λ l. Among l s.assumed.items)) (sym f.named) (core_among m (steps_of core.proof) f.joined.valid mid.search joined.shares s.assumed.items s.asked.order.items images used among);
              }

      -- the clauses turned out to be unsatisfiable without assumptions
      pub settled_unsat : EngineAskCountsRounds s (new states.Unsat) → AskEnds seen s.context s.names (clock.rounds - s.clock.rounds - 1) outcomes.Unsat core m → SearchedForAnswer seen s (new states.Unsat)
      settled_unsat counts ended = record {
        whole = record {
          valid = ended.does.valid;
          images = kept_images ended.asked;
          spelt = kept_spelt ended.asked;
          globals = whole.globals ∙ sym ended.asked.assumed;
          positive = positive;
          scaled = scaled core ended.config;
          decays = subst DecaysAreInRange (sym ended.config) whole.decays;
          taking = ended.adds.taking ∙ whole.taking;
          judged = judged_by ended.does whole.judged;
          says = ended.says;
        };
        does = from_unknown states.Unsat ended.does;
        comes = ended.comes;
        took = (ended.steps, gains_adds seen ended.steps s.context.proof core.proof ended.adds);
        width = gained_width seen s.context.proof core.proof (ended.steps, ended.adds);
        same = refl;
        users = ended.asked.users;
        config = ended.config;
        counts = counts;
        times = record { steps = ended.steps; following = ended.adds.history; times = ended.times };
        known = λ k. absurd (k unknown);
      }

-- the invariant holds for another proof with the same steps
pub whole_over : {W L : Type 0} {G : Ghosts L} (c : Context W L G) (n : Variables) (asked : MappedLits) (assumed core : List ℕ) (scale : ℕ) (state : SatState) (p : Proof W L G) → SolverPartsInvariant c n asked assumed core scale state → steps_of p ≡ steps_of c.proof → has_missed_step p ≡ has_missed_step c.proof → SolverPartsInvariant (record c { proof = p }) n asked assumed core scale state
whole_over {W} {L} {G} c n asked assumed core scale state p whole e taking = record {
  valid = subst (NamesInvariant n) (sym e) whole.valid;
  images = whole.images;
  spelt = whole.spelt;
  globals = whole.globals ∙ ap (λ ss. (session_after ss).assumed) (sym e);
  positive = whole.positive;
  scaled = whole.scaled;
  decays = whole.decays;
  taking = taking ∙ whole.taking;
  judged = subst (HasScriptState n) (sym e) whole.judged;
  says = says state whole.says;
}
  where
    new : Context W L G
    new = record c { proof = p }

    joined : SearchCanContinue c n asked → SearchCanContinue new n asked
    joined g = record {
      joined = record {
        sound = record {
          keeps = subst AreAllowedSteps (sym e) g.joined.sound.keeps;
          search = subst (λ ss. SearchInvariant (session_after ss) c.search) (sym e) g.joined.sound.search;
          locals = g.joined.sound.locals;
          mids = g.joined.sound.mids;
        };
        valid = subst (NamesInvariant n) (sym e) g.joined.valid;
        shares = g.joined.shares;
      };
      lits = g.lits;
    }

    says : (st : SatState) → HoldsInState st c n asked assumed core → HoldsInState st new n asked assumed core
    says states.Unknown h = joined h
    says states.Sat h = (joined h.0, h.1)
    says states.UnsatUnderAssumptions h = (
      joined h.0,
      record {
        some = h.1.some;
        codes = h.1.codes;
        none = subst (λ ss. (a : Valuation) → Holds ss a → AllLitsTrue a h.1.codes → ⊥) (sym e) h.1.none;
        same = subst (λ ss. IsSameLiteralSet (variable_named ss) (map user_literal core) h.1.codes) (sym e) h.1.same;
        among = h.1.among;
      },
    )
    says states.Unsat h = subst (λ ss. (session_after ss).unsat ≡ true) (sym e) h

module _ {W L : Type 0} {G : Ghosts L} (seen : W → Writer) (old mid : Engine W L G) (settled : SearchedForAnswer seen old mid) (p : Proof W L G) where
  flush_adds : FlushesAndNotifies seen mid.context.proof p → EmitsExactly seen [] mid.context.proof p
  flush_adds f = gains_adds seen [] mid.context.proof p (flush_records seen (Ok tt) mid.context.proof p settled.whole.taking f)

  -- the target was flushed after the answer
  pub settled_flushed : FlushesAndNotifies seen mid.context.proof p → SearchedForAnswer seen old (record mid { context = record mid.context { proof = p } })
  settled_flushed f = record {
    whole = whole_over mid.context mid.names mid.asked mid.assumed.items mid.reported.failed_core.items mid.clock.restarts.scale mid.state p settled.whole f.history f.taking;
    does = subst (λ ss. ChangesScriptState old.names mid.names (steps_in old) ss (λ j. j) (λ j. engine_due_for_answer old.state mid)) (sym f.history) settled.does;
    comes = subst (OnlyAllowedSteps OnlyWidthAfterUnsat (steps_in old)) (sym f.history) settled.comes;
    took = (_, adds_more seen settled.took.0 [] old.context.proof mid.context.proof p settled.took.1 (flush_adds f));
    width = λ n. f.width (settled.width (λ e. n (f.history ∙ e)));
    same = ap (λ (m : Engine W L G). record m { context = record mid.context { proof = p } }) settled.same;
    users = settled.users;
    config = settled.config;
    counts = record { on = settled.counts.on; round = settled.counts.round; spent = settled.counts.spent; answered = settled.counts.answered };
    times = record { steps = settled.times.steps; following = f.history ∙ settled.times.following; times = settled.times.times };
    known = λ k. let h = settled.known k in (adds_more seen [] [] old.context.proof mid.context.proof p h.0 (flush_adds f), ap (λ (m : Engine W L G). record m { context = record m.context { proof = p } }) h.1);
  }

  -- flushing the target failed
  pub settled_broken : (e : ProofError) → FlushesOrFails seen (Err e) mid.context.proof p → CallFailsWithStoredError seen (error_of_proof e) old.context (record mid.context { proof = p }) × EngineCountsRounds old mid × ((old.state ≡ states.Unknown → ⊥) → EngineFlushFails seen (error_of_proof e) old.context.proof p)
  settled_broken (Write cause) f = ((record { fault = tt; steps = _; went = fails_later seen settled.took.0 [] old.context.proof mid.context.proof p settled.took.1 f.0; loss = tt }, f.1), settled.counts.on, λ k. fails_later seen [] [] old.context.proof mid.context.proof p (settled.known k).0 f.0)
  settled_broken OutOfMemory f = absurd f
  settled_broken (Check fault) f =
      let k = flush_records seen (Err (Check fault)) mid.context.proof p settled.whole.taking f in
      let steps = settled.took.0 in
      ((record { fault = fault_checked _ fault; steps = [] ++ steps; went = went_checked seen (Unit {0}) fault ([] ++ steps) old.context.proof p (check_later seen steps [] old.context.proof mid.context.proof p settled.took.1 k.0); loss = check_loss fault old.context.proof p k.0.why }, complaint_kept fault p k.1), settled.counts.on, λ n. flush_checked fault (check_later seen [] [] old.context.proof mid.context.proof p (settled.known n).0 k.0))
    where
      flush_checked : (f : CheckFault) → FailsCheck seen f [] old.context.proof p → EngineFlushFails seen (error_of_check f) old.context.proof p
      flush_checked checks.OutOfMemory h = h
      flush_checked checks.CounterEnd h = h
      flush_checked (checks.Processor cause) h = h

module _ {W L : Type 0} {G : Ghosts L} (seen : W → Writer) (s : Engine W L G) (whole : SolverInvariant s) (unknown : s.state ≡ states.Unknown) (core : Context W L G) (m : Variables) (reported : LastAnswers) (clock : Schedule) (scale : clock.restarts.scale ≡ s.clock.restarts.scale) (on : RoundsAreBounded (search_var_count s.context) s.context.config.max_steps s.clock.rounds clock.rounds) where
  goes_on : SearchCanContinue s.context s.names s.asked
  goes_on = subst (λ st. HoldsInState st s.context s.names s.asked s.assumed.items s.reported.failed_core.items) unknown whole.says

  -- there are at most as many variables as identities
  over_identities : (j : ScriptState) (live : LiveVariables) → NamesAgree s.names (steps_in s) j live → search_var_count s.context ≤ j.identity_count
  over_identities j live agree =
      let shares = goes_on.joined.shares in
      let size = shares.size in
      let few = shares.few in
      let indices = goes_on.joined.valid.tidy.indices in
      let identities = agree.judged.identities in
      omega arith

  pub rounds_on : RoundsWithinBudget s.names (steps_in s) s.context.config.max_steps s.clock.rounds clock.rounds
  rounds_on = record {
    more = on.more;
    within = on.within;
    few = λ j live agree. (let p = pow_mono (2 * search_var_count s.context + 3) (2 * j.identity_count + 3) (let le = over_identities j live agree in omega arith) in let f = on.few in omega arith);
  }

  -- an answer was found
  pub settled_some : s.clock.rounds < clock.rounds → (st : SatState) → AnswerFound seen st (clock.rounds - s.clock.rounds) s.names m s.context core reported.failed_core.items → SearchedForAnswer seen s (record s { context = core; names = m; reported = reported; clock = clock; state = st })
  settled_some round states.Unknown found = absurd found
  settled_some round states.Sat found = settled_model seen s whole goes_on core m reported clock scale unknown (record { on = rounds_on; round = λ u k. round; spent = λ u. absurd (apart_sat u); answered = λ j live a fits u. apart_sat u }) found
  settled_some round states.UnsatUnderAssumptions found = settled_core seen s whole goes_on core m reported clock scale unknown (record { on = rounds_on; round = λ u k. round; spent = λ u. absurd (apart_core u); answered = λ j live a fits u. apart_core u }) found
  settled_some round states.Unsat found = settled_unsat seen s whole goes_on core m reported clock scale unknown (record { on = rounds_on; round = λ u k. round; spent = λ u. absurd (apart_unsat u); answered = λ j live a fits u. apart_unsat u }) found

  -- no answer was found, and the rounds are exhausted
  pub settled_without : clock.rounds ≡ s.clock.rounds + round_allowance s.context.config.max_steps s.clock.rounds →
      ((n : ℕ) → search_var_count s.context ≤ n → 2 ^ (2 * n + 3) ≤ round_allowance s.context.config.max_steps s.clock.rounds → ⊥) →
      NoAnswerFound seen (clock.rounds - s.clock.rounds) s.names m s.context core → SearchedForAnswer seen s (record s { context = core; names = m; reported = reported; clock = clock })
  settled_without spent answered found = settled_none seen s whole goes_on core m reported clock scale unknown (record { on = rounds_on; round = λ u k. absurd (k unknown); spent = λ u. spent; answered = λ j live a fits u. answered j.identity_count (over_identities j live a) fits }) found

-- the target was flushed
pub flushed_by : {W L : Type 0} {G : Ghosts L} (seen : W → Writer) (p q : Proof W L G) → FlushesAndNotifies seen p q → IsFlushed (target_of seen q)
flushed_by seen p q f = go (target_of seen p) (target_of seen q) f.target
  where
    go : (a b : Target) → TargetFlushed a b → IsFlushed b
    go (Closed c) b e = subst IsFlushed (sym e) tt
    go (Open x c s) b e = subst IsFlushed (sym e.1) (e.2.none, e.2.flushed)
    go (Broken w) b e = subst IsFlushed (sym e) tt

-- CALLS

module _ {W L : Type 0} {G : Ghosts L} (seen : W → Writer) (s new : Engine W L G) (settled : SearchedForAnswer seen (record s { used = true }) new) (going : s.failed ≡ false) (flushed : IsFlushed (target_of seen new.context.proof)) (reported : AllStepsReported new.context.proof) (asked : RecordsAsk seen new.context.proof) (rounds : s.state ≡ states.Unknown → MakesRounds seen s new) where
  -- the ask was answered
  pub answered : EngineAnswered seen s new
  answered = record {
    did = record { whole = settled.whole; going = going; failed = ap (λ (x : Engine W L G). x.failed) settled.same ∙ going; used = ap (λ (x : Engine W L G). x.used) settled.same; config = settled.config; does = settled.does; took = settled.took; width = settled.width };
    assumed = ap (λ (x : Engine W L G). x.assumed) settled.same;
    counts = record { on = settled.counts.on; round = settled.counts.round; spent = settled.counts.spent; answered = settled.counts.answered };
    flushed = flushed;
    reported = reported;
    steps = record { comes = settled.comes; times = settled.times; users = settled.users; asked = asked; rounds = rounds };
    known = λ k. let h = settled.known k in record { steps = h.0.history; same = h.1 };
  }
