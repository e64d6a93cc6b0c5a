-- A solver has accepted a clause or assumptions.
use Rattle.std.proofs.Common.{ℕ, ◌≡◌, ◌∙◌, true, false, Option, None, Some, is_some, Err, List, get_or, refl, sym, ap, subst, ◌⊎◌, inl, inr}
use Rattle.sat_base.specs.device.Device.{Writer}
use Rattle.sat_base.specs.script.ScriptState.{ScriptState, introduce_all, refusal_of_names}
use Rattle.sat_base.specs.values.Literals.{variable}
use Rattle.sat_store.specs.variables.Maps.{target}
use Rattle.sat_checker.specs.declared.processing.ProofProcessor.{Ghosts}
use Rattle.sat_solver.specs.session.Emitting.{EmitsSomeSteps, EmitsSomeChecked}
use Rattle.sat_solver.specs.proof.ProofView.{IsAtWidth, has_asked, has_missed_step, steps_of, session_of}
use Rattle.sat_solver.specs.session.Session.{session_after}
use Rattle.sat_solver.specs.declared.proof.Proof.{Proof}
use Rattle.sat_solver.specs.declared.error.SolverError.{SolverError}
use Rattle.sat_solver.specs.declared.error.SolverError.TheVariants as errors
use Rattle.sat_solver.specs.declared.variables.Variables.{Variables}
use Rattle.sat_solver.specs.declared.load.literals.MappedLits.{MappedLits}
use Rattle.sat_solver.specs.declared.context.Context.{Context}
use Rattle.sat_solver.specs.declared.config.SolverConfig.{SolverConfig}
use Rattle.sat_solver.specs.load.Literals.{IsImage, AreImages}
use Rattle.sat_solver.specs.load.Clauses.{OmitsClause}
use Rattle.sat_solver.specs.load.Assumed as assuming
use Rattle.sat_solver.specs.variables.Calls.{ChangesScriptState}
use Rattle.sat_solver.proofs.lemmas.session.ProofLemmas.{gains_adds, gained_width}
use Rattle.sat_solver.proofs.lemmas.variables.Doing.{judged_by}
use Rattle.sat_solver.proofs.lemmas.solver.SpeltLemmas.{global_images_of, global_images_kept}
use Rattle.sat_solver.specs.declared.solver.Engine.{Engine}
use Rattle.sat_solver.specs.declared.state.SatState.{SatState}
use Rattle.sat_solver.specs.declared.state.SatState.TheVariants as states
use Rattle.sat_solver.specs.declared.solver.load.Loading.{Loading}
use Rattle.sat_solver.specs.cdcl.StepEffects.{IsFault, IsFaultOr}
use Rattle.sat_solver.specs.solver.AddingToSearch.{ClauseAddedToSearch, AssumptionsSetInSearch, NameStepsFail, NameStepsFailOr}
use Rattle.sat_solver.specs.solver.Whole.{EngineHasFullStore, SolverInvariant, SolverPartsInvariant, HoldsInState, SearchCanContinue, steps_in}
use Rattle.sat_solver.specs.solver.Adding.{AddClauseEffect, with_added, due_for_clause, ForgetsAnswer, EngineHasNoWitness, EngineDratAdmitsClauses, EngineAddsClause, EngineReplacesAssumptions, EngineAssumesOrRefuses, due_for_assumptions}
use Rattle.sat_solver.specs.clause.Activity.{DecaysAreInRange}
use Rattle.sat_solver.specs.solver.Asking.{AcceptsAssumptions}
use Rattle.sat_solver.specs.variables.VariableRoom.{HasVariablesFor, user_vars_in}
use Rattle.sat_solver.specs.variables.Refusing.{names_in, as_refusal}
use Rattle.sat_checker.specs.matching.Bridge.{LiveVariables}
use Rattle.sat_checker.specs.matching.Expected.{Unknown}
use Rattle.sat_solver.specs.variables.Variables.{NamesMatchState}
use Rattle.std.proofs.lemmas.Bool.{true≢false}
use Rattle.sat_solver.specs.solver.FailedEngine.{failed_with}
use Rattle.sat_solver.proofs.lemmas.solver.ReportedLemmas.{names_reported}
use Rattle.sat_solver.proofs.lemmas.solver.TakingLemmas.{took_starved}
use Rattle.sat_solver.proofs.lemmas.variables.ComingSteps.{comes_added, comes_due}
use Rattle.sat_solver.specs.session.AllowedSteps.{OnlyAllowedSteps}
use Rattle.sat_solver.specs.variables.NamingSteps.{IsLiteralsStep}

-- the search can continue unless unsat is recorded
pub goes_of : {W L : Type 0} {G : Ghosts L} (st : SatState) (c : Context W L G) (n : Variables) (asked : MappedLits) (assumed core : List ℕ) → (st ≡ states.Unsat → ⊥) → HoldsInState st c n asked assumed core → SearchCanContinue c n asked
goes_of states.Unknown c n asked assumed core k h = h
goes_of states.Sat c n asked assumed core k h = h.0
goes_of states.UnsatUnderAssumptions c n asked assumed core k h = h.0
goes_of states.Unsat c n asked assumed core k h = absurd (k refl)

module _ {W L : Type 0} {G : Ghosts L} (seen : W → Writer) (s : Engine W L G) (whole : SolverInvariant s) (apart : s.state ≡ states.Unsat → ⊥) where
  pub going_on : SearchCanContinue s.context s.names s.asked
  going_on = goes_of s.state s.context s.names s.asked s.assumed.items s.reported.failed_core.items apart whole.says

  module _ (b : Context W L G) (n' : Variables) (user : List ℕ) (loading : Loading) where
    abbrev pub added : SatState → Engine W L G
    added st = record s { context = b; names = n'; loading = loading; state = st }

    by_state : (before now : SatState) → (before ≡ states.Unsat → ⊥) → ((now ≡ states.Unknown) ⊎ (now ≡ states.Unsat)) → ForgetsAnswer before now
    by_state states.Unknown states.Unknown k e = tt
    by_state states.Unknown states.Unsat k e = tt
    by_state states.Sat states.Unknown k e = tt
    by_state states.Sat states.Unsat k e = tt
    by_state states.UnsatUnderAssumptions states.Unknown k e = tt
    by_state states.UnsatUnderAssumptions states.Unsat k e = tt
    by_state states.Unsat now k e = absurd (k refl)
    by_state before states.Sat k e = elim e [ inl x ↦ absurd (sat_unknown x) | inr x ↦ absurd (sat_unsat x) ]
      where
        sat_unknown : states.Sat ≡ states.Unknown → ⊥
        sat_unknown x = cc

        sat_unsat : states.Sat ≡ states.Unsat → ⊥
        sat_unsat x = cc
    by_state before states.UnsatUnderAssumptions k e = elim e [ inl x ↦ absurd (core_unknown x) | inr x ↦ absurd (core_unsat x) ]
      where
        core_unknown : states.UnsatUnderAssumptions ≡ states.Unknown → ⊥
        core_unknown x = cc

        core_unsat : states.UnsatUnderAssumptions ≡ states.Unsat → ⊥
        core_unsat x = cc

    due_by : (st : SatState) → (st ≡ states.Unsat → ⊥) → ChangesScriptState s.names n' (steps_in s) (steps_of b.proof) (with_added user) (due_for_clause states.Unknown user) → ChangesScriptState s.names n' (steps_in s) (steps_of b.proof) (with_added user) (due_for_clause st user)
    due_by states.Unsat k d = absurd (k refl)
    due_by e k d = d

    -- a clause was added, and unsat isn't recorded
    pub took_left : ClauseAddedToSearch seen s.names n' s.context b user true → AddClauseEffect seen s (added states.Unknown) user
    took_left t = record {
      whole = record {
        valid = t.does.valid;
        images = t.images s.assumed.items s.asked.order.items whole.images;
        spelt = global_images_kept s.names n' s.assumed.items s.asked.globals.items t.names whole.spelt;
        globals = whole.globals ∙ sym t.assumed;
        positive = whole.positive;
        scaled = subst (λ (x : SolverConfig). s.clock.restarts.scale ≡ x.luby_restart_interval_scale) (sym t.config) whole.scaled;
        decays = subst DecaysAreInRange (sym t.config) whole.decays;
        taking = t.took.1.taking ∙ whole.taking;
        judged = judged_by t.does whole.judged;
        says = record { joined = t.goes_on; lits = ap (λ ls. ls.items) t.lits ∙ going_on.lits };
      };
      does = due_by s.state apart t.does;
      comes = t.comes;
      order = λ k. t.order;
      left_out = λ e. absurd (apart e);
      took = (t.took.0, gains_adds seen t.took.0 s.context.proof b.proof t.took.1);
      asked = t.took.1.asked;
      width = gained_width seen s.context.proof b.proof t.took;
      failed = refl;
      used = refl;
      config = t.config;
      state = by_state s.state states.Unknown apart (inl refl);
    }

    -- a clause was added, and unsat is recorded
    pub took_none : ClauseAddedToSearch seen s.names n' s.context b user false → AddClauseEffect seen s (added states.Unsat) user
    took_none t = record {
      whole = record {
        valid = t.does.valid;
        images = t.images s.assumed.items s.asked.order.items whole.images;
        spelt = global_images_kept s.names n' s.assumed.items s.asked.globals.items t.names whole.spelt;
        globals = whole.globals ∙ sym t.assumed;
        positive = whole.positive;
        scaled = subst (λ (x : SolverConfig). s.clock.restarts.scale ≡ x.luby_restart_interval_scale) (sym t.config) whole.scaled;
        decays = subst DecaysAreInRange (sym t.config) whole.decays;
        taking = t.took.1.taking ∙ whole.taking;
        judged = judged_by t.does whole.judged;
        says = t.goes_on;
      };
      does = due_by s.state apart t.does;
      comes = t.comes;
      order = λ k. t.order;
      left_out = λ e. absurd (apart e);
      took = (t.took.0, gains_adds seen t.took.0 s.context.proof b.proof t.took.1);
      asked = t.took.1.asked;
      width = gained_width seen s.context.proof b.proof t.took;
      failed = refl;
      used = refl;
      config = t.config;
      state = by_state s.state states.Unsat apart (inr refl);
    }

  -- other assumptions replaced the earlier ones
  pub asked_in : (b : Context W L G) (n' : Variables) (user : List ℕ) (asked : MappedLits) → AssumptionsSetInSearch seen s.names n' s.context b user asked → AcceptsAssumptions seen s (record s { context = b; names = n'; asked = asked; state = states.Unknown }) user
  asked_in b n' user asked t = record {
    whole = record {
      valid = (t.does Unknown).valid;
      images = t.asked.images;
      spelt = t.asked.spelt;
      globals = t.asked.globals;
      positive = whole.positive;
      scaled = subst (λ (x : SolverConfig). s.clock.restarts.scale ≡ x.luby_restart_interval_scale) (sym t.config) whole.scaled;
      decays = subst DecaysAreInRange (sym t.config) whole.decays;
      taking = t.took.1.taking ∙ whole.taking;
      judged = judged_by (t.does Unknown) whole.judged;
      says = record { joined = t.joined; lits = t.asked.lits };
    };
    does = t.does;
    comes = t.comes;
    took = (t.took.0, gains_adds seen t.took.0 s.context.proof b.proof t.took.1);
    asked = t.took.1.asked;
    width = gained_width seen s.context.proof b.proof t.took;
    failed = refl;
    used = refl;
    config = t.config;
    state = forgets s.state apart;
  }
    where
      forgets : (before : SatState) → (before ≡ states.Unsat → ⊥) → ForgetsAnswer before states.Unknown
      forgets states.Unknown k = tt
      forgets states.Sat k = tt
      forgets states.UnsatUnderAssumptions k = tt
      forgets states.Unsat k = absurd (k refl)

module _ {W L : Type 0} {G : Ghosts L} (seen : W → Writer) (s : Engine W L G) (whole : SolverInvariant s) (known : s.state ≡ states.Unsat) (p : Proof W L G) (n' : Variables) (user : List ℕ) (took : EmitsSomeChecked seen s.context.proof p) where
  unsat : (session_of s.context.proof).unsat ≡ true
  unsat = subst (λ st. HoldsInState st s.context s.names s.asked s.assumed.items s.reported.failed_core.items) known whole.says

  -- a clause was left out, since unsat is recorded
  pub left_in : OmitsClause s.names n' (steps_in s) (steps_of p) user → AddClauseEffect seen s (record s { context = record s.context { proof = p }; names = n' }) user
  left_in l = record {
    whole = record {
      valid = l.does.valid;
      images = images;
      spelt = global_images_kept s.names n' s.assumed.items s.asked.globals.items (λ u v e. (l.extends.stays u v e).0) whole.spelt;
      globals = whole.globals ∙ sym l.unseen.search.assumed;
      positive = whole.positive;
      scaled = whole.scaled;
      decays = whole.decays;
      taking = took.1.taking ∙ whole.taking;
      judged = judged_by l.does whole.judged;
      says = subst (λ st. HoldsInState st (record s.context { proof = p }) n' s.asked s.assumed.items s.reported.failed_core.items) (sym known) (l.unseen.search.unsat ∙ unsat);
    };
    does = subst (λ st. ChangesScriptState s.names n' (steps_in s) (steps_of p) (with_added user) (due_for_clause st user)) (sym known) l.does;
    comes = comes_added (names_in user) (steps_in s) (steps_of p) (comes_due (names_in user) (steps_in s) (steps_of p) l.comes);
    order = λ k. absurd (k known);
    left_out = λ e. l.comes;
    took = (took.0, gains_adds seen took.0 s.context.proof p took.1);
    asked = took.1.asked;
    width = gained_width seen s.context.proof p took;
    failed = refl;
    used = refl;
    config = refl;
    state = subst (λ st. ForgetsAnswer st st) (sym known) refl;
  }
    where
      images : AreImages n' s.assumed.items s.asked.order.items
      images = record {
        count = whole.images.count;
        each = λ k lt. let x : IsImage s.names (get_or s.assumed.items k 0) (get_or s.asked.order.items k 0) = whole.images.each k lt in
            record { variable_is = x.variable_is; index_is = x.index_is; named = (l.extends.stays (variable (get_or s.assumed.items k 0)) x.variable_is x.named).0; indexed = ap (λ m. target m.fwd x.variable_is) l.unseen.solvers ∙ x.indexed; is = x.is };
      }

  -- assumptions replaced the earlier ones, but were not passed to the search
  pub asked_known : (asked : MappedLits) → assuming.IntroducesAssumptions s.names n' (steps_in s) (steps_of p) user asked → AcceptsAssumptions seen s (record s { context = record s.context { proof = p }; names = n'; asked = asked }) user
  asked_known asked a = record {
    whole = record {
      valid = (a.does Unknown).valid;
      images = a.images;
      spelt = global_images_of n' user asked (a.does Unknown).valid.tidy a.images a.globals;
      globals = sym (ap (λ ss. (session_after ss).assumed) a.written);
      positive = whole.positive;
      scaled = whole.scaled;
      decays = whole.decays;
      taking = took.1.taking ∙ whole.taking;
      judged = judged_by (a.does Unknown) whole.judged;
      says = subst (λ st. HoldsInState st (record s.context { proof = p }) n' asked user s.reported.failed_core.items) (sym known) (ap (λ ss. (session_after ss).unsat) a.written ∙ a.search.unsat ∙ unsat);
    };
    does = a.does;
    comes = a.comes;
    took = (took.0, gains_adds seen took.0 s.context.proof p took.1);
    asked = took.1.asked;
    width = gained_width seen s.context.proof p took;
    failed = refl;
    used = refl;
    config = refl;
    state = subst (λ st. ForgetsAnswer st st) (sym known) refl;
  }

-- FAULTS

-- adding a clause failed
pub adding_ends : {W L : Type 0} {G : Ghosts L} (seen : W → Writer) (e : SolverError) (s new : Engine W L G) (user : List ℕ) → s.failed ≡ false → EngineDratAdmitsClauses seen s → EngineHasNoWitness s user → HasVariablesFor s.names (user_vars_in user) → IsFaultOr (EngineHasFullStore new) e → NameStepsFailOr (EngineHasFullStore new) seen e s.context new.context → new.clock ≡ s.clock → new.failed ≡ true → EngineAddsClause seen (Err e) s new user
adding_ends seen errors.OutOfMemory s new user g d w r x b k f = ((d, w), r, record { going = g; failed = f; fault = x; breaks = b; clock = k })
adding_ends seen errors.StoreFull s new user g d w r x b k f = ((d, w), r, record { going = g; failed = f; fault = x; breaks = b; clock = k })
adding_ends seen (errors.ProofIoError cause) s new user g d w r x b k f = ((d, w), r, record { going = g; failed = f; fault = x; breaks = b; clock = k })
adding_ends seen (errors.ProofProcessorError cause) s new user g d w r x b k f = ((d, w), r, record { going = g; failed = f; fault = x; breaks = b; clock = k })
adding_ends seen errors.CounterEnd s new user g d w r x b k f = ((d, w), r, record { going = g; failed = f; fault = x; breaks = b; clock = k })
adding_ends seen e s new user g d w r x b k f = absurd x

-- setting assumptions failed
pub asking_ends : {W L : Type 0} {G : Ghosts L} (seen : W → Writer) (e : SolverError) (s new : Engine W L G) (user : List ℕ) → s.failed ≡ false → EngineHasNoWitness s user → HasVariablesFor s.names (user_vars_in user) → IsFault e → NameStepsFail seen e s.context new.context → new.clock ≡ s.clock → new.failed ≡ true → EngineAssumesOrRefuses seen (Err e) s new user
asking_ends seen errors.OutOfMemory s new user g w r x b k f = (w, r, record { going = g; failed = f; fault = x; breaks = b; clock = k })
asking_ends seen (errors.ProofIoError cause) s new user g w r x b k f = (w, r, record { going = g; failed = f; fault = x; breaks = b; clock = k })
asking_ends seen (errors.ProofProcessorError cause) s new user g w r x b k f = (w, r, record { going = g; failed = f; fault = x; breaks = b; clock = k })
asking_ends seen errors.CounterEnd s new user g w r x b k f = (w, r, record { going = g; failed = f; fault = x; breaks = b; clock = k })
asking_ends seen e s new user g w r x b k f = absurd x

-- CALLS

-- no literal is over a name of mode witness
pub none_refused : {W L : Type 0} {G : Ghosts L} (s : Engine W L G) (user : List ℕ) (o : Option ℕ) → ((j : ScriptState) (live : LiveVariables) → NamesMatchState s.names j live → refusal_of_names j (names_in user) ≡ as_refusal o) → is_some o ≡ false → EngineHasNoWitness s user
none_refused s user None judged none = λ j live agree. judged j live agree.judged
none_refused s user (Some name) judged none = absurd (true≢false none)

-- assumptions were accepted, but memory ran out before they were stored over names
pub asking_starved : {W L : Type 0} {G : Ghosts L} (seen : W → Writer) (s mid new : Engine W L G) (user : List ℕ) → s.failed ≡ false → EngineHasNoWitness s user → HasVariablesFor s.names (user_vars_in user) → has_missed_step s.context.proof ≡ false → AcceptsAssumptions seen (record s { used = true }) mid user → mid.clock ≡ s.clock → new.context ≡ (failed_with mid).context → new.clock ≡ mid.clock → new.failed ≡ true → EngineAssumesOrRefuses seen (Err errors.OutOfMemory) s new user
asking_starved seen s mid new user going sampled room taking a clock core same failed = (
  sampled,
  room,
  record { going = going; failed = failed; fault = tt; breaks = subst (λ c. NameStepsFail seen errors.OutOfMemory s.context c) (sym core) (names_reported seen errors.OutOfMemory s.context mid (took_starved seen s.context mid.context a.took (a.whole.taking ∙ sym taking))); clock = same ∙ clock },
)

-- assumptions were accepted and stored over names
pub assumed_by : {W L : Type 0} {G : Ghosts L} (seen : W → Writer) (s mid new : Engine W L G) (user : List ℕ) → s.failed ≡ false → EngineHasNoWitness s user → HasVariablesFor s.names (user_vars_in user) → AcceptsAssumptions seen (record s { used = true }) mid user → mid.clock ≡ s.clock → new ≡ record mid { assumed = new.assumed } → new.assumed.items ≡ user → EngineReplacesAssumptions seen s new user
assumed_by {W} {L} {G} seen s mid new user going sampled room a clock same items = record {
  sampled = sampled;
  room = room;
  did = λ o. record {
    whole = subst (λ (x : Engine W L G). SolverPartsInvariant x.context x.names x.asked new.assumed.items x.reported.failed_core.items x.clock.restarts.scale x.state) (sym same)
        (subst (λ ls. SolverPartsInvariant mid.context mid.names mid.asked ls mid.reported.failed_core.items mid.clock.restarts.scale mid.state) (sym items) a.whole);
    going = going;
    failed = ap (λ (x : Engine W L G). x.failed) same ∙ a.failed ∙ going;
    used = ap (λ (x : Engine W L G). x.used) same ∙ a.used;
    config = ap (λ (x : Engine W L G). x.context.config) same ∙ a.config;
    does = subst (λ (x : Engine W L G). ChangesScriptState s.names x.names (steps_in s) (steps_in x) (introduce_all (names_in user)) (due_for_assumptions o user)) (sym same) (a.does o);
    took = subst (λ (x : Engine W L G). EmitsSomeSteps seen s.context.proof x.context.proof) (sym same) a.took;
    width = subst (λ (x : Engine W L G). (steps_in x ≡ steps_in s → ⊥) → IsAtWidth x.context.proof) (sym same) a.width;
  };
  comes = subst (λ (x : Engine W L G). OnlyAllowedSteps (IsLiteralsStep (names_in user)) (steps_in s) (steps_in x)) (sym same) a.comes;
  asked = ap (λ (x : Engine W L G). has_asked x.context.proof) same ∙ a.asked;
  assumed = items;
  clock = ap (λ (x : Engine W L G). x.clock) same ∙ clock;
  state = subst (λ (x : Engine W L G). ForgetsAnswer s.state x.state) (sym same) a.state;
}
