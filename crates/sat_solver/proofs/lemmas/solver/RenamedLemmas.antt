-- Names of a solver were introduced or hidden, or their modes changed.
use Rattle.std.proofs.Common.{ℕ, zero, suc, ◌+◌, ◌<◌, ◌≡◌, ◌∙◌, Bool, true, false, ◌||◌, cond, eqb, not, Err, Option, None, Some, List, [], ◌∷◌, length, map, get_or, refl, sym, ap, subst, arith, inl, inr}
use Rattle.std.proofs.lemmas.Bool.{true≢false, or_cases, or_left, or_right, eqb-true, eq-eqb}
use Rattle.std.specs.List.{AllByRecursion}
use Rattle.sat_base.specs.device.Device.{Writer}
use Rattle.sat_base.specs.values.Literals.{variable, is_positive, mk_lit}
use Rattle.sat_base.specs.values.Clauses.{Valuation, AllLitsTrue, literal_true}
use Rattle.sat_base.specs.script.Script.{Literal, Among}
use Rattle.sat_base.specs.script.ScriptState.{ScriptState}
use Rattle.sat_checker.specs.LiteralSets.{mentions}
use Rattle.sat_store.specs.variables.Maps.{target}
use Rattle.sat_checker.specs.declared.processing.ProofProcessor.{Ghosts}
use Rattle.sat_solver.specs.session.Emitting.{EmitsSomeChecked}
use Rattle.sat_solver.specs.proof.ProofView.{has_missed_step, steps_of, session_of}
use Rattle.sat_solver.proofs.lemmas.session.ProofLemmas.{gains_adds, gained_width}
use Rattle.sat_solver.specs.declared.proof.emitted.CheckFault.TheVariants as checks
use Rattle.sat_solver.specs.declared.proof.Proof.{Proof}
use Rattle.sat_solver.specs.declared.error.SolverError.{SolverError}
use Rattle.sat_solver.specs.declared.error.SolverError.TheVariants as errors
use Rattle.sat_solver.specs.declared.variables.error.NameError.{NameError}
use Rattle.sat_solver.specs.declared.variables.error.NameError.TheVariants as names
use Rattle.sat_base.specs.steps.Steps.{Step}
use Rattle.sat_solver.specs.session.AllowedSteps.{OnlyAllowedSteps}
use Rattle.sat_solver.specs.load.Faults.{error_of_name_call}
use Rattle.sat_solver.specs.load.Alike.{SameToSearch}
use Rattle.sat_solver.proofs.lemmas.load.AlikeLemmas.{search_alike}
use Rattle.sat_solver.specs.load.Literals.{user_literal, IsImage, AreImages, AreGlobalImages}
use Rattle.sat_solver.specs.variables.Calls.{HasScriptState, NamesInvariant, ChangesScriptState}
use Rattle.sat_solver.proofs.lemmas.variables.Doing.{judged_by}
use Rattle.sat_checker.specs.matching.Checking.{variable_named}
use Rattle.sat_checker.specs.matching.Expected.{Expected, IsLiteralOf}
use Rattle.sat_solver.specs.Models.{has_true_value, value_by, value_in}
use Rattle.sat_solver.specs.variables.NameFailures.{FailsByVariableLimitOrFault}
use Rattle.sat_solver.specs.variables.VariableRoom.{HasVariablesFor}
use Rattle.sat_solver.specs.variables.Naming.{VariablesAreKeptOrNew, KeepsOthers, IsNextUser, NoVariableLeft}
use Rattle.sat_solver.specs.variables.Observing.{NamesAllHidden}
use Rattle.sat_solver.specs.variables.Refusing.{IsAssumed}
use Rattle.sat_solver.specs.variables.Search.{KeepsSearchUpToUnits, KeepsUnits}
use Rattle.sat_solver.specs.variables.Variables.{data_at, global_of, user_of, solver_of, is_unit_value}
use Rattle.sat_solver.specs.declared.variables.Variables.{Variables}
use Rattle.sat_solver.specs.declared.solver.Engine.{Engine}
use Rattle.sat_solver.specs.declared.state.SatState.{SatState}
use Rattle.sat_solver.specs.declared.state.SatState.TheVariants as states
use Rattle.sat_solver.specs.solver.Naming.{EngineIsAssumedName, IsKeptOrFalse, engine_variable_value, engine_name_value, EngineIsNextName, EngineNameCallEffect, EngineObserved, EngineChangesMode, EngineNewNameFails, EngineObserveFails}
use Rattle.sat_solver.specs.solver.AddingToSearch.{IsNameErrorOr, NameStepsFail}
use Rattle.sat_solver.specs.cdcl.StepEffects.{IsFault}
use Rattle.sat_solver.specs.declared.context.Context.{Context}
use Rattle.sat_solver.specs.solver.Whole.{SolverInvariant, SolverPartsInvariant, HoldsInState, SearchCanContinue, HasCore, steps_in, session_in}
use Rattle.sat_solver.proofs.lemmas.variables.Giving.{alike_unseen}
use Rattle.sat_solver.proofs.lemmas.variables.NextUnused.{lowest_unused}
use Rattle.sat_parts.proofs.lemmas.parts.ValueLemmas.{coded_variable}

-- LISTS

mention_place : (ls : List ℕ) (v : ℕ) → mentions ls v ≡ true → (k : ℕ) × (k < length ls) × (variable (get_or ls k 0) ≡ v)
mention_place [] v t = absurd (true≢false (sym t))
mention_place (l ∷ ls) v t = elim (or_cases (eqb (variable l) v) (mentions ls v) t) [
  | inl e ↦ (0, omega arith, eqb-true (variable l) v e)
  | inr h ↦ (let p = mention_place ls v h in (suc p.0, omega (arith, p.1), p.2))
]

mention_at : (ls : List ℕ) (k v : ℕ) → k < length ls → variable (get_or ls k 0) ≡ v → mentions ls v ≡ true
mention_at [] k v lt e = absurd (omega arith)
mention_at (l ∷ ls) zero v lt e = or_left (eqb (variable l) v) (mentions ls v) (eq-eqb (variable l) v e)
mention_at (l ∷ ls) (suc k) v lt e = or_right (eqb (variable l) v) (mentions ls v) (mention_at ls k v (omega arith) e)

among_at : (ls : List ℕ) (k : ℕ) → k < length ls → Among (get_or ls k 0) ls
among_at [] k lt = absurd (omega arith)
among_at (l ∷ ls) zero lt = inl refl
among_at (l ∷ ls) (suc k) lt = inr (among_at ls k (omega arith))

among_place : (ls : List ℕ) (l : ℕ) → Among l ls → (k : ℕ) × (k < length ls) × (get_or ls k 0 ≡ l)
among_place [] l h = absurd h
among_place (m ∷ ls) l (inl e) = (0, omega arith, sym e)
among_place (m ∷ ls) l (inr h) = (let p = among_place ls l h in (suc p.0, omega (arith, p.1), p.2))

some_same : (v w : ℕ) → Some v ≡ Some w → v ≡ w
some_same v w e = cc

-- ASSUMPTIONS AND THEIR MARKS

module _ {W L : Type 0} {G : Ghosts L} (s : Engine W L G) (whole : SolverInvariant s) where
  -- the variable of an assumption
  pub record Asked_as (l : ℕ) : Type 0 where
    pub variable_is : ℕ
    pub named : global_of s.names (variable l) ≡ Some variable_is
    pub mentioned : mentions (session_in s).assumed variable_is ≡ true

  pub asked_as : (l : ℕ) → Among l s.assumed.items → Asked_as l
  asked_as l h =
      let p = among_place s.assumed.items l h in
      let x = whole.spelt.each p.0 p.1 in
      let c = whole.spelt.count in
      record {
        variable_is = x.0;
        named = subst (λ m. global_of s.names (variable m) ≡ Some x.0) p.2 x.1;
        mentioned = ap (λ ls. mentions ls x.0) (sym whole.globals)
            ∙ mention_at s.asked.globals.items p.0 x.0 (omega (arith, p.1)) (ap variable x.2 ∙ coded_variable x.0 (is_positive (get_or s.assumed.items p.0 0)));
      }

  -- a name whose variable is marked is assumed
  pub marked_asked : (user : ℕ) → IsAssumed s.names user → EngineIsAssumedName s user
  marked_asked user m =
      let c = whole.spelt.count in
      let p = mention_place s.asked.globals.items m.variable_is (ap (λ ls. mentions ls m.variable_is) whole.globals ∙ whole.valid.said.marked m.variable_is ∙ m.marked) in
      let lt : p.0 < length s.assumed.items = omega (arith, p.1) in
      let x = whole.spelt.each p.0 lt in
      let l = get_or s.assumed.items p.0 0 in
      let same : x.0 ≡ m.variable_is = sym (coded_variable x.0 (is_positive l)) ∙ sym (ap variable x.2) ∙ p.2 in (
        l,
        among_at s.assumed.items p.0 lt,
        some_same (variable l) user (sym (whole.valid.tidy.users.back (variable l) x.0 x.1) ∙ ap (user_of s.names) same ∙ whole.valid.tidy.users.back user m.variable_is m.named),
      )

  -- the variable of an assumed name is marked
  pub asked_marked : (user : ℕ) → EngineIsAssumedName s user → IsAssumed s.names user
  asked_marked user a =
      let x = asked_as a.0 a.1 in
      record {
        variable_is = x.variable_is;
        named = ap (global_of s.names) (sym a.2) ∙ x.named;
        marked = sym (whole.valid.said.marked x.variable_is) ∙ x.mentioned;
      }

  pub not_marked : (user : ℕ) → (IsAssumed s.names user → ⊥) → EngineIsAssumedName s user → ⊥
  not_marked user n a = n (asked_marked user a)

  -- NAMES THAT AREN'T ASSUMED

  module _ (n' : Variables) (p : Proof W L G) (valid : NamesInvariant n' (steps_of p)) (kept : (l v : ℕ) → Among l s.assumed.items → global_of s.names (variable l) ≡ Some v → global_of n' (variable l) ≡ Some v) (alike : KeepsSearchUpToUnits s.names n' (steps_in s) (steps_of p)) where
    abbrev new : Context W L G
    new = record s.context { proof = p }

    images : AreImages n' s.assumed.items s.asked.order.items
    images = record {
      count = whole.images.count;
      each = λ k lt. let x : IsImage s.names (get_or s.assumed.items k 0) (get_or s.asked.order.items k 0) = whole.images.each k lt in record {
        variable_is = x.variable_is;
        index_is = x.index_is;
        named = kept (get_or s.assumed.items k 0) x.variable_is (among_at s.assumed.items k lt) x.named;
        indexed = ap (λ m. target m.fwd x.variable_is) alike.solvers ∙ x.indexed;
        is = x.is;
      };
    }

    spelt : AreGlobalImages n' s.assumed.items s.asked.globals.items
    spelt = record { count = whole.spelt.count; each = λ k lt. let x = whole.spelt.each k lt in (x.0, kept (get_or s.assumed.items k 0) x.0 (among_at s.assumed.items k lt) x.1, x.2) }

    looks : SameToSearch (session_in s) (session_of p)
    looks = record {
      live = λ r set. ap (λ f. f r set) alike.live;
      units = λ v x b e. alike.units v x b (sym (whole.valid.said.solver_names v) ∙ e);
      names = λ v. valid.said.solver_names v ∙ ap (λ m. target m.fwd v) alike.solvers ∙ sym (whole.valid.said.solver_names v);
      unsat = alike.unsat;
      width = alike.width;
      assumed = alike.assumed;
    }

    going : SearchCanContinue s.context s.names s.asked → SearchCanContinue new n' s.asked
    going g = record {
      joined = record {
        sound = record { keeps = valid.may; search = search_alike (session_in s) (session_of p) s.context.search g.joined.sound.search looks; locals = g.joined.sound.locals; mids = g.joined.sound.mids };
        valid = valid;
        shares = record {
          size = g.joined.shares.size;
          few = (let e = ap (λ m. length m.bwd) alike.solvers in let k = g.joined.shares.few in omega arith);
          below = λ x v e. g.joined.shares.below x v (sym (ap (λ m. target m.bwd x) alike.solvers) ∙ e);
          same = λ x v e. g.joined.shares.same x v (sym (ap (λ m. target m.bwd x) alike.solvers) ∙ e);
        };
      };
      lits = g.lits;
    }

    -- assumed literals stand for the same literals of the proof as before
    spells : (l code : ℕ) → Among l s.assumed.items → IsLiteralOf (variable_named (steps_in s)) (user_literal l) code → IsLiteralOf (variable_named (steps_of p)) (user_literal l) code
    spells l code h x = record { variable = x.variable; named = valid.read (variable l) ∙ kept l x.variable h (sym (whole.valid.read (variable l)) ∙ x.named); is = x.is }

    module _ (core codes : List ℕ) where
      there : (ls : List ℕ) → AllByRecursion (λ l. Among l s.assumed.items) ls → AllByRecursion (λ l. (code : ℕ) × IsLiteralOf (variable_named (steps_in s)) l code × Among code codes) (map user_literal ls) →
          AllByRecursion (λ l. (code : ℕ) × IsLiteralOf (variable_named (steps_of p)) l code × Among code codes) (map user_literal ls)
      there [] h t = tt
      there (l ∷ ls) h t = ((t.0.0, spells l t.0.0 h.0 t.0.1, t.0.2), there ls h.1 t.1)

      -- this literal is one of the assumptions
      pub record Named_from (x : Literal) : Type 0 where
        pub from : ℕ
        pub among : Among from s.assumed.items
        pub is : x ≡ user_literal from

      named_from : (ls : List ℕ) (x : Literal) → AllByRecursion (λ l. Among l s.assumed.items) ls → Among x (map user_literal ls) → Named_from x
      named_from [] x h i = absurd i
      named_from (l ∷ ls) x h (inl e) = record { from = l; among = h.0; is = e }
      named_from (l ∷ ls) x h (inr i) = named_from ls x h.1 i

      only : (cs : List ℕ) → AllByRecursion (λ l. Among l s.assumed.items) core → AllByRecursion (λ code. (l : Literal) × IsLiteralOf (variable_named (steps_in s)) l code × Among l (map user_literal core)) cs →
          AllByRecursion (λ code. (l : Literal) × IsLiteralOf (variable_named (steps_of p)) l code × Among l (map user_literal core)) cs
      only [] h t = tt
      only (c ∷ cs) h t =
          let f = named_from core t.0.0 h t.0.2 in
          ((user_literal f.from, spells f.from c f.among (subst (λ x. IsLiteralOf (variable_named (steps_in s)) x c) f.is t.0.1), subst (λ x. Among x (map user_literal core)) f.is t.0.2), only cs h t.1)

      -- valuations that agree on the assumptions satisfy the same of these codes
      module _ (a b : Valuation) (same : (v : ℕ) → mentions (session_in s).assumed v ≡ true → b v ≡ a v) where
        true_at : (c : ℕ) (x : Literal) → IsLiteralOf (variable_named (steps_in s)) x c → Named_from x → literal_true a c ≡ true → literal_true b c ≡ true
        true_at c x sp f t =
            let y = asked_as f.from f.among in
            let at : sp.variable ≡ y.variable_is = some_same sp.variable y.variable_is (sym (subst (λ z. variable_named (steps_in s) z.name ≡ Some sp.variable) f.is sp.named) ∙ whole.valid.read (variable f.from) ∙ y.named) in
            let v : variable c ≡ y.variable_is = ap variable sp.is ∙ coded_variable sp.variable x.positive ∙ at in
            ap (λ q. cond (is_positive c) q (not q)) (same (variable c) (subst (λ w. mentions (session_in s).assumed w ≡ true) (sym v) y.mentioned)) ∙ t

        each_true : (cs : List ℕ) → AllByRecursion (λ l. Among l s.assumed.items) core → AllByRecursion (λ code. (l : Literal) × IsLiteralOf (variable_named (steps_in s)) l code × Among l (map user_literal core)) cs → AllLitsTrue a cs → AllLitsTrue b cs
        each_true [] h o t = tt
        each_true (c ∷ cs) h o t = (true_at c o.0.0 o.0.1 (named_from core o.0.0 h o.0.2) t.0, each_true cs h o.1 t.1)

    -- a failed core is still one
    core_kept : HasCore s.context s.assumed.items s.reported.failed_core.items → HasCore new s.assumed.items s.reported.failed_core.items
    core_kept h =
        let core = s.reported.failed_core.items in
        record {
          some = h.some;
          codes = h.codes;
          none = λ a left t. (let m = alike.leaves a left in h.none m.0 m.1 (each_true core h.codes a m.0 m.2 h.codes h.among h.same.1 t));
          same = (there core h.codes core h.among h.same.0, only core h.codes h.codes h.among h.same.1);
          among = h.among;
        }

    says : (st : SatState) → HoldsInState st s.context s.names s.asked s.assumed.items s.reported.failed_core.items → HoldsInState st new n' s.asked s.assumed.items s.reported.failed_core.items
    says states.Unknown h = going h
    says states.Sat h = (going h.0, h.1)
    says states.UnsatUnderAssumptions h = (going h.0, core_kept h.1)
    says states.Unsat h = alike.unsat ∙ h

    -- the invariant holds after the call
    whole_renamed : HasScriptState n' (steps_of p) → has_missed_step p ≡ has_missed_step s.context.proof → SolverPartsInvariant new n' s.asked s.assumed.items s.reported.failed_core.items s.clock.restarts.scale s.state
    whole_renamed judged taking = record {
      valid = valid;
      images = images;
      spelt = spelt;
      globals = whole.globals ∙ sym alike.assumed;
      positive = whole.positive;
      scaled = whole.scaled;
      decays = whole.decays;
      taking = taking ∙ whole.taking;
      judged = judged;
      says = says s.state whole.says;
    }

  -- if only a name that isn't assumed changes, assumptions keep their variables
  pub others_kept : (n' : Variables) (user : ℕ) → (EngineIsAssumedName s user → ⊥) → KeepsOthers s.names n' user → (l v : ℕ) → Among l s.assumed.items → global_of s.names (variable l) ≡ Some v → global_of n' (variable l) ≡ Some v
  others_kept n' user free others l v h e = others (variable l) v (λ q. free (l, h, q)) e

module _ {W L : Type 0} {G : Ghosts L} (seen : W → Writer) (s : Engine W L G) (whole : SolverInvariant s) (going : s.failed ≡ false) (n' : Variables) (p : Proof W L G) where
  abbrev values : List (Option Bool)
  values = s.context.search.parts.assignment.current

  module _ (alike : KeepsSearchUpToUnits s.names n' (steps_in s) (steps_of p)) (valid : NamesInvariant n' (steps_of p)) where
    says_true : (o : Option Bool) → is_unit_value o true ≡ has_true_value o
    says_true None = refl
    says_true (Some b) = refl

    solver_same : (v : ℕ) → solver_of n' v ≡ solver_of s.names v
    solver_same v = ap (λ m. target m.fwd v) alike.solvers

    -- a variable whose units are unchanged keeps its value
    value_same : (v : ℕ) → ((b : Bool) → (session_of p).units (mk_lit v b) ≡ (session_in s).units (mk_lit v b)) → value_in n' values v ≡ value_in s.names values v
    value_same v units = go (solver_of s.names v) refl
      where
        go : (o : Option ℕ) → solver_of s.names v ≡ o → value_in n' values v ≡ value_in s.names values v
        go (Some x) e = ap (λ o. value_by o values (data_at n' v).unit) (solver_same v ∙ e) ∙ sym (ap (λ o. value_by o values (data_at s.names v).unit) e)
        go None e = ap (λ o. value_by o values (data_at n' v).unit) (solver_same v ∙ e)
            ∙ sym (says_true (data_at n' v).unit) ∙ sym (valid.said.units v (solver_same v ∙ e) true) ∙ units true ∙ whole.valid.said.units v e true ∙ says_true (data_at s.names v).unit
            ∙ sym (ap (λ o. value_by o values (data_at s.names v).unit) e)

    -- a variable that isn't in use is false
    unused_false : (v : ℕ) → (data_at s.names v).deleted ≡ true → value_in s.names values v ≡ false
    unused_false v gone = ap (λ o. value_by o values (data_at s.names v).unit) (none (solver_of s.names v) refl) ∙ ap (λ k. has_true_value k.unit) (whole.valid.tidy.gone v gone)
      where
        none : (o : Option ℕ) → solver_of s.names v ≡ o → solver_of s.names v ≡ None
        none None e = e
        none (Some x) e = absurd (true≢false (sym gone ∙ whole.valid.tidy.indexed v x e))

    values_kept : VariablesAreKeptOrNew s.names n' → KeepsUnits n' (steps_in s) (steps_of p) → (user : ℕ) → IsKeptOrFalse (engine_name_value s user) (engine_name_value (record s { context = record s.context { proof = p }; names = n'; used = true }) user)
    values_kept fresh units user = go (global_of s.names user) refl (global_of n' user) refl
      where
        go : (o : Option ℕ) → global_of s.names user ≡ o → (t : Option ℕ) → global_of n' user ≡ t → IsKeptOrFalse (engine_variable_value s o) (engine_variable_value (record s { context = record s.context { proof = p }; names = n'; used = true }) t)
        go None e None f = tt
        go (Some v) e None f = tt
        go None e (Some w) f = value_same w (λ b. units user w b f) ∙ unused_false w (fresh.fresh user w e f)
        go (Some v) e (Some w) f = value_same w (λ b. units user w b f) ∙ ap (value_in s.names values) (fresh.same user v w e f)

  -- the call over names succeeded
  pub renamed : (judge : ScriptState → ScriptState) (due : ScriptState → List Expected) (IsAllowedStep : List Step → Step → Type 0) → OnlyAllowedSteps IsAllowedStep (steps_in s) (steps_of p) → ChangesScriptState s.names n' (steps_in s) (steps_of p) judge due → VariablesAreKeptOrNew s.names n' → KeepsUnits n' (steps_in s) (steps_of p) →
      ((l v : ℕ) → Among l s.assumed.items → global_of s.names (variable l) ≡ Some v → global_of n' (variable l) ≡ Some v) → KeepsSearchUpToUnits s.names n' (steps_in s) (steps_of p) → EmitsSomeChecked seen s.context.proof p →
      EngineNameCallEffect seen s (record s { context = record s.context { proof = p }; names = n'; used = true }) judge due IsAllowedStep
  renamed judge due IsAllowedStep comes does fresh units kept alike took = record {
    did = record { whole = whole_renamed s whole n' p does.valid kept alike (judged_by does whole.judged) took.1.taking; going = going; failed = going; used = refl; config = refl; does = does; took = (took.0, gains_adds seen took.0 s.context.proof p took.1); width = gained_width seen s.context.proof p took };
    comes = comes;
    asked = took.1.asked;
    assumed = refl;
    reported = refl;
    clock = refl;
    state = refl;
    values = values_kept alike does.valid fresh units;
  }

-- a call that changes modes failed
pub mode_ends : {W L : Type 0} {G : Ghosts L} (seen : W → Writer) (e : SolverError) (s new : Engine W L G) (user : ℕ) (judge : ScriptState → ScriptState) (due : ScriptState → List Expected) (IsAllowedStep : List Step → Step → Type 0) → s.failed ≡ false → (EngineIsAssumedName s user → ⊥) → HasVariablesFor s.names (user ∷ []) → IsFault e → NameStepsFail seen e s.context new.context → new.clock ≡ s.clock → new.failed ≡ true → EngineChangesMode seen (Err e) s new user judge due IsAllowedStep
mode_ends seen errors.OutOfMemory s new user judge due IsAllowedStep g n r x b k f = (n, r, record { going = g; failed = f; fault = x; breaks = b; clock = k })
mode_ends seen (errors.ProofIoError cause) s new user judge due IsAllowedStep g n r x b k f = (n, r, record { going = g; failed = f; fault = x; breaks = b; clock = k })
mode_ends seen (errors.ProofProcessorError cause) s new user judge due IsAllowedStep g n r x b k f = (n, r, record { going = g; failed = f; fault = x; breaks = b; clock = k })
mode_ends seen errors.CounterEnd s new user judge due IsAllowedStep g n r x b k f = (n, r, record { going = g; failed = f; fault = x; breaks = b; clock = k })
mode_ends seen e s new user judge due IsAllowedStep g n r x b k f = absurd x

-- a call that introduces names failed
pub new_ends : {W L : Type 0} {G : Ghosts L} (seen : W → Writer) (e : SolverError) (s new : Engine W L G) → s.failed ≡ false → IsFault e → NameStepsFail seen e s.context new.context → new.clock ≡ s.clock → new.failed ≡ true → EngineObserveFails seen e s new
new_ends seen errors.OutOfMemory s new g x b k f = record { going = g; failed = f; fault = x; breaks = b; clock = k }
new_ends seen (errors.ProofIoError cause) s new g x b k f = record { going = g; failed = f; fault = x; breaks = b; clock = k }
new_ends seen (errors.ProofProcessorError cause) s new g x b k f = record { going = g; failed = f; fault = x; breaks = b; clock = k }
new_ends seen errors.CounterEnd s new g x b k f = record { going = g; failed = f; fault = x; breaks = b; clock = k }
new_ends seen e s new g x b k f = absurd x

-- a call for a new name failed
pub new_fails : {W L : Type 0} {G : Ghosts L} (seen : W → Writer) (e : SolverError) (s new : Engine W L G) → s.failed ≡ false → (NoVariableLeft s.names → ⊥) → IsFault e → NameStepsFail seen e s.context new.context → new.clock ≡ s.clock → new.failed ≡ true → EngineNewNameFails seen e s new
new_fails seen errors.OutOfMemory s new g n x b k f = (n, record { going = g; failed = f; fault = x; breaks = b; clock = k })
new_fails seen (errors.ProofIoError cause) s new g n x b k f = (n, record { going = g; failed = f; fault = x; breaks = b; clock = k })
new_fails seen (errors.ProofProcessorError cause) s new g n x b k f = (n, record { going = g; failed = f; fault = x; breaks = b; clock = k })
new_fails seen errors.CounterEnd s new g n x b k f = (n, record { going = g; failed = f; fault = x; breaks = b; clock = k })
new_fails seen e s new g n x b k f = absurd x

-- if a call failed for another reason, a variable was left
pub one_left : {W : Type 0} (e : NameError) (old new : Variables) (from to : W) → (error_of_name_call e ≡ errors.VariableLimit → ⊥) → FailsByVariableLimitOrFault e old new from to → NoVariableLeft old → ⊥
one_left names.VariableLimit old new from to n h = absurd (n refl)
one_left e old new from to n h = h

-- an error of a call over names is a fault, unless the limit was reached
pub fault_left : (e : SolverError) → IsNameErrorOr ⊥ e → (e ≡ errors.VariableLimit → ⊥) → IsFault e
fault_left e h n = elim h [ inl x ↦ x | inr q ↦ absurd (n q) ]

-- the limit is reported for this error only
pub reported_limit : (e : NameError) → error_of_name_call e ≡ errors.VariableLimit → e ≡ names.VariableLimit
reported_limit names.VariableLimit h = refl
reported_limit (names.Check checks.OutOfMemory) h = cc
reported_limit e h = cc

-- a call that changed neither names nor steps leaves the solver unchanged
pub same_solver : {W L : Type 0} {G : Ghosts L} (s : Engine W L G) (n' : Variables) (p : Proof W L G) → n' ≡ s.names → p ≡ s.context.proof → ◌≡◌ {A = Engine W L G} (record s { context = record s.context { proof = p }; names = n' }) s
same_solver {W} {L} {G} s n' p e f =
    subst (λ (n : Variables). ◌≡◌ {A = Engine W L G} (record s { context = record s.context { proof = p }; names = n }) s) (sym e)
    (subst (λ (q : Proof W L G). ◌≡◌ {A = Engine W L G} (record s { context = record s.context { proof = q } }) s) (sym f) refl)

-- the next name is the lowest one that isn't in use
pub next_name : {W L : Type 0} {G : Ghosts L} (s : Engine W L G) → SolverInvariant s → (user : ℕ) → IsNextUser s.names user → EngineIsNextName s (user + 1)
next_name s whole user next j live agree = lowest_unused s.names (steps_in s) j live user whole.valid agree.judged next

-- all hidden variables got names
pub observed_all : {W L : Type 0} {G : Ghosts L} (seen : W → Writer) (s : Engine W L G) → SolverInvariant s → s.failed ≡ false → (n' : Variables) (p : Proof W L G) (users : List ℕ) (used : Bool) → used ≡ (s.used || not (eqb (length users) 0)) → NamesAllHidden s.names n' (steps_in s) (steps_of p) users → EmitsSomeChecked seen s.context.proof p →
    EngineObserved seen s (record s { context = record s.context { proof = p }; names = n'; used = used }) users
observed_all seen s whole going n' p users used opened all took = record {
  steps = record {
    whole = whole_renamed s whole n' p all.valid (λ l v h e. all.names (variable l) v e) (alike_unseen s.names n' (steps_in s) (steps_of p) all.unseen)
        (let k = whole.judged in let kept = all.kept k.0 k.1 k.2 in (kept.0, k.1, kept.2)) took.1.taking;
    took = (took.0, gains_adds seen took.0 s.context.proof p took.1);
    width = gained_width seen s.context.proof p took;
  };
  going = going;
  failed = going;
  used = opened;
  same = record { config = refl; asked = took.1.asked; assumed = refl; reported = refl; clock = refl; state = refl };
  observes = all.kept;
  all = all.all;
  values = λ v. ap (λ (b : Bool). Some b) (value_same seen s whole going n' p (alike_unseen s.names n' (steps_in s) (steps_of p) all.unseen) all.valid v (λ b. ap (λ f. f (mk_lit v b)) all.unseen.search.units));
}
