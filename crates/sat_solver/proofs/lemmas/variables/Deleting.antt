-- A hidden variable is deleted.
use Rattle.std.proofs.Common.{ℕ, ◌+◌, ◌≡◌, ◌≢◌, Bool, true, false, not, ◌&&◌, cond, eqb, ltb, lt-ltb, List, [], ◌∷◌, length, get_or, Option, Some, None, is_some, refl, sym, ◌∙◌, ap, subst, arith}
use Rattle.std.proofs.lemmas.Bool.{eqb-true, eqb-false, eq-eqb, ne_eqb}
use Rattle.sat_base.specs.values.Literals.{variable, mk_lit}
use Rattle.sat_base.specs.script.ScriptState.{ScriptState, Sampled, identity_of}
use Rattle.sat_base.specs.steps.Steps.{Step, DeleteVar}
use Rattle.sat_store.specs.declared.data.SamplingMode.TheVariants as kept
use Rattle.sat_store.specs.variables.VarData.{unused_variable}
use Rattle.sat_store.specs.variables.Maps.{AreInverse, target}
use Rattle.sat_checker.specs.LiteralSets.{mentions}
use Rattle.sat_checker.specs.Stored.{initial_variable}
use Rattle.sat_solver.specs.session.Session.{Session, AreAllowedSteps, CanDeleteVar, session_after, after}
use Rattle.sat_solver.proofs.lemmas.session.StepLemmas.{sessions_are_accepted}
use Rattle.sat_solver.specs.variables.Counting.{HasEqualCounts}
use Rattle.sat_solver.specs.variables.Free.{is_free, IsTree}
use Rattle.sat_checker.specs.matching.Bridge.{LiveVariables, IsBridge}
use Rattle.sat_solver.specs.variables.Live.{given_of, given}
use Rattle.sat_solver.specs.variables.Variables.{data_at, global_of, user_of, solver_of, variables_used, VariablesInvariant, checker_mode, checker_variable_at, NamesMatchSteps, IsModeOf, NamesMatchState, is_unit_value, is_witness_kept}
use Rattle.sat_solver.specs.variables.Naming.{StoresDeletion}
use Rattle.sat_checker.specs.matching.Checking.{variable_named}
use Rattle.sat_checker.specs.matching.ProofChecking.{checker_rules}
use Rattle.sat_checker.specs.matching.Traces.{no_step, silent}
use Rattle.sat_solver.specs.variables.Calls.{NamesInvariant, ReachesScriptState, KeepsScriptState}
use Rattle.sat_solver.specs.variables.Search.{ForgetsUnits}
use Rattle.sat_solver.specs.declared.variables.Variables.{Variables}
use Rattle.sat_solver.proofs.lemmas.variables.NewName.{shape, and_false}
use Rattle.sat_base.proofs.lemmas.script.LiteralValues.{coded_half}
use Rattle.sat_solver.proofs.lemmas.variables.ModeChanges.{live_within}
use Rattle.sat_checker.proofs.lemmas.matching.Bridge.{deleted, without}
use Rattle.sat_checker.proofs.lemmas.matching.CheckerIsSound.{the_checking_sound}

and_true : (b : Bool) → (b && true) ≡ b
and_true true = refl
and_true false = refl

none_some : {x : ℕ} {o : Option ℕ} → o ≡ None → o ≡ Some x → ⊥
none_some e f = cc

given_without : (v : ℕ) (live : LiveVariables) (w : ℕ) → given (without v live) w ≡ cond (eqb w v) None (given live w)
given_without v [] w = go (eqb w v)
  where
    go : (b : Bool) → (let o : Option ℕ = None in o) ≡ cond b None None
    go true = refl
    go false = refl
given_without v (p ∷ ps) w = go (eqb p.0 v) refl (eqb p.0 w) refl (eqb w v) refl (given_without v ps w)
  where
    go : (a : Bool) → eqb p.0 v ≡ a → (b : Bool) → eqb p.0 w ≡ b → (c : Bool) → eqb w v ≡ c → given (without v ps) w ≡ cond (eqb w v) None (given ps w)
        → given (cond (not a) (p ∷ without v ps) (without v ps)) w ≡ cond (eqb w v) None (cond (eqb p.0 w) (Some p.1) (given ps w))
    go true x true y c z ih = ih ∙ ap (λ t. cond t None (given ps w)) here ∙ sym (ap (λ t. cond t None (cond (eqb p.0 w) (Some p.1) (given ps w))) here)
      where
        here : eqb w v ≡ true
        here = eq-eqb w v (sym (eqb-true p.0 w y) ∙ eqb-true p.0 v x)
    go true x false y c z ih = ih ∙ ap (λ t. cond (eqb w v) None (cond t (Some p.1) (given ps w))) (sym y)
    go false x true y c z ih = ap (λ t. cond t (Some p.1) (given (without v ps) w)) y ∙ sym (ap (λ t. cond t None (cond (eqb p.0 w) (Some p.1) (given ps w))) there ∙ ap (λ t. cond t (Some p.1) (given ps w)) y)
      where
        there : eqb w v ≡ false
        there = ne_eqb w v (λ q. eqb-false p.0 v x (eqb-true p.0 w y ∙ q))
    go false x false y c z ih = ap (λ t. cond t (Some p.1) (given (without v ps) w)) y ∙ ih ∙ ap (λ t. cond (eqb w v) None (cond t (Some p.1) (given ps w))) (sym y)

module _ (old new : Variables) (v : ℕ) (tidy : VariablesInvariant old) (alive : (data_at old v).deleted ≡ false) (nameless : user_of old v ≡ None) (noindex : solver_of old v ≡ None) (put : StoresDeletion old new v) where
  user_at : (w : ℕ) → user_of new w ≡ user_of old w
  user_at w = ap (λ m. target m.bwd w) put.users

  pub tidy_deleted : VariablesInvariant new
  tidy_deleted = record {
    users = subst AreInverse (sym put.users) tidy.users;
    solvers = subst AreInverse (sym put.solvers) tidy.solvers;
    named = named;
    indexed = indexed;
    hidden = hidden;
    shown = shown;
    gone = gone;
    plain = λ e w. ap (λ d. is_witness_kept d.sampling_mode) (put.kept w) ∙ still (eqb w v) w (tidy.plain (sym put.witnessed ∙ e) w);
    own = λ e u lt. ap (λ m. target m.fwd u) put.users ∙ tidy.own (sym put.own ∙ e) u (let q = ap (λ m. length m.fwd) put.users in omega arith);
    globals_count = ap (λ g. length g.items) put.globals ∙ tidy.globals_count ∙ ap (λ m. length m.bwd) (sym put.solvers);
    globals = λ x w e. ap (λ g. get_or g.items x 0) put.globals ∙ tidy.globals x w (sym (ap (λ m. target m.bwd x) put.solvers) ∙ e);
    even_users = subst HasEqualCounts (sym put.users) tidy.even_users;
    even_solvers = subst HasEqualCounts (sym put.solvers) tidy.even_solvers;
    spans_users = record { tree = subst IsTree (sym put.free_users) tidy.spans_users.tree; room = let a = ap (λ f. f.room) put.free_users in let b = ap (λ m. length m.fwd) put.users in let r = tidy.spans_users.room in omega arith };
    spans_globals = put.spans_globals;
    spans_solvers = record { tree = subst IsTree (sym put.free_solvers) tidy.spans_solvers.tree; room = let a = ap (λ f. f.room) put.free_solvers in let b = ap (λ m. length m.bwd) put.solvers in let r = tidy.spans_solvers.room in omega arith };
    reach = let a = ap (λ m. length m.fwd) put.users in let b = put.count in let r = tidy.reach in omega arith;
    indices = let a = ap (λ m. length m.bwd) put.solvers in let b = put.count in let r = tidy.indices in omega arith;
    within = let b = put.count in let r = tidy.within in omega arith;
    free_users = λ u. ap (λ f. is_free f u) put.free_users ∙ tidy.free_users u ∙ ap (λ m. ltb u (length m.fwd) && not (is_some (target m.fwd u))) (sym put.users);
    free_globals = free_globals;
    free_solvers = λ x. ap (λ f. is_free f x) put.free_solvers ∙ tidy.free_solvers x ∙ ap (λ m. ltb x (length m.bwd) && not (is_some (target m.bwd x))) (sym put.solvers);
  }
    where
      still : (b : Bool) (w : ℕ) → is_witness_kept (data_at old w).sampling_mode ≡ false → is_witness_kept (cond b (unused_variable) (data_at old w)).sampling_mode ≡ false
      still true w e = refl
      still false w e = e

      named : (w u : ℕ) → user_of new w ≡ Some u → (data_at new w).deleted ≡ false
      named w u e = go (eqb w v) refl (put.kept w)
        where
          go : (b : Bool) → eqb w v ≡ b → data_at new w ≡ cond b unused_variable (data_at old w) → (data_at new w).deleted ≡ false
          go true t x = absurd (none_some (ap (user_of old) (eqb-true w v t) ∙ nameless) (sym (user_at w) ∙ e))
          go false t x = ap (λ d. d.deleted) x ∙ tidy.named w u (sym (user_at w) ∙ e)

      indexed : (w y : ℕ) → solver_of new w ≡ Some y → (data_at new w).deleted ≡ false
      indexed w y e = go (eqb w v) refl (put.kept w)
        where
          was : solver_of old w ≡ Some y
          was = sym (ap (λ m. target m.fwd w) put.solvers) ∙ e

          go : (b : Bool) → eqb w v ≡ b → data_at new w ≡ cond b unused_variable (data_at old w) → (data_at new w).deleted ≡ false
          go true t x = absurd (none_some (ap (solver_of old) (eqb-true w v t) ∙ noindex) was)
          go false t x = ap (λ d. d.deleted) x ∙ tidy.indexed w y was

      hidden : (w : ℕ) → (data_at new w).deleted ≡ false → user_of new w ≡ None → (data_at new w).sampling_mode ≡ kept.Hide
      hidden w d e = go (eqb w v) (put.kept w)
        where
          go : (b : Bool) → data_at new w ≡ cond b unused_variable (data_at old w) → (data_at new w).sampling_mode ≡ kept.Hide
          go true x = ap (λ d. d.sampling_mode) x
          go false x = ap (λ d. d.sampling_mode) x ∙ tidy.hidden w (sym (ap (λ d. d.deleted) x) ∙ d) (sym (user_at w) ∙ e)

      shown : (w u : ℕ) → user_of new w ≡ Some u → (data_at new w).sampling_mode ≢ kept.Hide
      shown w u e h = go (eqb w v) refl (put.kept w)
        where
          go : (b : Bool) → eqb w v ≡ b → data_at new w ≡ cond b unused_variable (data_at old w) → ⊥
          go true t x = none_some (ap (user_of old) (eqb-true w v t) ∙ nameless) (sym (user_at w) ∙ e)
          go false t x = tidy.shown w u (sym (user_at w) ∙ e) (sym (ap (λ d. d.sampling_mode) x) ∙ h)

      gone : (w : ℕ) → (data_at new w).deleted ≡ true → data_at new w ≡ unused_variable
      gone w d = go (eqb w v) (put.kept w)
        where
          go : (b : Bool) → data_at new w ≡ cond b unused_variable (data_at old w) → data_at new w ≡ unused_variable
          go true y = y
          go false y = y ∙ tidy.gone w (sym (ap (λ k. k.deleted) y) ∙ d)

      free_globals : (w : ℕ) → is_free new.free_globals w ≡ (ltb w (variables_used new) && (data_at new w).deleted)
      free_globals w = put.free_globals w ∙ go (eqb w v) refl (put.kept w)
        where
          go : (b : Bool) → eqb w v ≡ b → data_at new w ≡ cond b unused_variable (data_at old w) → cond b true (is_free old.free_globals w) ≡ (ltb w (variables_used new) && (data_at new w).deleted)
          go true t x =
              let lt = live_within old v alive in
              let n = put.count in
              let q = eqb-true w v t in
              sym (ap (λ d. ltb w (variables_used new) && d.deleted) x ∙ ap (λ b. b && true) (lt-ltb w (variables_used new) (omega arith)))
          go false t x = tidy.free_globals w ∙ ap (λ n. ltb w n && (data_at old w).deleted) (sym put.count) ∙ sym (ap (λ d. ltb w (variables_used new) && d.deleted) x)

  pub said_deleted : (s : Session) → NamesMatchSteps old s → mentions s.assumed v ≡ false → NamesMatchSteps new (after (DeleteVar v) s)
  said_deleted s said unmarked = record {
    variables = λ w. go w (eqb w v) (put.kept w);
    solver_names = λ w. said.solver_names w ∙ ap (λ m. target m.fwd w) (sym put.solvers);
    unused = λ w e. said.unused w (sym (ap (λ m. target m.fwd w) put.solvers) ∙ e);
    units = units;
    marked = λ w. marked w (eqb w v) refl (put.kept w);
  }
    where
      units : (w : ℕ) → solver_of new w ≡ None → (b : Bool) → (s.units (mk_lit w b) && not (eqb (variable (mk_lit w b)) v)) ≡ is_unit_value (data_at new w).unit b
      units w e b = ap (λ k. s.units (mk_lit w b) && not (eqb k v)) (coded_half w b) ∙ at (eqb w v) (put.kept w)
        where
          at : (q : Bool) → data_at new w ≡ cond q unused_variable (data_at old w) → (s.units (mk_lit w b) && not q) ≡ is_unit_value (data_at new w).unit b
          at true x = and_false (s.units (mk_lit w b)) ∙ sym (ap (λ d. is_unit_value d.unit b) x)
          at false x = and_true (s.units (mk_lit w b)) ∙ said.units w (sym (ap (λ m. target m.fwd w) put.solvers) ∙ e) b ∙ sym (ap (λ d. is_unit_value d.unit b) x)

      marked : (w : ℕ) (q : Bool) → eqb w v ≡ q → data_at new w ≡ cond q unused_variable (data_at old w) → mentions s.assumed w ≡ (data_at new w).assumed
      marked w true t x = ap (mentions s.assumed) (eqb-true w v t) ∙ unmarked ∙ sym (ap (λ d. d.assumed) x)
      marked w false t x = said.marked w ∙ sym (ap (λ d. d.assumed) x)

      go : (w : ℕ) (b : Bool) → data_at new w ≡ cond b unused_variable (data_at old w) → cond b initial_variable (s.variables w) ≡ checker_variable_at new w
      go w true x = sym (ap (λ d. shape d (user_of new w)) x)
      go w false x = said.variables w ∙ sym (ap (λ d. shape d (user_of new w)) x ∙ ap (shape (data_at old w)) (user_at w))

  pub judged_deleted : (j : ScriptState) (live : LiveVariables) (steps : List Step) → IsBridge checker_rules j steps (without v live) → NamesMatchState old j live → NamesMatchState new j (without v live)
  judged_deleted j live steps bridge judged = record {
    first_unused = judged.first_unused ∙ ap (λ m. length m.fwd + 1) (sym put.users);
    no_zero = judged.no_zero;
    names = names;
    once = bridge.once;
    in_use = in_use;
    below = bridge.below;
    distinct = λ a b i e f. judged.distinct a b i (was a i e) (was b i f);
    identities = (let b = put.count in let r = judged.identities in omega arith);
    modes_count = judged.modes_count;
    increasing = judged.increasing;
    modes = modes;
  }
    where
      was : (w i : ℕ) → given (without v live) w ≡ Some i → given live w ≡ Some i
      was w i e = go (eqb w v) (sym (given_without v live w) ∙ e)
        where
          go : (b : Bool) → cond b None (given live w) ≡ Some i → given live w ≡ Some i
          go true x = cc
          go false x = x

      names : (u : ℕ) → identity_of j (u + 1) ≡ given_of (without v live) (global_of new u)
      names u = judged.names u ∙ go (global_of old u) refl ∙ ap (λ m. given_of (without v live) (target m.fwd u)) (sym put.users)
        where
          go : (o : Option ℕ) → global_of old u ≡ o → given_of live o ≡ given_of (without v live) o
          go None e = refl
          go (Some w) e =
              let differ : w ≢ v = λ q. none_some (ap (user_of old) q ∙ nameless) (tidy.users.back u w e) in
              sym (given_without v live w ∙ ap (λ b. cond b None (given live w)) (ne_eqb w v differ))

      in_use : (w : ℕ) → is_some (given (without v live) w) ≡ not (data_at new w).deleted
      in_use w = ap is_some (given_without v live w) ∙ go (eqb w v) (put.kept w)
        where
          go : (b : Bool) → data_at new w ≡ cond b unused_variable (data_at old w) → is_some (cond b None (given live w)) ≡ not (data_at new w).deleted
          go true x = sym (ap (λ d. not d.deleted) x)
          go false x = judged.in_use w ∙ sym (ap (λ d. not d.deleted) x)

      modes : (w i : ℕ) → given (without v live) w ≡ Some i → IsModeOf (data_at new w).sampling_mode (get_or j.modes i Sampled)
      modes w i e = go (eqb w v) (put.kept w)
        where
          go : (b : Bool) → data_at new w ≡ cond b unused_variable (data_at old w) → IsModeOf (data_at new w).sampling_mode (get_or j.modes i Sampled)
          go true x = subst (λ d. IsModeOf d.sampling_mode (get_or j.modes i Sampled)) (sym x) tt
          go false x = subst (λ d. IsModeOf d.sampling_mode (get_or j.modes i Sampled)) (sym x) (judged.modes w i (was w i e))

pub may_delete : (old : Variables) (v : ℕ) (s : Session) → VariablesInvariant old → NamesMatchSteps old s → (data_at old v).deleted ≡ false → user_of old v ≡ None → solver_of old v ≡ None → (data_at old v).assumed ≡ false → CanDeleteVar s v
may_delete old v s tidy said alive nameless noindex unmarked = record {
  known = ap (λ x. x.known) at;
  nameless = ap (λ x. x.name) at ∙ nameless;
  hidden = ap (λ x. x.mode) at ∙ ap checker_mode (tidy.hidden v alive nameless);
  unused = said.unused v noindex;
  not_assumed = said.marked v ∙ unmarked;
}
  where
    at : s.variables v ≡ record { known = true; mode = checker_mode (data_at old v).sampling_mode; name = user_of old v }
    at = said.variables v ∙ ap (λ b. cond b initial_variable (record { known = true; mode = checker_mode (data_at old v).sampling_mode; name = user_of old v })) alive

pub var_deleted : (old new : Variables) (from to : List Step) (v : ℕ) → NamesInvariant old from → (data_at old v).deleted ≡ false → user_of old v ≡ None → solver_of old v ≡ None → (data_at old v).assumed ≡ false → StoresDeletion old new v
    → to ≡ DeleteVar v ∷ from → KeepsScriptState old new from to
var_deleted old new from to v valid alive nameless noindex unmarked put e = record {
  valid = record {
    tidy = tidy_deleted old new v valid.tidy alive nameless noindex put;
    said = subst (λ steps. NamesMatchSteps new (session_after steps)) (sym e) (said_deleted old new v valid.tidy alive nameless noindex put (session_after from) valid.said (valid.said.marked v ∙ unmarked));
    may = subst AreAllowedSteps (sym e) (valid.may, may_delete old v (session_after from) valid.tidy valid.said alive nameless noindex unmarked);
    read = λ u. ap (λ steps. variable_named steps (u + 1)) e ∙ valid.read u ∙ ap (λ m. target m.fwd u) (sym put.users);
  };
  kept = λ j live a. subst (λ steps. ReachesScriptState new from steps j []) (sym e) (
      let b = deleted checker_rules the_checking_sound j from live a.bridge v accepted in
      record {
        live = without v live;
        agree = record { judged = judged_deleted old new v valid.tidy alive nameless noindex put j live (DeleteVar v ∷ from) b a.judged; bridge = b };
        trace = silent refl no_step;
      });
}
  where
    accepted : checker_rules.Accepts from (DeleteVar v)
    accepted = (sessions_are_accepted (DeleteVar v ∷ from) (valid.may, may_delete old v (session_after from) valid.tidy valid.said alive nameless noindex unmarked)).0.1

-- the step makes the session forget the variable's units
pub var_forgotten : (from to : List Step) (v : ℕ) → to ≡ DeleteVar v ∷ from → ForgetsUnits (session_after from) (session_after to) v
var_forgotten from to v e = subst (λ steps. ForgetsUnits (session_after from) (session_after steps) v) (sym e) (record { live = refl; units = λ l. refl; unsat = refl; width = refl; assumed = refl })
