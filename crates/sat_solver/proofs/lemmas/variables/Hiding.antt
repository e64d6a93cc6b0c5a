-- A variable loses its name.
use Rattle.std.proofs.Common.{ℕ, ◌+◌, ◌≡◌, ◌≢◌, Bool, true, false, not, ◌&&◌, cond, eqb, ltb, lt-ltb, List, [], ◌∷◌, length, get_or, Option, Some, None, is_some, refl, sym, ◌∙◌, ap, subst, arith}
use Rattle.std.proofs.lemmas.Bool.{eqb-true, eqb-false, eq-eqb, ne_eqb, true≢false}
use Rattle.sat_base.proofs.lemmas.script.ScriptStates.{filtered_order}
use Rattle.sat_base.specs.script.ScriptState.{ScriptState, Sampled, identity_of, without_name}
use Rattle.sat_base.specs.steps.Steps.{Step, UserVarName}
use Rattle.sat_checker.specs.Fold.{Holds}
use Rattle.sat_store.specs.declared.data.VarData.{VarData}
use Rattle.sat_store.specs.declared.data.SamplingMode.TheVariants as kept
use Rattle.sat_store.specs.variables.VarData.{unused_variable}
use Rattle.sat_store.specs.variables.Maps.{AreInverse, target}
use Rattle.sat_checker.specs.Stored.{Hide, Variable, initial_variable}
use Rattle.sat_solver.specs.session.Session.{Session, AreAllowedSteps, session_after, after}
use Rattle.sat_solver.proofs.lemmas.session.StepLemmas.{sessions_are_accepted}
use Rattle.sat_solver.specs.variables.Counting.{HasEqualCounts}
use Rattle.sat_solver.specs.variables.Free.{is_free, IsTree}
use Rattle.sat_checker.specs.matching.Bridge.{LiveVariables}
use Rattle.sat_solver.specs.variables.Live.{given_of, given}
use Rattle.sat_solver.specs.variables.Variables.{data_at, global_of, user_of, names_used, variables_used, VariablesInvariant, checker_mode, checker_variable_at, NamesMatchSteps, IsModeOf, NamesMatchState, is_unit_value, is_witness_kept}
use Rattle.sat_solver.specs.variables.Naming.{StoresHiding, KeepsOthers}
use Rattle.sat_checker.specs.matching.Checking.{is_variable, variable_named}
use Rattle.sat_checker.specs.matching.ProofChecking.{checker_rules}
use Rattle.sat_checker.specs.matching.Expected.{NoName, no_name}
use Rattle.sat_checker.specs.matching.Traces.{no_step, visible}
use Rattle.sat_solver.specs.variables.Calls.{NamesInvariant, ReachesScriptState, ChangesScriptState}
use Rattle.sat_solver.specs.variables.Search.{KeepsSearch, KeepsWhatSearchSees}
use Rattle.sat_solver.specs.declared.variables.Variables.{Variables}
use Rattle.sat_solver.proofs.lemmas.variables.MapLemmas.{some_within}
use Rattle.sat_solver.proofs.lemmas.variables.Counts.{unlinks_inverse}
use Rattle.sat_base.proofs.lemmas.script.LiteralValues.{removed_found, removed_gone}
use Rattle.sat_solver.proofs.lemmas.variables.NewName.{shape}
use Rattle.sat_checker.proofs.lemmas.matching.Bridge.{unnamed}
use Rattle.sat_checker.proofs.lemmas.matching.CheckerIsSound.{the_checking_sound}

none_some : {x : ℕ} {o : Option ℕ} → o ≡ None → o ≡ Some x → ⊥
none_some e f = cc

some_same : {x y : ℕ} {o : Option ℕ} → o ≡ Some x → o ≡ Some y → x ≡ y
some_same e f = cc

module _ (old new : Variables) (user v : ℕ) (tidy : VariablesInvariant old) (had : global_of old user ≡ Some v) (put : StoresHiding old new user v) where
  name : user_of old v ≡ Some user
  name = tidy.users.back user v had

  alive : (data_at old v).deleted ≡ false
  alive = tidy.named v user name

  deleted_at : (w : ℕ) → (data_at new w).deleted ≡ (data_at old w).deleted
  deleted_at w = go (eqb w v) refl (put.kept w)
    where
      go : (b : Bool) → eqb w v ≡ b → data_at new w ≡ cond b (record (data_at old v) { sampling_mode = kept.Hide }) (data_at old w) → (data_at new w).deleted ≡ (data_at old w).deleted
      go true t e = ap (λ d. d.deleted) e ∙ ap (λ k. (data_at old k).deleted) (sym (eqb-true w v t))
      go false t e = ap (λ d. d.deleted) e

  pub tidy_hidden : VariablesInvariant new
  tidy_hidden = record {
    users = put.inverse;
    solvers = subst AreInverse (sym put.solvers) tidy.solvers;
    named = named;
    indexed = λ w x e. deleted_at w ∙ tidy.indexed w x (sym (ap (λ m. target m.fwd w) put.solvers) ∙ e);
    hidden = hidden;
    shown = shown;
    gone = gone;
    plain = λ e w. ap (λ d. is_witness_kept d.sampling_mode) (put.kept w) ∙ still (eqb w v) w (tidy.plain (sym put.witnessed ∙ e) w);
    own = λ e u lt. absurd (true≢false (sym e ∙ put.own));
    globals_count = ap (λ g. length g.items) put.globals ∙ tidy.globals_count ∙ ap (λ m. length m.bwd) (sym put.solvers);
    globals = λ x w e. ap (λ g. get_or g.items x 0) put.globals ∙ tidy.globals x w (sym (ap (λ m. target m.bwd x) put.solvers) ∙ e);
    even_users = unlinks_inverse old.global_from_user new.global_from_user user v tidy.users had put.users tidy.even_users;
    even_solvers = subst HasEqualCounts (sym put.solvers) tidy.even_solvers;
    spans_users = put.spans_users;
    spans_globals = record { tree = subst IsTree (sym put.free_globals) tidy.spans_globals.tree; room = let a = ap (λ f. f.room) put.free_globals in let b = put.count in let r = tidy.spans_globals.room in omega arith };
    spans_solvers = record { tree = subst IsTree (sym put.free_solvers) tidy.spans_solvers.tree; room = let a = ap (λ f. f.room) put.free_solvers in let b = ap (λ m. length m.bwd) put.solvers in let r = tidy.spans_solvers.room in omega arith };
    reach = let a = put.users.fwd_watermark in let b = put.count in let r = tidy.reach in omega arith;
    indices = let a = ap (λ m. length m.bwd) put.solvers in let b = put.count in let r = tidy.indices in omega arith;
    within = let b = put.count in let r = tidy.within in omega arith;
    free_users = free_users;
    free_globals = λ w. ap (λ f. is_free f w) put.free_globals ∙ tidy.free_globals w ∙ ap (λ n. ltb w n && (data_at old w).deleted) (sym put.count) ∙ ap (λ b. ltb w (variables_used new) && b) (sym (deleted_at w));
    free_solvers = λ x. ap (λ f. is_free f x) put.free_solvers ∙ tidy.free_solvers x ∙ ap (λ m. ltb x (length m.bwd) && not (is_some (target m.bwd x))) (sym put.solvers);
  }
    where
      still : (b : Bool) (w : ℕ) → is_witness_kept (data_at old w).sampling_mode ≡ false → is_witness_kept (cond b (record (data_at old v) { sampling_mode = kept.Hide }) (data_at old w)).sampling_mode ≡ false
      still true w e = refl
      still false w e = e

      named : (w u : ℕ) → user_of new w ≡ Some u → (data_at new w).deleted ≡ false
      named w u e = deleted_at w ∙ go (eqb w v) (put.users.bwd w)
        where
          go : (b : Bool) → user_of new w ≡ cond b None (user_of old w) → (data_at old w).deleted ≡ false
          go true x = absurd (none_some x e)
          go false x = tidy.named w u (sym x ∙ e)

      hidden : (w : ℕ) → (data_at new w).deleted ≡ false → user_of new w ≡ None → (data_at new w).sampling_mode ≡ kept.Hide
      hidden w d e = go (eqb w v) (put.kept w) (put.users.bwd w)
        where
          go : (b : Bool) → data_at new w ≡ cond b (record (data_at old v) { sampling_mode = kept.Hide }) (data_at old w) → user_of new w ≡ cond b None (user_of old w) → (data_at new w).sampling_mode ≡ kept.Hide
          go true x y = ap (λ d. d.sampling_mode) x
          go false x y = ap (λ d. d.sampling_mode) x ∙ tidy.hidden w (sym (deleted_at w) ∙ d) (sym y ∙ e)

      shown : (w u : ℕ) → user_of new w ≡ Some u → (data_at new w).sampling_mode ≢ kept.Hide
      shown w u e h = go (eqb w v) (put.kept w) (put.users.bwd w)
        where
          go : (b : Bool) → data_at new w ≡ cond b (record (data_at old v) { sampling_mode = kept.Hide }) (data_at old w) → user_of new w ≡ cond b None (user_of old w) → ⊥
          go true x y = none_some y e
          go false x y = tidy.shown w u (sym y ∙ e) (sym (ap (λ d. d.sampling_mode) x) ∙ h)

      gone : (w : ℕ) → (data_at new w).deleted ≡ true → data_at new w ≡ unused_variable
      gone w d = go (eqb w v) refl (put.kept w)
        where
          was : (data_at old w).deleted ≡ true
          was = sym (deleted_at w) ∙ d

          go : (b : Bool) → eqb w v ≡ b → data_at new w ≡ cond b (record (data_at old v) { sampling_mode = kept.Hide }) (data_at old w) → data_at new w ≡ unused_variable
          go true t y = absurd (true≢false (sym was ∙ ap (λ k. (data_at old k).deleted) (eqb-true w v t) ∙ alive))
          go false t y = y ∙ tidy.gone w was

      free_users : (u : ℕ) → is_free new.free_users u ≡ (ltb u (names_used new) && not (is_some (global_of new u)))
      free_users u = put.free_users u ∙ go (eqb u user) refl (put.users.fwd u)
        where
          go : (b : Bool) → eqb u user ≡ b → global_of new u ≡ cond b None (global_of old u) → cond b true (is_free old.free_users u) ≡ (ltb u (names_used new) && not (is_some (global_of new u)))
          go true t x =
              let lt = some_within old.global_from_user.fwd user v had in
              let e = eqb-true u user t in
              let n = put.users.fwd_watermark in
              sym (ap (λ o. ltb u (names_used new) && not (is_some o)) x ∙ ap (λ b. b && true) (lt-ltb u (names_used new) (omega arith)))
          go false t x = tidy.free_users u ∙ ap (λ n. ltb u n && not (is_some (global_of old u))) (sym put.users.fwd_watermark) ∙ sym (ap (λ o. ltb u (names_used new) && not (is_some o)) x)

  pub said_hidden : (s : Session) → NamesMatchSteps old s → NamesMatchSteps new (after (UserVarName v None) s)
  said_hidden s said = record {
    variables = variables;
    solver_names = λ w. said.solver_names w ∙ ap (λ m. target m.fwd w) (sym put.solvers);
    unused = λ w e. said.unused w (sym (ap (λ m. target m.fwd w) put.solvers) ∙ e);
    units = λ w e b. said.units w (sym (ap (λ m. target m.fwd w) put.solvers) ∙ e) b ∙ ap (λ o. is_unit_value o b) (unit_kept w);
    marked = λ w. said.marked w ∙ mark_kept w;
  }
    where
      same : {A : Type 0} (w : ℕ) (f : VarData → A) → f (record (data_at old v) { sampling_mode = kept.Hide }) ≡ f (data_at old v) → f (data_at old w) ≡ f (data_at new w)
      same w f e = go (eqb w v) refl (put.kept w)
        where
          go : (b : Bool) → eqb w v ≡ b → data_at new w ≡ cond b (record (data_at old v) { sampling_mode = kept.Hide }) (data_at old w) → f (data_at old w) ≡ f (data_at new w)
          go true t y = ap (λ k. f (data_at old k)) (eqb-true w v t) ∙ sym e ∙ sym (ap f y)
          go false t y = sym (ap f y)

      unit_kept : (w : ℕ) → (data_at old w).unit ≡ (data_at new w).unit
      unit_kept w = same w (λ d. d.unit) refl

      mark_kept : (w : ℕ) → (data_at old w).assumed ≡ (data_at new w).assumed
      mark_kept w = same w (λ d. d.assumed) refl

      variables : (w : ℕ) → cond (eqb w v) (record (s.variables v) { mode = Hide; name = None }) (s.variables w) ≡ checker_variable_at new w
      variables w = go (eqb w v) (put.kept w) (put.users.bwd w)
        where
          here : (b : Bool) → b ≡ false → (let z : Variable = cond b initial_variable (record { known = true; mode = checker_mode (data_at old v).sampling_mode; name = user_of old v }) in record z { mode = Hide; name = None }) ≡ cond b initial_variable (record { known = true; mode = Hide; name = None })
          here false e = refl
          here true e = absurd (true≢false e)

          go : (b : Bool) → data_at new w ≡ cond b (record (data_at old v) { sampling_mode = kept.Hide }) (data_at old w) → user_of new w ≡ cond b None (user_of old w)
              → cond b (record (s.variables v) { mode = Hide; name = None }) (s.variables w) ≡ checker_variable_at new w
          go true x y = ap {A = Variable} (λ z. record z { mode = Hide; name = None }) (said.variables v) ∙ here (data_at old v).deleted alive ∙ sym (ap (λ d. shape d (user_of new w)) x ∙ ap (shape (record (data_at old v) { sampling_mode = kept.Hide })) y)
          go false x y = said.variables w ∙ sym (ap (λ d. shape d (user_of new w)) x ∙ ap (shape (data_at old w)) y)

  pub judged_hidden : (j : ScriptState) (live : LiveVariables) → NamesMatchState old j live → NamesMatchState new (without_name (user + 1) j) live
  judged_hidden j live judged = record {
    first_unused = judged.first_unused ∙ ap (λ n. n + 1) (sym put.users.fwd_watermark);
    no_zero = removed_found (user + 1) j.in_use 0 (λ x. omega arith) ∙ judged.no_zero;
    names = names;
    once = judged.once;
    in_use = λ w. judged.in_use w ∙ ap not (sym (deleted_at w));
    below = judged.below;
    distinct = judged.distinct;
    identities = (let b = put.count in let r = judged.identities in omega arith);
    modes_count = judged.modes_count;
    increasing = filtered_order (λ n. not (eqb n.name (user + 1))) j.in_use judged.increasing;
    modes = modes;
  }
    where
      names : (u : ℕ) → identity_of (without_name (user + 1) j) (u + 1) ≡ given_of live (global_of new u)
      names u = go (eqb u user) refl (put.users.fwd u)
        where
          go : (b : Bool) → eqb u user ≡ b → global_of new u ≡ cond b None (global_of old u) → identity_of (without_name (user + 1) j) (u + 1) ≡ given_of live (global_of new u)
          go true t x = ap (λ k. identity_of (without_name (user + 1) j) (k + 1)) (eqb-true u user t) ∙ removed_gone (user + 1) j.in_use ∙ sym (ap (given_of live) x)
          go false t x = removed_found (user + 1) j.in_use (u + 1) (λ y. eqb-false u user t (omega arith)) ∙ judged.names u ∙ sym (ap (given_of live) x)

      modes : (w i : ℕ) → given live w ≡ Some i → IsModeOf (data_at new w).sampling_mode (get_or j.modes i Sampled)
      modes w i e = go (eqb w v) (put.kept w)
        where
          go : (b : Bool) → data_at new w ≡ cond b (record (data_at old v) { sampling_mode = kept.Hide }) (data_at old w) → IsModeOf (data_at new w).sampling_mode (get_or j.modes i Sampled)
          go true x = subst (λ d. IsModeOf d.sampling_mode (get_or j.modes i Sampled)) (sym x) tt
          go false x = subst (λ d. IsModeOf d.sampling_mode (get_or j.modes i Sampled)) (sym x) (judged.modes w i e)

  pub may_hide : (s : Session) → NamesMatchSteps old s → (s.variables v).name ≢ None
  may_hide s said e = none_some (sym (ap (λ x. x.name) (said.variables v)) ∙ e) (at (data_at old v).deleted alive)
    where
      at : (b : Bool) → b ≡ false → (let z : Variable = cond b initial_variable (record { known = true; mode = checker_mode (data_at old v).sampling_mode; name = user_of old v }) in z).name ≡ Some user
      at false f = name
      at true f = absurd (true≢false f)

  read_hidden : (f : ℕ → Option ℕ) → ((u : ℕ) → f (u + 1) ≡ global_of old u) → (u : ℕ) → cond (is_variable v (f (u + 1))) None (f (u + 1)) ≡ global_of new u
  read_hidden f read u = ap (λ o. cond (is_variable v o) None o) (read u) ∙ go (eqb u user) refl (put.users.fwd u)
    where
      others : (o : Option ℕ) → global_of old u ≡ o → (o ≡ Some v → ⊥) → cond (is_variable v o) None o ≡ o
      others None e n = refl
      others (Some w) e n = let x : eqb w v ≡ false = ne_eqb w v (λ y. n (ap Some y)) in ap (λ b. cond b None (Some w)) x

      go : (b : Bool) → eqb u user ≡ b → global_of new u ≡ cond b None (global_of old u) → cond (is_variable v (global_of old u)) None (global_of old u) ≡ global_of new u
      go true t x = ap (λ o. cond (is_variable v o) None o) (ap (global_of old) (eqb-true u user t) ∙ had) ∙ ap (λ b. cond b None (Some v)) (eq-eqb v v refl) ∙ sym x
      go false t x = others (global_of old u) refl (λ e. eqb-false u user t (some_same (tidy.users.back u v e) name)) ∙ sym x

pub name_hidden : (old new : Variables) (from to : List Step) (user v : ℕ) → NamesInvariant old from → global_of old user ≡ Some v → StoresHiding old new user v
    → to ≡ UserVarName v None ∷ from → ChangesScriptState old new from to (without_name (user + 1)) (λ j. NoName (user + 1) ∷ [])
name_hidden old new from to user v valid had put e = record {
  valid = record {
    tidy = tidy_hidden old new user v valid.tidy had put;
    said = subst (λ steps. NamesMatchSteps new (session_after steps)) (sym e) (said_hidden old new user v valid.tidy had put (session_after from) valid.said);
    may = subst AreAllowedSteps (sym e) (valid.may, may_hide old new user v valid.tidy had put (session_after from) valid.said);
    read = λ u. ap (λ steps. variable_named steps (u + 1)) e ∙ read_hidden old new user v valid.tidy had put (variable_named from) valid.read u;
  };
  kept = λ j live a. subst (λ steps. ReachesScriptState new from steps (without_name (user + 1) j) (NoName (user + 1) ∷ [])) (sym e) (record {
    live = live;
    agree = record {
      judged = judged_hidden old new user v valid.tidy had put j live a.judged;
      bridge = unnamed checker_rules the_checking_sound j from live a.bridge (user + 1) v at accepted;
    };
    trace = visible (no_name at) no_step;
  });
}
  where
    at : variable_named from (user + 1) ≡ Some v
    at = valid.read user ∙ had

    accepted : checker_rules.Accepts from (UserVarName v None)
    accepted = (sessions_are_accepted (UserVarName v None ∷ from) (valid.may, may_hide old new user v valid.tidy had put (session_after from) valid.said)).0.1

pub hidden_unseen : (old new : Variables) (from to : List Step) (user v : ℕ) → StoresHiding old new user v → to ≡ UserVarName v None ∷ from → KeepsWhatSearchSees old new from to
hidden_unseen old new from to user v put e = record {
  solvers = put.solvers;
  globals = put.globals;
  search = subst (λ steps. KeepsSearch (session_after from) (session_after steps)) (sym e) (record { live = refl; units = refl; unsat = refl; width = refl; assumed = refl });
  leaves = λ a h. subst (λ steps. Holds steps a) e h;
}

-- no name was introduced
pub hidden_only : (old new : Variables) (user v : ℕ) → StoresHiding old new user v → (u w : ℕ) → global_of new u ≡ Some w → global_of old u ≡ Some w
hidden_only old new user v put u w e = go (eqb u user) (put.users.fwd u)
  where
    go : (b : Bool) → global_of new u ≡ cond b None (global_of old u) → global_of old u ≡ Some w
    go true x = absurd (none_some x e)
    go false x = sym x ∙ e

-- other names keep their variables
pub hidden_others : (old new : Variables) (user v : ℕ) → StoresHiding old new user v → KeepsOthers old new user
hidden_others old new user v put u w n e = put.users.fwd u ∙ ap (λ b. cond b None (global_of old u)) (ne_eqb u user n) ∙ e

pub hidden_live : (old new : Variables) (user v : ℕ) → VariablesInvariant old → global_of old user ≡ Some v → StoresHiding old new user v → (data_at new v).deleted ≡ false
hidden_live old new user v tidy had put = deleted_at old new user v tidy had put v ∙ alive old new user v tidy had put

pub hidden_nameless : (old new : Variables) (user v : ℕ) → StoresHiding old new user v → user_of new v ≡ None
hidden_nameless old new user v put = put.users.bwd v ∙ ap (λ b. cond b None (user_of old v)) (eq-eqb v v refl)
