-- The mode of a variable with a name changes.
use Rattle.std.proofs.Common.{ℕ, ◌+◌, ◌<◌, ◌≡◌, ◌≢◌, Bool, true, false, not, ◌&&◌, cond, eqb, ltb, List, [], ◌∷◌, length, get_or, set, Option, Some, None, is_some, refl, sym, ◌∙◌, ap, subst, arith, inl, inr, unwrap_or}
use Rattle.std.proofs.Math.ListN.{length-set}
use Rattle.std.proofs.lemmas.List.{get_or_past, get_or-set_same, get_or-set_other}
use Rattle.std.proofs.lemmas.Bool.{eqb-true, eqb-false, true≢false, false_from_ne_true, cases_lt}
use Rattle.sat_base.specs.script.ScriptState.{ScriptState, Sampled, identity_of, with_mode}
use Rattle.sat_base.specs.script.ScriptState as judged
use Rattle.sat_base.specs.steps.Steps.{Step, ChangeSamplingMode}
use Rattle.sat_checker.specs.Fold.{Holds}
use Rattle.sat_store.specs.declared.data.VarData.{VarData}
use Rattle.sat_store.specs.declared.data.SamplingMode.{SamplingMode}
use Rattle.sat_store.specs.declared.data.SamplingMode.TheVariants as kept
use Rattle.sat_store.specs.variables.VarData.{unused_variable}
use Rattle.sat_store.specs.variables.Maps.{AreInverse, target}
use Rattle.sat_checker.specs.Stored.{Sample, Witness, Hide, Variable, initial_variable}
use Rattle.sat_solver.specs.session.Session.{Session, AreAllowedSteps, session_after, after}
use Rattle.sat_solver.proofs.lemmas.session.StepLemmas.{sessions_are_accepted}
use Rattle.sat_solver.specs.variables.Counting.{HasEqualCounts}
use Rattle.sat_solver.specs.variables.Free.{is_free, IsTree}
use Rattle.sat_checker.specs.matching.Bridge.{LiveVariables, IsBridge}
use Rattle.sat_solver.specs.variables.Live.{given_of, given}
use Rattle.sat_solver.specs.variables.Variables.{data_at, global_of, user_of, variables_used, VariablesInvariant, checker_mode, checker_variable_at, NamesMatchSteps, IsModeOf, NamesMatchState, mode_for, script_mode, is_unit_value, is_witness_kept}
use Rattle.sat_solver.specs.variables.Naming.{StoresMode}
use Rattle.sat_checker.specs.matching.Checking.{variable_named}
use Rattle.sat_solver.specs.variables.NamingSteps.{mode_of_flag, ChangesModeTo}
use Rattle.sat_checker.specs.matching.ProofChecking.{checker_rules}
use Rattle.sat_checker.specs.matching.Traces.{no_step, silent}
use Rattle.sat_solver.specs.variables.Calls.{NamesInvariant, ReachesScriptState, ChangesScriptState}
use Rattle.sat_solver.specs.variables.Search.{KeepsSearch, KeepsWhatSearchSees}
use Rattle.sat_solver.specs.declared.variables.Variables.{Variables}
use Rattle.sat_solver.proofs.lemmas.variables.ScriptStateLemmas.{given_has}
use Rattle.sat_solver.proofs.lemmas.variables.NewName.{shape, none_or}
use Rattle.sat_checker.proofs.lemmas.matching.Bridge.{nothing_new}
use Rattle.sat_checker.proofs.lemmas.matching.CheckerIsSound.{the_checking_sound}

pub live_within : (n : Variables) (v : ℕ) → (data_at n v).deleted ≡ false → v < variables_used n
live_within n v e = elim (cases_lt v (variables_used n)) [
  | inl lt ↦ lt
  | inr past ↦ absurd (true≢false (sym (ap (λ d. d.deleted) (get_or_past n.var_data.items v unused_variable past)) ∙ e))
]

pub named_within : (n : Variables) (u v : ℕ) → VariablesInvariant n → global_of n u ≡ Some v → v < variables_used n
named_within n u v tidy e = live_within n v (tidy.named v u (tidy.users.back u v e))

not_hide : (sample : Bool) → mode_for sample ≢ kept.Hide
not_hide true e = cc
not_hide false e = cc

-- the variable has this mode already
pub same_mode : (n : Variables) (v : ℕ) (mode : SamplingMode) → VariablesInvariant n → (data_at n v).sampling_mode ≡ mode → StoresMode n n v mode
same_mode n v mode tidy e = record {
  users = refl;
  solvers = refl;
  globals = refl;
  witnessed = λ w. may n.witnessed refl w;
  stays = λ w. w;
  own = refl;
  kept = λ w. go w (eqb w v) refl;
  count = refl;
  free_users = refl;
  free_globals = refl;
  free_solvers = refl;
}
  where
    may : (b : Bool) → n.witnessed ≡ b → is_witness_kept mode ≡ true → n.witnessed ≡ true
    may true t w = t
    may false t w = absurd (true≢false (sym w ∙ ap is_witness_kept (sym e) ∙ tidy.plain t v))

    go : (w : ℕ) (b : Bool) → eqb w v ≡ b → data_at n w ≡ cond b (record (data_at n v) { sampling_mode = mode }) (data_at n w)
    go w true t = ap (data_at n) (eqb-true w v t) ∙ ap {A = SamplingMode} (λ m. record (data_at n v) { sampling_mode = m }) e
    go w false t = refl

module _ (old new : Variables) (user v : ℕ) (sample : Bool) (tidy : VariablesInvariant old) (had : global_of old user ≡ Some v) (put : StoresMode old new v (mode_for sample)) where
  name : user_of old v ≡ Some user
  name = tidy.users.back user v had

  alive : (data_at old v).deleted ≡ false
  alive = tidy.named v user name

  deleted_at : (w : ℕ) → (data_at new w).deleted ≡ (data_at old w).deleted
  deleted_at w = go (eqb w v) refl (put.kept w)
    where
      go : (b : Bool) → eqb w v ≡ b → data_at new w ≡ cond b (record (data_at old v) { sampling_mode = mode_for sample }) (data_at old w) → (data_at new w).deleted ≡ (data_at old w).deleted
      go true t e = ap (λ d. d.deleted) e ∙ ap (λ k. (data_at old k).deleted) (sym (eqb-true w v t))
      go false t e = ap (λ d. d.deleted) e

  user_at : (w : ℕ) → user_of new w ≡ user_of old w
  user_at w = ap (λ m. target m.bwd w) put.users

  none_some : {x : ℕ} {o : Option ℕ} → o ≡ None → o ≡ Some x → ⊥
  none_some e f = cc

  pub tidy_mode : VariablesInvariant new
  tidy_mode = record {
    users = subst AreInverse (sym put.users) tidy.users;
    solvers = subst AreInverse (sym put.solvers) tidy.solvers;
    named = λ w u e. deleted_at w ∙ tidy.named w u (sym (user_at w) ∙ e);
    indexed = λ w x e. deleted_at w ∙ tidy.indexed w x (sym (ap (λ m. target m.fwd w) put.solvers) ∙ e);
    hidden = hidden;
    shown = shown;
    gone = gone;
    plain = λ e w. ap (λ d. is_witness_kept d.sampling_mode) (put.kept w)
        ∙ still (eqb w v) w (false_from_ne_true (is_witness_kept (mode_for sample)) (λ t. true≢false (sym (put.witnessed t) ∙ e))) (tidy.plain (false_from_ne_true old.witnessed (λ t. true≢false (sym (put.stays t) ∙ e))) w);
    own = λ e u lt. ap (λ m. target m.fwd u) put.users ∙ tidy.own (sym put.own ∙ e) u (let q = ap (λ m. length m.fwd) put.users in omega arith);
    globals_count = ap (λ g. length g.items) put.globals ∙ tidy.globals_count ∙ ap (λ m. length m.bwd) (sym put.solvers);
    globals = λ x w e. ap (λ g. get_or g.items x 0) put.globals ∙ tidy.globals x w (sym (ap (λ m. target m.bwd x) put.solvers) ∙ e);
    even_users = subst HasEqualCounts (sym put.users) tidy.even_users;
    even_solvers = subst HasEqualCounts (sym put.solvers) tidy.even_solvers;
    spans_users = record { tree = subst IsTree (sym put.free_users) tidy.spans_users.tree; room = let a = ap (λ f. f.room) put.free_users in let b = ap (λ m. length m.fwd) put.users in let r = tidy.spans_users.room in omega arith };
    spans_globals = record { tree = subst IsTree (sym put.free_globals) tidy.spans_globals.tree; room = let a = ap (λ f. f.room) put.free_globals in let b = put.count in let r = tidy.spans_globals.room in omega arith };
    spans_solvers = record { tree = subst IsTree (sym put.free_solvers) tidy.spans_solvers.tree; room = let a = ap (λ f. f.room) put.free_solvers in let b = ap (λ m. length m.bwd) put.solvers in let r = tidy.spans_solvers.room in omega arith };
    reach = let a = ap (λ m. length m.fwd) put.users in let b = put.count in let r = tidy.reach in omega arith;
    indices = let a = ap (λ m. length m.bwd) put.solvers in let b = put.count in let r = tidy.indices in omega arith;
    within = let b = put.count in let r = tidy.within in omega arith;
    free_users = λ u. ap (λ f. is_free f u) put.free_users ∙ tidy.free_users u ∙ ap (λ m. ltb u (length m.fwd) && not (is_some (target m.fwd u))) (sym put.users);
    free_globals = λ w. ap (λ f. is_free f w) put.free_globals ∙ tidy.free_globals w ∙ ap (λ n. ltb w n && (data_at old w).deleted) (sym put.count) ∙ ap (λ b. ltb w (variables_used new) && b) (sym (deleted_at w));
    free_solvers = λ x. ap (λ f. is_free f x) put.free_solvers ∙ tidy.free_solvers x ∙ ap (λ m. ltb x (length m.bwd) && not (is_some (target m.bwd x))) (sym put.solvers);
  }
    where
      still : (b : Bool) (w : ℕ) → is_witness_kept (mode_for sample) ≡ false → is_witness_kept (data_at old w).sampling_mode ≡ false → is_witness_kept (cond b (record (data_at old v) { sampling_mode = mode_for sample }) (data_at old w)).sampling_mode ≡ false
      still true w m e = m
      still false w m e = e

      gone : (w : ℕ) → (data_at new w).deleted ≡ true → data_at new w ≡ unused_variable
      gone w d = go (eqb w v) refl (put.kept w)
        where
          was : (data_at old w).deleted ≡ true
          was = sym (deleted_at w) ∙ d

          go : (b : Bool) → eqb w v ≡ b → data_at new w ≡ cond b (record (data_at old v) { sampling_mode = mode_for sample }) (data_at old w) → data_at new w ≡ unused_variable
          go true t y = absurd (true≢false (sym was ∙ ap (λ k. (data_at old k).deleted) (eqb-true w v t) ∙ alive))
          go false t y = y ∙ tidy.gone w was

      hidden : (w : ℕ) → (data_at new w).deleted ≡ false → user_of new w ≡ None → (data_at new w).sampling_mode ≡ kept.Hide
      hidden w d e = go (eqb w v) refl (put.kept w)
        where
          go : (b : Bool) → eqb w v ≡ b → data_at new w ≡ cond b (record (data_at old v) { sampling_mode = mode_for sample }) (data_at old w) → (data_at new w).sampling_mode ≡ kept.Hide
          go true t x = absurd (none_some (sym (user_at w) ∙ e) (ap (user_of old) (eqb-true w v t) ∙ name))
          go false t x = ap (λ d. d.sampling_mode) x ∙ tidy.hidden w (sym (deleted_at w) ∙ d) (sym (user_at w) ∙ e)

      shown : (w u : ℕ) → user_of new w ≡ Some u → (data_at new w).sampling_mode ≢ kept.Hide
      shown w u e h = go (eqb w v) (put.kept w)
        where
          go : (b : Bool) → data_at new w ≡ cond b (record (data_at old v) { sampling_mode = mode_for sample }) (data_at old w) → ⊥
          go true x = not_hide sample (sym (ap (λ d. d.sampling_mode) x) ∙ h)
          go false x = tidy.shown w u (sym (user_at w) ∙ e) (sym (ap (λ d. d.sampling_mode) x) ∙ h)

  pub said_mode : (s : Session) → NamesMatchSteps old s → NamesMatchSteps new (after (ChangeSamplingMode v sample) s)
  said_mode s said = record {
    variables = variables;
    solver_names = λ w. said.solver_names w ∙ ap (λ m. target m.fwd w) (sym put.solvers);
    unused = λ w e. said.unused w (sym (ap (λ m. target m.fwd w) put.solvers) ∙ e);
    units = λ w e b. said.units w (sym (ap (λ m. target m.fwd w) put.solvers) ∙ e) b ∙ ap (λ o. is_unit_value o b) (unit_kept w);
    marked = λ w. said.marked w ∙ mark_kept w;
  }
    where
      same : {A : Type 0} (w : ℕ) (f : VarData → A) → f (record (data_at old v) { sampling_mode = mode_for sample }) ≡ f (data_at old v) → f (data_at old w) ≡ f (data_at new w)
      same w f e = go (eqb w v) refl (put.kept w)
        where
          go : (b : Bool) → eqb w v ≡ b → data_at new w ≡ cond b (record (data_at old v) { sampling_mode = mode_for sample }) (data_at old w) → f (data_at old w) ≡ f (data_at new w)
          go true t y = ap (λ k. f (data_at old k)) (eqb-true w v t) ∙ sym e ∙ sym (ap f y)
          go false t y = sym (ap f y)

      unit_kept : (w : ℕ) → (data_at old w).unit ≡ (data_at new w).unit
      unit_kept w = same w (λ d. d.unit) refl

      mark_kept : (w : ℕ) → (data_at old w).assumed ≡ (data_at new w).assumed
      mark_kept w = same w (λ d. d.assumed) refl

      variables : (w : ℕ) → cond (eqb w v) (record (s.variables v) { mode = cond sample Sample Witness }) (s.variables w) ≡ checker_variable_at new w
      variables w = go (eqb w v) refl (put.kept w)
        where
          here : (c b : Bool) → b ≡ false → (let z : Variable = cond b initial_variable (record { known = true; mode = checker_mode (data_at old v).sampling_mode; name = user_of old v }) in record z { mode = cond c Sample Witness }) ≡ cond b initial_variable (record { known = true; mode = checker_mode (mode_for c); name = user_of old v })
          here true false e = refl
          here false false e = refl
          here c true e = absurd (true≢false e)

          go : (b : Bool) → eqb w v ≡ b → data_at new w ≡ cond b (record (data_at old v) { sampling_mode = mode_for sample }) (data_at old w) → cond b (record (s.variables v) { mode = cond sample Sample Witness }) (s.variables w) ≡ checker_variable_at new w
          go true t x = ap {A = Variable} (λ z. record z { mode = cond sample Sample Witness }) (said.variables v) ∙ here sample (data_at old v).deleted alive ∙ sym (ap (λ d. shape d (user_of new w)) x ∙ ap (shape (record (data_at old v) { sampling_mode = mode_for sample })) (user_at w ∙ ap (user_of old) (eqb-true w v t)))
          go false t x = said.variables w ∙ sym (ap (λ d. shape d (user_of new w)) x ∙ ap (shape (data_at old w)) (user_at w))

  pub judged_with_mode : (j : ScriptState) (live : LiveVariables) → NamesMatchState old j live → NamesMatchState new (with_mode (script_mode sample) (user + 1) j) live
  judged_with_mode j live judged = record {
    first_unused = judged.first_unused ∙ ap (λ m. length m.fwd + 1) (sym put.users);
    no_zero = judged.no_zero;
    names = λ u. judged.names u ∙ ap (λ m. given_of live (target m.fwd u)) (sym put.users);
    once = judged.once;
    in_use = λ w. judged.in_use w ∙ ap not (sym (deleted_at w));
    below = judged.below;
    distinct = judged.distinct;
    identities = (let b = put.count in let r = judged.identities in omega arith);
    modes_count = length-set j.modes (unwrap_or (identity_of j (user + 1)) 0) (script_mode sample) ∙ judged.modes_count;
    increasing = judged.increasing;
    modes = modes;
  }
    where
      its : (i : ℕ) × (given live v ≡ Some i)
      its = none_or (given live v) (λ e. true≢false (sym (judged.in_use v ∙ ap not alive) ∙ ap is_some e))

      at : unwrap_or (identity_of j (user + 1)) 0 ≡ its.0
      at = ap (λ o. unwrap_or o 0) (judged.names user ∙ ap (given_of live) had ∙ its.1)

      fits : (c : Bool) → IsModeOf (mode_for c) (script_mode c)
      fits true = refl
      fits false = refl

      modes : (w i : ℕ) → given live w ≡ Some i → IsModeOf (data_at new w).sampling_mode (get_or (set j.modes (unwrap_or (identity_of j (user + 1)) 0) (script_mode sample)) i Sampled)
      modes w i e = go (eqb w v) refl (put.kept w)
        where
          go : (b : Bool) → eqb w v ≡ b → data_at new w ≡ cond b (record (data_at old v) { sampling_mode = mode_for sample }) (data_at old w)
              → IsModeOf (data_at new w).sampling_mode (get_or (set j.modes (unwrap_or (identity_of j (user + 1)) 0) (script_mode sample)) i Sampled)
          go true t x =
              let same : its.0 ≡ i = one (sym its.1 ∙ ap (given live) (sym (eqb-true w v t)) ∙ e) in
              let lt : i < j.identity_count = given_has (λ k. k < j.identity_count) live w i judged.below e in
              let n = judged.modes_count in
              let here : get_or (set j.modes (unwrap_or (identity_of j (user + 1)) 0) (script_mode sample)) i Sampled ≡ script_mode sample =
              ap (λ k. get_or (set j.modes k (script_mode sample)) i Sampled) (at ∙ same) ∙ get_or-set_same j.modes i (script_mode sample) Sampled (omega arith) in
              subst (λ d. IsModeOf d.sampling_mode (get_or (set j.modes (unwrap_or (identity_of j (user + 1)) 0) (script_mode sample)) i Sampled)) (sym x)
              (subst (IsModeOf (mode_for sample)) (sym here) (fits sample))
            where
              one : {a b : ℕ} → Some a ≡ Some b → a ≡ b
              one p = cc
          go false t x =
              let differ : i ≢ unwrap_or (identity_of j (user + 1)) 0 = λ y. eqb-false w v t (judged.distinct w v its.0 (e ∙ ap Some (y ∙ at)) its.1) in
              subst (λ d. IsModeOf d.sampling_mode (get_or (set j.modes (unwrap_or (identity_of j (user + 1)) 0) (script_mode sample)) i Sampled)) (sym x)
              (subst (IsModeOf (data_at old w).sampling_mode) (sym (get_or-set_other j.modes (unwrap_or (identity_of j (user + 1)) 0) i (script_mode sample) Sampled differ)) (judged.modes w i e))

-- the bridge does not depend on modes
bridged : (j : ScriptState) (steps : List Step) (live : LiveVariables) (mode : judged.NameMode) (name : ℕ) → IsBridge checker_rules j steps live → IsBridge checker_rules (with_mode mode name j) steps live
bridged j steps live mode number b = record {
  accepted = b.accepted;
  once = b.once;
  known = b.known;
  below = b.below;
  clauses_below = b.clauses_below;
  named = b.named;
  in_use = b.in_use;
  distinct = b.distinct;
  to = b.to;
  back = b.back;
}

pub known_at : (old : Variables) (v : ℕ) (s : Session) → NamesMatchSteps old s → (data_at old v).deleted ≡ false → (s.variables v).known ≡ true
known_at old v s said alive = ap (λ x. x.known) (said.variables v) ∙ ap (λ b. (let z : Variable = cond b initial_variable (record { known = true; mode = checker_mode (data_at old v).sampling_mode; name = user_of old v }) in z).known) alive

pub may_mode : (old : Variables) (user v : ℕ) (s : Session) → VariablesInvariant old → NamesMatchSteps old s → global_of old user ≡ Some v → (s.variables v).known ≡ true
may_mode old user v s tidy said had = known_at old v s said (tidy.named v user (tidy.users.back user v had))

pub mode_kept : (old : Variables) (from : List Step) (user v : ℕ) (sample : Bool) → NamesInvariant old from → global_of old user ≡ Some v → (data_at old v).sampling_mode ≡ mode_for sample → ChangesScriptState old old from from (with_mode (script_mode sample) (user + 1)) (λ j. [])
mode_kept old from user v sample valid had e = record {
  valid = valid;
  kept = λ j live a. record {
    live = live;
    agree = record {
      judged = judged_with_mode old old user v sample valid.tidy had (same_mode old v (mode_for sample) valid.tidy e) j live a.judged;
      bridge = bridged j from live (script_mode sample) (user + 1) a.bridge;
    };
    trace = no_step;
  };
}

pub mode_set : (old new : Variables) (from to : List Step) (user v : ℕ) (sample : Bool) → NamesInvariant old from → global_of old user ≡ Some v → StoresMode old new v (mode_for sample)
    → to ≡ ChangeSamplingMode v sample ∷ from → ChangesScriptState old new from to (with_mode (script_mode sample) (user + 1)) (λ j. [])
mode_set old new from to user v sample valid had put e = record {
  valid = record {
    tidy = tidy_mode old new user v sample valid.tidy had put;
    said = subst (λ steps. NamesMatchSteps new (session_after steps)) (sym e) (said_mode old new user v sample valid.tidy had put (session_after from) valid.said);
    may = subst AreAllowedSteps (sym e) (valid.may, may_mode old user v (session_after from) valid.tidy valid.said had);
    read = λ u. ap (λ steps. variable_named steps (u + 1)) e ∙ valid.read u ∙ ap (λ m. target m.fwd u) (sym put.users);
  };
  kept = λ j live a. subst (λ steps. ReachesScriptState new from steps (with_mode (script_mode sample) (user + 1) j) []) (sym e) (record {
    live = live;
    agree = record {
      judged = judged_with_mode old new user v sample valid.tidy had put j live a.judged;
      bridge = bridged j (ChangeSamplingMode v sample ∷ from) live (script_mode sample) (user + 1)
          (nothing_new checker_rules the_checking_sound j from live a.bridge (ChangeSamplingMode v sample) accepted (λ w y. cc) (λ n. refl) (λ b h. h) (λ b h. h));
    };
    trace = silent refl no_step;
  });
}
  where
    accepted : checker_rules.Accepts from (ChangeSamplingMode v sample)
    accepted = (sessions_are_accepted (ChangeSamplingMode v sample ∷ from) (valid.may, may_mode old user v (session_after from) valid.tidy valid.said had)).0.1

pub mode_unseen : (old new : Variables) (from to : List Step) (v : ℕ) (mode : SamplingMode) (sample : Bool) → StoresMode old new v mode → to ≡ ChangeSamplingMode v sample ∷ from → KeepsWhatSearchSees old new from to
mode_unseen old new from to v mode sample put e = record {
  solvers = put.solvers;
  globals = put.globals;
  search = subst (λ steps. KeepsSearch (session_after from) (session_after steps)) (sym e) (record { live = refl; units = refl; unsat = refl; width = refl; assumed = refl });
  leaves = λ a h. subst (λ steps. Holds steps a) e h;
}

-- MODES AS STEPS STATE THEM

mode_back : (m : SamplingMode) (sample : Bool) → checker_mode m ≡ mode_of_flag sample → m ≡ mode_for sample
mode_back kept.Sample true e = refl
mode_back kept.Sample false e = absurd (let d : Sample ≡ Witness = e in cc)
mode_back kept.Witness true e = absurd (let d : Witness ≡ Sample = e in cc)
mode_back kept.Witness false e = refl
mode_back kept.Hide true e = absurd (let d : Hide ≡ Sample = e in cc)
mode_back kept.Hide false e = absurd (let d : Hide ≡ Witness = e in cc)

-- the step changes the mode that the session has
pub turns_mode : (n : Variables) (from : List Step) (user v : ℕ) (sample : Bool) → NamesInvariant n from → global_of n user ≡ Some v → ((data_at n v).sampling_mode ≡ mode_for sample → ⊥) → ChangesModeTo (session_after from) v sample
turns_mode n from user v sample valid had differs e = differs (mode_back (data_at n v).sampling_mode sample (sym (ap (λ (x : Variable). x.mode) (valid.said.variables v) ∙ ap (λ b. (cond b initial_variable live).mode) (valid.tidy.named v user (valid.tidy.users.back user v had))) ∙ e))
  where
    live : Variable
    live = record { known = true; mode = checker_mode (data_at n v).sampling_mode; name = user_of n v }

-- the two modes differ
pub sample_other : (sample : Bool) → sample ≡ false → kept.Sample ≡ mode_for sample → ⊥
sample_other true e h = true≢false e
sample_other false e h = cc

pub witness_other : (sample : Bool) → not sample ≡ false → kept.Witness ≡ mode_for sample → ⊥
witness_other true e h = cc
witness_other false e h = true≢false e

pub hide_other : (sample : Bool) → kept.Hide ≡ mode_for sample → ⊥
hide_other sample h = not_hide sample (sym h)

pub ruleset other_modes = (sample_other, witness_other, hide_other)
