-- The value of a unit is stored.
use Rattle.std.proofs.Common.{ℕ, ◌+◌, ◌≡◌, ◌≢◌, Bool, true, false, not, ◌&&◌, cond, eqb, ltb, List, length, get_or, Option, Some, None, is_some, refl, sym, ◌∙◌, ap, subst, arith}
use Rattle.std.proofs.lemmas.Bool.{eqb-true, true≢false}
use Rattle.sat_base.specs.script.ScriptState.{ScriptState, Sampled}
use Rattle.sat_base.specs.steps.Steps.{Step}
use Rattle.sat_store.specs.declared.data.VarData.{VarData}
use Rattle.sat_store.specs.variables.VarData.{unused_variable}
use Rattle.sat_store.specs.variables.Maps.{AreInverse, target}
use Rattle.sat_solver.specs.variables.Counting.{HasEqualCounts}
use Rattle.sat_solver.specs.variables.Free.{is_free, IsTree}
use Rattle.sat_checker.specs.matching.Bridge.{LiveVariables}
use Rattle.sat_solver.specs.variables.Live.{given_of}
use Rattle.sat_solver.specs.variables.Variables.{data_at, user_of, solver_of, variables_used, VariablesInvariant, NamesMatchState, IsModeOf, is_unit_value, is_witness_kept}
use Rattle.sat_solver.specs.variables.Naming.{SameMaps, StoresUnit}
use Rattle.sat_solver.specs.variables.Calls.{NamesInvariant, NamesAgree}
use Rattle.sat_solver.specs.declared.variables.Variables.{Variables}
use Rattle.sat_solver.proofs.lemmas.variables.NewName.{shape}

-- only units and marks of the data change
module _ (old new : Variables) (tidy : VariablesInvariant old) (maps : SameMaps old new) (deleted_at : (w : ℕ) → (data_at new w).deleted ≡ (data_at old w).deleted) (mode_at : (w : ℕ) → (data_at new w).sampling_mode ≡ (data_at old w).sampling_mode) (gone : (w : ℕ) → (data_at old w).deleted ≡ true → data_at new w ≡ unused_variable) where
  user_at : (w : ℕ) → user_of new w ≡ user_of old w
  user_at w = ap (λ m. target m.bwd w) maps.users

  pub tidy_data : VariablesInvariant new
  tidy_data = record {
    users = subst AreInverse (sym maps.users) tidy.users;
    solvers = subst AreInverse (sym maps.solvers) tidy.solvers;
    named = λ w u e. deleted_at w ∙ tidy.named w u (sym (user_at w) ∙ e);
    indexed = λ w x e. deleted_at w ∙ tidy.indexed w x (sym (ap (λ m. target m.fwd w) maps.solvers) ∙ e);
    hidden = λ w d e. mode_at w ∙ tidy.hidden w (sym (deleted_at w) ∙ d) (sym (user_at w) ∙ e);
    shown = λ w u e h. tidy.shown w u (sym (user_at w) ∙ e) (sym (mode_at w) ∙ h);
    gone = λ w d. gone w (sym (deleted_at w) ∙ d);
    plain = λ e w. ap is_witness_kept (mode_at w) ∙ tidy.plain (sym maps.witnessed ∙ e) w;
    own = λ e u lt. ap (λ m. target m.fwd u) maps.users ∙ tidy.own (sym maps.own ∙ e) u (let q = ap (λ m. length m.fwd) maps.users in omega arith);
    globals_count = ap (λ g. length g.items) maps.globals ∙ tidy.globals_count ∙ ap (λ m. length m.bwd) (sym maps.solvers);
    globals = λ x w e. ap (λ g. get_or g.items x 0) maps.globals ∙ tidy.globals x w (sym (ap (λ m. target m.bwd x) maps.solvers) ∙ e);
    even_users = subst HasEqualCounts (sym maps.users) tidy.even_users;
    even_solvers = subst HasEqualCounts (sym maps.solvers) tidy.even_solvers;
    spans_users = record { tree = subst IsTree (sym maps.free_users) tidy.spans_users.tree; room = let a = ap (λ f. f.room) maps.free_users in let b = ap (λ m. length m.fwd) maps.users in let r = tidy.spans_users.room in omega arith };
    spans_globals = record { tree = subst IsTree (sym maps.free_globals) tidy.spans_globals.tree; room = let a = ap (λ f. f.room) maps.free_globals in let b = maps.count in let r = tidy.spans_globals.room in omega arith };
    spans_solvers = record { tree = subst IsTree (sym maps.free_solvers) tidy.spans_solvers.tree; room = let a = ap (λ f. f.room) maps.free_solvers in let b = ap (λ m. length m.bwd) maps.solvers in let r = tidy.spans_solvers.room in omega arith };
    reach = let a = ap (λ m. length m.fwd) maps.users in let b = maps.count in let r = tidy.reach in omega arith;
    indices = let a = ap (λ m. length m.bwd) maps.solvers in let b = maps.count in let r = tidy.indices in omega arith;
    within = let b = maps.count in let r = tidy.within in omega arith;
    free_users = λ u. ap (λ f. is_free f u) maps.free_users ∙ tidy.free_users u ∙ ap (λ m. ltb u (length m.fwd) && not (is_some (target m.fwd u))) (sym maps.users);
    free_globals = λ w. ap (λ f. is_free f w) maps.free_globals ∙ tidy.free_globals w ∙ ap (λ n. ltb w n && (data_at old w).deleted) (sym maps.count) ∙ ap (λ b. ltb w (variables_used new) && b) (sym (deleted_at w));
    free_solvers = λ x. ap (λ f. is_free f x) maps.free_solvers ∙ tidy.free_solvers x ∙ ap (λ m. ltb x (length m.bwd) && not (is_some (target m.bwd x))) (sym maps.solvers);
  }

  pub judged_data : (j : ScriptState) (list : LiveVariables) → NamesMatchState old j list → NamesMatchState new j list
  judged_data j list judged = record {
    first_unused = judged.first_unused ∙ ap (λ m. length m.fwd + 1) (sym maps.users);
    no_zero = judged.no_zero;
    names = λ u. judged.names u ∙ ap (λ m. given_of list (target m.fwd u)) (sym maps.users);
    once = judged.once;
    in_use = λ w. judged.in_use w ∙ ap not (sym (deleted_at w));
    below = judged.below;
    distinct = judged.distinct;
    identities = (let b = maps.count in let r = judged.identities in omega arith);
    modes_count = judged.modes_count;
    increasing = judged.increasing;
    modes = λ w i e. subst (λ m. IsModeOf m (get_or j.modes i Sampled)) (sym (mode_at w)) (judged.modes w i e);
  }

none_some : {x : ℕ} {o : Option ℕ} → o ≡ None → o ≡ Some x → ⊥
none_some e f = cc

module _ (old new : Variables) (steps : List Step) (v x : ℕ) (value : Option Bool) (valid : NamesInvariant old steps) (has : solver_of old v ≡ Some x) (put : StoresUnit old new v value) where
  same : {A : Type 0} (w : ℕ) (f : VarData → A) → f (record (data_at old v) { unit = value }) ≡ f (data_at old v) → f (data_at new w) ≡ f (data_at old w)
  same w f e = go (eqb w v) refl (put.kept w)
    where
      go : (b : Bool) → eqb w v ≡ b → data_at new w ≡ cond b (record (data_at old v) { unit = value }) (data_at old w) → f (data_at new w) ≡ f (data_at old w)
      go true t y = ap f y ∙ e ∙ ap (λ k. f (data_at old k)) (sym (eqb-true w v t))
      go false t y = ap f y

  other : (w : ℕ) → w ≢ v → data_at new w ≡ data_at old w
  other w ne = go (eqb w v) refl (put.kept w)
    where
      go : (b : Bool) → eqb w v ≡ b → data_at new w ≡ cond b (record (data_at old v) { unit = value }) (data_at old w) → data_at new w ≡ data_at old w
      go true t y = absurd (ne (eqb-true w v t))
      go false t y = y

  alive : (data_at old v).deleted ≡ false
  alive = valid.tidy.indexed v x has

  deleted_same : (w : ℕ) → (data_at new w).deleted ≡ (data_at old w).deleted
  deleted_same w = same w (λ d. d.deleted) refl

  mode_same : (w : ℕ) → (data_at new w).sampling_mode ≡ (data_at old w).sampling_mode
  mode_same w = same w (λ d. d.sampling_mode) refl

  gone_same : (w : ℕ) → (data_at old w).deleted ≡ true → data_at new w ≡ unused_variable
  gone_same w d = other w (λ e. true≢false (sym d ∙ ap (λ k. (data_at old k).deleted) e ∙ alive)) ∙ valid.tidy.gone w d

  pub unit_stands : NamesInvariant new steps
  unit_stands = record {
    tidy = tidy_data old new valid.tidy put.maps deleted_same mode_same gone_same;
    said = record {
      variables = λ w. valid.said.variables w ∙ sym (seen w);
      solver_names = λ w. valid.said.solver_names w ∙ ap (λ m. target m.fwd w) (sym put.maps.solvers);
      units = λ w e b. let f : solver_of old w ≡ None = sym (ap (λ m. target m.fwd w) put.maps.solvers) ∙ e in valid.said.units w f b ∙ ap (λ d. is_unit_value d.unit b) (sym (other w (λ q. none_some (ap (solver_of old) (sym q) ∙ f) has)));
      unused = λ w e. valid.said.unused w (sym (ap (λ m. target m.fwd w) put.maps.solvers) ∙ e);
      marked = λ w. valid.said.marked w ∙ sym (same w (λ d. d.assumed) refl);
    };
    may = valid.may;
    read = λ u. valid.read u ∙ ap (λ m. target m.fwd u) (sym put.maps.users);
  }
    where
      seen : (w : ℕ) → shape (data_at new w) (user_of new w) ≡ shape (data_at old w) (user_of old w)
      seen w = ap (shape (data_at new w)) (ap (λ m. target m.bwd w) put.maps.users) ∙ same w (λ d. shape d (user_of old w)) refl

  pub unit_agrees : (j : ScriptState) (live : LiveVariables) → NamesAgree old steps j live → NamesAgree new steps j live
  unit_agrees j live a = record { judged = judged_data old new valid.tidy put.maps deleted_same mode_same gone_same j live a.judged; bridge = a.bridge }
