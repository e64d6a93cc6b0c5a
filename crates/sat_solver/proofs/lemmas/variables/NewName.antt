-- A name is given to a new variable.
use Rattle.std.proofs.Common.{ℕ, ◌+◌, ◌<◌, ◌≤◌, ◌≡◌, ◌≢◌, Bool, true, false, not, ◌&&◌, cond, eqb, ltb, [], ◌∷◌, ◌++◌, length, get_or, Option, Some, None, is_some, refl, sym, ◌∙◌, ap, subst, arith, length-append, inl, inr}
use Rattle.std.proofs.lemmas.Bool.{eqb-true, eqb-false, eq-eqb, ne_eqb, cases_lt, true≢false}
use Rattle.std.proofs.lemmas.List.{get_or_past}
use Rattle.std.specs.List.{AllByRecursion}
use Rattle.sat_base.specs.values.Literals.{var_limit}
use Rattle.sat_base.proofs.lemmas.script.ScriptStates.{placed_order}
use Rattle.sat_base.specs.script.ScriptState.{ScriptState, Named, Sampled, identity_in, identity_of, with_name}
use Rattle.sat_base.specs.steps.Steps.{UserVarName}
use Rattle.sat_store.specs.declared.data.VarData.{VarData}
use Rattle.sat_store.specs.declared.data.SamplingMode.TheVariants as kept
use Rattle.sat_store.specs.variables.VarData.{user_variable, unused_variable}
use Rattle.sat_store.specs.variables.Maps.{AreInverse, target}
use Rattle.sat_checker.specs.Stored.{Hide, Sample, Variable, initial_variable}
use Rattle.sat_solver.specs.session.Session.{Session, CanNameVar, after}
use Rattle.sat_solver.specs.variables.Counting.{HasEqualCounts}
use Rattle.sat_solver.specs.variables.Free.{is_free, IsTree}
use Rattle.sat_checker.specs.matching.Bridge.{LiveVariables}
use Rattle.sat_solver.specs.variables.Live.{given, given_of}
use Rattle.sat_solver.specs.variables.Variables.{data_at, global_of, user_of, solver_of, global_at, names_used, variables_used, indices_used, VariablesInvariant, checker_mode, checker_variable_at, NamesMatchSteps, IsModeOf, NamesMatchState, is_unit_value, is_witness_kept}
use Rattle.sat_solver.specs.variables.Naming.{IsVariableForName, StoresName}
use Rattle.sat_solver.specs.declared.variables.Variables.{Variables}
use Rattle.sat_solver.proofs.lemmas.variables.MapLemmas.{pushed}
use Rattle.sat_solver.proofs.lemmas.variables.Counts.{links_even}
use Rattle.sat_base.proofs.lemmas.script.LiteralValues.{placed_found}
use Rattle.sat_solver.proofs.lemmas.variables.ScriptStateLemmas.{eqb_turned, same_below, apart_from, given_has}

none_some : {x : ℕ} {o : Option ℕ} → o ≡ None → o ≡ Some x → ⊥
none_some e f = cc

pub and_false : (b : Bool) → (b && false) ≡ false
and_false true = refl
and_false false = refl

pub none_or : (o : Option ℕ) → (o ≡ None → ⊥) → (x : ℕ) × (o ≡ Some x)
none_or None f = absurd (f refl)
none_or (Some x) f = (x, refl)

is_none : (o : Option ℕ) → ((x : ℕ) → o ≡ Some x → ⊥) → o ≡ None
is_none None f = refl
is_none (Some x) f = absurd (f x refl)

-- a variable that isn't in use has no name
pub nameless : (n : Variables) (v : ℕ) → VariablesInvariant n → (data_at n v).deleted ≡ true → user_of n v ≡ None
nameless n v tidy d = is_none (user_of n v) (λ u e. true≢false (sym d ∙ tidy.named v u e))

abbrev pub shape : VarData → Option ℕ → Variable
shape d u = cond d.deleted initial_variable (record { known = true; mode = checker_mode d.sampling_mode; name = u })

module _ (old new : Variables) (user v : ℕ) (tidy : VariablesInvariant old) (room : IsVariableForName old user v) (free : global_of old user ≡ None) (within : user ≤ names_used old) (small : v < var_limit) (put : StoresName old new user v) where
  pub tidy_named : VariablesInvariant new
  tidy_named = record {
    users = put.inverse;
    solvers = subst AreInverse (sym put.solvers) tidy.solvers;
    named = named;
    indexed = indexed;
    hidden = hidden;
    shown = shown;
    gone = gone;
    plain = λ e w. ap (λ d. is_witness_kept d.sampling_mode) (put.kept w) ∙ still (eqb w v) w (tidy.plain (sym put.witnessed ∙ e) w);
    own = λ e u lt. named_own e u lt (eqb u user) refl;
    globals_count = ap (λ g. length g.items) put.globals ∙ tidy.globals_count ∙ ap (λ m. length m.bwd) (sym put.solvers);
    globals = λ x w e. ap (λ g. get_or g.items x 0) put.globals ∙ tidy.globals x w (sym (ap (λ m. target m.bwd x) put.solvers) ∙ e);
    even_users = links_even old.global_from_user new.global_from_user user v free (nameless old v tidy room.unused) put.users tidy.even_users;
    even_solvers = subst HasEqualCounts (sym put.solvers) tidy.even_solvers;
    spans_users = put.spans_users;
    spans_globals = put.spans_globals;
    spans_solvers = record { tree = subst IsTree (sym put.free_solvers) tidy.spans_solvers.tree; room = let a = ap (λ f. f.room) put.free_solvers in let b = ap (λ m. length m.bwd) put.solvers in let r = tidy.spans_solvers.room in omega arith };
    reach = reach;
    indices = let a = ap (λ m. length m.bwd) put.solvers in let b = put.count in let r = tidy.indices in omega arith;
    within = let a = put.count in let b = tidy.within in omega arith;
    free_users = free_users;
    free_globals = free_globals;
    free_solvers = free_solvers;
  }
    where
      named_own : new.own_names ≡ true → (u : ℕ) → u < names_used new → (b : Bool) → eqb u user ≡ b → global_of new u ≡ Some u
      named_own e u lt true t = put.users.fwd u ∙ ap (λ b. cond b (Some v) (global_of old u)) t ∙ ap (λ k. Some k) (put.same e ∙ sym (eqb-true u user t))
      named_own e u lt false t = put.users.fwd u ∙ ap (λ b. cond b (Some v) (global_of old u)) t ∙ tidy.own (put.own e) u (let n = eqb-false u user t in let w = put.users.fwd_watermark in omega arith)

      still : (b : Bool) (w : ℕ) → is_witness_kept (data_at old w).sampling_mode ≡ false → is_witness_kept (cond b (user_variable) (data_at old w)).sampling_mode ≡ false
      still true w e = refl
      still false w e = e

      named : (w u : ℕ) → user_of new w ≡ Some u → (data_at new w).deleted ≡ false
      named w u e = go (eqb w v) (put.users.bwd w) (put.kept w)
        where
          go : (b : Bool) → user_of new w ≡ cond b (Some user) (user_of old w) → data_at new w ≡ cond b user_variable (data_at old w) → (data_at new w).deleted ≡ false
          go true x y = ap (λ d. d.deleted) y
          go false x y = ap (λ d. d.deleted) y ∙ tidy.named w u (sym x ∙ e)

      indexed : (w x : ℕ) → solver_of new w ≡ Some x → (data_at new w).deleted ≡ false
      indexed w x e = go (eqb w v) (put.kept w)
        where
          go : (b : Bool) → data_at new w ≡ cond b user_variable (data_at old w) → (data_at new w).deleted ≡ false
          go true y = ap (λ d. d.deleted) y
          go false y = ap (λ d. d.deleted) y ∙ tidy.indexed w x (sym (ap (λ m. target m.fwd w) put.solvers) ∙ e)

      hidden : (w : ℕ) → (data_at new w).deleted ≡ false → user_of new w ≡ None → (data_at new w).sampling_mode ≡ kept.Hide
      hidden w d e = go (eqb w v) (put.users.bwd w) (put.kept w)
        where
          go : (b : Bool) → user_of new w ≡ cond b (Some user) (user_of old w) → data_at new w ≡ cond b user_variable (data_at old w) → (data_at new w).sampling_mode ≡ kept.Hide
          go true x y = absurd (none_some e x)
          go false x y = ap (λ d. d.sampling_mode) y ∙ tidy.hidden w (sym (ap (λ d. d.deleted) y) ∙ d) (sym x ∙ e)

      shown : (w u : ℕ) → user_of new w ≡ Some u → (data_at new w).sampling_mode ≢ kept.Hide
      shown w u e h = go (eqb w v) (put.users.bwd w) (put.kept w)
        where
          go : (b : Bool) → user_of new w ≡ cond b (Some user) (user_of old w) → data_at new w ≡ cond b user_variable (data_at old w) → ⊥
          go true x y = let z : kept.Sample ≡ kept.Hide = sym (ap (λ d. d.sampling_mode) y) ∙ h in cc
          go false x y = tidy.shown w u (sym x ∙ e) (sym (ap (λ d. d.sampling_mode) y) ∙ h)

      gone : (w : ℕ) → (data_at new w).deleted ≡ true → data_at new w ≡ unused_variable
      gone w d = go (eqb w v) (put.kept w)
        where
          go : (b : Bool) → data_at new w ≡ cond b user_variable (data_at old w) → data_at new w ≡ unused_variable
          go true y = let z : true ≡ false = sym d ∙ ap (λ k. k.deleted) y in cc
          go false y = y ∙ tidy.gone w (sym (ap (λ k. k.deleted) y) ∙ d)

      reach : names_used new ≤ variables_used new
      reach =
          let a = put.users.fwd_watermark in let b = put.count in let r = tidy.reach in
          elim (cases_lt user (variables_used old)) [
            | inl lt ↦ omega arith
            | inr le ↦ let o = room.own (ap (λ d. d.deleted) (get_or_past old.var_data.items user unused_variable le)) in omega arith
          ]

      free_users : (u : ℕ) → is_free new.free_users u ≡ (ltb u (names_used new) && not (is_some (global_of new u)))
      free_users u = go (eqb u user) refl (put.free_users u) (put.users.fwd u)
        where
          go : (b : Bool) → eqb u user ≡ b → is_free new.free_users u ≡ cond b false (is_free old.free_users u) → global_of new u ≡ cond b (Some v) (global_of old u)
              → is_free new.free_users u ≡ (ltb u (names_used new) && not (is_some (global_of new u)))
          go true t x y = x ∙ sym (and_false (ltb u (names_used new))) ∙ sym (ap (λ o. ltb u (names_used new) && not (is_some o)) y)
          go false t x y =
              let n : u ≢ user = eqb-false u user t in
              let a = put.users.fwd_watermark in
              x ∙ tidy.free_users u
              ∙ ap (λ b. b && not (is_some (global_of old u))) (same_below u (names_used old) (names_used new) (λ z. omega arith) (λ z. omega arith))
              ∙ sym (ap (λ o. ltb u (names_used new) && not (is_some o)) y)

      free_globals : (w : ℕ) → is_free new.free_globals w ≡ (ltb w (variables_used new) && (data_at new w).deleted)
      free_globals w = go (eqb w v) refl (put.free_globals w) (put.kept w)
        where
          go : (b : Bool) → eqb w v ≡ b → is_free new.free_globals w ≡ cond b false (is_free old.free_globals w) → data_at new w ≡ cond b user_variable (data_at old w)
              → is_free new.free_globals w ≡ (ltb w (variables_used new) && (data_at new w).deleted)
          go true t x y = x ∙ sym (and_false (ltb w (variables_used new))) ∙ sym (ap (λ d. ltb w (variables_used new) && d.deleted) y)
          go false t x y =
              let n : w ≢ v = eqb-false w v t in
              let a = put.count in
              let r = room.within in
              x ∙ tidy.free_globals w
              ∙ ap (λ b. b && (data_at old w).deleted) (same_below w (variables_used old) (variables_used new) (λ z. omega arith) (λ z. omega arith))
              ∙ sym (ap (λ d. ltb w (variables_used new) && d.deleted) y)

      free_solvers : (x : ℕ) → is_free new.free_solvers x ≡ (ltb x (indices_used new) && not (is_some (global_at new x)))
      free_solvers x = ap (λ f. is_free f x) put.free_solvers ∙ tidy.free_solvers x ∙ ap (λ m. ltb x (length m.bwd) && not (is_some (target m.bwd x))) (sym put.solvers)

  -- the name may be given to the variable
  pub may_name : (s : Session) → NamesMatchSteps old s → CanNameVar s v user
  may_name s said = record {
    free = λ w e. none_some free (tidy.users.forth user w (name_at w (sym (ap (λ x. x.name) (said.variables w)) ∙ e)));
    nameless = ap (λ x. x.name) at;
    not_hidden = λ e. let z : Sample ≡ Hide = sym (ap (λ x. x.mode) at) ∙ e in cc;
  }
    where
      at : s.variables v ≡ initial_variable
      at = said.variables v ∙ ap (λ b. cond b initial_variable (record { known = true; mode = checker_mode (data_at old v).sampling_mode; name = user_of old v })) room.unused

      name_at : (w : ℕ) → (checker_variable_at old w).name ≡ Some user → user_of old w ≡ Some user
      name_at w e = go (data_at old w).deleted e
        where
          go : (b : Bool) → (let x : Variable = cond b initial_variable (record { known = true; mode = checker_mode (data_at old w).sampling_mode; name = user_of old w }) in x).name ≡ Some user → user_of old w ≡ Some user
          go true x = cc
          go false x = x

  pub said_named : (s : Session) → NamesMatchSteps old s → NamesMatchSteps new (after (UserVarName v (Some user)) s)
  said_named s said = record {
    variables = variables;
    solver_names = λ w. said.solver_names w ∙ ap (λ m. target m.fwd w) (sym put.solvers);
    unused = λ w e. said.unused w (sym (ap (λ m. target m.fwd w) put.solvers) ∙ e);
    units = λ w e b. said.units w (sym (ap (λ m. target m.fwd w) put.solvers) ∙ e) b ∙ ap (λ o. is_unit_value o b) (unit_kept w);
    marked = λ w. said.marked w ∙ mark_kept w;
  }
    where
      same : {A : Type 0} (w : ℕ) (f : VarData → A) → f unused_variable ≡ f user_variable → f (data_at old w) ≡ f (data_at new w)
      same w f e = go (eqb w v) refl (put.kept w)
        where
          go : (b : Bool) → eqb w v ≡ b → data_at new w ≡ cond b user_variable (data_at old w) → f (data_at old w) ≡ f (data_at new w)
          go true t y = ap f (tidy.gone w (ap (λ k. (data_at old k).deleted) (eqb-true w v t) ∙ room.unused)) ∙ e ∙ sym (ap f y)
          go false t y = sym (ap f y)

      unit_kept : (w : ℕ) → (data_at old w).unit ≡ (data_at new w).unit
      unit_kept w = same w (λ d. d.unit) refl

      mark_kept : (w : ℕ) → (data_at old w).assumed ≡ (data_at new w).assumed
      mark_kept w = same w (λ d. d.assumed) refl

      variables : (w : ℕ) → (after (UserVarName v (Some user)) s).variables w ≡ checker_variable_at new w
      variables w = go (eqb w v) refl (put.users.bwd w) (put.kept w)
        where
          go : (b : Bool) → eqb w v ≡ b → user_of new w ≡ cond b (Some user) (user_of old w) → data_at new w ≡ cond b user_variable (data_at old w)
              → cond b (record (s.variables v) { known = true; name = Some user }) (s.variables w) ≡ checker_variable_at new w
          go true t x y =
              let at : s.variables v ≡ initial_variable = said.variables v ∙ ap (λ b. cond b initial_variable (record { known = true; mode = checker_mode (data_at old v).sampling_mode; name = user_of old v })) room.unused in
              ap {A = Variable} (λ z. record z { known = true; name = Some user }) at ∙ sym (ap (λ d. shape d (user_of new w)) y ∙ ap (shape user_variable) x)
          go false t x y = said.variables w ∙ sym (ap (λ d. shape d (user_of new w)) y ∙ ap (shape (data_at old w)) x)

  pub judged_named : (j : ScriptState) (live : LiveVariables) → NamesMatchState old j live → NamesMatchState new (with_name (user + 1) j) ((v, j.identity_count) ∷ live)
  judged_named j live judged = record {
    first_unused = let a = judged.first_unused in let b = put.users.fwd_watermark in omega arith;
    no_zero = placed_found here j.in_use 0 ∙ ap (λ b. cond b (Some j.identity_count) (identity_in j.in_use 0)) (ne_eqb (user + 1) 0 (λ x. omega arith)) ∙ judged.no_zero;
    names = names;
    once = (apart_from live v (judged.in_use v ∙ ap not room.unused), judged.once);
    in_use = in_use;
    below = (omega arith, more live judged.below);
    distinct = distinct;
    identities = (let a = put.count in let b = room.within in let r = judged.identities in omega arith);
    modes_count = length-append j.modes (Sampled ∷ []) ∙ ap (λ n. n + 1) judged.modes_count;
    increasing = placed_order here j.in_use (judged.names user ∙ ap (given_of live) free) judged.increasing;
    modes = modes;
  }
    where
      here : Named
      here = record { name = user + 1; identity = j.identity_count }

      more : (ps : LiveVariables) → AllByRecursion (λ p. p.1 < j.identity_count) ps → AllByRecursion (λ p. p.1 < j.identity_count + 1) ps
      more [] h = tt
      more (p ∷ ps) h = let a = h.0 in (omega arith, more ps h.1)

      old_below : (w i : ℕ) → given live w ≡ Some i → i < j.identity_count
      old_below w i e = given_has (λ k. k < j.identity_count) live w i judged.below e

      distinct : (a b i : ℕ) → given ((v, j.identity_count) ∷ live) a ≡ Some i → given ((v, j.identity_count) ∷ live) b ≡ Some i → a ≡ b
      distinct a b i e f = go (eqb v a) refl (eqb v b) refl e f
        where
          go : (x : Bool) → eqb v a ≡ x → (y : Bool) → eqb v b ≡ y → cond x (Some j.identity_count) (given live a) ≡ Some i → cond y (Some j.identity_count) (given live b) ≡ Some i → a ≡ b
          go true p true q g h = sym (eqb-true v a p) ∙ eqb-true v b q
          go true p false q g h = let same : j.identity_count ≡ i = cc in let lt = old_below b i h in absurd (omega arith)
          go false p true q g h = let same : j.identity_count ≡ i = cc in let lt = old_below a i g in absurd (omega arith)
          go false p false q g h = judged.distinct a b i g h

      names : (u : ℕ) → identity_of (with_name (user + 1) j) (u + 1) ≡ given_of ((v, j.identity_count) ∷ live) (global_of new u)
      names u = placed_found here j.in_use (u + 1) ∙ go (eqb (user + 1) (u + 1)) refl (eqb u user) refl (put.users.fwd u)
        where
          go : (b : Bool) → eqb (user + 1) (u + 1) ≡ b → (d : Bool) → eqb u user ≡ d → global_of new u ≡ cond d (Some v) (global_of old u)
              → cond b (Some j.identity_count) (identity_in j.in_use (u + 1)) ≡ given_of ((v, j.identity_count) ∷ live) (global_of new u)
          go true x true y z = sym (ap (given_of ((v, j.identity_count) ∷ live)) z ∙ ap (λ b. cond b (Some j.identity_count) (given live v)) (eq-eqb v v refl))
          go true x false y z = let a = eqb-true (user + 1) (u + 1) x in absurd (eqb-false u user y (omega arith))
          go false x true y z = let a = eqb-true u user y in absurd (eqb-false (user + 1) (u + 1) x (omega arith))
          go false x false y z = judged.names u ∙ at (global_of old u) refl ∙ sym (ap (given_of ((v, j.identity_count) ∷ live)) z)
            where
              at : (o : Option ℕ) → global_of old u ≡ o → given_of live o ≡ given_of ((v, j.identity_count) ∷ live) o
              at None e = refl
              at (Some w) e =
                  let alive = tidy.named w u (tidy.users.back u w e) in
                  let differs : v ≢ w = λ q. true≢false (sym room.unused ∙ ap (λ k. (data_at old k).deleted) q ∙ alive) in
                  sym (ap (λ b. cond b (Some j.identity_count) (given live w)) (ne_eqb v w differs))

      in_use : (w : ℕ) → is_some (given ((v, j.identity_count) ∷ live) w) ≡ not (data_at new w).deleted
      in_use w = ap (λ b. is_some (cond b (Some j.identity_count) (given live w))) (eqb_turned v w) ∙ go (eqb w v) (put.kept w)
        where
          go : (b : Bool) → data_at new w ≡ cond b user_variable (data_at old w) → is_some (cond b (Some j.identity_count) (given live w)) ≡ not (data_at new w).deleted
          go true y = sym (ap (λ d. not d.deleted) y)
          go false y = judged.in_use w ∙ sym (ap (λ d. not d.deleted) y)

      mode_at : (i : ℕ) → get_or (j.modes ++ Sampled ∷ []) i Sampled ≡ cond (eqb i j.identity_count) Sampled (get_or j.modes i Sampled)
      mode_at i = pushed j.modes i j.identity_count Sampled Sampled (sym judged.modes_count)

      modes : (w i : ℕ) → given ((v, j.identity_count) ∷ live) w ≡ Some i → IsModeOf (data_at new w).sampling_mode (get_or (j.modes ++ Sampled ∷ []) i Sampled)
      modes w i e = go (eqb w v) (put.kept w) (ap (λ b. cond b (Some j.identity_count) (given live w)) (eqb_turned w v) ∙ e)
        where
          go : (b : Bool) → data_at new w ≡ cond b user_variable (data_at old w) → cond b (Some j.identity_count) (given live w) ≡ Some i
              → IsModeOf (data_at new w).sampling_mode (get_or (j.modes ++ Sampled ∷ []) i Sampled)
          go true y f =
              let x : j.identity_count ≡ i = cc in
              subst (λ d. IsModeOf d.sampling_mode (get_or (j.modes ++ Sampled ∷ []) i Sampled)) (sym y)
              (mode_at i ∙ ap (λ b. cond b Sampled (get_or j.modes i Sampled)) (eq-eqb i j.identity_count (sym x)))
          go false y f =
              let lt : i < j.identity_count = given_has (λ k. k < j.identity_count) live w i judged.below f in
              let m : get_or (j.modes ++ Sampled ∷ []) i Sampled ≡ get_or j.modes i Sampled = mode_at i ∙ ap (λ b. cond b Sampled (get_or j.modes i Sampled)) (ne_eqb i j.identity_count (λ q. omega arith)) in
              subst (λ d. IsModeOf d.sampling_mode (get_or (j.modes ++ Sampled ∷ []) i Sampled)) (sym y)
              (subst (IsModeOf (data_at old w).sampling_mode) (sym m) (judged.modes w i f))
