-- A hidden variable gets a name, and mode witness.
use Rattle.std.proofs.Common.{ℕ, zero, suc, set, append_assoc, ◌+◌, ◌<◌, ◌≤◌, ◌≡◌, ◌≢◌, Bool, true, false, not, ◌&&◌, cond, eqb, ltb, lt-ltb, List, [], ◌∷◌, ◌++◌, length, get_or, Option, Some, None, is_some, refl, sym, ◌∙◌, ap, subst, arith, inl, inr}
use Rattle.std.proofs.lemmas.Bool.{eqb-true, eqb-false, eq-eqb, ne_eqb, cases_lt, ltb-true, true≢false}
use Rattle.std.proofs.lemmas.List.{append-nil, get_or-set_same, get_or-set_other}
use Rattle.std.proofs.Math.ListN.{length-set}
use Rattle.sat_base.specs.script.Script.{Among}
use Rattle.sat_base.proofs.lemmas.script.ScriptStates.{placed_order}
use Rattle.sat_base.specs.script.ScriptState.{ScriptState, Named, Sampled, Witnessed, identity_in, identity_of}
use Rattle.sat_base.specs.steps.Steps.{Step, UserVarName, ChangeSamplingMode}
use Rattle.sat_checker.specs.Fold.{Holds}
use Rattle.sat_checker.specs.Stored.{Hide, Witness, Variable, initial_variable}
use Rattle.sat_store.specs.declared.data.VarData.{VarData}
use Rattle.sat_store.specs.declared.data.SamplingMode.TheVariants as kept
use Rattle.sat_store.specs.variables.VarData.{unused_variable}
use Rattle.sat_store.specs.variables.Maps.{AreInverse, target}
use Rattle.sat_solver.specs.session.Session.{Session, AreAllowedSteps, IsAllowedStep, CanNameVar, session_after, after}
use Rattle.sat_solver.proofs.lemmas.session.StepLemmas.{sessions_are_accepted}
use Rattle.sat_checker.specs.matching.Bridge.{IsBridge, LiveVariables}
use Rattle.sat_solver.specs.variables.Counting.{HasEqualCounts, count_to, mapped_count}
use Rattle.sat_solver.specs.variables.Free.{is_free, IsTree}
use Rattle.sat_solver.specs.variables.Live.{given, given_of}
use Rattle.sat_checker.specs.matching.Checking.{variable_named}
use Rattle.sat_checker.specs.matching.ProofChecking.{checker_rules}
use Rattle.sat_solver.specs.variables.Calls.{NamesInvariant, NamesAgree}
use Rattle.sat_solver.specs.variables.Naming.{IsNextUser, NamesFull, NoVariableLeft, StoresObserving, KeepsNames}
use Rattle.sat_solver.specs.variables.Observing.{observed, Observes, all_named, one_more, IsHidden, NamesHidden, NamesAllHidden}
use Rattle.sat_solver.specs.variables.Search.{KeepsSearch, KeepsWhatSearchSees}
use Rattle.sat_solver.specs.variables.Variables.{data_at, global_of, user_of, names_used, variables_used, VariablesInvariant, checker_mode, checker_variable_at, NamesMatchSteps, IsModeOf, NamesMatchState, is_unit_value}
use Rattle.sat_solver.specs.declared.variables.Variables.{Variables}
use Rattle.sat_checker.proofs.lemmas.matching.Bridge.{nothing_new}
use Rattle.sat_checker.proofs.lemmas.matching.CheckerIsSound.{the_checking_sound}
use Rattle.sat_solver.proofs.lemmas.variables.Counts.{links_even, count_full, count_fewer, count_reach, count_le, count_mapped}
use Rattle.sat_solver.proofs.lemmas.variables.Giving.{unseen_same, unseen_both}
use Rattle.sat_base.proofs.lemmas.script.LiteralValues.{placed_found}
use Rattle.sat_solver.proofs.lemmas.variables.ScriptStateLemmas.{same_below, given_has, next_same}
use Rattle.sat_solver.proofs.lemmas.variables.ModeChanges.{live_within}
use Rattle.sat_solver.proofs.lemmas.variables.NamedAgain.{named_again}
use Rattle.sat_solver.proofs.lemmas.variables.NewName.{and_false, nameless, none_or, shape}
use Rattle.sat_solver.proofs.lemmas.variables.NextUnused.{lowest_unused}

none_some : {x : ℕ} {o : Option ℕ} → o ≡ None → o ≡ Some x → ⊥
none_some e f = cc

given_among : (live : LiveVariables) (v i : ℕ) → given live v ≡ Some i → Among (v, i) live
given_among [] v i e = absurd (none_some refl e)
given_among ((w, k) ∷ ps) v i e = go (eqb w v) refl e (given_among ps v i)
  where
    one : {a b : ℕ} → Some a ≡ Some b → a ≡ b
    one q = cc

    same : (a b : ℕ) → w ≡ a → k ≡ b → ◌≡◌ {A = ℕ × ℕ} (a, b) (w, k)
    same a b e f = subst (λ (x : ℕ). ◌≡◌ {A = ℕ × ℕ} (x, b) (w, k)) e (subst (λ (x : ℕ). ◌≡◌ {A = ℕ × ℕ} (w, x) (w, k)) f refl)

    go : (b : Bool) → eqb w v ≡ b → cond b (Some k) (given ps v) ≡ Some i → (given ps v ≡ Some i → Among (v, i) ps) → Among (v, i) ((w, k) ∷ ps)
    go true t f ih = inl (same v i (eqb-true w v t) (one f))
    go false t f ih = inr (ih f)

-- if all names are in use but a variable has none, there are fewer names than variables
few_named : (n : Variables) (v : ℕ) → VariablesInvariant n → v < variables_used n → user_of n v ≡ None → ((m : ℕ) → m < names_used n → global_of n m ≡ None → ⊥) → names_used n < variables_used n
few_named n v tidy within nameless all =
    let fwd : mapped_count n.global_from_user.fwd ≡ names_used n = count_full (names_used n) (λ m. is_some (global_of n m)) (λ m lt. some_at (global_of n m) (all m lt)) in
    let bwd : count_to size has ≡ mapped_count n.global_from_user.bwd = count_mapped n.global_from_user.bwd size (omega arith) in
    let fewer : count_to size has < count_to size below = count_fewer size v has below (omega (arith, within)) inside (ap is_some nameless) (lt-ltb v (variables_used n) within) in
    let most : count_to size below ≤ variables_used n = (let a = count_reach (variables_used n) size below (omega arith) past in let b = count_le (variables_used n) below in omega arith) in
    let even = tidy.even_users in
    omega arith
  where
    size : ℕ
    size = length n.global_from_user.bwd + variables_used n

    has : ℕ → Bool
    has w = is_some (user_of n w)

    below : ℕ → Bool
    below w = ltb w (variables_used n)

    some_at : (o : Option ℕ) → (o ≡ None → ⊥) → is_some o ≡ true
    some_at None f = absurd (f refl)
    some_at (Some x) f = refl

    named_at : (w : ℕ) (o : Option ℕ) → user_of n w ≡ o → is_some o ≡ true → w < variables_used n
    named_at w None e t = absurd (true≢false (sym t))
    named_at w (Some u) e t = live_within n w (tidy.named w u e)

    inside : (w : ℕ) → has w ≡ true → below w ≡ true
    inside w t = lt-ltb w (variables_used n) (named_at w (user_of n w) refl t)

    past : (w : ℕ) → variables_used n ≤ w → below w ≡ false
    past w le = go (below w) refl
      where
        go : (b : Bool) → below w ≡ b → b ≡ false
        go true e = absurd (let lt = ltb-true w (variables_used n) e in omega arith)
        go false e = refl

-- so a name is left for a hidden variable
few_names : (n : Variables) (v : ℕ) → VariablesInvariant n → IsHidden n v → ((m : ℕ) → m < names_used n → global_of n m ≡ None → ⊥) → names_used n < variables_used n
few_names n v tidy h all = few_named n v tidy (live_within n v h.live) h.nameless all

pub name_left : (n : Variables) (v : ℕ) → VariablesInvariant n → IsHidden n v → NamesFull n → ⊥
name_left n v tidy h full = let a = few_names n v tidy h full.all in let b = full.used in let c = tidy.within in absurd (omega arith)

-- if every name is in use, so is every variable
pub none_left : (n : Variables) → VariablesInvariant n → NamesFull n → NoVariableLeft n
none_left n tidy full v lt = go (data_at n v).deleted refl
  where
    go : (b : Bool) → (data_at n v).deleted ≡ b → b ≡ false
    go false e = refl
    go true e = absurd (
        let b = full.used in let c = tidy.within in let r = tidy.reach in
        let a = few_named n v tidy (omega (arith, lt, b, r)) (nameless n v tidy e) full.all in
        omega arith
        )

module _ (old new : Variables) (user v : ℕ) (tidy : VariablesInvariant old) (here : IsHidden old v) (next : IsNextUser old user) (put : StoresObserving old new user v) where
  deleted_at : (w : ℕ) → (data_at new w).deleted ≡ (data_at old w).deleted
  deleted_at w = go (eqb w v) refl (put.kept w)
    where
      go : (b : Bool) → eqb w v ≡ b → data_at new w ≡ cond b (record (data_at old v) { sampling_mode = kept.Witness }) (data_at old w) → (data_at new w).deleted ≡ (data_at old w).deleted
      go true t e = ap (λ d. d.deleted) e ∙ ap (λ k. (data_at old k).deleted) (sym (eqb-true w v t))
      go false t e = ap (λ d. d.deleted) e

  pub tidy_observed : VariablesInvariant new
  tidy_observed = record {
    users = put.inverse;
    solvers = subst AreInverse (sym put.solvers) tidy.solvers;
    named = named;
    indexed = λ w x e. deleted_at w ∙ tidy.indexed w x (sym (ap (λ m. target m.fwd w) put.solvers) ∙ e);
    hidden = hidden;
    shown = shown;
    gone = gone;
    plain = λ e w. absurd (true≢false (sym put.witnessed ∙ e));
    own = λ e u lt. absurd (true≢false (sym e ∙ put.own));
    globals_count = ap (λ g. length g.items) put.globals ∙ tidy.globals_count ∙ ap (λ m. length m.bwd) (sym put.solvers);
    globals = λ x w e. ap (λ g. get_or g.items x 0) put.globals ∙ tidy.globals x w (sym (ap (λ m. target m.bwd x) put.solvers) ∙ e);
    even_users = links_even old.global_from_user new.global_from_user user v next.unused here.nameless put.users tidy.even_users;
    even_solvers = subst HasEqualCounts (sym put.solvers) tidy.even_solvers;
    spans_users = put.spans_users;
    spans_globals = record { tree = subst IsTree (sym put.free_globals) tidy.spans_globals.tree; room = let a = ap (λ f. f.room) put.free_globals in let b = put.count in let r = tidy.spans_globals.room in omega arith };
    spans_solvers = record { tree = subst IsTree (sym put.free_solvers) tidy.spans_solvers.tree; room = let a = ap (λ f. f.room) put.free_solvers in let b = ap (λ m. length m.bwd) put.solvers in let r = tidy.spans_solvers.room in omega arith };
    reach = reach;
    indices = let a = ap (λ m. length m.bwd) put.solvers in let b = put.count in let r = tidy.indices in omega arith;
    within = let b = put.count in let r = tidy.within in omega arith;
    free_users = free_users;
    free_globals = λ w. ap (λ f. is_free f w) put.free_globals ∙ tidy.free_globals w ∙ ap (λ n. ltb w n && (data_at old w).deleted) (sym put.count) ∙ ap (λ b. ltb w (variables_used new) && b) (sym (deleted_at w));
    free_solvers = λ x. ap (λ f. is_free f x) put.free_solvers ∙ tidy.free_solvers x ∙ ap (λ m. ltb x (length m.bwd) && not (is_some (target m.bwd x))) (sym put.solvers);
  }
    where
      named : (w u : ℕ) → user_of new w ≡ Some u → (data_at new w).deleted ≡ false
      named w u e = deleted_at w ∙ go (eqb w v) refl (put.users.bwd w)
        where
          go : (b : Bool) → eqb w v ≡ b → user_of new w ≡ cond b (Some user) (user_of old w) → (data_at old w).deleted ≡ false
          go true t x = ap (λ k. (data_at old k).deleted) (eqb-true w v t) ∙ here.live
          go false t x = tidy.named w u (sym x ∙ e)

      hidden : (w : ℕ) → (data_at new w).deleted ≡ false → user_of new w ≡ None → (data_at new w).sampling_mode ≡ kept.Hide
      hidden w d e = go (eqb w v) (put.users.bwd w) (put.kept w)
        where
          go : (b : Bool) → user_of new w ≡ cond b (Some user) (user_of old w) → data_at new w ≡ cond b (record (data_at old v) { sampling_mode = kept.Witness }) (data_at old w) → (data_at new w).sampling_mode ≡ kept.Hide
          go true x y = absurd (none_some e x)
          go false x y = ap (λ k. k.sampling_mode) y ∙ tidy.hidden w (sym (deleted_at w) ∙ d) (sym x ∙ e)

      shown : (w u : ℕ) → user_of new w ≡ Some u → (data_at new w).sampling_mode ≢ kept.Hide
      shown w u e h = go (eqb w v) (put.users.bwd w) (put.kept w)
        where
          go : (b : Bool) → user_of new w ≡ cond b (Some user) (user_of old w) → data_at new w ≡ cond b (record (data_at old v) { sampling_mode = kept.Witness }) (data_at old w) → ⊥
          go true x y = let z : kept.Witness ≡ kept.Hide = sym (ap (λ k. k.sampling_mode) y) ∙ h in cc
          go false x y = tidy.shown w u (sym x ∙ e) (sym (ap (λ k. k.sampling_mode) y) ∙ h)

      gone : (w : ℕ) → (data_at new w).deleted ≡ true → data_at new w ≡ unused_variable
      gone w d = go (eqb w v) refl (put.kept w)
        where
          was : (data_at old w).deleted ≡ true
          was = sym (deleted_at w) ∙ d

          go : (b : Bool) → eqb w v ≡ b → data_at new w ≡ cond b (record (data_at old v) { sampling_mode = kept.Witness }) (data_at old w) → data_at new w ≡ unused_variable
          go true t y = absurd (true≢false (sym was ∙ ap (λ k. (data_at old k).deleted) (eqb-true w v t) ∙ here.live))
          go false t y = y ∙ tidy.gone w was

      reach : names_used new ≤ variables_used new
      reach =
          let a = put.users.fwd_watermark in let b = put.count in let r = tidy.reach in let w = next.reach in
          elim (cases_lt user (names_used old)) [
            | inl lt ↦ omega arith
            | inr le ↦ (let few = few_names old v tidy here (λ m lt none. next.lowest m (omega arith) none) in omega arith)
          ]

      free_users : (u : ℕ) → is_free new.free_users u ≡ (ltb u (names_used new) && not (is_some (global_of new u)))
      free_users u = go (eqb u user) refl (put.free_users u) (put.users.fwd u)
        where
          go : (b : Bool) → eqb u user ≡ b → is_free new.free_users u ≡ cond b false (is_free old.free_users u) → global_of new u ≡ cond b (Some v) (global_of old u)
              → is_free new.free_users u ≡ (ltb u (names_used new) && not (is_some (global_of new u)))
          go true t x y = x ∙ sym (and_false (ltb u (names_used new))) ∙ sym (ap (λ o. ltb u (names_used new) && not (is_some o)) y)
          go false t x y =
              let n : u ≢ user = eqb-false u user t in
              let a = put.users.fwd_watermark in
              let w = next.reach in
              x ∙ tidy.free_users u
              ∙ ap (λ b. b && not (is_some (global_of old u))) (same_below u (names_used old) (names_used new) (λ z. omega arith) (λ z. omega arith))
              ∙ sym (ap (λ o. ltb u (names_used new) && not (is_some o)) y)

  module _ (s : Session) (said : NamesMatchSteps old s) where
    at : s.variables v ≡ record { known = true; mode = Hide; name = None }
    at = said.variables v ∙ ap (λ b. cond b initial_variable (record { known = true; mode = checker_mode (data_at old v).sampling_mode; name = user_of old v })) here.live
        ∙ ap (λ m. (let x : Variable = record { known = true; mode = checker_mode m; name = user_of old v } in x)) (tidy.hidden v here.live here.nameless)
        ∙ ap (λ o. (let x : Variable = record { known = true; mode = Hide; name = o } in x)) here.nameless

    abbrev witnessed : Session
    witnessed = after (ChangeSamplingMode v false) s

    at_mode : witnessed.variables v ≡ record { known = true; mode = Witness; name = None }
    at_mode = ap (λ b. cond b (record (s.variables v) { mode = Witness }) (s.variables v)) (eq-eqb v v refl) ∙ ap {A = Variable} (λ z. record z { mode = Witness }) at

    -- the mode may be written
    pub may_witness : IsAllowedStep s (ChangeSamplingMode v false)
    may_witness = ap (λ x. x.known) at

    -- then the name may be written
    pub may_observe : CanNameVar witnessed v user
    may_observe = record {
      free = λ w e. free w (eqb w v) refl e;
      nameless = ap (λ x. x.name) at_mode;
      not_hidden = λ e. (let z : Witness ≡ Hide = sym (ap (λ x. x.mode) at_mode) ∙ e in cc);
    }
      where
        name_at : (w : ℕ) → (checker_variable_at old w).name ≡ Some user → user_of old w ≡ Some user
        name_at w e = go (data_at old w).deleted e
          where
            go : (b : Bool) → (let x : Variable = cond b initial_variable (record { known = true; mode = checker_mode (data_at old w).sampling_mode; name = user_of old w }) in x).name ≡ Some user → user_of old w ≡ Some user
            go true x = cc
            go false x = x

        none_has : (w : ℕ) → (s.variables w).name ≡ Some user → ⊥
        none_has w e = none_some next.unused (tidy.users.forth user w (name_at w (sym (ap (λ x. x.name) (said.variables w)) ∙ e)))

        free : (w : ℕ) (b : Bool) → eqb w v ≡ b → (cond (eqb w v) (record (s.variables v) { mode = Witness }) (s.variables w)).name ≡ Some user → ⊥
        free w true t e = none_has v (ap (λ b. (cond b (record (s.variables v) { mode = Witness }) (s.variables w)).name) (sym t) ∙ e)
        free w false t e = none_has w (ap (λ b. (cond b (record (s.variables v) { mode = Witness }) (s.variables w)).name) (sym t) ∙ e)

    pub said_observed : NamesMatchSteps new (after (UserVarName v (Some user)) witnessed)
    said_observed = record {
      variables = variables;
      solver_names = λ w. said.solver_names w ∙ ap (λ m. target m.fwd w) (sym put.solvers);
      unused = λ w e. said.unused w (sym (ap (λ m. target m.fwd w) put.solvers) ∙ e);
      units = λ w e b. said.units w (sym (ap (λ m. target m.fwd w) put.solvers) ∙ e) b ∙ ap (λ o. is_unit_value o b) (same w (λ d. d.unit) refl);
      marked = λ w. said.marked w ∙ same w (λ d. d.assumed) refl;
    }
      where
        same : {A : Type 0} (w : ℕ) (f : VarData → A) → f (record (data_at old v) { sampling_mode = kept.Witness }) ≡ f (data_at old v) → f (data_at old w) ≡ f (data_at new w)
        same w f e = go (eqb w v) refl (put.kept w)
          where
            go : (b : Bool) → eqb w v ≡ b → data_at new w ≡ cond b (record (data_at old v) { sampling_mode = kept.Witness }) (data_at old w) → f (data_at old w) ≡ f (data_at new w)
            go true t y = ap (λ k. f (data_at old k)) (eqb-true w v t) ∙ sym e ∙ sym (ap f y)
            go false t y = sym (ap f y)

        variables : (w : ℕ) → cond (eqb w v) (record (witnessed.variables v) { known = true; name = Some user }) (witnessed.variables w) ≡ checker_variable_at new w
        variables w = go (eqb w v) refl (put.users.bwd w) (put.kept w)
          where
            now : (b : Bool) → b ≡ false → (let z : Variable = record { known = true; mode = Witness; name = Some user } in z) ≡ cond b initial_variable (record { known = true; mode = Witness; name = Some user })
            now false e = refl
            now true e = absurd (true≢false e)

            go : (b : Bool) → eqb w v ≡ b → user_of new w ≡ cond b (Some user) (user_of old w) → data_at new w ≡ cond b (record (data_at old v) { sampling_mode = kept.Witness }) (data_at old w)
                → cond b (record (witnessed.variables v) { known = true; name = Some user }) (witnessed.variables w) ≡ checker_variable_at new w
            go true t x y = ap {A = Variable} (λ z. record z { known = true; name = Some user }) at_mode ∙ now (data_at old v).deleted here.live
                ∙ sym (ap (λ d. shape d (user_of new w)) y ∙ ap (shape (record (data_at old v) { sampling_mode = kept.Witness })) x)
            go false t x y = ap (λ b. cond b (record (s.variables v) { mode = Witness }) (s.variables w)) t ∙ said.variables w ∙ sym (ap (λ d. shape d (user_of new w)) y ∙ ap (shape (data_at old w)) x)

  pub judged_observed : (j : ScriptState) (live : LiveVariables) (i : ℕ) → NamesMatchState old j live → given live v ≡ Some i → NamesMatchState new (observed (user + 1) i j) live
  judged_observed j live i judged its = record {
    first_unused = let a = judged.first_unused in let b = put.users.fwd_watermark in omega arith;
    no_zero = placed_found it j.in_use 0 ∙ ap (λ b. cond b (Some i) (identity_in j.in_use 0)) (ne_eqb (user + 1) 0 (λ x. omega arith)) ∙ judged.no_zero;
    names = names;
    once = judged.once;
    in_use = λ w. judged.in_use w ∙ ap not (sym (deleted_at w));
    below = judged.below;
    distinct = judged.distinct;
    identities = (let b = put.count in let r = judged.identities in omega arith);
    modes_count = length-set j.modes i Witnessed ∙ judged.modes_count;
    increasing = placed_order it j.in_use (judged.names user ∙ ap (given_of live) next.unused) judged.increasing;
    modes = modes;
  }
    where
      it : Named
      it = record { name = user + 1; identity = i }

      names : (u : ℕ) → identity_of (observed (user + 1) i j) (u + 1) ≡ given_of live (global_of new u)
      names u = placed_found it j.in_use (u + 1) ∙ ap (λ b. cond b (Some i) (identity_in j.in_use (u + 1))) (next_same user u) ∙ go (eqb u user) (put.users.fwd u)
        where
          go : (b : Bool) → global_of new u ≡ cond b (Some v) (global_of old u) → cond b (Some i) (identity_in j.in_use (u + 1)) ≡ given_of live (global_of new u)
          go true z = sym its ∙ sym (ap (given_of live) z)
          go false z = judged.names u ∙ sym (ap (given_of live) z)

      modes : (w k : ℕ) → given live w ≡ Some k → IsModeOf (data_at new w).sampling_mode (get_or (set j.modes i Witnessed) k Sampled)
      modes w k e = go (eqb w v) refl (put.kept w)
        where
          one : {a b : ℕ} → Some a ≡ Some b → a ≡ b
          one p = cc

          go : (b : Bool) → eqb w v ≡ b → data_at new w ≡ cond b (record (data_at old v) { sampling_mode = kept.Witness }) (data_at old w) → IsModeOf (data_at new w).sampling_mode (get_or (set j.modes i Witnessed) k Sampled)
          go true t x =
              let same : i ≡ k = one (sym its ∙ ap (given live) (sym (eqb-true w v t)) ∙ e) in
              let lt : k < j.identity_count = given_has (λ q. q < j.identity_count) live w k judged.below e in
              let n = judged.modes_count in
              let now : get_or (set j.modes i Witnessed) k Sampled ≡ Witnessed = ap (λ q. get_or (set j.modes q Witnessed) k Sampled) same ∙ get_or-set_same j.modes k Witnessed Sampled (omega arith) in
              subst (λ d. IsModeOf d.sampling_mode (get_or (set j.modes i Witnessed) k Sampled)) (sym x) now
          go false t x =
              let differ : k ≢ i = λ q. eqb-false w v t (judged.distinct w v i (e ∙ ap Some q) its) in
              subst (λ d. IsModeOf d.sampling_mode (get_or (set j.modes i Witnessed) k Sampled)) (sym x)
              (subst (IsModeOf (data_at old w).sampling_mode) (sym (get_or-set_other j.modes i k Witnessed Sampled differ)) (judged.modes w k e))

-- A HIDDEN VARIABLE GETS A NAME

-- no name in use has a hidden variable
pub nameless_in : (n : Variables) (from : List Step) (v : ℕ) (j : ScriptState) (live : LiveVariables) → NamesInvariant n from → NamesAgree n from j live → IsHidden n v → (name : ℕ) → variable_named from name ≡ Some v → ⊥
nameless_in n from v j live valid agree here zero e = (let p = agree.bridge.named 0 v e in none_some agree.judged.no_zero p.1)
nameless_in n from v j live valid agree here (suc m) e =
    none_some here.nameless (valid.tidy.users.back m v (sym (valid.read m) ∙ ap (variable_named from) (let q : m + 1 ≡ suc m = omega arith in q) ∙ e))

module _ (old new : Variables) (from to : List Step) (user v : ℕ) (valid : NamesInvariant old from) (here : IsHidden old v) (next : IsNextUser old user) (put : StoresObserving old new user v) (written : to ≡ UserVarName v (Some user) ∷ ChangeSamplingMode v false ∷ from) where
  may_both : AreAllowedSteps (UserVarName v (Some user) ∷ ChangeSamplingMode v false ∷ from)
  may_both = ((valid.may, may_witness old new user v valid.tidy here next put (session_after from) valid.said), may_observe old new user v valid.tidy here next put (session_after from) valid.said)

  pub name_hidden_var : NamesHidden old new from to v user
  name_hidden_var = record {
    valid = record {
      tidy = tidy_observed old new user v valid.tidy here next put;
      said = subst (λ ss. NamesMatchSteps new (session_after ss)) (sym written) (said_observed old new user v valid.tidy here next put (session_after from) valid.said);
      may = subst AreAllowedSteps (sym written) may_both;
      read = λ u. ap (λ ss. variable_named ss (u + 1)) written ∙ ap (λ b. cond b (Some v) (variable_named from (u + 1))) (next_same user u) ∙ ap (cond (eqb u user) (Some v)) (valid.read u) ∙ sym (put.users.fwd u);
    };
    next = next;
    step = written;
    users = put.users.bwd;
    deleted = deleted_at old new user v valid.tidy here next put;
    count = put.count;
    names = λ u w e. go u w e (eqb u user) refl (put.users.fwd u);
    kept = λ j live i agree its. subst (λ ss. NamesAgree new ss (observed (user + 1) i j) live) (sym written) (record {
      judged = judged_observed old new user v valid.tidy here next put j live i agree.judged its;
      bridge = named_again checker_rules the_checking_sound j (ChangeSamplingMode v false ∷ from) live (bridge_mode j live agree.bridge) (user + 1) v user i refl (given_among live v i its)
          (λ m e. nameless_in old from v j live valid agree here m e) accepted;
    });
    unseen = record {
      solvers = put.solvers;
      globals = put.globals;
      search = subst (λ ss. KeepsSearch (session_after from) (session_after ss)) (sym written) (record { live = refl; units = refl; unsat = refl; width = refl; assumed = refl });
      leaves = λ a h. subst (λ ss. Holds ss a) written h;
    };
  }
    where
      go : (u w : ℕ) → global_of old u ≡ Some w → (b : Bool) → eqb u user ≡ b → global_of new u ≡ cond b (Some v) (global_of old u) → global_of new u ≡ Some w
      go u w e true t x = absurd (none_some (ap (global_of old) (eqb-true u user t) ∙ next.unused) e)
      go u w e false t x = x ∙ e

      accepted_mode : checker_rules.Accepts from (ChangeSamplingMode v false)
      accepted_mode = (sessions_are_accepted (ChangeSamplingMode v false ∷ from) may_both.0).0.1

      accepted : checker_rules.Accepts (ChangeSamplingMode v false ∷ from) (UserVarName v (Some user))
      accepted = (sessions_are_accepted (UserVarName v (Some user) ∷ ChangeSamplingMode v false ∷ from) may_both).0.1

      bridge_mode : (j : ScriptState) (live : LiveVariables) → IsBridge checker_rules j from live → IsBridge checker_rules j (ChangeSamplingMode v false ∷ from) live
      bridge_mode j live b = nothing_new checker_rules the_checking_sound j from live b (ChangeSamplingMode v false) accepted_mode (λ w y. cc) (λ n. refl) (λ c h. h) (λ c h. h)

-- ALL HIDDEN VARIABLES

-- the hidden variables below `index` got names
pub record Observing (old now : Variables) (from steps : List Step) (users : List ℕ) (index : ℕ) : Type 0 where
  pub valid : NamesInvariant now steps
  pub none : (v : ℕ) → v < index → IsHidden now v → ⊥
  pub names : KeepsNames old now
  pub unseen : KeepsWhatSearchSees old now from steps
  pub count : variables_used now ≡ variables_used old
  pub kept : (j : ScriptState) (live : LiveVariables) → NamesAgree old from j live → (m : ScriptState) × NamesAgree now steps m live × ((to : List Step) (k : ScriptState) (more : List ℕ) → Observes index steps m live to k more → Observes 0 from j live to k (users ++ more))

pub observing_begins : (old : Variables) (from : List Step) → NamesInvariant old from → Observing old old from from [] 0
observing_begins old from valid = record {
  valid = valid;
  none = λ v lt h. absurd (omega arith);
  names = λ u v e. e;
  unseen = unseen_same old from;
  count = refl;
  kept = λ j live a. (j, a, λ to k more o. o);
}

-- a variable that isn't hidden is skipped
pub observing_passes : (old now : Variables) (from steps : List Step) (users : List ℕ) (index : ℕ) → Observing old now from steps users index → (IsHidden now index → ⊥) → Observing old now from steps users (index + 1)
observing_passes old now from steps users index o shown = record {
  valid = o.valid;
  none = λ v lt h. elim (cases_lt v index) [ inl less ↦ o.none v less h | inr le ↦ shown (subst (IsHidden now) (let e : v ≡ index = omega arith in e) h) ];
  names = o.names;
  unseen = o.unseen;
  count = o.count;
  kept = λ j live a. let x = o.kept j live a in (x.0, x.1, λ to k more t. x.2 to k more (higher t));
}
  where
    higher : {s t : List Step} {j k : ScriptState} {live : LiveVariables} {us : List ℕ} → Observes (index + 1) s j live t k us → Observes index s j live t k us
    higher all_named = all_named
    higher (one_more v i user le g n l o) = one_more v i user (omega (arith, le)) g n l o

-- a hidden variable gets the next name
pub observing_goes : (old now new : Variables) (from steps to : List Step) (users : List ℕ) (index user : ℕ) → Observing old now from steps users index → IsHidden now index → NamesHidden now new steps to index user → Observing old new from to (users ++ user ∷ []) (index + 1)
observing_goes old now new from steps to users index user o here n = record {
  valid = n.valid;
  none = none;
  names = λ u v e. n.names u v (o.names u v e);
  unseen = unseen_both old now new from steps to o.unseen n.unseen;
  count = n.count ∙ o.count;
  kept = λ j live a.
      let x = o.kept j live a in
      let its = none_or (given live index) (λ e. true≢false (sym (x.1.judged.in_use index ∙ ap not here.live) ∙ ap is_some e)) in (
        observed (user + 1) its.0 x.0,
        n.kept x.0 live its.0 x.1 its.1,
        λ last k more t. subst (λ us. Observes 0 from j live last k us) (sym (append_assoc users (user ∷ []) more))
            (x.2 last k (user ∷ more) (one_more index its.0 user (omega arith) its.1 (nameless_in now steps index x.0 live o.valid x.1 here) (lowest_unused now steps x.0 live user o.valid x.1.judged n.next)
            (subst (λ ss. Observes (index + 1) ss (observed (user + 1) its.0 x.0) live last k more) n.step t))),
      );
}
  where
    none : (v : ℕ) → v < index + 1 → IsHidden new v → ⊥
    none v lt h = go (eqb v index) refl (n.users v)
      where
        go : (b : Bool) → eqb v index ≡ b → user_of new v ≡ cond b (Some user) (user_of now v) → ⊥
        go true t x = none_some h.nameless x
        go false t x = (let ne = eqb-false v index t in o.none v (omega arith) (record { live = sym (n.deleted v) ∙ h.live; nameless = sym x ∙ h.nameless }))

pub observing_ends : (old new : Variables) (from to : List Step) (users : List ℕ) (index : ℕ) → Observing old new from to users index → variables_used old ≤ index → NamesAllHidden old new from to users
observing_ends old new from to users index o past = record {
  valid = o.valid;
  all = λ v h. o.none v (let lt = live_within new v h.live in let c = o.count in omega arith) h;
  names = o.names;
  kept = λ j live a. let x = o.kept j live a in (x.0, subst (λ us. Observes 0 from j live to x.0 us) (append-nil users) (x.2 to x.0 [] all_named), x.1);
  unseen = o.unseen;
}
