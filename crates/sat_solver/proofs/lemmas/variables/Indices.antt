-- Indices of the search are given and released.
use Rattle.std.proofs.Common.{ℕ, ◌+◌, ◌<◌, ◌≤◌, ◌≡◌, max, Bool, true, false, not, ◌&&◌, ◌||◌, cond, eqb, ltb, List, [], ◌∷◌, ◌++◌, length, get_or, Option, Some, None, is_some, refl, sym, ◌∙◌, ap, subst, arith, inl, inr}
use Rattle.std.proofs.lemmas.Bool.{eqb-true, eqb-false, eq-eqb, lt-ltb, true≢false}
use Rattle.std.proofs.lemmas.List.{append-nil}
use Rattle.sat_base.specs.values.Literals.{mk_lit}
use Rattle.sat_base.specs.script.ScriptState.{ScriptState, Sampled}
use Rattle.sat_base.specs.steps.Steps.{Step, SolverVarName}
use Rattle.sat_store.specs.variables.VarData.{unused_variable}
use Rattle.sat_store.specs.variables.Maps.{AreInverse, target}
use Rattle.sat_checker.specs.LiteralSets.{mentions}
use Rattle.sat_checker.specs.Stored.{Variable, initial_variable}
use Rattle.sat_solver.specs.session.Session.{Session, AreAllowedSteps, session_after, after}
use Rattle.sat_solver.specs.variables.Counting.{HasEqualCounts, mapped_count}
use Rattle.sat_solver.proofs.lemmas.variables.Counts.{mapped_one_more, mapped_one_fewer}
use Rattle.sat_solver.specs.variables.Free.{is_free, IsTree}
use Rattle.sat_checker.specs.matching.Bridge.{LiveVariables}
use Rattle.sat_solver.specs.variables.Live.{given_of}
use Rattle.sat_solver.specs.variables.Variables.{data_at, user_of, solver_of, global_at, indices_used, variables_used, VariablesInvariant, checker_mode, checker_variable_at, NamesMatchSteps, IsModeOf, NamesMatchState, is_unit_value, IsUnitOf, IsInNoNonUnitClause, is_witness_kept}
use Rattle.sat_solver.specs.variables.Naming.{StoresIndex, IsNextIndex}
use Rattle.sat_solver.specs.variables.Search.{KeepsSearch}
use Rattle.sat_solver.specs.variables.Indexing.{Indexes, Unindexes}
use Rattle.sat_solver.specs.declared.variables.solver_vars.Given.{Given}
use Rattle.sat_checker.specs.matching.ProofChecking.{checker_rules}
use Rattle.sat_checker.specs.matching.Traces.{no_step, silent}
use Rattle.sat_solver.specs.variables.Calls.{NamesInvariant, ReachesScriptState, KeepsScriptState}
use Rattle.sat_checker.specs.matching.Checking.{variable_named}
use Rattle.sat_solver.specs.declared.variables.Variables.{Variables}
use Rattle.sat_solver.proofs.lemmas.variables.ScriptStateLemmas.{same_below}
use Rattle.sat_solver.proofs.lemmas.variables.MapLemmas.{some_within}
use Rattle.sat_solver.proofs.lemmas.variables.NewName.{shape, and_false}
use Rattle.sat_solver.proofs.lemmas.variables.NextIndices.{index_below}
use Rattle.sat_solver.proofs.lemmas.variables.Giving.{gives_one, gives_none, keeps_same}
use Rattle.sat_solver.proofs.lemmas.variables.Doing.{does_none}
use Rattle.sat_checker.proofs.lemmas.matching.Bridge.{nothing_new}
use Rattle.sat_checker.proofs.lemmas.matching.CheckerIsSound.{the_checking_sound}

-- a script state depends only on names and data
pub judged_same : (old new : Variables) (j : ScriptState) (live : LiveVariables) → new.global_from_user ≡ old.global_from_user → new.var_data ≡ old.var_data → NamesMatchState old j live → NamesMatchState new j live
judged_same old new j live users items judged =
    let at : (v : ℕ) → data_at new v ≡ data_at old v = λ v. ap (λ d. get_or d.items v unused_variable) items in
    record {
      first_unused = judged.first_unused ∙ ap (λ m. length m.fwd + 1) (sym users);
      no_zero = judged.no_zero;
      names = λ u. judged.names u ∙ ap (λ m. given_of live (target m.fwd u)) (sym users);
      once = judged.once;
      in_use = λ v. judged.in_use v ∙ ap (λ d. not d.deleted) (sym (at v));
      below = judged.below;
      distinct = judged.distinct;
      identities = (let e = ap (λ d. length d.items) items in let r = judged.identities in omega arith);
      modes_count = judged.modes_count;
      increasing = judged.increasing;
      modes = λ v i e. subst (λ d. IsModeOf d.sampling_mode (get_or j.modes i Sampled)) (sym (at v)) (judged.modes v i e);
    }

none_is : (o : Option ℕ) → o ≡ None → (x : ℕ) → o ≡ Some x → ⊥
none_is o e x f = cc

some_is : {x y : ℕ} → Some x ≡ Some y → x ≡ y
some_is e = cc

not_some_false : (b : Bool) (o : Option ℕ) → o ≡ None → b ≡ true → (b && not (is_some o)) ≡ true
not_some_false b o e f = ap (λ p. b && not (is_some p)) e ∙ ap (λ c. c && true) f

module _ (old new : Variables) (v x : ℕ) (there : Bool) (tidy : VariablesInvariant old) (alive : (data_at old v).deleted ≡ false) (low : there ≡ true → x ≤ indices_used old) (had : there ≡ false → solver_of old v ≡ Some x) (fresh : there ≡ true → (solver_of old v ≡ None) × (global_at old x ≡ None)) (room : there ≡ true → x < variables_used old) (put : StoresIndex old new v x there) where
  kept_at : (w : ℕ) → data_at new w ≡ data_at old w
  kept_at w = ap (λ d. get_or d.items w unused_variable) put.kept

  user_at : (w : ℕ) → user_of new w ≡ user_of old w
  user_at w = ap (λ m. target m.bwd w) put.users

  had_low : there ≡ false → x < indices_used old
  had_low e = some_within old.solver_from_global.bwd x v (tidy.solvers.back v x (had e))

  pub tidy_index : VariablesInvariant new
  tidy_index = record {
    users = subst AreInverse (sym put.users) tidy.users;
    solvers = put.inverse;
    named = λ w u e. ap (λ d. d.deleted) (kept_at w) ∙ tidy.named w u (sym (user_at w) ∙ e);
    indexed = indexed;
    hidden = λ w d e. ap (λ d. d.sampling_mode) (kept_at w) ∙ tidy.hidden w (sym (ap (λ d. d.deleted) (kept_at w)) ∙ d) (sym (user_at w) ∙ e);
    shown = λ w u e h. tidy.shown w u (sym (user_at w) ∙ e) (sym (ap (λ d. d.sampling_mode) (kept_at w)) ∙ h);
    gone = λ w d. kept_at w ∙ tidy.gone w (sym (ap (λ k. k.deleted) (kept_at w)) ∙ d);
    plain = λ e w. ap (λ d. is_witness_kept d.sampling_mode) (kept_at w) ∙ tidy.plain (sym put.witnessed ∙ e) w;
    own = λ e u lt. ap (λ m. target m.fwd u) put.users ∙ tidy.own (sym put.own ∙ e) u (let q = ap (λ m. length m.fwd) put.users in omega arith);
    globals_count = put.globals_count;
    globals = globals;
    even_users = subst HasEqualCounts (sym put.users) tidy.even_users;
    even_solvers = even_solvers there refl;
    spans_users = record { tree = subst IsTree (sym put.free_users) tidy.spans_users.tree; room = let a = ap (λ f. f.room) put.free_users in let b = ap (λ m. length m.fwd) put.users in let r = tidy.spans_users.room in omega arith };
    spans_globals = record { tree = subst IsTree (sym put.free_globals) tidy.spans_globals.tree; room = let a = ap (λ f. f.room) put.free_globals in let b = ap (λ d. length d.items) put.kept in let r = tidy.spans_globals.room in omega arith };
    spans_solvers = put.spans_solvers;
    reach = let a = ap (λ m. length m.fwd) put.users in let b = ap (λ d. length d.items) put.kept in let r = tidy.reach in omega arith;
    indices = within_variables there refl put.used;
    within = let b = ap (λ d. length d.items) put.kept in let r = tidy.within in omega arith;
    free_users = λ u. ap (λ f. is_free f u) put.free_users ∙ tidy.free_users u ∙ ap (λ m. ltb u (length m.fwd) && not (is_some (target m.fwd u))) (sym put.users);
    free_globals = λ w. ap (λ f. is_free f w) put.free_globals ∙ tidy.free_globals w ∙ ap (λ d. ltb w (length d.items) && (get_or d.items w unused_variable).deleted) (sym put.kept);
    free_solvers = free_solvers;
  }
    where
      indexed : (w y : ℕ) → solver_of new w ≡ Some y → (data_at new w).deleted ≡ false
      indexed w y e = ap (λ d. d.deleted) (kept_at w) ∙ go (eqb w v) refl (sym (put.solvers w) ∙ e)
        where
          go : (b : Bool) → eqb w v ≡ b → cond b (cond there (Some x) None) (solver_of old w) ≡ Some y → (data_at old w).deleted ≡ false
          go true t f = ap (λ k. (data_at old k).deleted) (eqb-true w v t) ∙ alive
          go false t f = tidy.indexed w y f

      globals : (y w : ℕ) → global_at new y ≡ Some w → get_or new.globals.items y 0 ≡ w
      globals y w e = put.listed y ∙ go there (eqb y x) refl (sym (put.globals y) ∙ e)
        where
          go : (c b : Bool) → eqb y x ≡ b → cond b (cond c (Some v) None) (global_at old y) ≡ Some w → cond (c && b) v (get_or old.globals.items y 0) ≡ w
          go true true t f = some_is f
          go false true t f = absurd (none_is None refl w f)
          go true false t f = tidy.globals y w f
          go false false t f = tidy.globals y w f

      even_solvers : (c : Bool) → there ≡ c → HasEqualCounts new.solver_from_global
      even_solvers true e =
          let f = fresh e in
          let a : mapped_count new.solver_from_global.fwd ≡ mapped_count old.solver_from_global.fwd + 1 = mapped_one_more old.solver_from_global.fwd new.solver_from_global.fwd v x f.0 (λ w. put.solvers w ∙ ap (λ d. cond (eqb w v) (cond d (Some x) None) (solver_of old w)) e) in
          let b : mapped_count new.solver_from_global.bwd ≡ mapped_count old.solver_from_global.bwd + 1 = mapped_one_more old.solver_from_global.bwd new.solver_from_global.bwd x v f.1 (λ y. put.globals y ∙ ap (λ d. cond (eqb y x) (cond d (Some v) None) (global_at old y)) e) in
          let even = tidy.even_solvers in
          omega arith
      even_solvers false e =
          let h = had e in
          let a : mapped_count old.solver_from_global.fwd ≡ mapped_count new.solver_from_global.fwd + 1 = mapped_one_fewer old.solver_from_global.fwd new.solver_from_global.fwd v x h (λ w. put.solvers w ∙ ap (λ d. cond (eqb w v) (cond d (Some x) None) (solver_of old w)) e) in
          let b : mapped_count old.solver_from_global.bwd ≡ mapped_count new.solver_from_global.bwd + 1 = mapped_one_fewer old.solver_from_global.bwd new.solver_from_global.bwd x v (tidy.solvers.back v x h) (λ y. put.globals y ∙ ap (λ d. cond (eqb y x) (cond d (Some v) None) (global_at old y)) e) in
          let even = tidy.even_solvers in
          omega arith

      within_variables : (c : Bool) → there ≡ c → indices_used new ≡ cond c (max (indices_used old) (x + 1)) (indices_used old) → indices_used new ≤ variables_used new
      within_variables true e used = (let k = room e in let d = ap (λ d. length d.items) put.kept in let r = tidy.indices in omega arith)
      within_variables false e used = (let d = ap (λ d. length d.items) put.kept in let r = tidy.indices in omega arith)

      free_solvers : (y : ℕ) → is_free new.free_solvers y ≡ (ltb y (indices_used new) && not (is_some (global_at new y)))
      free_solvers y = put.free_solvers y ∙ by_case there refl put.used (put.globals y)
        where
          by_case : (c : Bool) → there ≡ c → indices_used new ≡ cond c (max (indices_used old) (x + 1)) (indices_used old) → global_at new y ≡ cond (eqb y x) (cond c (Some v) None) (global_at old y)
              → cond (eqb y x) (not c) (is_free old.free_solvers y) ≡ (ltb y (indices_used new) && not (is_some (global_at new y)))
          by_case true c used global = go (eqb y x) refl global
            where
              go : (b : Bool) → eqb y x ≡ b → global_at new y ≡ cond b (Some v) (global_at old y) → cond b false (is_free old.free_solvers y) ≡ (ltb y (indices_used new) && not (is_some (global_at new y)))
              go true t g = sym (ap (λ o. ltb y (indices_used new) && not (is_some o)) g ∙ and_false (ltb y (indices_used new)))
              go false t g =
                  let le = low c in
                  let ne = eqb-false y x t in
                  tidy.free_solvers y
                  ∙ ap (λ b. b && not (is_some (global_at old y))) (same_below y (indices_used old) (indices_used new) (λ z. omega arith) (λ z. omega arith))
                  ∙ sym (ap (λ o. ltb y (indices_used new) && not (is_some o)) g)
          by_case false c used global = go (eqb y x) refl global
            where
              go : (b : Bool) → eqb y x ≡ b → global_at new y ≡ cond b None (global_at old y) → cond b true (is_free old.free_solvers y) ≡ (ltb y (indices_used new) && not (is_some (global_at new y)))
              go true t g =
                  let lt = had_low c in
                  let e = eqb-true y x t in
                  sym (not_some_false (ltb y (indices_used new)) (global_at new y) g (lt-ltb y (indices_used new) (omega arith)))
              go false t g =
                  tidy.free_solvers y
                  ∙ ap (λ n. ltb y n && not (is_some (global_at old y))) (sym used)
                  ∙ sym (ap (λ o. ltb y (indices_used new) && not (is_some o)) g)

  pub said_index : (s : Session) → NamesMatchSteps old s → (there ≡ false → IsUnitOf old s v) → (there ≡ false → IsInNoNonUnitClause s v) → NamesMatchSteps new (after (SolverVarName v (cond there (Some x) None)) s)
  said_index s said its_unit its_unused = by_case there refl
    where
      unit_at : (w : ℕ) → solver_of new w ≡ None → IsUnitOf new s w
      unit_at w e b = was ∙ sym (ap (λ d. is_unit_value d.unit b) (kept_at w))
        where
          go : (c q : Bool) → there ≡ c → eqb w v ≡ q → cond q (cond c (Some x) None) (solver_of old w) ≡ None → s.units (mk_lit w b) ≡ is_unit_value (data_at old w).unit b
          go true true c t f = absurd (none_is (Some x) f x refl)
          go false true c t f = subst (λ k. s.units (mk_lit k b) ≡ is_unit_value (data_at old k).unit b) (sym (eqb-true w v t)) (its_unit c b)
          go true false c t f = said.units w f b
          go false false c t f = said.units w f b

          was : s.units (mk_lit w b) ≡ is_unit_value (data_at old w).unit b
          was = go there (eqb w v) refl refl (sym (put.solvers w) ∙ e)

      unused_at : (w : ℕ) → solver_of new w ≡ None → IsInNoNonUnitClause s w
      unused_at w e r set lt = go there (eqb w v) refl refl (sym (put.solvers w) ∙ e)
        where
          go : (c q : Bool) → there ≡ c → eqb w v ≡ q → cond q (cond c (Some x) None) (solver_of old w) ≡ None → mentions set w ≡ false
          go true true c t f = absurd (none_is (Some x) f x refl)
          go false true c t f = ap (mentions set) (eqb-true w v t) ∙ its_unused c r set lt
          go true false c t f = said.unused w f r set lt
          go false false c t f = said.unused w f r set lt

      mark_at : (w : ℕ) → mentions s.assumed w ≡ (data_at new w).assumed
      mark_at w = said.marked w ∙ sym (ap (λ d. d.assumed) (kept_at w))

      names : (c : Bool) → there ≡ c → (w : ℕ) → cond (eqb w v) (cond c (Some x) None) (s.solver_names w) ≡ solver_of new w
      names c e w = ap (cond (eqb w v) (cond c (Some x) None)) (said.solver_names w) ∙ ap (λ d. cond (eqb w v) (cond d (Some x) None) (solver_of old w)) (sym e) ∙ sym (put.solvers w)

      same : (w : ℕ) → checker_variable_at old w ≡ checker_variable_at new w
      same w = sym (ap (λ d. shape d (user_of new w)) (kept_at w) ∙ ap (shape (data_at old w)) (user_at w))

      by_case : (c : Bool) → there ≡ c → NamesMatchSteps new (after (SolverVarName v (cond c (Some x) None)) s)
      by_case false e = record { variables = λ w. said.variables w ∙ same w; solver_names = names false e; unused = unused_at; units = unit_at; marked = mark_at }
      by_case true e = record { variables = λ w. known w ∙ same w; solver_names = names true e; unused = unused_at; units = unit_at; marked = mark_at }
        where
          known : (w : ℕ) → cond (eqb v w || false) (record (s.variables w) { known = true }) (s.variables w) ≡ checker_variable_at old w
          known w = go (eqb v w) refl
            where
              go : (b : Bool) → eqb v w ≡ b → cond (b || false) (record (s.variables w) { known = true }) (s.variables w) ≡ checker_variable_at old w
              go false t = said.variables w
              go true t =
                  let here : (data_at old w).deleted ≡ false = ap (λ k. (data_at old k).deleted) (sym (eqb-true v w t)) ∙ alive in
                  ap {A = Variable} (λ z. record z { known = true }) (said.variables w) ∙ still (data_at old w).deleted here
                where
                  still : (d : Bool) → d ≡ false → (let z : Variable = cond d initial_variable (record { known = true; mode = checker_mode (data_at old w).sampling_mode; name = user_of old w }) in record z { known = true }) ≡ cond d initial_variable (record { known = true; mode = checker_mode (data_at old w).sampling_mode; name = user_of old w })
                  still false f = refl
                  still true f = absurd (true≢false f)

-- the step leaves clauses, units and assumptions of the session unchanged
pub index_search : (from to : List Step) (v : ℕ) (name : Option ℕ) → to ≡ SolverVarName v name ∷ from → KeepsSearch (session_after from) (session_after to)
index_search from to v name e = subst (λ steps. KeepsSearch (session_after from) (session_after steps)) (sym e) (go name)
  where
    go : (o : Option ℕ) → KeepsSearch (session_after from) (session_after (SolverVarName v o ∷ from))
    go None = record { live = refl; units = refl; unsat = refl; width = refl; assumed = refl }
    go (Some x) = record { live = refl; units = refl; unsat = refl; width = refl; assumed = refl }

pub index_put : (old new : Variables) (from to : List Step) (v x : ℕ) (there : Bool) → NamesInvariant old from → (data_at old v).deleted ≡ false → (there ≡ true → x ≤ indices_used old) → (there ≡ false → solver_of old v ≡ Some x) → (there ≡ true → (solver_of old v ≡ None) × (global_at old x ≡ None)) → (there ≡ true → x < variables_used old) → (there ≡ false → IsUnitOf old (session_after from) v) → (there ≡ false → IsInNoNonUnitClause (session_after from) v) → StoresIndex old new v x there
    → to ≡ SolverVarName v (cond there (Some x) None) ∷ from → KeepsScriptState old new from to
index_put old new from to v x there valid alive low had fresh room its_unit its_unused put e = record {
  valid = record {
    tidy = tidy_index old new v x there valid.tidy alive low had fresh room put;
    said = subst (λ steps. NamesMatchSteps new (session_after steps)) (sym e) (said_index old new v x there valid.tidy alive low had fresh room put (session_after from) valid.said its_unit its_unused);
    may = subst AreAllowedSteps (sym e) (valid.may, tt);
    read = λ u. ap (λ steps. variable_named steps (u + 1)) e ∙ valid.read u ∙ ap (λ m. target m.fwd u) (sym put.users);
  };
  kept = λ j live a. subst (λ steps. ReachesScriptState new from steps j []) (sym e) (record {
    live = live;
    agree = record {
      judged = judged_same old new j live put.users put.kept a.judged;
      bridge = nothing_new checker_rules the_checking_sound j from live a.bridge (SolverVarName v (cond there (Some x) None)) tt (λ w y. cc) (λ n. refl) (λ b h. h) (λ b h. h);
    };
    trace = silent refl no_step;
  });
}

pub index_given : (old new : Variables) (from to : List Step) (before after : List Given) (v : ℕ) (g : Given) → NamesInvariant old from → (data_at old v).deleted ≡ false → solver_of old v ≡ None → IsNextIndex old g.solver → g.unit ≡ (data_at old v).unit → StoresIndex old new v g.solver true
    → to ≡ SolverVarName v (Some g.solver) ∷ from → after ≡ before ++ g ∷ [] → Indexes old new from to before after v g.solver
index_given old new from to before after v g valid alive without next unit put e l = record {
  does = index_put old new from to v g.solver true valid alive (λ f. next.reach) (λ f. absurd (true≢false f)) (λ f. (without, next.free)) (λ f. index_below old v g.solver valid.tidy alive without next) (λ f. absurd (true≢false f)) (λ f. absurd (true≢false f)) put e;
  has = put.solvers v ∙ ap (λ b. cond b (Some g.solver) (solver_of old v)) (eq-eqb v v refl);
  users = put.users;
  kept = put.kept;
  search = index_search from to v (Some g.solver) e;
  fresh = g ∷ [];
  listed = l;
  gives = gives_one old new (session_after from) v g without next.free put (λ b. valid.said.units v without b ∙ ap (λ o. is_unit_value o b) (sym unit));
  step = inr (e, without, next);
}

pub index_had : (old : Variables) (from : List Step) (given : List Given) (v x : ℕ) → NamesInvariant old from → solver_of old v ≡ Some x → Indexes old old from from given given v x
index_had old from given v x valid e = record {
  does = does_none old from valid;
  has = e;
  users = refl;
  kept = refl;
  search = keeps_same (session_after from);
  fresh = [];
  listed = sym (append-nil given);
  gives = gives_none old (session_after from);
  step = inl refl;
}

pub index_taken : (old new : Variables) (from to : List Step) (v x : ℕ) → NamesInvariant old from → solver_of old v ≡ Some x → IsUnitOf old (session_after from) v → IsInNoNonUnitClause (session_after from) v → StoresIndex old new v x false → new.globals ≡ old.globals → to ≡ SolverVarName v None ∷ from → Unindexes old new from to v x
index_taken old new from to v x valid there unit unused put globals e = record {
  does = index_put old new from to v x false valid (valid.tidy.indexed v x there) (λ f. absurd (true≢false (sym f))) (λ f. there) (λ f. absurd (true≢false (sym f))) (λ f. absurd (true≢false (sym f))) (λ f. unit) (λ f. unused) put e;
  solvers = put.solvers;
  globals = globals;
  users = put.users;
  kept = put.kept;
  search = index_search from to v None e;
  used = put.used;
  step = e;
}

-- the set of free indices has room for every index in use
pub index_within : (n : Variables) (v x : ℕ) → VariablesInvariant n → solver_of n v ≡ Some x → x < n.free_solvers.room
index_within n v x tidy e = let lt = some_within n.solver_from_global.bwd x v (tidy.solvers.back v x e) in let r = tidy.spans_solvers.room in omega arith
