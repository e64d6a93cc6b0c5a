-- Assumptions are written, and their variables marked.
use Rattle.std.proofs.Common.{ℕ, ◌+◌, ◌<◌, ◌≤◌, ◌≡◌, Bool, true, false, not, ◌&&◌, ◌||◌, cond, eqb, ltb, List, [], ◌∷◌, map, drop, length, get_or, is_some, refl, sym, ◌∙◌, ap, subst, arith}
use Rattle.std.proofs.lemmas.Bool.{eqb-true, eq-eqb, ne_eqb, true≢false}
use Rattle.std.proofs.lemmas.List.{drop_more, drop_all}
use Rattle.std.specs.List.{AllByRecursion}
use Rattle.sat_base.specs.values.Literals.{variable, is_positive}
use Rattle.sat_base.specs.script.Script.{Among}
use Rattle.sat_base.specs.script.ScriptState.{ScriptState, Sampled}
use Rattle.sat_base.specs.steps.Steps.{Step, Assumptions}
use Rattle.sat_checker.specs.LiteralSets.{mentions}
use Rattle.sat_solver.specs.session.Session.{Session, AreAllowedSteps, session_after, after}
use Rattle.sat_store.specs.declared.data.VarData.{VarData}
use Rattle.sat_store.specs.variables.VarData.{unused_variable}
use Rattle.sat_store.specs.variables.Maps.{AreInverse, target}
use Rattle.sat_solver.specs.variables.Counting.{HasEqualCounts}
use Rattle.sat_solver.specs.variables.Free.{is_free, IsTree}
use Rattle.sat_checker.specs.matching.Bridge.{LiveVariables}
use Rattle.sat_solver.specs.variables.Live.{given_of}
use Rattle.sat_solver.specs.variables.Variables.{data_at, user_of, variables_used, VariablesInvariant, NamesMatchSteps, NamesMatchState, IsModeOf, is_unit_value, is_witness_kept}
use Rattle.sat_solver.specs.load.Literals.{user_literal, SameLiterals, IsProofLiteralOf}
use Rattle.sat_solver.specs.load.Assumed.{with_assumed_if, MarksAssumed, StoresMarks}
use Rattle.sat_checker.specs.matching.Checking.{variable_named}
use Rattle.sat_checker.specs.matching.ProofChecking.{checker_rules}
use Rattle.sat_checker.specs.matching.Expected.{Outcome, Opens, opens}
use Rattle.sat_checker.specs.matching.Traces.{no_step, visible}
use Rattle.sat_solver.specs.variables.Calls.{NamesInvariant, ReachesScriptState, ChangesScriptState}
use Rattle.sat_solver.specs.declared.variables.Variables.{Variables}
use Rattle.sat_solver.proofs.lemmas.variables.NewName.{shape}
use Rattle.sat_base.proofs.lemmas.script.LiteralValues.{coded_half}
use Rattle.sat_checker.proofs.lemmas.matching.Bridge.{nothing_new}
use Rattle.sat_checker.proofs.lemmas.matching.CheckerIsSound.{the_checking_sound}
use Rattle.sat_solver.proofs.lemmas.variables.ClauseWritten.{all_known, known_same, same_set}

-- LITERAL BY LITERAL

pub record Marking (first now : ℕ → VarData) (all : List ℕ) (index : ℕ) (assumed : Bool) : Type 0 where
  pub rest : (new : ℕ → VarData) → MarksAssumed now new (drop index all) assumed → MarksAssumed first new all assumed

pub one_marked : (first now next : ℕ → VarData) (all : List ℕ) (index l v : ℕ) (assumed : Bool) → Marking first now all index assumed → index < length all → l ≡ get_or all index 0 → v ≡ variable l
    → ((w : ℕ) → next w ≡ cond (eqb w v) (record (now v) { assumed = assumed }) (now w)) → Marking first next all (index + 1) assumed
one_marked first now next all index l v assumed m lt at is put = record {
  rest = λ new k. m.rest new (subst (λ ls. MarksAssumed now new ls assumed) (sym (drop_more all index 0 lt ∙ ap (λ y. y ∷ drop (index + 1) all) (sym at))) (record { each = λ w. k.each w ∙ at_one w (eqb (variable l) w) refl (mentions (drop (index + 1) all) w) }));
}
  where
    at_one : (w : ℕ) (b : Bool) → eqb (variable l) w ≡ b → (q : Bool) → with_assumed_if q assumed (next w) ≡ with_assumed_if (eqb (variable l) w || q) assumed (now w)
    at_one w b t q = go b t (put w)
      where
        go : (b : Bool) → eqb (variable l) w ≡ b → next w ≡ cond (eqb w v) (record (now v) { assumed = assumed }) (now w) → with_assumed_if q assumed (next w) ≡ with_assumed_if (eqb (variable l) w || q) assumed (now w)
        go true t e =
            let same : w ≡ v = sym (eqb-true (variable l) w t) ∙ sym is in
            let here : next w ≡ record (now w) { assumed = assumed } = e ∙ ap (λ x. cond x (record (now v) { assumed = assumed }) (now w)) (eq-eqb w v same) ∙ ap {A = ℕ} (λ x. record (now x) { assumed = assumed }) (sym same) in
            ap (with_assumed_if q assumed) here ∙ twice q ∙ sym (ap (λ x. with_assumed_if (x || q) assumed (now w)) t)
          where
            twice : (q : Bool) → with_assumed_if q assumed (record (now w) { assumed = assumed }) ≡ record (now w) { assumed = assumed }
            twice true = refl
            twice false = refl
        go false t e =
            let here : next w ≡ now w = e ∙ ap (λ x. cond x (record (now v) { assumed = assumed }) (now w)) (ne_eqb w v (λ x. true≢false (sym (eq-eqb (variable l) w (sym is ∙ sym x)) ∙ t))) in
            ap (with_assumed_if q assumed) here ∙ sym (ap (λ x. with_assumed_if (x || q) assumed (now w)) t)

pub all_marked : (first now : ℕ → VarData) (all : List ℕ) (index : ℕ) (assumed : Bool) → length all ≤ index → Marking first now all index assumed → MarksAssumed first now all assumed
all_marked first now all index assumed le m = m.rest now (subst (λ ls. MarksAssumed now now ls assumed) (sym (drop_all index all le)) (record { each = λ v. refl }))

-- ALL MARKS

-- the marks of the earlier list are cleared, those of the new one are set
pub remarked : (old mid new : ℕ → VarData) (before ls : List ℕ) → ((v : ℕ) → mentions before v ≡ (old v).assumed) → MarksAssumed old mid before false → MarksAssumed mid new ls true → (v : ℕ) → new v ≡ record (old v) { assumed = mentions ls v }
remarked old mid new before ls marked one two v = two.each v ∙ ap (with_assumed_if (mentions ls v) true) (cleared (mentions before v) refl) ∙ set (mentions ls v)
  where
    still : (d : VarData) → d.assumed ≡ false → d ≡ record d { assumed = false }
    still d e = ap {A = Bool} (λ b. record d { assumed = b }) e

    cleared : (b : Bool) → mentions before v ≡ b → mid v ≡ record (old v) { assumed = false }
    cleared true t = one.each v ∙ ap (λ b. with_assumed_if b false (old v)) t
    cleared false t = one.each v ∙ ap (λ b. with_assumed_if b false (old v)) t ∙ still (old v) (sym (marked v) ∙ t)

    set : (b : Bool) → with_assumed_if b true (record (old v) { assumed = false }) ≡ record (old v) { assumed = b }
    set true = refl
    set false = refl

-- the same for borrowed lists
pub remarked_lent : (old mid new : ℕ → VarData) (first second before ls : List ℕ) → ((v : ℕ) → mentions before v ≡ (old v).assumed) → MarksAssumed old mid first false → MarksAssumed mid new second true → first ≡ before → second ≡ ls → (v : ℕ) → new v ≡ record (old v) { assumed = mentions ls v }
remarked_lent old mid new first second before ls marked one two e f = remarked old mid new before ls marked (subst (λ xs. MarksAssumed old mid xs false) e one) (subst (λ xs. MarksAssumed mid new xs true) f two)

-- a marked variable is in use
pub marked_within : (n : Variables) (ls : List ℕ) (v : ℕ) → VariablesInvariant n → mentions ls v ≡ (data_at n v).assumed → mentions ls v ≡ true → (data_at n v).deleted ≡ false
marked_within n ls v tidy e m = go (data_at n v).deleted refl
  where
    go : (b : Bool) → (data_at n v).deleted ≡ b → (data_at n v).deleted ≡ false
    go false t = t
    go true t = absurd (true≢false (sym m ∙ e ∙ ap (λ d. d.assumed) (tidy.gone v t)))

module _ (old new : Variables) (ls : List ℕ) (tidy : VariablesInvariant old) (live : (v : ℕ) → mentions ls v ≡ true → (data_at old v).deleted ≡ false) (put : StoresMarks old new ls) where
  user_at : (w : ℕ) → user_of new w ≡ user_of old w
  user_at w = ap (λ m. target m.bwd w) put.users

  deleted_at : (w : ℕ) → (data_at new w).deleted ≡ (data_at old w).deleted
  deleted_at w = ap (λ d. d.deleted) (put.kept w)

  mode_at : (w : ℕ) → (data_at new w).sampling_mode ≡ (data_at old w).sampling_mode
  mode_at w = ap (λ d. d.sampling_mode) (put.kept w)

  pub tidy_marked : VariablesInvariant new
  tidy_marked = record {
    users = subst AreInverse (sym put.users) tidy.users;
    solvers = subst AreInverse (sym put.solvers) tidy.solvers;
    named = λ w u e. deleted_at w ∙ tidy.named w u (sym (user_at w) ∙ e);
    indexed = λ w x e. deleted_at w ∙ tidy.indexed w x (sym (ap (λ m. target m.fwd w) put.solvers) ∙ e);
    hidden = λ w d e. mode_at w ∙ tidy.hidden w (sym (deleted_at w) ∙ d) (sym (user_at w) ∙ e);
    shown = λ w u e h. tidy.shown w u (sym (user_at w) ∙ e) (sym (mode_at w) ∙ h);
    gone = gone;
    plain = λ e w. ap is_witness_kept (mode_at w) ∙ tidy.plain (sym put.witnessed ∙ e) w;
    own = λ e u lt. ap (λ m. target m.fwd u) put.users ∙ tidy.own (sym put.own ∙ e) u (let q = ap (λ m. length m.fwd) put.users in omega arith);
    globals_count = ap (λ g. length g.items) put.globals ∙ tidy.globals_count ∙ ap (λ m. length m.bwd) (sym put.solvers);
    globals = λ x w e. ap (λ g. get_or g.items x 0) put.globals ∙ tidy.globals x w (sym (ap (λ m. target m.bwd x) put.solvers) ∙ e);
    even_users = subst HasEqualCounts (sym put.users) tidy.even_users;
    even_solvers = subst HasEqualCounts (sym put.solvers) tidy.even_solvers;
    spans_users = record { tree = subst IsTree (sym put.free_users) tidy.spans_users.tree; room = let a = ap (λ f. f.room) put.free_users in let b = ap (λ m. length m.fwd) put.users in let r = tidy.spans_users.room in omega arith };
    spans_globals = record { tree = subst IsTree (sym put.free_globals) tidy.spans_globals.tree; room = let a = ap (λ f. f.room) put.free_globals in let b = put.count in let r = tidy.spans_globals.room in omega arith };
    spans_solvers = record { tree = subst IsTree (sym put.free_solvers) tidy.spans_solvers.tree; room = let a = ap (λ f. f.room) put.free_solvers in let b = ap (λ m. length m.bwd) put.solvers in let r = tidy.spans_solvers.room in omega arith };
    reach = let a = ap (λ m. length m.fwd) put.users in let b = put.count in let r = tidy.reach in omega arith;
    indices = let a = ap (λ m. length m.bwd) put.solvers in let b = put.count in let r = tidy.indices in omega arith;
    within = let b = put.count in let r = tidy.within in omega arith;
    free_users = λ u. ap (λ f. is_free f u) put.free_users ∙ tidy.free_users u ∙ ap (λ m. ltb u (length m.fwd) && not (is_some (target m.fwd u))) (sym put.users);
    free_globals = λ w. ap (λ f. is_free f w) put.free_globals ∙ tidy.free_globals w ∙ ap (λ n. ltb w n && (data_at old w).deleted) (sym put.count) ∙ ap (λ b. ltb w (variables_used new) && b) (sym (deleted_at w));
    free_solvers = λ x. ap (λ f. is_free f x) put.free_solvers ∙ tidy.free_solvers x ∙ ap (λ m. ltb x (length m.bwd) && not (is_some (target m.bwd x))) (sym put.solvers);
  }
    where
      gone : (w : ℕ) → (data_at new w).deleted ≡ true → data_at new w ≡ unused_variable
      gone w d =
          let was : (data_at old w).deleted ≡ true = sym (deleted_at w) ∙ d in
          put.kept w ∙ ap {A = Bool} (λ b. record (data_at old w) { assumed = b }) (at (mentions ls w) refl was) ∙ ap {A = VarData} (λ k. record k { assumed = false }) (tidy.gone w was)
        where
          at : (b : Bool) → mentions ls w ≡ b → (data_at old w).deleted ≡ true → mentions ls w ≡ false
          at false t was = t
          at true t was = absurd (true≢false (sym was ∙ live w t))

  pub said_marked : (s : Session) → NamesMatchSteps old s → ((v : ℕ) → (after (Assumptions ls) s).variables v ≡ s.variables v) → NamesMatchSteps new (after (Assumptions ls) s)
  said_marked s said same = record {
    variables = λ w. same w ∙ said.variables w ∙ sym (ap (λ d. shape d (user_of new w)) (put.kept w) ∙ ap (shape (data_at old w)) (user_at w));
    solver_names = λ w. said.solver_names w ∙ ap (λ m. target m.fwd w) (sym put.solvers);
    unused = λ w e. said.unused w (sym (ap (λ m. target m.fwd w) put.solvers) ∙ e);
    units = λ w e b. said.units w (sym (ap (λ m. target m.fwd w) put.solvers) ∙ e) b ∙ ap (λ d. is_unit_value d.unit b) (sym (put.kept w));
    marked = λ w. ap (λ d. d.assumed) (sym (put.kept w));
  }

  pub judged_marked : (j : ScriptState) (list : LiveVariables) → NamesMatchState old j list → NamesMatchState new j list
  judged_marked j list judged = record {
    first_unused = judged.first_unused ∙ ap (λ m. length m.fwd + 1) (sym put.users);
    no_zero = judged.no_zero;
    names = λ u. judged.names u ∙ ap (λ m. given_of list (target m.fwd u)) (sym put.users);
    once = judged.once;
    in_use = λ w. judged.in_use w ∙ ap not (sym (deleted_at w));
    below = judged.below;
    distinct = judged.distinct;
    identities = (let b = put.count in let r = judged.identities in omega arith);
    modes_count = judged.modes_count;
    increasing = judged.increasing;
    modes = λ w i e. subst (λ m. IsModeOf m (get_or j.modes i Sampled)) (sym (mode_at w)) (judged.modes w i e);
  }

-- the proof literals for names are over variables in use
pub spelt_live : (n : Variables) (user ls : List ℕ) → VariablesInvariant n → AllByRecursion (λ code. (l : ℕ) × IsProofLiteralOf n l code × Among l user) ls → (v : ℕ) → mentions ls v ≡ true → (data_at n v).deleted ≡ false
spelt_live n user [] tidy h v e = absurd (true≢false (sym e))
spelt_live n user (x ∷ xs) tidy h v e = go (spelt_live n user xs tidy h.1 v) (eqb (variable x) v) refl e
  where
    go : (mentions xs v ≡ true → (data_at n v).deleted ≡ false) → (b : Bool) → eqb (variable x) v ≡ b → (b || mentions xs v) ≡ true → (data_at n v).deleted ≡ false
    go rest true t f =
        let i = h.0.1 in
        let same : i.variable_is ≡ v = sym (coded_half i.variable_is (is_positive h.0.0)) ∙ sym (ap variable i.is) ∙ eqb-true (variable x) v t in
        ap (λ k. (data_at n k).deleted) (sym same) ∙ tidy.indexed i.variable_is i.index_is i.indexed
    go rest false t f = rest f

pub assumptions_written : (old new : Variables) (from to : List Step) (user ls : List ℕ) → NamesInvariant old from → SameLiterals old user ls → StoresMarks old new ls → to ≡ Assumptions ls ∷ from → (o : Outcome) → ChangesScriptState old new from to (λ j. j) (λ j. Opens (map user_literal user) o ∷ [])
assumptions_written old new from to user ls valid same put e o = record {
  valid = record {
    tidy = tidy_marked old new ls valid.tidy live put;
    said = subst (λ steps. NamesMatchSteps new (session_after steps)) (sym e) (said_marked old new ls valid.tidy live put (session_after from) valid.said (λ v. known_same (session_after from) ls v (all_known old from user ls valid same)));
    may = subst AreAllowedSteps (sym e) (valid.may, tt);
    read = λ u. ap (λ steps. variable_named steps (u + 1)) e ∙ valid.read u ∙ ap (λ m. target m.fwd u) (sym put.users);
  };
  kept = λ j list a. subst (λ steps. ReachesScriptState new from steps j (Opens (map user_literal user) o ∷ [])) (sym e) (record {
    live = list;
    agree = record {
      judged = judged_marked old new ls valid.tidy live put j list a.judged;
      bridge = nothing_new checker_rules the_checking_sound j from list a.bridge (Assumptions ls) tt (λ v x. cc) (λ n. refl) (λ b h. h) (λ b h. h);
    };
    trace = visible (opens (same_set old from user ls valid same)) no_step;
  });
}
  where
    live : (v : ℕ) → mentions ls v ≡ true → (data_at old v).deleted ≡ false
    live = spelt_live old user ls valid.tidy same.only
