-- Indices are released, one after another.
use Rattle.std.proofs.Common.{ℕ, zero, suc, ◌+◌, ◌≡◌, ◌≢◌, ◌<◌, ◌∙◌, inl, inr, Bool, true, false, cond, eqb, Option, Some, None, List, [], ◌∷◌, map, length, get_or, set, refl, sym, ap, subst, arith, get_or-set_same, get_or-set_other, Result, Ok, Err, OnOk}
use Rattle.std.proofs.lemmas.List.{get_or_past}
use Rattle.sat_store.specs.declared.data.VarData.{VarData}
use Rattle.sat_store.specs.variables.VarData.{unused_variable}
use Rattle.sat_store.specs.variables.Maps.{target}
use Rattle.std.proofs.lemmas.Bool.{cases_lt, cases_eq, eq-eqb, ne_eqb, or_from, or_left, or_right, or_parts, true≢false, false_from_ne_true}
use Rattle.std.specs.List.{Contains}
use Rattle.sat_base.specs.values.Literals.{mk_lit, variable, is_positive}
use Rattle.sat_base.specs.steps.Steps.{Step, SolverVarName, DeleteVar}
use Rattle.sat_checker.specs.LiteralSets.{mentions}
use Rattle.sat_store.specs.heap.Vsids.{is_available}
use Rattle.sat_parts.specs.clause.Db.{live_refs}
use Rattle.sat_parts.specs.prop.Values.{value_of, IsTrueLit}
use Rattle.sat_parts.specs.prop.State.{PropagationState, level}
use Rattle.sat_solver.specs.session.Session.{Session, session_after, after}
use Rattle.sat_solver.specs.session.LiveClauses.{LiveClause, with_var, mapped, AreMapped}
use Rattle.sat_solver.proofs.lemmas.session.Lists.{unused_in_all}
use Rattle.sat_solver.specs.session.SolverClauses.{solver_clauses}
use Rattle.sat_parts.specs.declared.parts.SearchState.{SearchState}
use Rattle.sat_parts.specs.parts.Assumed.{AreConsideredUpTo, variables_of_lits}
use Rattle.sat_parts.specs.parts.Frame.{FreesVar, IsUnitLit}
use Rattle.sat_parts.specs.parts.Round.{IsInNoClause as InNoClause}
use Rattle.sat_parts.specs.parts.Whole.{state, SearchStateInvariant}
use Rattle.sat_parts.specs.parts.Words.{IsIdle, TrailWordExtendsFor}
use Rattle.sat_solver.specs.session.Matching.{is_redundant, SessionMatchesParts, TrueLitsHaveIndices}
use Rattle.sat_solver.proofs.lemmas.fits.AddedLemmas.{unit_true}
use Rattle.sat_solver.proofs.lemmas.fits.CodeLemmas.{coded_by}
use Rattle.sat_solver.proofs.lemmas.fits.FramedParts.{bottom_unit, fits_freed}
use Rattle.sat_solver.proofs.lemmas.fits.ModelLemmas.{in_map_back}
use Rattle.sat_solver.proofs.lemmas.fits.NamedLemmas.{unused_in}
use Rattle.sat_solver.specs.session.Quiet.{MakesOnlyQuiet, is_quiet}
use Rattle.sat_solver.proofs.lemmas.fits.QuietLemmas.{quiet_comes}
use Rattle.sat_solver.proofs.lemmas.session.ComingLemmas.{comes_both}
use Rattle.sat_solver.specs.variables.NamingSteps.{DeletesIdleVariable}
use Rattle.sat_checker.specs.matching.Traces.{no_step}
use Rattle.sat_solver.specs.variables.Calls.{NamesInvariant, KeepsScriptState}
use Rattle.sat_solver.specs.variables.Naming.{StoresUnit}
use Rattle.sat_solver.proofs.lemmas.variables.Units.{unit_stands, unit_agrees}
use Rattle.sat_solver.specs.variables.Indexing.{Unindexes}
use Rattle.sat_solver.specs.variables.Search.{KeepsSearchUpToUnits}
use Rattle.sat_solver.specs.variables.Variables.{VariablesInvariant, solver_of, global_at, data_at, variables_used, indices_used, is_unit_value, IsUnitOf, IsInNoNonUnitClause}
use Rattle.sat_solver.specs.declared.variables.Variables.{Variables}
use Rattle.sat_solver.proofs.lemmas.variables.Doing.{does_none, does_both}
use Rattle.sat_solver.specs.declared.context.Search.{Search}
use Rattle.sat_solver.specs.cdcl.Joint.{global_in, assumed_indices, SearchInvariant, SameVarsAndAssumptions}
use Rattle.sat_parts.proofs.lemmas.parts.WordSteps.{extends_refl, extends_after}
use Rattle.sat_solver.proofs.lemmas.cdcl.TurnLemmas.{free_moved, moved_refl, moved_trans, ready_names}
use Rattle.sat_solver.specs.variables.Shared.{SharesIndices}
use Rattle.sat_solver.proofs.lemmas.load.GivenLemmas.{of_on}
use Rattle.sat_solver.proofs.lemmas.load.IndexLemmas.{coded_variable, coded_sign}
use Rattle.sat_solver.specs.unit_simplify.EmptyTrail.{HasEmptyTrail}
use Rattle.sat_solver.specs.unit_simplify.FreedIndices.{LosesIndex, FreesIndex, CanFreeIndices, KeepsAsked, FreesSome, FirstIndicesAreUsed, IsIndexOfAssumed}

none_some : {A : Type 0} (x : A) → None ≡ Some x → ⊥
none_some x e = cc

pub some_same : {A : Type 0} (x y : A) → Some x ≡ Some y → x ≡ y
some_same x y e = cc

pub on_ok_four : {T E : Type 0} (r : Result T E) (A B C D F : Type 0) → (A → B → C → D → F) → OnOk r A → OnOk r B → OnOk r C → OnOk r D → OnOk r F
on_ok_four (Ok x) A B C D F f a b c d = f a b c d
on_ok_four (Err e) A B C D F f a b c d = tt

-- NAMES

module _ (old mid : Variables) (from mids : List Step) (v x : ℕ) (valid : NamesInvariant old from) (u : Unindexes old mid from mids v x) where
  names_mid : (w : ℕ) → (session_after mids).solver_names w ≡ cond (eqb w v) None ((session_after from).solver_names w)
  names_mid w = u.does.valid.said.solver_names w ∙ u.solvers w ∙ ap (λ o. cond (eqb w v) None o) (sym (valid.said.solver_names w))

  quiet_mid : MakesOnlyQuiet from mids
  quiet_mid = quiet_comes from mids (SolverVarName v None ∷ []) u.step (refl, tt)

  -- the variable keeps its name
  pub gives_up_named : FreesIndex old mid from mids v
  gives_up_named = record {
    does = u.does;
    solvers = u.solvers;
    users = u.users;
    used = u.used;
    loses = record {
      live = u.search.live;
      units = λ w y b n e. ap (λ f. f (mk_lit w b)) u.search.units;
      names = names_mid;
      unsat = u.search.unsat;
      width = u.search.width;
      assumed = u.search.assumed;
    };
    quiet = quiet_mid;
  }

  -- then the variable may be deleted
  pub gives_up_both : (new : Variables) (to : List Step) → KeepsScriptState mid new mids to → KeepsSearchUpToUnits mid new mids to → DeletesIdleVariable mid mids to v → new.global_from_user ≡ mid.global_from_user → FreesIndex old new from to v
  gives_up_both new to does a idle users = record {
    quiet = comes_both (λ earlier step. is_quiet step ≡ true) from mids to quiet_mid
        (elim idle [ inl h ↦ quiet_comes mids to (DeleteVar v ∷ []) h.0 (refl, tt) | inr h ↦ quiet_comes mids to [] h.0 tt ]);
    does = does_both old mid new from mids to (λ j. j) (λ j. j) (λ j. []) (λ j. []) u.does does;
    solvers = λ w. ap (λ m. get_or m.fwd w None) a.solvers ∙ u.solvers w;
    users = users ∙ u.users;
    used = ap (λ m. length m.bwd) a.solvers ∙ u.used;
    loses = record {
      live = a.live ∙ u.search.live;
      units = λ w y b n e. a.units w y b (u.solvers w ∙ ap (λ t. cond t None (solver_of old w)) (ne_eqb w v n) ∙ sym (valid.said.solver_names w) ∙ e) ∙ ap (λ f. f (mk_lit w b)) u.search.units;
      names = λ w. does.valid.said.solver_names w ∙ ap (λ m. get_or m.fwd w None) a.solvers ∙ sym (u.does.valid.said.solver_names w) ∙ names_mid w;
      unsat = a.unsat ∙ u.search.unsat;
      width = a.width ∙ u.search.width;
      assumed = a.assumed ∙ u.search.assumed;
    };
  }

-- ASSUMPTIONS

variable_mapped : (global : ℕ → ℕ) (l : ℕ) → variable (with_var global l) ≡ global (variable l)
variable_mapped global l = omega arith

pub assumed_mention : (global : ℕ → ℕ) (ls : List ℕ) (x : ℕ) → Contains (variables_of_lits ls) x → mentions (map (with_var global) ls) (global x) ≡ true
assumed_mention global [] x c = absurd (let lt : c.0 < 0 = c.1 in omega arith)
assumed_mention global (l ∷ ls) x (zero, lt, e) =
    or_left (eqb (variable (with_var global l)) (global x)) (mentions (map (with_var global) ls) (global x)) (eq-eqb (variable (with_var global l)) (global x) (variable_mapped global l ∙ ap global e))
assumed_mention global (l ∷ ls) x (suc k, lt, e) =
    or_right (eqb (variable (with_var global l)) (global x)) (mentions (map (with_var global) ls) (global x)) (assumed_mention global ls x (k, omega arith, e))

placed_some : (ls below : List ℕ) (place : ℕ) (s s' : PropagationState) → s.trail.starts ≡ [] → s'.trail.starts ≡ [] → ((k : ℕ) → k < length ls → IsTrueLit s.values (get_or ls k 0) → level s (get_or ls k 0) ≡ 0 → IsTrueLit s'.values (get_or ls k 0) × (level s' (get_or ls k 0) ≡ 0)) →
    AreConsideredUpTo ls below place s → AreConsideredUpTo ls below place s'
placed_some ls below place s s' e e' kept h =
    let none : length s.trail.starts ≡ 0 = ap (λ (xs : List ℕ). length xs) e in
    let none' : length s'.trail.starts ≡ 0 = ap (λ (xs : List ℕ). length xs) e' in
    let flat : length below ≡ 0 = omega (arith, h.levels) in
    record {
      levels = omega arith;
      within = h.within;
      low_within = h.low_within;
      passed = λ k lt. (let x = h.passed k lt in let y = kept k (omega (arith, h.within)) x.0 (omega (arith, x.1)) in (y.0, omega (arith, y.1)));
      low_passed = λ j k lt less. absurd (omega arith);
      begun = λ j lt. absurd (omega arith);
      all = λ lt. absurd (omega arith);
    }

pub contains_at : (ls : List ℕ) (k : ℕ) → k < length ls → Contains (variables_of_lits ls) (variable (get_or ls k 0))
contains_at [] k lt = absurd (omega arith)
contains_at (l ∷ ls) zero lt = (0, omega arith, refl)
contains_at (l ∷ ls) (suc k) lt = let y = contains_at ls k (omega arith) in (suc y.0, omega (arith, y.1), y.2)

-- THE SEARCH

mapped_unused : (global : ℕ → ℕ) (names : ℕ → Option ℕ) (v x : ℕ) (ls : List ℕ) → names v ≡ Some x → AreMapped global names ls → mentions ls x ≡ false → mentions (map (with_var global) ls) v ≡ false
mapped_unused global names v x [] e m n = refl
mapped_unused global names v x (l ∷ ls) e m n =
    let q = or_parts (eqb (variable l) x) (mentions ls x) n in
    or_from (eqb (variable (with_var global l)) v) (mentions (map (with_var global) ls) v)
    (ne_eqb (variable (with_var global l)) v (λ f.
    let same : variable l ≡ x = some_same (variable l) x (sym m.0 ∙ ap names (sym (variable_mapped global l) ∙ f) ∙ e) in
    true≢false (sym (eq-eqb (variable l) x same) ∙ q.0)))
    (mapped_unused global names v x ls e m.1 q.1)

module _ (s : Session) (c : Search) (v x : ℕ) (search : SearchInvariant s c) (flat : HasEmptyTrail c.parts) (own : s.solver_names v ≡ Some x) (at : global_in c x ≡ v) (unused : InNoClause c.parts.clauses (live_refs c.parts.clauses c.parts.db.refs) c.parts.binary.implied x) where
  abbrev all : List LiveClause
  all = solver_clauses (is_redundant c.parts.clauses) c.parts.clauses (live_refs c.parts.clauses c.parts.db.refs) c.parts.binary.implied

  -- no clause of the session has the variable
  pub session_unused : IsInNoNonUnitClause s v
  session_unused r set n = unused_in_all (map (mapped (global_in c)) all) v (λ d k.
      let y = in_map_back (mapped (global_in c)) all d k in
      ap (λ (z : LiveClause). mentions z.literals v) y.1.1
      ∙ mapped_unused (global_in c) s.solver_names v x y.0.literals own (search.valid.fits.clauses.named y.0 y.1.0) (unused_in (is_redundant c.parts.clauses) c.parts.clauses (live_refs c.parts.clauses c.parts.db.refs) c.parts.binary.implied x unused y.0 y.1.0))
      r set (subst (λ k. 0 < k) (search.valid.fits.clauses.counts r set) n)

  lit_is : (b : Bool) → with_var (global_in c) (mk_lit x b) ≡ mk_lit v b
  lit_is b = sym (coded_by (global_in c) (mk_lit x b)) ∙ ap (λ w. mk_lit (global_in c w) (is_positive (mk_lit x b))) (coded_variable x b) ∙ ap (λ w. mk_lit w (is_positive (mk_lit x b))) at ∙ ap (λ d. mk_lit v d) (coded_sign x b)

  own_lit : (b : Bool) → s.solver_names (global_in c (variable (mk_lit x b))) ≡ Some (variable (mk_lit x b))
  own_lit b = subst (λ w. s.solver_names (global_in c w) ≡ Some w) (sym (coded_variable x b)) (ap s.solver_names at ∙ own)

  unit_holds : (b : Bool) → s.units (mk_lit v b) ≡ true → value_of c.parts.assignment.current x ≡ Some b
  unit_holds b u =
      let y = search.valid.fits.sound (mk_lit x b) (own_lit b) (ap s.units (lit_is b) ∙ u) in
      ap (value_of c.parts.assignment.current) (sym (coded_variable x b)) ∙ y.0 ∙ ap (λ d. Some d) (coded_sign x b)

  holds_unit : (b : Bool) → value_of c.parts.assignment.current x ≡ Some b → s.units (mk_lit v b) ≡ true
  holds_unit b e =
      let t : IsTrueLit c.parts.assignment.current (mk_lit x b) = ap (value_of c.parts.assignment.current) (coded_variable x b) ∙ e ∙ ap (λ d. Some d) (sym (coded_sign x b)) in
      ap s.units (sym (lit_is b)) ∙ search.valid.fits.known (mk_lit x b) (bottom_unit c.parts (mk_lit x b) search.valid.holds flat.bottom t)

  -- the session's unit is the variable's value in the search
  pub session_unit : (b : Bool) → s.units (mk_lit v b) ≡ is_unit_value (value_of c.parts.assignment.current x) b
  session_unit b = go (value_of c.parts.assignment.current x) refl b
    where
      go : (o : Option Bool) → value_of c.parts.assignment.current x ≡ o → (d : Bool) → s.units (mk_lit v d) ≡ is_unit_value o d
      go None e d = false_from_ne_true (s.units (mk_lit v d)) (λ u. none_some d (sym e ∙ unit_holds d u))
      go (Some true) e true = holds_unit true e
      go (Some false) e true = false_from_ne_true (s.units (mk_lit v true)) (λ u. true≢false (some_same true false (sym (unit_holds true u) ∙ e)))
      go (Some true) e false = false_from_ne_true (s.units (mk_lit v false)) (λ u. true≢false (some_same true false (sym e ∙ unit_holds false u)))
      go (Some false) e false = holds_unit false e

  module _ (t : Session) (p : SearchState) (loses : LosesIndex s t v) (free : mentions s.assumed v ≡ false) (freed : FreesVar c.parts p x) (holds : SearchStateInvariant p) (none : value_of p.assignment.current x ≡ None) (room : x < length c.parts.assignment.current)
      (word : (assumed : List ℕ) → (Contains assumed x → ⊥) → TrailWordExtendsFor assumed c.parts p) where
    abbrev c' : Search
    c' = record c { parts = p }

    not_assumed : Contains (assumed_indices c) x → ⊥
    not_assumed k = true≢false (sym (subst (λ w. mentions (map (with_var (global_in c)) c.assumptions.lits.items) w ≡ true) at (assumed_mention (global_in c) c.assumptions.lits.items x k)) ∙ ap (λ ls. mentions ls v) (sym search.ready.asked) ∙ free)

    pub freed_word : TrailWordExtendsFor (assumed_indices c) c.parts p
    freed_word = word (assumed_indices c) not_assumed

    pub freed_moved : SameVarsAndAssumptions c c'
    freed_moved = record { globals = refl; lits = refl; size = freed_word.0.size }

    pub freed_flat : HasEmptyTrail p
    freed_flat = record { bottom = ap (λ z. z.starts) freed.trail ∙ flat.bottom; empty = ap (λ z. z.lits) freed.trail ∙ flat.empty }

    other_name : (w : ℕ) → s.solver_names (global_in c w) ≡ Some w → w ≢ x → global_in c w ≢ v
    other_name w e n q = n (some_same w x (sym e ∙ ap s.solver_names q ∙ own))

    stays : (w : ℕ) → s.solver_names (global_in c w) ≡ Some w → w ≢ x → t.solver_names (global_in c w) ≡ Some w
    stays w e n = loses.names (global_in c w) ∙ ap (λ b. cond b None (s.solver_names (global_in c w))) (ne_eqb (global_in c w) v (other_name w e n)) ∙ e

    before : (w y : ℕ) → t.solver_names w ≡ Some y → (w ≢ v) × (s.solver_names w ≡ Some y)
    before w y e = elim (cases_eq w v) [
      | inl q ↦ absurd (none_some y (sym (ap (λ b. cond b None (s.solver_names w)) (eq-eqb w v q)) ∙ sym (loses.names w) ∙ e))
      | inr n ↦ (n, sym (ap (λ b. cond b None (s.solver_names w)) (ne_eqb w v n)) ∙ sym (loses.names w) ∙ e)
    ]

    abbrev m : Session
    m = after (SolverVarName v None) s

    fits_m : SessionMatchesParts p m (global_in c)
    fits_m = fits_freed c.parts p s (global_in c) v x search.valid.fits freed unused own at

    names_c : TrueLitsHaveIndices c.parts.assignment.current s (global_in c)
    names_c = ready_names s c search.ready

    unit_same : (l : ℕ) → s.solver_names (global_in c (variable l)) ≡ Some (variable l) → global_in c (variable l) ≢ v → t.units (with_var (global_in c) l) ≡ s.units (with_var (global_in c) l)
    unit_same l e n = ap t.units (sym (coded_by (global_in c) l)) ∙ loses.units (global_in c (variable l)) (variable l) (is_positive l) n e ∙ ap s.units (coded_by (global_in c) l)

    freed_fits : SessionMatchesParts p t (global_in c)
    freed_fits = record {
      clauses = of_on (global_in c) (global_in c) m.solver_names t.solver_names (λ w e. (refl, loses.names (global_in c w) ∙ e)) m t (solver_clauses (is_redundant p.clauses) p.clauses (live_refs p.clauses p.db.refs) p.binary.implied) refl refl loses.live fits_m.clauses;
      paired = fits_m.paired;
      known = λ l u.
          let y = freed.units l u in
          let k : s.units (with_var (global_in c) l) ≡ true = search.valid.fits.known l y.0 in
          let e : s.solver_names (global_in c (variable l)) ≡ Some (variable l) = names_c l (unit_true_in l y.0) in
          unit_same l e (other_name (variable l) e y.1) ∙ k;
      sound = λ l e u.
          let b = before (global_in c (variable l)) (variable l) e in
          let y = search.valid.fits.sound l b.1 (sym (unit_same l b.1 b.0) ∙ u) in
          freed.bottom l (λ q. b.0 (ap (global_in c) q ∙ at)) y.0 y.1;
      consistent = loses.unsat ∙ search.valid.fits.consistent;
      width = loses.width ∙ search.valid.fits.width;
    }
      where
        unit_true_in : (l : ℕ) → IsUnitLit (state c.parts) l → IsTrueLit c.parts.assignment.current l
        unit_true_in l u = (unit_true (state c.parts) l search.valid.holds.below.propagation.agrees u).0

    idle_x : IsIdle (assumed_indices c) (state p) p.vsids x
    idle_x = (none, ap (λ q. is_available q x) freed.queue ∙ get_or-set_same c.parts.vsids.available x false false (omega (arith, room, search.valid.holds.below.queue)), not_assumed)

    pub freed_search : SearchInvariant t c'
    freed_search = record {
      valid = record { holds = holds; fits = freed_fits };
      ready = record {
        free = free_moved c c' search.ready.free freed_moved refl refl;
        placed = placed_some c.assumptions.lits.items c.assumptions.below.items c.assumptions.place (state c.parts) (state p) flat.bottom freed_flat.bottom
            (λ k lt h z. freed.bottom (get_or c.assumptions.lits.items k 0) (λ q. not_assumed (subst (λ w. Contains (assumed_indices c) w) q (contains_at c.assumptions.lits.items k lt))) h z) search.ready.placed;
        there = rw freed_moved.size search.ready.there;
        asked = loses.assumed ∙ search.ready.asked;
        used = λ w lt. elim (cases_eq w x) [
          | inl e ↦ inr (subst (λ z. IsIdle (assumed_indices c) (state p) p.vsids z) (sym e) idle_x)
          | inr n ↦ elim (search.ready.used w (subst (λ k. w < k) freed_moved.size lt)) [
            | inl e ↦ inl (stays w e n)
            | inr idle ↦ inr (freed_word.0.idle w idle)
          ]
        ];
      };
    }

-- WHAT NAMES AND SEARCH SHARE

-- every index belongs to the variable that it had before
pub global_before : (old new : Variables) (v : ℕ) → VariablesInvariant old → VariablesInvariant new → ((w : ℕ) → solver_of new w ≡ cond (eqb w v) None (solver_of old w)) → (x w : ℕ) → global_at new x ≡ Some w → global_at old x ≡ Some w
global_before old new v tidy tidy' solvers x w e = elim (cases_eq w v) [
  | inl q ↦ absurd (none_some x (sym (ap (λ b. cond b None (solver_of old w)) (eq-eqb w v q)) ∙ sym (solvers w) ∙ tidy'.solvers.forth w x e))
  | inr n ↦ tidy.solvers.back w x (sym (ap (λ b. cond b None (solver_of old w)) (ne_eqb w v n)) ∙ sym (solvers w) ∙ tidy'.solvers.forth w x e)
]

-- the variable no longer has an index
pub global_gone : (old new : Variables) (v x w : ℕ) → VariablesInvariant old → VariablesInvariant new → ((w : ℕ) → solver_of new w ≡ cond (eqb w v) None (solver_of old w)) → global_at old x ≡ Some v → global_at new x ≡ Some w → ⊥
global_gone old new v x w tidy tidy' solvers e f =
    let same : w ≡ v = some_same w v (sym (global_before old new v tidy tidy' solvers x w f) ∙ e) in
    none_some x (sym (ap (λ b. cond b None (solver_of old w)) (eq-eqb w v same)) ∙ sym (solvers w) ∙ tidy'.solvers.forth w x f)

pub shares_freed : (old new : Variables) (c c' : Search) (v : ℕ) → VariablesInvariant old → VariablesInvariant new → ((w : ℕ) → solver_of new w ≡ cond (eqb w v) None (solver_of old w)) → indices_used new ≡ indices_used old → SameVarsAndAssumptions c c' → SharesIndices old c → SharesIndices new c'
shares_freed old new c c' v tidy tidy' solvers used moved h = record {
  size = rw (moved.globals, moved.size) h.size;
  few = (let e = ap (λ gs. length gs.items) moved.globals in let k = h.few in omega (arith, used));
  below = λ x w e. rw moved.globals (h.below x w (before x w e));
  same = λ x w e. rw moved.globals (h.same x w (before x w e));
}
  where
    before : (x w : ℕ) → global_at new x ≡ Some w → global_at old x ≡ Some w
    before x w e = elim (cases_eq w v) [
      | inl q ↦ absurd (none_some x (sym (ap (λ b. cond b None (solver_of old w)) (eq-eqb w v q)) ∙ sym (solvers w) ∙ tidy'.solvers.forth w x e))
      | inr n ↦ tidy.solvers.back w x (sym (ap (λ b. cond b None (solver_of old w)) (ne_eqb w v n)) ∙ sym (solvers w) ∙ tidy'.solvers.forth w x e)
    ]

-- ONE INDEX

set_none : (values : List (Option Bool)) (x w : ℕ) → x < length values → value_of values w ≡ None → value_of (set values x None) w ≡ None
set_none values x w lt e = elim (cases_eq w x) [
  | inl q ↦ ap (λ k. value_of (set values x None) k) q ∙ get_or-set_same values x None None lt
  | inr n ↦ get_or-set_other values x w None None n ∙ e
]

module _ (n : Variables) (steps : List Step) (c : Search) (may : CanFreeIndices n steps c) (x v : ℕ) (there : global_at n x ≡ Some v) where
  abbrev now : Session
  now = session_after steps

  indexed : solver_of n v ≡ Some x
  indexed = may.valid.tidy.solvers.forth v x there

  pub within_free : v < variables_used n
  within_free = elim (cases_lt v (variables_used n)) [
    | inl lt ↦ lt
    | inr past ↦ absurd (true≢false (sym (ap (λ (d : VarData). d.deleted) (get_or_past n.var_data.items v unused_variable past)) ∙ may.valid.tidy.indexed v x indexed))
  ]

  own : now.solver_names v ≡ Some x
  own = may.valid.said.solver_names v ∙ indexed

  at : global_in c x ≡ v
  at = may.shares.same x v there

  module _ (n1 : Variables) (put : StoresUnit n n1 v (value_of c.parts.assignment.current x)) where
    pub noted_stands : NamesInvariant n1 steps
    noted_stands = unit_stands n n1 steps v x (value_of c.parts.assignment.current x) may.valid indexed put

    module _ (unused : InNoClause c.parts.clauses (live_refs c.parts.clauses c.parts.db.refs) c.parts.binary.implied x) where
      pub noted_unit : IsUnitOf n1 now v
      noted_unit b = session_unit now c v x may.search may.flat own at unused b
          ∙ ap (λ (d : VarData). is_unit_value d.unit b) (sym (put.kept v ∙ ap (λ t. cond t (record (data_at n v) { unit = value_of c.parts.assignment.current x }) (data_at n v)) (eq-eqb v v refl)))

      pub noted_unused : IsInNoNonUnitClause now v
      noted_unused = session_unused now c v x may.search may.flat own at unused

      noted_does : KeepsScriptState n n1 steps steps
      noted_does = record {
        valid = noted_stands;
        kept = λ j live a. record { live = live; agree = unit_agrees n n1 steps v x (value_of c.parts.assignment.current x) may.valid indexed put j live a; trace = no_step };
      }

      pub frees_one : (new : Variables) (to : List Step) (p : SearchState) → FreesIndex n1 new steps to v → (data_at n v).assumed ≡ false → FreesVar c.parts p x → SearchStateInvariant p → value_of p.assignment.current x ≡ None → x < length c.parts.assignment.current →
          ((assumed : List ℕ) → (Contains assumed x → ⊥) → TrailWordExtendsFor assumed c.parts p) → FreesSome n new steps to c (record c { parts = p })
      frees_one new to p gone free freed holds none room word =
          let t = session_after to in
          let unmarked : mentions now.assumed v ≡ false = may.valid.said.marked v ∙ free in
          let moved = freed_moved now c v x may.search may.flat own at unused t p gone.loses unmarked freed holds none room word in
          record {
            does = does_both n n1 new steps steps to (λ j. j) (λ j. j) (λ j. []) (λ j. []) noted_does gone.does;
            quiet = gone.quiet;
            search = freed_search now c v x may.search may.flat own at unused t p gone.loses unmarked freed holds none room word;
            shares = shares_freed n new c (record c { parts = p }) v may.valid.tidy gone.does.valid.tidy
                (λ w. gone.solvers w ∙ ap (λ m. cond (eqb w v) None (target m.fwd w)) put.maps.solvers) (gone.used ∙ ap (λ m. length m.bwd) put.maps.solvers) moved may.shares;
            flat = freed_flat now c v x may.search may.flat own at unused t p gone.loses unmarked freed holds none room word;
            moved = moved;
            same = freed.clauses;
            word = freed_word now c v x may.search may.flat own at unused t p gone.loses unmarked freed holds none room word;
            asked = record {
              users = gone.users ∙ put.maps.users;
              assumed = gone.loses.assumed;
              indices = λ w y m e.
                  let other : w ≢ v = λ q. true≢false (sym m ∙ ap (mentions now.assumed) q ∙ unmarked) in
                  gone.solvers w ∙ ap (λ b. cond b None (solver_of n1 w)) (ne_eqb w v other) ∙ ap (λ m. target m.fwd w) put.maps.solvers ∙ e;
            };
            fewer = global_before n new v may.valid.tidy gone.does.valid.tidy (λ w. gone.solvers w ∙ ap (λ m. cond (eqb w v) None (target m.fwd w)) put.maps.solvers);
            unset = λ w e. ap (λ a. value_of a.current w) freed.values ∙ set_none c.parts.assignment.current x w room e;
          }

-- ONE INDEX AFTER ANOTHER

pub asked_refl : (n : Variables) (s : Session) → KeepsAsked n n s s
asked_refl n s = record { users = refl; assumed = refl; indices = λ v x m e. e }

pub asked_trans : (a b d : Variables) (s t u : Session) → KeepsAsked a b s t → KeepsAsked b d t u → KeepsAsked a d s u
asked_trans a b d s t u x y = record {
  users = y.users ∙ x.users;
  assumed = y.assumed ∙ x.assumed;
  indices = λ v i m e. y.indices v i (ap (λ ls. mentions ls v) x.assumed ∙ m) (x.indices v i m e);
}

pub frees_none : (n : Variables) (steps : List Step) (c : Search) → CanFreeIndices n steps c → FreesSome n n steps steps c c
frees_none n steps c h = record {
  does = does_none n steps h.valid;
  quiet = quiet_comes steps steps [] refl tt;
  search = h.search;
  shares = h.shares;
  flat = h.flat;
  moved = moved_refl c;
  same = (refl, refl, refl);
  word = extends_refl c.parts (assumed_indices c);
  asked = asked_refl n (session_after steps);
  unset = λ v e. e;
  fewer = λ x v e. e;
}

pub frees_both : (a b d : Variables) (from mids to : List Step) (c1 c2 c3 : Search) → FreesSome a b from mids c1 c2 → FreesSome b d mids to c2 c3 → FreesSome a d from to c1 c3
frees_both a b d from mids to c1 c2 c3 x y = record {
  does = does_both a b d from mids to (λ j. j) (λ j. j) (λ j. []) (λ j. []) x.does y.does;
  quiet = comes_both (λ earlier step. is_quiet step ≡ true) from mids to x.quiet y.quiet;
  search = y.search;
  shares = y.shares;
  flat = y.flat;
  moved = moved_trans c1 c2 c3 x.moved y.moved;
  same = (y.same.0 ∙ x.same.0, y.same.1 ∙ x.same.1, y.same.2 ∙ x.same.2);
  word = extends_after (assumed_indices c1) c1.parts c2.parts c3.parts x.word (rw x.moved.lits at y.word);
  asked = asked_trans a b d (session_after from) (session_after mids) (session_after to) x.asked y.asked;
  unset = λ v e. y.unset v (x.unset v e);
  fewer = λ i v e. x.fewer i v (y.fewer i v e);
}

pub may_free_on : (a b : Variables) (from to : List Step) (c c' : Search) → FreesSome a b from to c c' → CanFreeIndices b to c'
may_free_on a b from to c d x = record { valid = x.does.valid; search = x.search; shares = x.shares; flat = x.flat }

-- WHICH INDICES REMAIN

module _ (a b d : Variables) (s t : Session) (p : SearchState) (at : ℕ) (left : FirstIndicesAreUsed b s p at) where
  -- an index that a clause uses
  pub left_used : (InNoClause p.clauses (live_refs p.clauses p.db.refs) p.binary.implied at → ⊥) → FirstIndicesAreUsed b s p (at + 1)
  left_used has x lt none = elim (cases_eq x at) [
    | inl e ↦ absurd (has (subst (λ z. InNoClause p.clauses (live_refs p.clauses p.db.refs) p.binary.implied z) e none))
    | inr n ↦ left x (omega arith) none
  ]

  -- an index that no clause uses, but whose variable is assumed
  pub left_more : ((x v : ℕ) → global_at d x ≡ Some v → global_at b x ≡ Some v) → t.assumed ≡ s.assumed → IsIndexOfAssumed d t at → FirstIndicesAreUsed d s p (at + 1)
  left_more fewer asked here x lt none = elim (cases_eq x at) [
    | inl e ↦ λ v f. (ap (λ ls. mentions ls v) (sym asked) ∙ here v (subst (λ z. global_at d z ≡ Some v) e f))
    | inr n ↦ λ v f. left x (omega arith) none v (fewer x v f)
  ]

pub left_none : (n : Variables) (s : Session) (p : SearchState) → FirstIndicesAreUsed n s p 0
left_none n s p x lt none = absurd (omega arith)
