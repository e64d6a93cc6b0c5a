-- A clause of the formula is added to the session: every case of loading, at level 0.
use Rattle.std.proofs.Common.{ℕ, ◌*◌, ◌<◌, ◌≤◌, ◌≡◌, ◌≢◌, true, false, ◌||◌, eqb, List, [], ◌∷◌, map, length, refl, sym, ◌∙◌, ap, subst, arith, inl, inr, Some}
use Rattle.std.proofs.lemmas.Bool.{true≢false, false_from_ne_true}
use Rattle.sat_base.specs.values.Literals.{variable, negated}
use Rattle.sat_base.specs.steps.Steps.{AddClause, AtClause, DeleteClause, Satisfied}
use Rattle.sat_store.specs.clause.Header.{Header, is_learned}
use Rattle.sat_checker.specs.LiteralSets.{is_among, is_tautology, canonical}
use Rattle.sat_checker.proofs.lemmas.sets.Canonical.{same_tautology}
use Rattle.sat_parts.specs.declared.prop.graph.Reason.{Reason}
use Rattle.sat_parts.specs.clause.Db.{Db, DbMatchesBuffer, live_refs, AddsLongClause}
use Rattle.sat_parts.specs.clause.Orders.{AreDistinct, IsReordering}
use Rattle.sat_parts.specs.prop.Binaries.{Binaries, with_binary}
use Rattle.sat_parts.specs.prop.Graphs.{has_no_clause}
use Rattle.sat_parts.specs.prop.Values.{IsTrueLit, IsFalseLit}
use Rattle.sat_parts.specs.prop.State.{PropagationState, node, level, lit_at, StateIsConsistent}
use Rattle.sat_parts.proofs.lemmas.clause.OrderLemmas.{shuffled_trans}
use Rattle.sat_parts.proofs.lemmas.prop.StateLemmas.{negated_variable, negated_twice, false_from_true, not_both}
use Rattle.sat_solver.specs.session.Session.{Session, with_unit_added, after, IsAllowedStep}
use Rattle.sat_solver.proofs.lemmas.session.Changes.{with_live_clause, with_sorted, knowing_literals, session_if}
use Rattle.sat_solver.specs.session.LiveClauses.{LiveClause, with_var, AreMapped}
use Rattle.sat_solver.proofs.lemmas.session.Mapped.{negated_mapped, apart}
use Rattle.sat_solver.proofs.lemmas.session.StepsOfClauses.{short_leaves}
use Rattle.sat_solver.specs.session.SolverClauses.{solver_clauses, InsertsClause}
use Rattle.sat_solver.proofs.lemmas.trail.UnitLemmas.{fact_keeps, fact_only, fact_names, fact_width}
use Rattle.sat_solver.proofs.lemmas.trail.InsertedLemmas.{inserted_first}
use Rattle.sat_parts.specs.parts.Round.{UnitsHaveNoReason}
use Rattle.sat_parts.specs.parts.Frame.{IsUnitLit}
use Rattle.sat_solver.specs.session.Matching.{is_redundant, SessionMatches}
use Rattle.sat_solver.specs.session.Listed.{MatchesClauseList}
use Rattle.sat_solver.proofs.lemmas.fits.FitLemmas.{fact_unsat, mapped_shuffled, taut_mapped, paired_binary}
use Rattle.sat_solver.proofs.lemmas.fits.SetLemmas.{same_shuffled, taut_carried, once_shuffled}
use Rattle.sat_solver.proofs.lemmas.fits.ListedLemmas.{listed, fits_listed, listed_stays, listed_by, listed_derived, listed_satisfied, some_unit, MayCome}
use Rattle.sat_solver.proofs.lemmas.fits.ChangedLemmas.{added_there, two_came}

-- a unit is a true literal of level 0
pub unit_true : (st : PropagationState) (l : ℕ) → StateIsConsistent st → IsUnitLit st l → IsTrueLit st.values l × (level st l ≡ 0)
unit_true st l agrees (inl r) = (r.holds, r.bottom)
unit_true st l agrees (inr b) = (subst (λ m. IsTrueLit st.values m) b.there (agrees.holds b.place b.within), b.bottom)

-- a true literal of level 0 is a unit if no literal of level 0 has a clause as its reason
pub true_unit : (st : PropagationState) (l : ℕ) → StateIsConsistent st → UnitsHaveNoReason st → IsTrueLit st.values l → level st l ≡ 0 → IsUnitLit st l
true_unit st l agrees bare t z = elim (agrees.known l t) [
  | inl b ↦
      let low : level st (lit_at st b.place) ≡ 0 = ap (λ m. level st m) b.there ∙ z in
      inr (record { place = b.place; within = b.within; there = b.there; bottom = z; none = ap (λ m. has_no_clause (node st m).reason) (sym b.there) ∙ ap (λ (r : Reason). has_no_clause r) (bare b.place b.within low) })
  | inr r ↦ inl r
]

module _ (words live : List ℕ) (implied : List (List ℕ)) (st : PropagationState) (s : Session) (global : ℕ → ℕ) (agrees : StateIsConsistent st) (fits : SessionMatches words live implied st s global) where
  abbrev all : List LiveClause
  all = solver_clauses (is_redundant words) words live implied

  its : MatchesClauseList all st s global
  its = listed words live implied st s global fits

  -- A UNIT CLAUSE

  -- its literal is true at level 0
  pub fits_added_true : (l : ℕ) → s.solver_names (global (variable l)) ≡ Some (variable l) → IsTrueLit st.values l → level st l ≡ 0 → SessionMatches words live implied st (after (AddClause (with_var global l ∷ [])) s) global
  fits_added_true l own holds bottom =
      let w : ℕ = with_var global l in
      let known : Session = knowing_literals (with_var global l ∷ []) s in
      let none : s.units (negated (with_var global l)) ≡ false = false_from_ne_true (s.units (negated w)) (λ u.
      let x = fits.sound (negated l) (subst (λ v. s.solver_names (global v) ≡ Some v) (sym (negated_variable l)) own) (subst (λ z. s.units z ≡ true) (sym (negated_mapped global l)) u) in
      not_both st.values (negated l) x.0 (false_from_true st.values l holds)) in
      let derived : MatchesClauseList all st (after (AtClause false (with_var global l ∷ []) []) s) global = record {
        clauses = short_leaves s global all false (w ∷ []) [] (refl, tt) (omega arith) refl fits.clauses;
        known = λ m u. fact_keeps known w (with_var global m) (fits.known m u);
        sound = λ m n u.
            let old : s.solver_names (global (variable m)) ≡ Some (variable m) = sym (fact_names known w (global (variable m))) ∙ n in
            elim (fact_only known w (with_var global m) u) [
              | inl e ↦ subst (λ z. IsTrueLit st.values z × (level st z ≡ 0)) (apart global s.solver_names l m own old e) (holds, bottom)
              | inr k ↦ fits.sound m old k
            ];
        consistent = fact_unsat w known none ∙ fits.consistent;
        width = fact_width known w ∙ fits.width;
      } in
      fits_listed words live implied st (after (AddClause (w ∷ [])) s) global (listed_by all st s global (w ∷ []) [] fits.consistent derived) fits.paired

  -- its literal is false by a unit, so unsat is recorded
  pub added_refutes : (l : ℕ) → s.solver_names (global (variable l)) ≡ Some (variable l) → IsUnitLit st (negated l) → (after (AddClause (with_var global l ∷ [])) s).unsat ≡ true
  added_refutes l own unit =
      let w : ℕ = with_var global l in
      let known : Session = knowing_literals (w ∷ []) s in
      let x = unit_true st (negated l) agrees unit in
      let open_here : s.units (with_var global l) ≡ false = false_from_ne_true (s.units (with_var global l)) (λ u.
      not_both st.values l (fits.sound l own u).0 (subst (λ z. IsFalseLit st.values z) (negated_twice l) (false_from_true st.values (negated l) x.0))) in
      let other : s.units (negated (with_var global l)) ≡ true = subst (λ z. s.units z ≡ true) (negated_mapped global l) (fits.known (negated l) unit) in
      ap (λ b. (session_if b s (with_unit_added w known)).unsat) fits.consistent
      ∙ ap (λ b. (session_if b known (session_if (s.units (negated w)) (record known { unsat = true }) (record known { units = λ m. eqb w m || s.units m }))).unsat) open_here
      ∙ ap (λ b. (session_if b (record known { unsat = true }) (record known { units = λ m. eqb w m || s.units m })).unsat) other

  -- the same for an empty clause
  pub added_empty : (after (AddClause []) s).unsat ≡ true
  added_empty = ap (λ b. (session_if b s (record (knowing_literals [] s) { unsat = true })).unsat) fits.consistent

  -- a tautology changes nothing
  pub fits_added_tautology : (ls : List ℕ) → is_tautology ls ≡ true → SessionMatches words live implied st (after (AddClause (map (with_var global) ls)) s) global
  fits_added_tautology ls taut =
      let ks : List ℕ = map (with_var global) ls in
      let same : session_if s.unsat s (with_live_clause false ks (knowing_literals ks s)) ≡ knowing_literals ks s =
      ap (λ b. session_if b s (with_live_clause false ks (knowing_literals ks s))) fits.consistent ∙ ap (λ b. session_if b (knowing_literals ks s) (with_sorted false (canonical ks) (knowing_literals ks s))) (taut_carried global ls taut) in
      fits_listed words live implied st (after (AddClause ks) s) global
      (listed_stays all st s (after (AddClause ks) s) global its
      (record {
        names = λ v. ap (λ (x : Session). x.solver_names v) same;
        units = λ l. ap (λ (x : Session). x.units l) same;
        unsat = ap (λ (x : Session). x.unsat) same;
        width = ap (λ (x : Session). x.width) same;
      })
      (ap (λ (x : Session). x.solver_names) same) (λ r set. ap (λ (x : Session). x.live r set) same)) fits.paired

  -- TWO LITERALS OR MORE: in the order `ls` in the step, and `ms` in the parts

  module _ (ls ms : List ℕ) (order : IsReordering ls ms) (differ : AreDistinct ls) (names : AreMapped global s.solver_names ms) (two : 2 ≤ length ms) (taut : is_tautology ms ≡ false) where
    pub come : MayCome s.solver_names global ls ms
    come = record { order = order; mapped = names; once = once_shuffled ls ms order differ; long = omega arith; plain = taut_mapped global s.solver_names ms names taut }

    -- the list of live clauses that also contains the new one matches
    pub listed_added : (new : List LiveClause) → InsertsClause all new (record { redundant = false; literals = ms }) → MatchesClauseList new st (after (AddClause (map (with_var global) ls)) s) global
    listed_added new i = listed_by new st s global (map (with_var global) ls) [] fits.consistent (listed_derived s global ls ms come st all new false i its [])

    -- a clause that contains a unit may be deleted at once, with its literals in any order
    pub satisfied_at_once : (ns : List ℕ) (l : ℕ) → IsReordering ns ms → is_among ns l ≡ true → IsUnitLit st l →
        IsAllowedStep (after (AddClause (map (with_var global) ls)) s) (DeleteClause (map (with_var global) ns) Satisfied)
        × SessionMatches words live implied st (after (DeleteClause (map (with_var global) ns) Satisfied) (after (AddClause (map (with_var global) ls)) s)) global
    satisfied_at_once ns l again there unit =
        let t : Session = after (AddClause (map (with_var global) ls)) s in
        let c : LiveClause = record { redundant = false; literals = ms } in
        let i : InsertsClause all (c ∷ all) c = inserted_first all c in
        let h : MatchesClauseList (c ∷ all) st t global = listed_added (c ∷ all) i in
        let x = listed_satisfied t global st (c ∷ all) all false ns ms again i h refl (some_unit t global st (c ∷ all) all false ns ms again i h l there (h.known l unit)) in
        (x.0, fits_listed words live implied st (after (DeleteClause (map (with_var global) ns) Satisfied) t) global x.1 fits.paired)

-- a binary clause
pub fits_added_binary : (words live : List ℕ) (x : Binaries) (st : PropagationState) (s : Session) (global : ℕ → ℕ) → StateIsConsistent st → SessionMatches words live x.implied st s global →
    (ls : List ℕ) (a b : ℕ) → IsReordering ls (a ∷ b ∷ []) → AreDistinct ls → a < 2 * length st.values → b < 2 * length st.values → AreMapped global s.solver_names (a ∷ b ∷ []) → length x.implied ≡ 2 * length st.values → is_tautology ls ≡ false →
    SessionMatches words live (with_binary a b x).implied st (after (AddClause (map (with_var global) ls)) s) global
fits_added_binary words live x st s global agrees fits ls a b order differ small_a small_b names room taut =
    let first : negated a < length x.implied = omega arith in
    let second : negated b < length x.implied = omega arith in
    let apart_ab : a ≢ b = λ e. true≢false (ap (λ i. eqb 0 i) (order.apart differ 0 1 (omega arith) (omega arith) e)) in
    let came = two_came (is_redundant words) words live x a b first second apart_ab in
    let kept : IsReordering ls came.lits = shuffled_trans ls (a ∷ b ∷ []) came.lits order came.order in
    let size : length came.lits ≡ 2 = came.order.size in
    let these : AreMapped global s.solver_names came.lits = mapped_shuffled global s.solver_names (a ∷ b ∷ []) came.lits came.order names in
    fits_listed words live (with_binary a b x).implied st (after (AddClause (map (with_var global) ls)) s) global
    (listed_added words live x.implied st s global agrees fits ls came.lits kept differ these (omega arith) (sym (same_tautology ls came.lits (same_shuffled ls came.lits kept)) ∙ taut)
    (solver_clauses (is_redundant words) words live (with_binary a b x).implied) came.inserted)
    (paired_binary x a b first second apart_ab fits.paired)

-- a long clause
pub fits_added_long_as : (words words' : List ℕ) (db db' : Db) (implied : List (List ℕ)) (st : PropagationState) (s : Session) (global : ℕ → ℕ) → StateIsConsistent st → SessionMatches words (live_refs words db.refs) implied st s global →
    (ls ms : List ℕ) (o : ℕ) (header : Header) → DbMatchesBuffer words db → AddsLongClause words db words' db' o header ms → is_learned header.tier ≡ false → IsReordering ls ms → AreDistinct ls → 3 ≤ length ms →
    AreMapped global s.solver_names ms → is_tautology ls ≡ false →
    SessionMatches words' (live_refs words' db'.refs) implied st (after (AddClause (map (with_var global) ls)) s) global
fits_added_long_as words words' db db' implied st s global agrees fits ls ms o header held adds side order differ three names taut =
    fits_listed words' (live_refs words' db'.refs) implied st (after (AddClause (map (with_var global) ls)) s) global
    (listed_added words (live_refs words db.refs) implied st s global agrees fits ls ms order differ names (omega arith) (sym (same_tautology ls ms (same_shuffled ls ms order)) ∙ taut)
    (solver_clauses (is_redundant words') words' (live_refs words' db'.refs) implied) (added_there words words' db db' implied o header ms false held adds side)) fits.paired
