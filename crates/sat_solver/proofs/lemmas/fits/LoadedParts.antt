-- Parts and session match after a clause of the formula was loaded.
use Rattle.std.proofs.Common.{ℕ, ◌*◌, ◌<◌, ◌≤◌, ◌≡◌, true, false, List, [], ◌∷◌, map, length, get_or, refl, sym, ◌∙◌, ap, subst, arith, inl, inr, Some, None}
use Rattle.std.proofs.lemmas.Bool.{cases_eq, false_from_ne_true}
use Rattle.sat_base.specs.values.Literals.{variable, negated, is_positive}
use Rattle.sat_base.specs.steps.Steps.{AddClause, AtClause, DeleteClause, Satisfied as True}
use Rattle.sat_store.specs.clause.Header.{no_header}
use Rattle.sat_checker.specs.LiteralSets.{is_tautology}
use Rattle.sat_checker.proofs.lemmas.sets.Canonical.{same_tautology}
use Rattle.sat_parts.specs.clause.Db.{live_refs}
use Rattle.sat_parts.specs.clause.Orders.{AreDistinct, IsReordering}
use Rattle.sat_parts.specs.prop.Binaries.{with_binary}
use Rattle.sat_parts.specs.prop.Values.{value_of, IsTrueLit, IsUnassignedLit}
use Rattle.sat_parts.specs.prop.State.{PropagationState, level, current_level, StateIsConsistent}
use Rattle.sat_parts.proofs.lemmas.clause.OrderLemmas.{shuffled_refl}
use Rattle.sat_parts.proofs.lemmas.prop.StateLemmas.{negated_variable, true_from_false, level_low}
use Rattle.sat_solver.specs.session.Session.{Session, with_unit_added, after}
use Rattle.sat_solver.proofs.lemmas.session.Changes.{knowing_literals}
use Rattle.sat_solver.specs.session.LiveClauses.{LiveClause, with_var, AreMapped}
use Rattle.sat_solver.proofs.lemmas.session.Mapped.{negated_mapped, apart}
use Rattle.sat_solver.proofs.lemmas.session.StepsOfClauses.{short_leaves}
use Rattle.sat_solver.specs.session.SolverClauses.{solver_clauses}
use Rattle.sat_solver.proofs.lemmas.trail.UnitLemmas.{fact_keeps, fact_gives, fact_only, fact_names, fact_width}
use Rattle.sat_parts.specs.declared.parts.SearchState.{SearchState}
use Rattle.sat_parts.specs.declared.parts.load.Loaded.{Loaded}
use Rattle.sat_parts.specs.declared.parts.load.Loaded.TheVariants.{Stored, Unit as One, Satisfied, Falsified}
use Rattle.sat_parts.specs.parts.Whole.{state, SearchStateInvariant}
use Rattle.sat_parts.specs.parts.Frame.{GainsUnit, AddsOriginalClause, stores_binary, stores_long, IsUnitLit}
use Rattle.sat_parts.specs.parts.Loading.{LoadEffect}
use Rattle.sat_solver.specs.session.Matching.{is_redundant, SessionMatches, SessionMatchesParts}
use Rattle.sat_solver.specs.session.Listed.{MatchesClauseList}
use Rattle.sat_solver.specs.session.Loads.{LoadMatches}
use Rattle.sat_solver.proofs.lemmas.fits.FitLemmas.{mapped_at, mapped_shuffled, fits_carried, fact_unsat, alone, two_of, among_at}
use Rattle.sat_solver.proofs.lemmas.fits.LearnedLemmas.{fits_undone}
use Rattle.sat_solver.proofs.lemmas.fits.SetLemmas.{same_shuffled}
use Rattle.sat_solver.proofs.lemmas.fits.ListedLemmas.{fits_listed, listed_by}
use Rattle.sat_solver.proofs.lemmas.fits.AddedLemmas.{true_unit, fits_added_true, added_refutes, added_empty, satisfied_at_once, fits_added_binary, fits_added_long_as}

-- the search gains a unit
pub fits_gained : (words live : List ℕ) (implied : List (List ℕ)) (st st' : PropagationState) (s : Session) (global : ℕ → ℕ) (l : ℕ) → SessionMatches words live implied st s global → s.solver_names (global (variable l)) ≡ Some (variable l) → IsUnassignedLit st.values l → GainsUnit l st st' →
    SessionMatches words live implied st' (after (AddClause (with_var global l ∷ [])) s) global
fits_gained words live implied st st' s global l fits own free g =
    let all : List LiveClause = solver_clauses (is_redundant words) words live implied in
    let w : ℕ = with_var global l in
    let known : Session = knowing_literals (with_var global l ∷ []) s in
    let none : s.units (negated (with_var global l)) ≡ false = false_from_ne_true (s.units (negated w)) (λ u.
    let x = fits.sound (negated l) (subst (λ v. s.solver_names (global v) ≡ Some v) (sym (negated_variable l)) own) (subst (λ z. s.units z ≡ true) (sym (negated_mapped global l)) u) in
    let e : None ≡ Some (is_positive (negated l)) = sym free ∙ ap (value_of st.values) (sym (negated_variable l)) ∙ x.0 in
    absurd cc) in
    let derived : MatchesClauseList all st' (after (AtClause false (with_var global l ∷ []) []) s) global = record {
      clauses = short_leaves s global all false (w ∷ []) [] (refl, tt) (omega arith) refl fits.clauses;
      known = λ m u. elim (g.units m u) [
        | inl o ↦ fact_keeps known w (with_var global m) (fits.known m o)
        | inr e ↦ subst (λ z. (with_unit_added w known).units (with_var global z) ≡ true) (sym e) (fact_gives known w none)
      ];
      sound = λ m n u.
          let old : s.solver_names (global (variable m)) ≡ Some (variable m) = sym (fact_names known w (global (variable m))) ∙ n in
          elim (fact_only known w (with_var global m) u) [
            | inl e ↦ subst (λ z. IsTrueLit st'.values z × (level st' z ≡ 0)) (apart global s.solver_names l m own old e) g.holds
            | inr k ↦ let x = fits.sound m old k in g.bottom m x.0 x.1
          ];
      consistent = fact_unsat w known none ∙ fits.consistent;
      width = fact_width known w ∙ fits.width;
    } in
    fits_listed words live implied st' (after (AddClause (w ∷ [])) s) global (listed_by all st' s global (w ∷ []) [] fits.consistent derived) fits.paired

no_more : (ls : List ℕ) → length ls ≡ 0 → ls ≡ []
no_more [] e = refl
no_more (l ∷ ls) e = absurd (omega arith)

-- a list of one literal has only one order
alone_shuffled : (ls ms : List ℕ) → IsReordering ls ms → length ms ≡ 1 → ls ≡ get_or ms 0 0 ∷ []
alone_shuffled ls ms h one =
    let n : length ls ≡ 1 = sym h.size ∙ one in
    let j = h.forth 0 (omega arith) in
    let z : j.0 ≡ 0 = omega (arith, j.1.0) in
    alone ls n ∙ ap (λ l. l ∷ []) (sym j.1.1 ∙ ap (λ k. get_or ms k 0) z)

-- the clause as it was given, and as it is stored
module _ (p p' : SearchState) (s : Session) (global : ℕ → ℕ) (holds : SearchStateInvariant p) (fits : SessionMatchesParts p s global) (bottom : p.trail.starts ≡ []) (given ls : List ℕ) (order : IsReordering given ls) (differ : AreDistinct given) (small : (k : ℕ) → k < length given → get_or given k 0 < 2 * length p.assignment.current) (plain : is_tautology given ≡ false) (names : AreMapped global s.solver_names given) where
  abbrev live : List ℕ
  live = live_refs p.clauses p.db.refs

  agrees : StateIsConsistent (state p)
  agrees = holds.below.propagation.agrees

  small_too : (k : ℕ) → k < length ls → get_or ls k 0 < 2 * length p.assignment.current
  small_too k lt = let j = order.back k (omega (arith, order.size)) in subst (λ z. z < 2 * length p.assignment.current) j.1.1 (small j.0 j.1.0)

  names_too : AreMapped global s.solver_names ls
  names_too = mapped_shuffled global s.solver_names given ls order names

  low : (l : ℕ) → IsTrueLit p.assignment.current l → level (state p) l ≡ 0
  low l t =
      let none : length p.trail.starts ≡ 0 = ap (λ (xs : List ℕ). length xs) bottom in
      (let z : level (state p) l ≤ current_level (state p) = level_low (state p) l agrees t in omega arith)

  unit : (l : ℕ) → IsTrueLit p.assignment.current l → IsUnitLit (state p) l
  unit l t = true_unit (state p) l agrees holds.units t (low l t)

  abbrev added : Session
  added = after (AddClause (map (with_var global) given)) s

  pub fits_stored : AddsOriginalClause p p' ls → SessionMatchesParts p' added global
  fits_stored (stores_binary two words list pairs carries) =
      let is : IsReordering given (get_or ls 0 0 ∷ get_or ls 1 0 ∷ []) = subst (λ ms. IsReordering given ms) (two_of ls two) order in
      rw (words, list, pairs)
      (fits_carried p.clauses live (with_binary (get_or ls 0 0) (get_or ls 1 0) p.binary).implied (state p) (state p') added global carries
      (fits_added_binary p.clauses live p.binary (state p) s global agrees fits given (get_or ls 0 0) (get_or ls 1 0) is differ (small_too 0 (omega arith)) (small_too 1 (omega arith)) (subst (λ ms. AreMapped global s.solver_names ms) (two_of ls two) names_too) holds.below.propagation.ranges.room plain))
  fits_stored (stores_long three o adds pairs carries) =
      rw pairs
      (fits_carried p'.clauses (live_refs p'.clauses p'.db.refs) p.binary.implied (state p) (state p') added global carries
      (fits_added_long_as p.clauses p'.clauses p.db p'.db p.binary.implied (state p) s global agrees fits given ls o no_header holds.below.db_matches adds refl order differ three names_too plain))

  taut : is_tautology ls ≡ false
  taut = sym (same_tautology given ls (same_shuffled given ls order)) ∙ plain

  pub fits_loaded : (r : Loaded) → LoadEffect r p p' ls → LoadMatches r p' s global given ls
  fits_loaded Stored says = fits_stored says
  fits_loaded One says =
      let l : ℕ = get_or ls 0 0 in
      let z : 0 < length ls = omega (arith, says.0) in
      rw (alone_shuffled given ls order says.0, says.2.0, says.2.1, says.2.2)
      (fits_gained p.clauses live p.binary.implied (state p) (state p') s global l fits (mapped_at global s.solver_names ls 0 names_too z) says.1 says.3)
  fits_loaded Satisfied says =
      let k = says.2 in
      let l : ℕ = get_or ls k.0 0 in (
        λ one.
            let e : get_or ls k.0 0 ≡ get_or ls 0 0 = (let z : k.0 ≡ 0 = omega (arith, k.1.0) in ap (λ i. get_or ls i 0) z) in
            let first : IsTrueLit p.assignment.current (get_or ls 0 0) = subst (λ m. IsTrueLit p.assignment.current m) e k.1.1 in
            fits_undone p p' added global says.0 says.1
            (rw (alone_shuffled given ls order one) (fits_added_true p.clauses live p.binary.implied (state p) s global agrees fits (get_or ls 0 0) (mapped_at global s.solver_names ls 0 names_too (omega arith)) first (low (get_or ls 0 0) first))),
        λ two.
            let x = satisfied_at_once p.clauses live p.binary.implied (state p) s global agrees fits given ls order differ names_too two taut ls l (shuffled_refl ls) (among_at ls k.0 k.1.0) (unit l k.1.1) in
            (x.0, fits_undone p p' (after (DeleteClause (map (with_var global) ls) True) added) global says.0 says.1 x.1),
      )
  fits_loaded Falsified says = elim (cases_eq (length ls) 0) [
    | inl e ↦ rw (no_more given (sym order.size ∙ e)) (added_empty p.clauses live p.binary.implied (state p) s global agrees fits)
    | inr n ↦
        let one : length ls ≡ 1 = omega (arith, says.0) in
        rw (alone_shuffled given ls order one)
        (added_refutes p.clauses live p.binary.implied (state p) s global agrees fits (get_or ls 0 0) (mapped_at global s.solver_names ls 0 names_too (omega arith)) (unit (negated (get_or ls 0 0)) (true_from_false p.assignment.current (get_or ls 0 0) (says.1 0 (omega arith)))))
  ]
