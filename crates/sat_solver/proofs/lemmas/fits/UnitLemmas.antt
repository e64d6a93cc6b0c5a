-- Units of level 0 are written in trail order. Then every literal of level 0 is a unit of the session.
use Rattle.std.proofs.Common.{ℕ, zero, suc, ◌-◌, ◌/◌, ◌^◌, ◌<◌, ◌≤◌, ◌≡◌, Bool, true, false, cond, eqb, List, [], ◌∷◌, map, length, get_or, refl, sym, ◌∙◌, ap, subst, arith, ◌⊎◌, inl, inr, Option, Some}
use Rattle.std.proofs.lemmas.Bool.{or_cases, or_left, or_right, eqb-true, eq-eqb, true≢false, false_from_ne_true}
use Rattle.std.specs.List.{AllByRecursion}
use Rattle.sat_base.specs.values.Literals.{variable, negated}
use Rattle.sat_base.specs.values.Hashes.{hash_of}
use Rattle.sat_base.specs.steps.Steps.{UnitClauses}
use Rattle.sat_checker.specs.LiteralSets.{is_among}
use Rattle.sat_parts.specs.declared.prop.graph.Conflict.{Conflict}
use Rattle.sat_parts.specs.clause.Stored.{AreLongClauses}
use Rattle.sat_parts.specs.prop.ReasonLits.{conflict_lits}
use Rattle.sat_parts.specs.prop.Graphs.{has_no_clause}
use Rattle.sat_parts.specs.prop.Values.{IsTrueLit, IsFalseLit}
use Rattle.sat_parts.specs.prop.State.{PropagationState, node, level, lit_at, current_level, StateIsConsistent}
use Rattle.sat_parts.specs.prop.Reasons.{ReasonsAreUnit}
use Rattle.sat_parts.specs.prop.Ready.{IsConflict}
use Rattle.sat_parts.proofs.lemmas.prop.StateLemmas.{negated_variable, true_from_false, false_from_true, not_both, level_low}
use Rattle.sat_solver.specs.session.Session.{Session, with_unit_added, after, CanWriteUnits, CanDerive, by_clauses, rup_assumptions}
use Rattle.sat_solver.proofs.lemmas.session.Changes.{with_facts, knowing_literals}
use Rattle.sat_solver.specs.session.LiveClauses.{with_var}
use Rattle.sat_solver.proofs.lemmas.session.Mapped.{negated_mapped, apart}
use Rattle.sat_solver.proofs.lemmas.session.StepsOfClauses.{units_leave}
use Rattle.sat_solver.proofs.lemmas.analyze_conflict.Callers.{conflict_fails}
use Rattle.sat_solver.specs.session.TrailUnits.{written_units, IsUsable, TrailMatches}
use Rattle.sat_solver.specs.session.SolverClauses.{solver_clauses}
use Rattle.sat_solver.specs.session.TrailEntries.{reason_clause}
use Rattle.sat_solver.proofs.lemmas.fits.MayLemmas.{whole}
use Rattle.sat_solver.proofs.lemmas.trail.UnitLemmas.{trail_units_may, fact_keeps, fact_gives, fact_only, fact_names, fact_width}
use Rattle.sat_parts.specs.parts.Frame.{ClearsUnits}
use Rattle.sat_solver.specs.session.Matching.{is_redundant, SessionMatches, TrueLitsHaveIndices}
use Rattle.sat_solver.specs.session.Units.{written_lits, MatchesWithUnits}
use Rattle.sat_solver.proofs.lemmas.fits.UsableLemmas.{reason_usable, conflict_usable}
use Rattle.sat_solver.proofs.lemmas.fits.FitLemmas.{fact_unsat, all_at}

module _ (st : PropagationState) (global : ℕ → ℕ) where
  -- every unit of the session is true at level 0
  record Sound (t : Session) : Type 0 where
    sound : (l : ℕ) → t.solver_names (global (variable l)) ≡ Some (variable l) → t.units (with_var global l) ≡ true → IsTrueLit st.values l × (level st l ≡ 0)

  -- a literal of level 0 whose variable has a solver name
  record IsGood (names : ℕ → Option ℕ) (l : ℕ) : Type 0 where
    holds : IsTrueLit st.values l
    bottom : level st l ≡ 0
    named : names (global (variable l)) ≡ Some (variable l)

  record Facts (ls : List ℕ) (t t' : Session) : Type 0 where
    keeps : (m : ℕ) → t.units m ≡ true → t'.units m ≡ true
    gives : (l : ℕ) → is_among ls l ≡ true → t'.units (with_var global l) ≡ true
    names : (v : ℕ) → t'.solver_names v ≡ t.solver_names v
    width : t'.width ≡ t.width
    unsat : t'.unsat ≡ t.unsat
    sound : Sound t'

  -- the negation of a true literal of level 0 is no unit
  never : (t : Session) (l : ℕ) → Sound t → IsGood t.solver_names l → t.units (negated (with_var global l)) ≡ false
  never t l s g = false_from_ne_true (t.units (negated (with_var global l))) (λ u.
      let n : t.solver_names (global (variable (negated l))) ≡ Some (variable (negated l)) = subst (λ v. t.solver_names (global v) ≡ Some v) (sym (negated_variable l)) g.named in
      let x = s.sound (negated l) n (subst (λ z. t.units z ≡ true) (sym (negated_mapped global l)) u) in
      not_both st.values (negated l) x.0 (false_from_true st.values l g.holds))

  fact_sound : (t : Session) (l : ℕ) → Sound t → IsGood t.solver_names l → Sound (with_unit_added (with_var global l) t)
  fact_sound t l s g = record {
    sound = λ m n u.
        let old : t.solver_names (global (variable m)) ≡ Some (variable m) = sym (fact_names t (with_var global l) (global (variable m))) ∙ n in
        elim (fact_only t (with_var global l) (with_var global m) u) [
          | inl e ↦
              let same : l ≡ m = apart global t.solver_names l m g.named old e in
              (subst (λ z. IsTrueLit st.values z) same g.holds, subst (λ z. level st z ≡ 0) same g.bottom)
          | inr k ↦ s.sound m old k
        ];
  }

  all_good : (p q : ℕ → Option ℕ) (ls : List ℕ) → ((v : ℕ) → q v ≡ p v) → AllByRecursion (IsGood p) ls → AllByRecursion (IsGood q) ls
  all_good p q [] e h = tt
  all_good p q (l ∷ ls) e h = (record { holds = h.0.holds; bottom = h.0.bottom; named = e (global (variable l)) ∙ h.0.named }, all_good p q ls e h.1)

  facts_all : (ls : List ℕ) (t : Session) → Sound t → AllByRecursion (IsGood t.solver_names) ls → Facts ls t (with_facts (map (with_var global) ls) t)
  facts_all [] t s h = record { keeps = λ m u. u; gives = λ l k. absurd (true≢false (sym k)); names = λ v. refl; width = refl; unsat = refl; sound = s }
  facts_all (l ∷ ls) t s h =
      let w : ℕ = with_var global l in
      let u : Session = with_unit_added (with_var global l) t in
      let n : t.units (negated (with_var global l)) ≡ false = never t l s h.0 in
      let rest : Facts ls (with_unit_added (with_var global l) t) (with_facts (map (with_var global) ls) (with_unit_added (with_var global l) t)) =
      facts_all ls (with_unit_added (with_var global l) t) (fact_sound t l s h.0) (all_good t.solver_names u.solver_names ls (fact_names t w) h.1) in
      record {
        keeps = λ m k. rest.keeps m (fact_keeps t w m k);
        gives = λ m k. elim (or_cases (eqb l m) (is_among ls m) k) [
          | inl e ↦ subst (λ z. (with_facts (map (with_var global) ls) (with_unit_added (with_var global l) t)).units (with_var global z) ≡ true) (eqb-true l m e) (rest.keeps w (fact_gives t w n))
          | inr r ↦ rest.gives m r
        ];
        names = λ v. rest.names v ∙ fact_names t w v;
        width = rest.width ∙ fact_width t w;
        unsat = rest.unsat ∙ fact_unsat w t n;
        sound = rest.sound;
      }

  -- the literals of the written units
  written_same : (words : List ℕ) (width : ℕ) (ls : List ℕ) → map (λ u. u.0) (written_units words st width global ls) ≡ map (with_var global) (written_lits st ls)
  written_same words width [] = refl
  written_same words width (l ∷ ls) = go (has_no_clause (node st l).reason) (written_same words width ls)
    where
      go : (b : Bool) → map (λ u. u.0) (written_units words st width global ls) ≡ map (with_var global) (written_lits st ls)
          → map (λ u. u.0) (cond b (written_units words st width global ls) ((with_var global l, hash_of (reason_clause words l (node st l).reason) / 2 ^ (64 - width)) ∷ written_units words st width global ls))
          ≡ map (with_var global) (cond b (written_lits st ls) (l ∷ written_lits st ls))
      go true ih = ih
      go false ih = ap (λ xs. with_var global l ∷ xs) ih

  written_all : (P : ℕ → Type 0) (ls : List ℕ) → AllByRecursion P ls → AllByRecursion P (written_lits st ls)
  written_all P [] h = tt
  written_all P (l ∷ ls) h = go (has_no_clause (node st l).reason) (written_all P ls h.1)
    where
      go : (b : Bool) → AllByRecursion P (written_lits st ls) → AllByRecursion P (cond b (written_lits st ls) (l ∷ written_lits st ls))
      go true ih = ih
      go false ih = (h.0, ih)

  written_has : (ls : List ℕ) (k : ℕ) → k < length ls → has_no_clause (node st (get_or ls k 0)).reason ≡ false → is_among (written_lits st ls) (get_or ls k 0) ≡ true
  written_has [] k lt u = absurd (omega arith)
  written_has (l ∷ ls) zero lt u = go (has_no_clause (node st l).reason) u
    where
      go : (b : Bool) → b ≡ false → is_among (cond b (written_lits st ls) (l ∷ written_lits st ls)) l ≡ true
      go true e = absurd (true≢false e)
      go false e = or_left (eqb l l) (is_among (written_lits st ls) l) (eq-eqb l l refl)
  written_has (l ∷ ls) (suc k) lt u = go (has_no_clause (node st l).reason) (written_has ls k (omega arith) u)
    where
      go : (b : Bool) → is_among (written_lits st ls) (get_or ls k 0) ≡ true → is_among (cond b (written_lits st ls) (l ∷ written_lits st ls)) (get_or ls k 0) ≡ true
      go true ih = ih
      go false ih = or_right (eqb l (get_or ls k 0)) (is_among (written_lits st ls) (get_or ls k 0)) ih

module _ (words live : List ℕ) (implied : List (List ℕ)) (st : PropagationState) (s : Session) (global : ℕ → ℕ) (fits : SessionMatches words live implied st s global) (names : TrueLitsHaveIndices st.values s global) (agrees : StateIsConsistent st) (clauses : AreLongClauses words live (length st.values)) (turns : ReasonsAreUnit words live implied st 0) (bottom : length st.trail.starts ≡ 0) where
  low : (l : ℕ) → IsTrueLit st.values l → level st l ≡ 0
  low l t = (let h : level st l ≤ current_level st = level_low st l agrees t in omega arith)

  named_at : (i : ℕ) → i < length st.trail.lits → s.solver_names (global (variable (lit_at st i))) ≡ Some (variable (lit_at st i))
  named_at i lt = names (lit_at st i) (agrees.holds i lt)

  bare_known : (i : ℕ) → i < length st.trail.lits → has_no_clause (node st (lit_at st i)).reason ≡ true → s.units (with_var global (lit_at st i)) ≡ true
  bare_known i lt u = fits.known (lit_at st i) (inr (record { place = i; within = lt; there = refl; bottom = low (lit_at st i) (agrees.holds i lt); none = u }))

  units_fit : TrailMatches words st s global
  units_fit = record {
    named = named_at;
    usable = λ i lt u. reason_usable words live implied s global fits.clauses fits.paired st i (node st (lit_at st i)).reason u (turns i (omega arith) lt);
    given = bare_known;
    removed = λ l r. fits.known l (inl r);
    sound = λ l n u. (fits.sound l n u).0;
  }

  -- these units may be written
  pub units_may : CanWriteUnits s (written_units words st 64 global st.trail.lits)
  units_may = subst (λ w. CanWriteUnits s (written_units words st w global st.trail.lits)) fits.width (trail_units_may words live implied st s global (λ o c. omega (arith, clauses.long o c)) agrees turns units_fit)

  -- after they are written, every true literal of level 0 is a unit
  pub units_written : MatchesWithUnits words live implied st (after (UnitClauses (written_units words st 64 global st.trail.lits)) s) global
  units_written =
      let us : List (ℕ × ℕ) = written_units words st 64 global st.trail.lits in
      let ls : List ℕ = map (λ u. u.0) (written_units words st 64 global st.trail.lits) in
      let t : Session = knowing_literals (map (λ u. u.0) (written_units words st 64 global st.trail.lits)) s in
      let good : AllByRecursion (IsGood st global s.solver_names) (written_lits st st.trail.lits) =
      written_all st global (IsGood st global s.solver_names) st.trail.lits (all_at (IsGood st global s.solver_names) st.trail.lits (λ k lt. record { holds = agrees.holds k lt; bottom = low (lit_at st k) (agrees.holds k lt); named = named_at k lt })) in
      let facts : Facts st global (written_lits st st.trail.lits) t (with_facts (map (with_var global) (written_lits st st.trail.lits)) t) = facts_all st global (written_lits st st.trail.lits) t (record { sound = fits.sound }) good in
      let f : Facts st global (written_lits st st.trail.lits) t (with_facts (map (λ u. u.0) (written_units words st 64 global st.trail.lits)) t) =
      subst (λ xs. Facts st global (written_lits st st.trail.lits) t (with_facts xs t)) (sym (written_same st global words 64 st.trail.lits)) facts in
      record {
        fits = record {
          clauses = units_leave s global (solver_clauses (is_redundant words) words live implied) us fits.clauses;
          paired = fits.paired;
          known = λ l u. f.keeps (with_var global l) (fits.known l u);
          sound = f.sound.sound;
          consistent = f.unsat ∙ fits.consistent;
          width = f.width ∙ fits.width;
        };
        all = λ l x z. elim (agrees.known l x) [
          | inl b ↦
              elim (true_or_false (has_no_clause (node st (lit_at st b.place)).reason)) [
                | inl y ↦ f.keeps (with_var global l) (subst (λ m. s.units (with_var global m) ≡ true) b.there (bare_known b.place b.within y))
                | inr n ↦ f.gives l (subst (λ m. is_among (written_lits st st.trail.lits) m ≡ true) b.there (written_has st global st.trail.lits b.place b.within n))
              ]
          | inr r ↦ f.keeps (with_var global l) (fits.known l (inl r))
        ];
      }
    where
      true_or_false : (b : Bool) → (b ≡ true) ⊎ (b ≡ false)
      true_or_false true = inl refl
      true_or_false false = inr refl

-- written units are taken off the trail
pub fits_cleared : (words live : List ℕ) (implied : List (List ℕ)) (st st' : PropagationState) (s : Session) (global : ℕ → ℕ) → ClearsUnits st st' → MatchesWithUnits words live implied st s global → SessionMatches words live implied st' s global
fits_cleared words live implied st st' s global c h = record {
  clauses = h.fits.clauses;
  paired = h.fits.paired;
  known = λ l u. let x = c.units l u in h.all l x.0 x.1;
  sound = λ l n u. let x = h.fits.sound l n u in c.bottom l x.0 x.1;
  consistent = h.fits.consistent;
  width = h.fits.width;
}

-- THE EMPTY CLAUSE

-- at a conflict at level 0, the empty clause may be derived once the units are written
pub empty_may : (words live : List ℕ) (implied : List (List ℕ)) (st : PropagationState) (s : Session) (global : ℕ → ℕ) (e : Conflict) → MatchesWithUnits words live implied st s global → StateIsConsistent st → length st.trail.starts ≡ 0 → IsConflict words live implied st.values e →
    CanDerive s [] (hash_of (conflict_lits words e) ∷ [])
empty_may words live implied st s global e h agrees bottom conflict =
    let u : IsUsable s global (conflict_lits words e) = conflict_usable words live implied s global h.fits.clauses h.fits.paired st.values e conflict in
    let fails : (k : ℕ) → k < length (conflict_lits words e) → IsFalseLit st.values (get_or (conflict_lits words e) k 0) = conflict_fails words live implied st.values e conflict in
    by_clauses (map (with_var global) (conflict_lits words e) ∷ []) (u.live, whole s (hash_of (conflict_lits words e)) h.fits.width ∙ u.hash, tt)
    (all_false (conflict_lits words e) (λ k lt.
    let r : ℕ = get_or (conflict_lits words e) k 0 in
    let t : IsTrueLit st.values (negated (get_or (conflict_lits words e) k 0)) = true_from_false st.values r (fails k lt) in
    let z : level st (negated (get_or (conflict_lits words e) k 0)) ≡ 0 = (let l : level st (negated r) ≤ current_level st = level_low st (negated r) agrees t in omega arith) in
    subst (λ x. s.units x ≡ true) (negated_mapped global r) (h.all (negated r) t z)))
  where
    all_false : (ls : List ℕ) → ((k : ℕ) → k < length ls → s.units (negated (with_var global (get_or ls k 0))) ≡ true) → AllByRecursion (λ l. rup_assumptions s [] (negated l) ≡ true) (map (with_var global) ls)
    all_false [] x = tt
    all_false (l ∷ ls) x = (x 0 (omega arith), all_false ls (λ k lt. x (suc k) (omega arith)))
