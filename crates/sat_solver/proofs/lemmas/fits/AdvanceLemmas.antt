-- A learned clause advances in the session.
use Rattle.std.proofs.Common.{ℕ, ◌+◌, ◌<◌, ◌≤◌, ◌≡◌, Bool, true, false, ◌||◌, eqb, List, [], ◌∷◌, map, drop, length, length-drop, get_or, get_or-drop, refl, sym, ◌∙◌, ap, subst, arith, ◌⊎◌, inl, inr, Some}
use Rattle.std.proofs.lemmas.Bool.{or_cases, eqb-true, cases_lt, true≢false, false_from_ne_true}
use Rattle.std.proofs.lemmas.List.{length-map}
use Rattle.std.specs.List.{Contains, AllByRecursion}
use Rattle.sat_base.specs.values.Literals.{variable, negated}
use Rattle.sat_checker.specs.LiteralSets.{is_among, canonical}
use Rattle.sat_checker.proofs.lemmas.sets.Canonical.{canonical_among}
use Rattle.sat_parts.specs.declared.prop.graph.Conflict.{Conflict}
use Rattle.sat_parts.specs.clause.Db.{live_refs}
use Rattle.sat_parts.specs.prop.Binaries.{implied_by}
use Rattle.sat_parts.specs.prop.ReasonLits.{conflict_lits}
use Rattle.sat_parts.specs.prop.Values.{IsFalseLit}
use Rattle.sat_parts.specs.prop.Graphs.{node_of}
use Rattle.sat_parts.specs.prop.State.{level}
use Rattle.sat_parts.proofs.lemmas.clause.ListLemmas.{place_in}
use Rattle.sat_parts.proofs.lemmas.prop.StateLemmas.{negated_variable, negated_twice, true_from_false, false_from_true, not_both}
use Rattle.sat_solver.specs.session.Session.{Session, IsLive, rup_assumptions}
use Rattle.sat_solver.specs.session.LiveClauses.{LiveClause, IsIn, with_var, mapped, AreMapped}
use Rattle.sat_solver.proofs.lemmas.session.Lists.{counts_in}
use Rattle.sat_solver.proofs.lemmas.session.Mapped.{negated_mapped, among_mapped, apart}
use Rattle.sat_solver.specs.session.SolverClauses.{binaries, longs, solver_clauses}
use Rattle.sat_solver.specs.analyze_conflict.AnalysisState.{AnalysisState}
use Rattle.sat_solver.specs.analyze_conflict.Derivation.{AnalysisResult}
use Rattle.sat_solver.specs.analyze_conflict.Empowering.{IsStored, stored_long, stored_pair}
use Rattle.sat_solver.proofs.lemmas.analyze_conflict.Advancing.{IsLow, OthersLow, stored_low}
use Rattle.sat_parts.specs.declared.parts.SearchState.{SearchState}
use Rattle.sat_parts.specs.parts.Whole.{state, HasConflict}
use Rattle.sat_solver.specs.session.Matching.{is_redundant, SessionMatchesParts, TrueLitsHaveIndices}
use Rattle.sat_solver.specs.session.Empowering.{UnitPropagates, StaysUnassignedInSession, IsEmpowering, AreConsistent, LearnedIsEmpoweringInSession}
use Rattle.sat_solver.proofs.lemmas.fits.UsableLemmas.{among_place}
use Rattle.sat_solver.proofs.lemmas.fits.FitLemmas.{among_at, among_back, in_either, long_of}
use Rattle.sat_solver.proofs.lemmas.fits.ModelLemmas.{pair_of, IsPairOf, in_map_back}

each : (P : ℕ → Type 0) (xs : List ℕ) (m : ℕ) → AllByRecursion P xs → is_among xs m ≡ true → P m
each P [] m a e = absurd (true≢false (sym e))
each P (x ∷ xs) m a e = elim (or_cases (eqb x m) (is_among xs m) e) [ inl q ↦ subst P (eqb-true x m q) a.0 | inr k ↦ each P xs m a.1 k ]

module _ (p : SearchState) (e : Conflict) (w : AnalysisState) (back : ℕ) (s : Session) (global : ℕ → ℕ) (refuted : HasConflict p e) (fits : SessionMatchesParts p s global) (named_lits : TrueLitsHaveIndices p.assignment.current s global) (learns : AnalysisResult p.clauses (state p) (conflict_lits p.clauses e) w back) where
  abbrev all : List LiveClause
  all = solver_clauses (is_redundant p.clauses) p.clauses (live_refs p.clauses p.db.refs) p.binary.implied

  abbrev IsNamed : ℕ → Type 0
  IsNamed l = s.solver_names (global (variable l)) ≡ Some (variable l)

  abbrev LowIn : (ℕ → Bool) → Type 0
  LowIn holds = (l : ℕ) → IsNamed l → holds (with_var global l) ≡ true → IsLow (state p) back l

  other_named : (l : ℕ) → IsNamed l → IsNamed (negated l)
  other_named l n = subst (λ v. s.solver_names (global v) ≡ Some v) (sym (negated_variable l)) n

  false_named : (l : ℕ) → IsFalseLit p.assignment.current l → IsNamed l
  false_named l f = subst (λ v. s.solver_names (global v) ≡ Some v) (negated_variable l) (named_lits (negated l) (true_from_false p.assignment.current l f))

  -- the stored clause for a live clause of the session
  record Found (c : List ℕ) : Type 0 where
    literals : List ℕ
    stored : IsStored p.clauses (live_refs p.clauses p.db.refs) p.binary.implied literals
    names : AreMapped global s.solver_names literals
    same : (m : ℕ) → is_among (map (with_var global) literals) m ≡ is_among c m

  stored_in : (d : LiveClause) → IsIn d all → IsStored p.clauses (live_refs p.clauses p.db.refs) p.binary.implied d.literals
  stored_in d k = elim (in_either d (binaries p.binary.implied) (longs (is_redundant p.clauses) p.clauses (live_refs p.clauses p.db.refs)) k) [
    | inl a ↦
        let x : IsPairOf p.binary.implied d = pair_of p.binary.implied d a in
        let m : ℕ = get_or (implied_by p.binary.implied x.list) x.place 0 in
        let c : Contains (implied_by p.binary.implied (negated (negated x.list))) (get_or (implied_by p.binary.implied x.list) x.place 0) =
        subst (λ z. Contains (implied_by p.binary.implied z) m) (sym (negated_twice x.list)) (place_in (implied_by p.binary.implied x.list) x.place x.within) in
        stored_pair (negated x.list) m (fits.paired.apart (negated x.list) m c, fits.paired.back (negated x.list) m c, c) x.same
    | inr b ↦ let x = long_of (is_redundant p.clauses) p.clauses (live_refs p.clauses p.db.refs) d b in stored_long x.place x.there (ap (λ (d : LiveClause). d.literals) x.same)
  ]

  found_as : (r : Bool) (c : List ℕ) → 0 < s.live r (canonical c) → Found c
  found_as r c n =
      let x = counts_in (map (mapped global) all) r (canonical c) (subst (λ k. 0 < k) (fits.clauses.counts r (canonical c)) n) in
      let y = in_map_back (mapped global) all x.clause x.within in
      let set : canonical (map (with_var global) y.0.literals) ≡ canonical c = ap (λ (d : LiveClause). canonical d.literals) (sym y.1.1) ∙ x.its in
      record {
        literals = y.0.literals;
        stored = stored_in y.0 y.1.0;
        names = fits.clauses.named y.0 y.1.0;
        same = λ m. sym (canonical_among (map (with_var global) y.0.literals) m) ∙ ap (λ ls. is_among ls m) set ∙ canonical_among c m;
      }

  found : (c : List ℕ) → IsLive s c → Found c
  found c h = elim (cases_lt 0 (s.live false (canonical c))) [ inl lt ↦ found_as false c lt | inr ge ↦ found_as true c (omega (arith, h.counted)) ]

  name_of : (ls : List ℕ) (m : ℕ) → AreMapped global s.solver_names ls → is_among ls m ≡ true → IsNamed m
  name_of ls m a t = each IsNamed ls m a t

  -- all literals of the stored clause except q have low negations
  others : (c : List ℕ) (f : Found c) (holds : ℕ → Bool) (o q : ℕ) → LowIn holds → AllByRecursion (λ l. (l ≡ o) ⊎ (holds (negated l) ≡ true)) c → IsNamed q → with_var global q ≡ o → OthersLow (state p) back f.literals q
  others c f holds o q low a n is k lt =
      let m : ℕ = get_or f.literals k 0 in
      let among : is_among f.literals (get_or f.literals k 0) ≡ true = among_at f.literals k lt in
      let named : IsNamed (get_or f.literals k 0) = name_of f.literals m f.names among in
      let there : is_among c (with_var global (get_or f.literals k 0)) ≡ true = sym (f.same (with_var global m)) ∙ among_mapped (with_var global) f.literals m among in
      elim (each (λ l. (l ≡ o) ⊎ (holds (negated l) ≡ true)) c (with_var global m) a there) [
        | inl e ↦ inl (apart global s.solver_names m q named n (e ∙ sym is))
        | inr h ↦ inr (low (negated m) (other_named m named) (subst (λ z. holds z ≡ true) (sym (negated_mapped global m)) h))
      ]

  goes_on : (picked : List (List ℕ)) (holds reached : ℕ → Bool) → LowIn holds → UnitPropagates s holds picked reached → LowIn reached
  goes_on [] holds reached low h = λ l n t. low l n (h (with_var global l) t)
  goes_on (c ∷ cs) holds reached low h =
      let f : Found c = found c h.0 in
      let o : ℕ = h.1.0 in
      let back_there = among_back (with_var global) f.literals h.1.0 (f.same h.1.0 ∙ h.1.2) in
      let q : ℕ = back_there.0 in
      let n : IsNamed back_there.0 = name_of f.literals q f.names back_there.1.0 in
      let it : IsLow (state p) back back_there.0 = stored_low p.clauses p.db.refs p.watchlists p.binary.implied (state p) back q f.literals refuted.0.propagation learns.below f.stored (others c f holds o q low h.1.1 n back_there.1.1) in
      goes_on cs (λ l. eqb o l || holds l) reached
      (λ l m t. elim (or_cases (eqb o (with_var global l)) (holds (with_var global l)) t) [
        | inl e ↦ subst (λ z. IsLow (state p) back z) (apart global s.solver_names q l n m (back_there.1.1 ∙ eqb-true o (with_var global l) e)) it
        | inr k ↦ low l m k
      ]) h.1.3

  at_first : LowIn (rup_assumptions s (map (with_var global) (drop 1 w.clause)))
  at_first l n t = elim (or_cases (is_among (map negated (map (with_var global) (drop 1 w.clause))) (with_var global l)) (s.units (with_var global l)) t) [
    | inl a ↦
        let x = among_back negated (map (with_var global) (drop 1 w.clause)) (with_var global l) a in
        let y = among_back (with_var global) (drop 1 w.clause) x.0 x.1.0 in
        let r : ℕ = y.0 in
        let k = among_place (drop 1 w.clause) y.0 y.1.0 in
        let lt : 1 + k.0 < length w.clause = omega (arith, k.1.0, length-drop 1 w.clause) in
        let at : get_or w.clause (1 + k.0) 0 ≡ y.0 = sym (get_or-drop 1 w.clause k.0 0) ∙ k.1.1 in
        let fails : IsFalseLit p.assignment.current y.0 = subst (λ z. IsFalseLit p.assignment.current z) at (learns.asserting.fails (1 + k.0) lt) in
        let named : IsNamed y.0 = false_named y.0 fails in
        let same : negated y.0 ≡ l = apart global s.solver_names (negated r) l (other_named r named) n (negated_mapped global r ∙ ap negated y.1.1 ∙ x.1.1) in
        let high : level (state p) y.0 ≤ back = subst (λ z. level (state p) z ≤ back) at (learns.highest (1 + k.0) (omega arith) lt) in
        subst (λ z. IsLow (state p) back z) same
        (record { holds = true_from_false p.assignment.current r fails; low = subst (λ v. (node_of p.graph v).level ≤ back) (sym (negated_variable r)) high })
    | inr u ↦ let x = fits.sound l n u in record { holds = x.0; low = omega (arith, x.1) }
  ]

  top_named : IsNamed (get_or w.clause 0 0)
  top_named = false_named (get_or w.clause 0 0) (learns.asserting.fails 0 learns.asserting.some)

  not_low : (l : ℕ) → level (state p) l ≡ level (state p) (get_or w.clause 0 0) → IsLow (state p) back l → ⊥
  not_low l e x = omega (arith, x.low, learns.below, learns.asserting.top)

  -- a proof literal that represents a literal of the search
  record Denied (l : ℕ) : Type 0 where
    literal : ℕ
    named : IsNamed literal
    same : with_var global literal ≡ l

  denied_by : (l : ℕ) → is_among (map negated (map (with_var global) (drop 1 w.clause))) l ≡ true → Denied l
  denied_by l a =
      let x = among_back negated (map (with_var global) (drop 1 w.clause)) l a in
      let y = among_back (with_var global) (drop 1 w.clause) x.0 x.1.0 in
      let k = among_place (drop 1 w.clause) y.0 y.1.0 in
      let lt : 1 + k.0 < length w.clause = omega (arith, k.1.0, length-drop 1 w.clause) in
      let at : get_or w.clause (1 + k.0) 0 ≡ y.0 = sym (get_or-drop 1 w.clause k.0 0) ∙ k.1.1 in
      record {
        literal = negated y.0;
        named = other_named y.0 (false_named y.0 (subst (λ z. IsFalseLit p.assignment.current z) at (learns.asserting.fails (1 + k.0) lt)));
        same = negated_mapped global y.0 ∙ ap negated y.1.1 ∙ x.1.1;
      }

  -- this literal and its negation aren't both assumed
  one_of : (l : ℕ) → Denied l → rup_assumptions s (map (with_var global) (drop 1 w.clause)) l ≡ true → rup_assumptions s (map (with_var global) (drop 1 w.clause)) (negated l) ≡ true → ⊥
  one_of l d t u =
      let q : ℕ = d.literal in
      let holds : IsLow (state p) back d.literal = at_first q d.named (subst (λ z. rup_assumptions s (map (with_var global) (drop 1 w.clause)) z ≡ true) (sym d.same) t) in
      let other : IsLow (state p) back (negated d.literal) = at_first (negated q) (other_named q d.named) (subst (λ z. rup_assumptions s (map (with_var global) (drop 1 w.clause)) z ≡ true) (sym (negated_mapped global q ∙ ap negated d.same)) u) in
      not_both p.assignment.current (negated q) other.holds (false_from_true p.assignment.current q holds.holds)

  pub agrees : AreConsistent s.units → AreConsistent (rup_assumptions s (map (with_var global) (drop 1 w.clause)))
  agrees consistent l t = false_from_ne_true (rup_assumptions s (map (with_var global) (drop 1 w.clause)) (negated l)) (λ u.
      elim (or_cases (is_among (map negated (map (with_var global) (drop 1 w.clause))) l) (s.units l) t) [
        | inl a ↦ one_of l (denied_by l a) t u
        | inr x ↦ elim (or_cases (is_among (map negated (map (with_var global) (drop 1 w.clause))) (negated l)) (s.units (negated l)) u) [
          | inl b ↦ one_of (negated l) (denied_by (negated l) b) u (subst (λ z. rup_assumptions s (map (with_var global) (drop 1 w.clause)) z ≡ true) (sym (negated_twice l)) t)
          | inr y ↦ true≢false (sym y ∙ consistent l x)
        ]
      ])

  pub advances : (picked : List (List ℕ)) (reached : ℕ → Bool) → UnitPropagates s (rup_assumptions s (map (with_var global) (drop 1 w.clause))) picked reached → StaysUnassignedInSession s (with_var global (get_or w.clause 0 0)) reached
  advances picked reached h =
      let l : ℕ = get_or w.clause 0 0 in
      let low : LowIn reached = goes_on picked (rup_assumptions s (map (with_var global) (drop 1 w.clause))) reached at_first h in
      record {
        not_true = false_from_ne_true (reached (with_var global l)) (λ t. not_low l refl (low l top_named t));
        not_false = false_from_ne_true (reached (negated (with_var global l))) (λ t.
            not_low (negated l) (ap (λ v. (node_of p.graph v).level) (negated_variable l)) (low (negated l) (other_named l top_named) (subst (λ z. reached z ≡ true) (sym (negated_mapped global l)) t)));
        no_conflict = λ c live a.
            let f : Found c = found c live in
            not_low l refl (stored_low p.clauses p.db.refs p.watchlists p.binary.implied (state p) back l f.literals refuted.0.propagation learns.below f.stored (others c f reached (with_var global l) l low (all_of c a) top_named refl));
      }
    where
      all_of : (ms : List ℕ) → AllByRecursion (λ m. reached (negated m) ≡ true) ms → AllByRecursion (λ m. (m ≡ with_var global (get_or w.clause 0 0)) ⊎ (reached (negated m) ≡ true)) ms
      all_of [] x = tt
      all_of (m ∷ ms) x = (inr x.0, all_of ms x.1)

pub learned_advances_in : LearnedIsEmpoweringInSession
learned_advances_in p e w back s global picked reached refuted fits names learns h = advances p e w back s global refuted fits names learns picked reached h

-- the clause advances as it is written in the step
pub learned_clause_advances : (p : SearchState) (e : Conflict) (w : AnalysisState) (back : ℕ) (s : Session) (global : ℕ → ℕ) → AreConsistent s.units → HasConflict p e → SessionMatchesParts p s global → TrueLitsHaveIndices p.assignment.current s global → AnalysisResult p.clauses (state p) (conflict_lits p.clauses e) w back → IsEmpowering s (map (with_var global) w.clause)
learned_clause_advances p e w back s global consistent refuted fits names learns = record {
  some = subst (λ n. 0 < n) (sym (length-map w.clause (with_var global))) learns.asserting.some;
  agree = subst (λ ls. AreConsistent (rup_assumptions s ls)) (sym (rest_of (with_var global) w.clause)) (agrees p e w back s global refuted fits names learns consistent);
  stays = λ picked reached h. subst (λ l. StaysUnassignedInSession s l reached) (sym (first_of (with_var global) w.clause learns.asserting.some))
      (advances p e w back s global refuted fits names learns picked reached (subst (λ ls. UnitPropagates s (rup_assumptions s ls) picked reached) (rest_of (with_var global) w.clause) h));
}
  where
    first_of : (f : ℕ → ℕ) (ls : List ℕ) → 0 < length ls → get_or (map f ls) 0 0 ≡ f (get_or ls 0 0)
    first_of f [] n = absurd (omega arith)
    first_of f (x ∷ xs) n = refl

    rest_of : (f : ℕ → ℕ) (ls : List ℕ) → drop 1 (map f ls) ≡ map f (drop 1 ls)
    rest_of f [] = refl
    rest_of f (x ∷ xs) = refl
