-- Binary clauses with an assigned variable are removed: a step for each, then all of them at once.
use Rattle.std.proofs.Common.{ℕ, zero, suc, ◌+◌, ◌<◌, ◌≤◌, ◌≡◌, Bool, true, false, ◌&&◌, cond, eqb, ltb, List, [], ◌∷◌, ◌++◌, map, length, get_or, refl, sym, ◌∙◌, ap, subst, arith, ◌⊎◌, inl, inr, Option}
use Rattle.std.proofs.lemmas.Bool.{cases_Bool, cases_eq, and_cases, or_left, or_right, eq-eqb, lt-ltb, true≢false}
use Rattle.std.specs.Prelude.{is_none}
use Rattle.std.specs.List.{Contains, filter}
use Rattle.sat_base.specs.values.Literals.{variable, negated}
use Rattle.sat_base.specs.steps.Steps.{DeleteClause, Satisfied}
use Rattle.sat_checker.specs.LiteralSets.{is_among}
use Rattle.sat_parts.specs.prop.Binaries.{Binaries, implied_by, unassigned_among, RemovesAssigned}
use Rattle.sat_parts.specs.prop.Values.{is_unassigned_var, IsTrueLit}
use Rattle.sat_parts.specs.prop.State.{PropagationState, level, current_level, StateIsConsistent}
use Rattle.sat_parts.proofs.lemmas.clause.ListLemmas.{at_place, place_in}
use Rattle.sat_parts.proofs.lemmas.clause.OrderLemmas.{shuffled_refl}
use Rattle.sat_parts.proofs.lemmas.prop.StateLemmas.{negated_variable, negated_twice, level_low}
use Rattle.sat_solver.specs.session.Session.{Session, after, IsAllowedStep}
use Rattle.sat_solver.specs.session.LiveClauses.{LiveClause, with_var}
use Rattle.sat_solver.specs.session.SolverClauses.{pair, binaries, longs, InsertsClause, is_open_clause, binaries_left}
use Rattle.sat_solver.proofs.lemmas.trail.InsertedLemmas.{inserted_before}
use Rattle.sat_solver.proofs.lemmas.trail.OpenLemmas.{binaries_open}
use Rattle.sat_solver.proofs.lemmas.trail.LeftLemmas.{left_start, left_list, left_end, left_other, left_open, left_set}
use Rattle.sat_parts.specs.parts.Round.{UnitsHaveNoReason}
use Rattle.sat_parts.proofs.lemmas.parts.ValueLemmas.{open_or_true}
use Rattle.sat_solver.specs.session.Matching.{ArePaired, is_redundant, SessionMatches}
use Rattle.sat_solver.specs.session.Listed.{MatchesClauseList}
use Rattle.sat_solver.proofs.lemmas.fits.ListedLemmas.{listed, fits_listed, listed_satisfied, some_unit}
use Rattle.sat_solver.proofs.lemmas.fits.AddedLemmas.{true_unit}

-- LISTS OF IMPLIED LITERALS

filter_parts : (p : ℕ → Bool) (ls : List ℕ) (m : ℕ) → Contains (filter p ls) m → (p m ≡ true) × Contains ls m
filter_parts p [] m c = absurd (omega (arith, c.1))
filter_parts p (l ∷ ls) m c = go (p l) refl (filter_parts p ls m) c
  where
    later : (p m ≡ true) × Contains ls m → (p m ≡ true) × Contains (l ∷ ls) m
    later x = (x.0, (suc x.1.0, omega (arith, x.1.1), x.1.2))

    go : (b : Bool) → p l ≡ b → (Contains (filter p ls) m → (p m ≡ true) × Contains ls m) → Contains (cond b (l ∷ filter p ls) (filter p ls)) m → (p m ≡ true) × Contains (l ∷ ls) m
    go true e ih (zero, lt, at) = (ap p (sym at) ∙ e, (zero, omega arith, at))
    go true e ih (suc k, lt, at) = later (ih (k, omega arith, at))
    go false e ih k = later (ih k)

filter_from : (p : ℕ → Bool) (ls : List ℕ) (m : ℕ) → Contains ls m → p m ≡ true → Contains (filter p ls) m
filter_from p [] m c t = absurd (omega (arith, c.1))
filter_from p (l ∷ ls) m c t = go (p l) refl (λ k. filter_from p ls m k t) c
  where
    go : (b : Bool) → p l ≡ b → (Contains ls m → Contains (filter p ls) m) → Contains (l ∷ ls) m → Contains (cond b (l ∷ filter p ls) (filter p ls)) m
    go true e ih (zero, lt, at) = (zero, omega arith, at)
    go true e ih (suc k, lt, at) = let x = ih (k, omega arith, at) in (suc x.0, omega (arith, x.1), x.2)
    go false e ih (zero, lt, at) = absurd (true≢false (sym t ∙ ap p (sym at) ∙ e))
    go false e ih (suc k, lt, at) = ih (k, omega arith, at)

open_parts : (values : List (Option Bool)) (v m : ℕ) (ls : List ℕ) → Contains (unassigned_among values v ls) m → (is_unassigned_var values v ≡ true) × ((is_unassigned_var values (variable m) ≡ true) × Contains ls m)
open_parts values v m ls c = go (is_unassigned_var values v) refl c
  where
    go : (b : Bool) → is_unassigned_var values v ≡ b → Contains (cond b (filter (λ l. is_unassigned_var values (variable l)) ls) []) m → (is_unassigned_var values v ≡ true) × ((is_unassigned_var values (variable m) ≡ true) × Contains ls m)
    go true e k = (e, filter_parts (λ l. is_unassigned_var values (variable l)) ls m k)
    go false e k = absurd (omega (arith, k.1))

open_from : (values : List (Option Bool)) (v m : ℕ) (ls : List ℕ) → is_unassigned_var values v ≡ true → is_unassigned_var values (variable m) ≡ true → Contains ls m → Contains (unassigned_among values v ls) m
open_from values v m ls e t c = subst (λ b. Contains (cond b (filter (λ l. is_unassigned_var values (variable l)) ls) []) m) (sym e) (filter_from (λ l. is_unassigned_var values (variable l)) ls m c t)

pub paired_open : (values : List (Option Bool)) (x y : Binaries) → RemovesAssigned values x y → ArePaired x.implied → ArePaired y.implied
paired_open values x y h p =
    let parts : (a b : ℕ) → Contains (implied_by y.implied (negated a)) b → (is_unassigned_var values (variable (negated a)) ≡ true) × ((is_unassigned_var values (variable b) ≡ true) × Contains (implied_by x.implied (negated a)) b) = λ a b c.
    open_parts values (variable (negated a)) b (implied_by x.implied (negated a)) (subst (λ (ls : List ℕ). Contains ls b) (h.implied (negated a)) c) in
    record {
      back = λ a b c.
          let z = parts a b c in
          subst (λ (ls : List ℕ). Contains ls a) (sym (h.implied (negated b)))
          (open_from values (variable (negated b)) a (implied_by x.implied (negated b)) (ap (is_unassigned_var values) (negated_variable b) ∙ z.1.0) (ap (is_unassigned_var values) (sym (negated_variable a)) ∙ z.0) (p.back a b z.1.1));
      apart = λ a b c. p.apart a b (parts a b c).1.1;
    }

-- THE PASS

-- the first k literals of list l, and all lists before it, were visited
abbrev pub LeftFits : (words live : List ℕ) (x : Binaries) (st : PropagationState) (global : ℕ → ℕ) → Session → (l k : ℕ) → Type 0
LeftFits words live x st global t l k = MatchesClauseList (binaries_left st.values x.implied l k ++ longs (is_redundant words) words live) st t global

module _ (words live : List ℕ) (x : Binaries) (st : PropagationState) (global : ℕ → ℕ) (agrees : StateIsConsistent st) (bare : UnitsHaveNoReason st) (bottom : length st.trail.starts ≡ 0) (paired : ArePaired x.implied) (complete : (l k : ℕ) → k < length (implied_by x.implied l) → IsTrueLit st.values l → IsTrueLit st.values (get_or (implied_by x.implied l) k 0)) where
  -- an assigned variable makes one of its literals true
  set_or_open : (a : ℕ) → is_unassigned_var st.values (variable a) ≡ false → IsTrueLit st.values a ⊎ IsTrueLit st.values (negated a)
  set_or_open a n = elim (open_or_true st.values (variable a)) [
    | inl none ↦ absurd (true≢false (sym (ap is_none none) ∙ n))
    | inr y ↦ elim (cases_eq y.0 a) [
      | inl e ↦ inl (subst (λ z. IsTrueLit st.values z) e y.1.1)
      | inr d ↦ inr (subst (λ z. IsTrueLit st.values z) (let v : variable y.0 ≡ variable a = y.1.0 in omega arith) y.1.1)
    ]
  ]

  some_true : (a m : ℕ) → Contains (implied_by x.implied (negated a)) m → is_open_clause st.values (pair a m) ≡ false → IsTrueLit st.values a ⊎ IsTrueLit st.values m
  some_true a m c n = elim (and_cases (is_unassigned_var st.values (variable a)) (is_unassigned_var st.values (variable m) && true) n) [
    | inl f ↦ elim (set_or_open a f) [
      | inl t ↦ inl t
      | inr t ↦ inr (subst (λ z. IsTrueLit st.values z) (at_place (implied_by x.implied (negated a)) m c) (complete (negated a) c.0 c.1 t))
    ]
    | inr f ↦ elim (and_cases (is_unassigned_var st.values (variable m)) true f) [
      | inl g ↦ elim (set_or_open m g) [
        | inl t ↦ inr t
        | inr t ↦ let d = paired.back a m c in inl (subst (λ z. IsTrueLit st.values z) (at_place (implied_by x.implied (negated m)) a d) (complete (negated m) d.0 d.1 t))
      ]
      | inr z ↦ absurd (true≢false z)
    ]
  ]

  same_left : (t : Session) (ds es : List LiveClause) → ds ≡ es → MatchesClauseList (ds ++ longs (is_redundant words) words live) st t global → MatchesClauseList (es ++ longs (is_redundant words) words live) st t global
  same_left t ds es e h = subst (λ cs. MatchesClauseList (cs ++ longs (is_redundant words) words live) st t global) e h

  pub removal_begins : (s : Session) → SessionMatches words live x.implied st s global → LeftFits words live x st global s 0 0
  removal_begins s fits = same_left s (binaries x.implied) (binaries_left st.values x.implied 0 0) (sym (left_start st.values x.implied)) (listed words live x.implied st s global fits)

  pub removal_goes_on : (t : Session) (l : ℕ) → l < length x.implied → LeftFits words live x st global t l (length (implied_by x.implied l)) → LeftFits words live x st global t (l + 1) 0
  removal_goes_on t l lt = same_left t (binaries_left st.values x.implied l (length (implied_by x.implied l))) (binaries_left st.values x.implied (l + 1) 0) (left_list st.values x.implied l lt)

  pub removal_ends : (t : Session) (y : Binaries) → LeftFits words live x st global t (length x.implied) 0 → RemovesAssigned st.values x y → SessionMatches words live y.implied st t global
  removal_ends t y h gone =
      fits_listed words live y.implied st t global
      (same_left t (binaries_left st.values x.implied (length x.implied) 0) (binaries y.implied) (left_end st.values x.implied ∙ sym (binaries_open st.values x y gone)) h) (paired_open st.values x y gone paired)

  module _ (t : Session) (l k : ℕ) (lt : k < length (implied_by x.implied l)) (h : LeftFits words live x st global t l k) where
    abbrev m : ℕ
    m = get_or (implied_by x.implied l) k 0

    -- the clause stays, or is visited in its other list
    pub removal_passes : (ltb (negated l) m ≡ false) ⊎ (is_open_clause st.values (pair (negated l) m) ≡ true) → LeftFits words live x st global t l (k + 1)
    removal_passes why = same_left t (binaries_left st.values x.implied l k) (binaries_left st.values x.implied l (k + 1)) (elim (cases_Bool (ltb (negated l) m)) [
      | inl lower ↦ elim why [ inl n ↦ absurd (true≢false (sym lower ∙ n)) | inr u ↦ left_open st.values x.implied l k lt lower u ]
      | inr n ↦ left_other st.values x.implied l k lt n
    ]) h

    -- the clause is deleted by a step
    pub removal_deletes : negated l < m → is_open_clause st.values (pair (negated l) m) ≡ false →
        IsAllowedStep t (DeleteClause (map (with_var global) (negated l ∷ m ∷ [])) Satisfied) × LeftFits words live x st global (after (DeleteClause (map (with_var global) (negated l ∷ m ∷ [])) Satisfied) t) l (k + 1)
    removal_deletes lower n =
        let a : ℕ = negated l in
        let ls : List ℕ = negated l ∷ m ∷ [] in
        let rest : List LiveClause = longs (is_redundant words) words live in
        let old : List LiveClause = binaries_left st.values x.implied l k ++ rest in
        let new : List LiveClause = binaries_left st.values x.implied l (k + 1) ++ rest in
        let i : InsertsClause new old (pair (negated l) m) = inserted_before rest (binaries_left st.values x.implied l (k + 1)) (binaries_left st.values x.implied l k) (pair a m) (left_set st.values x.implied l k lt (lt-ltb a m lower) n) in
        let c : Contains (implied_by x.implied (negated (negated l))) m = subst (λ z. Contains (implied_by x.implied z) m) (sym (negated_twice l)) (place_in (implied_by x.implied l) k lt) in
        let unit : (z : ℕ) → is_among (negated l ∷ m ∷ []) z ≡ true → IsTrueLit st.values z → IsAllowedStep t (DeleteClause (map (with_var global) (negated l ∷ m ∷ [])) Satisfied) × LeftFits words live x st global (after (DeleteClause (map (with_var global) (negated l ∷ m ∷ [])) Satisfied) t) l (k + 1) = λ z there holds.
        let low : level st z ≡ 0 = (let e : level st z ≤ current_level st = level_low st z agrees holds in omega arith) in
        let u = some_unit t global st old new false ls ls (shuffled_refl ls) i h z there (h.known z (true_unit st z agrees bare holds low)) in
        listed_satisfied t global st old new false ls ls (shuffled_refl ls) i h refl u in
        elim (some_true a m c n) [
          | inl holds ↦ unit a (or_left (eqb a a) (is_among (m ∷ []) a) (eq-eqb a a refl)) holds
          | inr holds ↦ unit m (or_right (eqb a m) (is_among (m ∷ []) m) (or_left (eqb m m) false (eq-eqb m m refl))) holds
        ]
