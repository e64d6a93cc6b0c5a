-- The true literals of a complete assignment may be written as a model.
use Rattle.std.proofs.Common.{ℕ, suc, ◌+◌, ◌*◌, ◌/◌, ◌%◌, ◌<◌, ◌≤◌, ◌≡◌, Bool, true, false, cond, eqb, ltb, List, [], ◌∷◌, map, length, get_or, refl, sym, ◌∙◌, ap, subst, arith, ◌⊎◌, inl, inr, Some}
use Rattle.std.proofs.lemmas.Bool.{or_left, or_right, or_from, or_parts, ne_eqb, eq-eqb, cases_lt, eqb-false, cases_eq, false_from_ne_true}
use Rattle.std.proofs.lemmas.List.{get_or_past}
use Rattle.std.specs.List.{list_any}
use Rattle.sat_base.specs.values.Literals.{variable, negated, is_positive}
use Rattle.sat_store.specs.clause.Buffer.{lits_at}
use Rattle.sat_checker.specs.LiteralSets.{is_among, mentions}
use Rattle.sat_checker.specs.SortedSets.{NoRepeats}
use Rattle.sat_checker.specs.Accepts.{VariablesDistinct}
use Rattle.sat_checker.proofs.lemmas.sets.Subsets.{any_true}
use Rattle.sat_parts.specs.clause.Db.{live_refs}
use Rattle.sat_parts.specs.clause.Stored.{lit_of}
use Rattle.sat_parts.specs.prop.Binaries.{implied_by}
use Rattle.sat_parts.specs.prop.Values.{value_of, IsTrueLit}
use Rattle.sat_parts.proofs.lemmas.prop.StateLemmas.{negated_variable, negated_twice, false_from_true, not_both, lit_from_parts}
use Rattle.sat_solver.specs.session.Session.{Session, CanWriteModel}
use Rattle.sat_solver.specs.session.LiveClauses.{LiveClause, IsIn, with_var, mapped}
use Rattle.sat_solver.proofs.lemmas.session.Lists.{shows_all}
use Rattle.sat_solver.proofs.lemmas.session.Mapped.{negated_mapped, among_mapped}
use Rattle.sat_solver.specs.session.SolverClauses.{pair, binaries_of, binaries_from, binaries, longs, solver_clauses}
use Rattle.sat_parts.specs.declared.parts.SearchState.{SearchState}
use Rattle.sat_parts.specs.parts.Whole.{AllAssigned, ClausesAreSatisfied}
use Rattle.sat_parts.proofs.lemmas.parts.ValueLemmas.{open_or_true}
use Rattle.sat_solver.specs.session.Units.{AreTrueLits}
use Rattle.sat_solver.specs.session.Matching.{is_redundant, SessionMatchesParts, TrueLitsHaveIndices}
use Rattle.sat_solver.proofs.lemmas.fits.FitLemmas.{among_at, among_back, long_of, in_either}

-- a binary clause is stored in a list of implied literals
pub record IsPairOf (implied : List (List ℕ)) (c : LiveClause) : Type 0 where
  pub list : ℕ
  pub place : ℕ
  pub within : place < length (implied_by implied list)
  pub same : c.literals ≡ negated list ∷ get_or (implied_by implied list) place 0 ∷ []

record IsPairIn (a : ℕ) (ms : List ℕ) (c : LiveClause) : Type 0 where
  place : ℕ
  within : place < length ms
  same : c.literals ≡ a ∷ get_or ms place 0 ∷ []

pair_in : (a : ℕ) (ms : List ℕ) (c : LiveClause) → IsIn c (binaries_of a ms) → IsPairIn a ms c
pair_in a [] c h = absurd h
pair_in a (m ∷ ms) c h = go (ltb a m) h (pair_in a ms c)
  where
    later : IsPairIn a ms c → IsPairIn a (m ∷ ms) c
    later x = record { place = suc x.place; within = omega (arith, x.within); same = x.same }

    go : (b : Bool) → IsIn c (cond b (pair a m ∷ binaries_of a ms) (binaries_of a ms)) → (IsIn c (binaries_of a ms) → IsPairIn a ms c) → IsPairIn a (m ∷ ms) c
    go true (inl e) ih = record { place = 0; within = omega arith; same = ap (λ (d : LiveClause). d.literals) e }
    go true (inr k) ih = later (ih k)
    go false k ih = later (ih k)

record IsPairFrom (l : ℕ) (implied : List (List ℕ)) (c : LiveClause) : Type 0 where
  list : ℕ
  place : ℕ
  within : place < length (get_or implied list [])
  same : c.literals ≡ negated (l + list) ∷ get_or (get_or implied list []) place 0 ∷ []

pair_from : (l : ℕ) (implied : List (List ℕ)) (c : LiveClause) → IsIn c (binaries_from l implied) → IsPairFrom l implied c
pair_from l [] c h = absurd h
pair_from l (ms ∷ rest) c h = elim (in_either c (binaries_of (negated l) ms) (binaries_from (l + 1) rest) h) [
  | inl a ↦
      let x : IsPairIn (negated l) ms c = pair_in (negated l) ms c a in
      let z : l + 0 ≡ l = omega arith in
      record { list = 0; place = x.place; within = x.within; same = x.same ∙ ap (λ k. negated k ∷ get_or ms x.place 0 ∷ []) (sym z) }
  | inr b ↦
      let x : IsPairFrom (l + 1) rest c = pair_from (l + 1) rest c b in
      let z : l + 1 + x.list ≡ l + suc x.list = omega arith in
      record { list = suc x.list; place = x.place; within = x.within; same = x.same ∙ ap (λ k. negated k ∷ get_or (get_or rest x.list []) x.place 0 ∷ []) z }
]

pub pair_of : (implied : List (List ℕ)) (c : LiveClause) → IsIn c (binaries implied) → IsPairOf implied c
pair_of implied c h =
    let x : IsPairFrom 0 implied c = pair_from 0 implied c h in
    let z : 0 + x.list ≡ x.list = omega arith in
    record { list = x.list; place = x.place; within = x.within; same = x.same ∙ ap (λ k. negated k ∷ get_or (get_or implied x.list []) x.place 0 ∷ []) z }

pub in_map_back : (f : LiveClause → LiveClause) (cs : List LiveClause) (c : LiveClause) → IsIn c (map f cs) → (d : LiveClause) × (IsIn d cs × (c ≡ f d))
in_map_back f [] c h = absurd h
in_map_back f (x ∷ xs) c (inl e) = (x, (inl refl, e))
in_map_back f (x ∷ xs) c (inr k) = let y = in_map_back f xs c k in (y.0, (inr y.1.0, y.1.1))

among_in : (xs : List ℕ) (a b l : ℕ) → xs ≡ a ∷ b ∷ [] → (l ≡ a) ⊎ (l ≡ b) → is_among xs l ≡ true
among_in xs a b l e (inl q) = subst (λ ys. is_among ys l ≡ true) (sym e) (or_left (eqb a l) (is_among (b ∷ []) l) (eq-eqb a l (sym q)))
among_in xs a b l e (inr q) = subst (λ ys. is_among ys l ≡ true) (sym e) (or_right (eqb a l) (is_among (b ∷ []) l) (or_left (eqb b l) false (eq-eqb b l (sym q))))

module _ (p : SearchState) (s : Session) (global : ℕ → ℕ) (fits : SessionMatchesParts p s global) (names : TrueLitsHaveIndices p.assignment.current s global) (room : length p.binary.implied ≡ 2 * length p.assignment.current) where
  named_true : (l : ℕ) → IsTrueLit p.assignment.current l → s.solver_names (global (variable l)) ≡ Some (variable l)
  named_true l t = names l t

  same_lit : (l m : ℕ) → IsTrueLit p.assignment.current l → IsTrueLit p.assignment.current m → variable (with_var global l) ≡ variable (with_var global m) → l ≡ m
  same_lit l m t u e =
      let half : (2 * global (l / 2) + l % 2) / 2 ≡ global (l / 2) = omega arith in
      let half' : (2 * global (m / 2) + m % 2) / 2 ≡ global (m / 2) = omega arith in
      let g : global (l / 2) ≡ global (m / 2) = sym half ∙ e ∙ half' in
      let v : Some (variable l) ≡ Some (variable m) = sym (named_true l t) ∙ ap s.solver_names g ∙ named_true m u in
      let w : variable l ≡ variable m = cc in
      let b : Some (is_positive l) ≡ Some (is_positive m) = sym t ∙ ap (λ v. value_of p.assignment.current v) w ∙ u in
      let c : is_positive l ≡ is_positive m = cc in
      lit_from_parts l m w c

  apart_all : (ls : List ℕ) → ((l : ℕ) → is_among ls l ≡ true → IsTrueLit p.assignment.current l) → NoRepeats ls → VariablesDistinct (map (with_var global) ls)
  apart_all [] only once = tt
  apart_all (l ∷ ls) only once = (
    none ls (λ m t. only m (or_right (eqb l m) (is_among ls m) t)) once.0,
    apart_all ls (λ m t. only m (or_right (eqb l m) (is_among ls m) t)) once.1,
  )
    where
      none : (ms : List ℕ) → ((m : ℕ) → is_among ms m ≡ true → IsTrueLit p.assignment.current m) → is_among ms l ≡ false → mentions (map (with_var global) ms) (variable (with_var global l)) ≡ false
      none [] o n = refl
      none (m ∷ ms) o n =
          let q = or_parts (eqb m l) (is_among ms l) n in
          or_from (eqb (variable (with_var global m)) (variable (with_var global l))) (mentions (map (with_var global) ms) (variable (with_var global l)))
          (ne_eqb (variable (with_var global m)) (variable (with_var global l)) (λ e.
          eqb-false m l q.0 (same_lit m l (o m (or_left (eqb m m) (is_among ms m) (eq-eqb m m refl))) (only l (or_left (eqb l l) (is_among ls l) (eq-eqb l l refl))) e)))
          (none ms (λ k t. o k (or_right (eqb m k) (is_among ms k) t)) q.1)

  module _ (ls : List ℕ) (lits : AreTrueLits p.assignment.current ls) (all : AllAssigned p) (modelled : ClausesAreSatisfied p) where
    shown : (c : LiveClause) (l : ℕ) → is_among c.literals l ≡ true → IsTrueLit p.assignment.current l → list_any (is_among (map (with_var global) ls)) (map (with_var global) c.literals) ≡ true
    shown c l there t = any_true (is_among (map (with_var global) ls)) (map (with_var global) c.literals) (with_var global l) (among_mapped (with_var global) c.literals l there) (among_mapped (with_var global) ls l (lits.all l t))

    each : (c : LiveClause) → IsIn c (solver_clauses (is_redundant p.clauses) p.clauses (live_refs p.clauses p.db.refs) p.binary.implied) → list_any (is_among (map (with_var global) ls)) (map (with_var global) c.literals) ≡ true
    each c k = elim (in_either c (binaries p.binary.implied) (longs (is_redundant p.clauses) p.clauses (live_refs p.clauses p.db.refs)) k) [
      | inl a ↦
          let x : IsPairOf p.binary.implied c = pair_of p.binary.implied c a in
          let m : ℕ = get_or (implied_by p.binary.implied x.list) x.place 0 in
          elim (open_or_true p.assignment.current (variable x.list)) [
            | inl none ↦ absurd (elim (cases_lt (variable x.list) (length p.assignment.current)) [
              | inl lt ↦ ((all (variable x.list) lt none).binary x.list x.place x.within).0 refl
              | inr ge ↦ out_of_range x ge
            ])
            | inr y ↦ elim (cases_eq y.0 x.list) [
              | inl e ↦
                  let t : IsTrueLit p.assignment.current (get_or (implied_by p.binary.implied x.list) x.place 0) = modelled.binary x.list x.place x.within (subst (λ z. IsTrueLit p.assignment.current z) e y.1.1) in
                  shown c m (among_in c.literals (negated x.list) m m x.same (inr refl)) t
              | inr n ↦
                  let e : y.0 ≡ negated x.list = (let v : variable y.0 ≡ variable x.list = y.1.0 in omega arith) in
                  shown c (negated x.list) (among_in c.literals (negated x.list) m (negated x.list) x.same (inl refl)) (subst (λ z. IsTrueLit p.assignment.current z) e y.1.1)
            ]
          ]
      | inr b ↦
          let x = long_of (is_redundant p.clauses) p.clauses (live_refs p.clauses p.db.refs) c b in
          let t = modelled.long x.place x.there in
          shown c (lit_of p.clauses x.place t.0) (subst (λ (d : LiveClause). is_among d.literals (lit_of p.clauses x.place t.0) ≡ true) (sym x.same) (among_at (lits_at p.clauses x.place) t.0 t.1.0)) t.1.1
    ]
      where
        out_of_range : (x : IsPairOf p.binary.implied c) → length p.assignment.current ≤ variable x.list → ⊥
        out_of_range x ge =
            let past : implied_by p.binary.implied x.list ≡ [] = get_or_past p.binary.implied x.list [] (omega arith) in
            let n : x.place < 0 = subst (λ (ms : List ℕ). x.place < length ms) past x.within in
            omega arith

    pub model_may : CanWriteModel s (map (with_var global) ls)
    model_may = record {
      consistent = fits.consistent;
      apart = apart_all ls lits.only lits.once;
      units = λ u k. false_from_ne_true (is_among (map (with_var global) ls) (negated u)) (λ t.
          let x = among_back (with_var global) ls (negated u) t in
          let holds : IsTrueLit p.assignment.current x.0 = lits.only x.0 x.1.0 in
          let e : u ≡ with_var global (negated x.0) = sym (negated_twice u) ∙ ap negated (sym x.1.1) ∙ sym (negated_mapped global x.0) in
          let n : s.solver_names (global (variable (negated x.0))) ≡ Some (variable (negated x.0)) = subst (λ v. s.solver_names (global v) ≡ Some v) (sym (negated_variable x.0)) (named_true x.0 holds) in
          let y = fits.sound (negated x.0) n (subst (λ z. s.units z ≡ true) e k) in
          not_both p.assignment.current (negated x.0) y.0 (false_from_true p.assignment.current x.0 holds));
      clauses = λ set n.
          shows_all (map (mapped global) (solver_clauses (is_redundant p.clauses) p.clauses (live_refs p.clauses p.db.refs) p.binary.implied)) (is_among (map (with_var global) ls))
          (λ c k r.
          let d = in_map_back (mapped global) (solver_clauses (is_redundant p.clauses) p.clauses (live_refs p.clauses p.db.refs) p.binary.implied) c k in
          subst (λ (x : LiveClause). list_any (is_among (map (with_var global) ls)) x.literals ≡ true) (sym d.1.1) (each d.0 d.1.0))
          set (subst (λ k. 0 < k) (fits.clauses.counts false set) n);
    }
