-- A long clause is strengthened to a binary clause.
use Rattle.std.proofs.Common.{ℕ, zero, suc, ◌*◌, ◌<◌, ◌≤◌, ◌≡◌, ◌≢◌, true, false, eqb, List, [], ◌∷◌, map, length, get_or, refl, sym, ◌∙◌, subst, arith, ◌⊎◌, inl, inr}
use Rattle.std.proofs.lemmas.Bool.{cases_eq, or_left, or_right, or_cases, or_from, ne_eqb, eqb-true, eq-eqb, true≢false}
use Rattle.std.specs.List.{Contains}
use Rattle.sat_base.specs.values.Literals.{negated}
use Rattle.sat_base.specs.values.Hashes.{hash_of}
use Rattle.sat_base.specs.steps.Steps.{Step, AtClause, DeleteClause, Redundant, Simplified}
use Rattle.sat_store.specs.clause.Buffer.{lits_at}
use Rattle.sat_checker.specs.LiteralSets.{is_among}
use Rattle.sat_parts.specs.clause.Db.{Db, DbMatchesBuffer, live_refs, DeletesClause}
use Rattle.sat_parts.specs.clause.Orders.{AreDistinct, IsReordering}
use Rattle.sat_parts.specs.clause.Stored.{AreLongClauses, lit_of}
use Rattle.sat_parts.specs.prop.Binaries.{Binaries, with_binary}
use Rattle.sat_parts.specs.prop.State.{PropagationState, StateIsConsistent}
use Rattle.sat_parts.proofs.lemmas.clause.OrderLemmas.{shuffled_trans}
use Rattle.sat_solver.specs.session.Session.{Session, after, IsAllowedStep}
use Rattle.sat_solver.specs.session.LiveClauses.{LiveClause, with_var}
use Rattle.sat_solver.specs.session.SolverClauses.{solver_clauses, InsertsClause}
use Rattle.sat_parts.specs.parts.Frame.{IsUnitLit}
use Rattle.sat_solver.specs.session.Matching.{is_redundant, SessionMatches}
use Rattle.sat_solver.specs.session.Listed.{MatchesClauseList, HasNoTautology}
use Rattle.sat_solver.proofs.lemmas.fits.UsableLemmas.{among_place}
use Rattle.sat_solver.proofs.lemmas.fits.FitLemmas.{among_at, paired_binary}
use Rattle.sat_solver.proofs.lemmas.fits.SetLemmas.{same_shuffled}
use Rattle.sat_solver.proofs.lemmas.fits.ListedLemmas.{listed, fits_listed, listed_derived, listed_redundant, listed_simplified}
use Rattle.sat_solver.proofs.lemmas.fits.ChangedLemmas.{deleted_there, CameTwo, two_came}
use Rattle.sat_solver.proofs.lemmas.fits.PartLemmas.{come_shorter, derive_shorter, replace_shorter}
use Rattle.sat_solver.proofs.lemmas.fits.ReplacedLemmas.{Both}

-- an element of the list that is neither a nor b
record Third (xs : List ℕ) (a b : ℕ) : Type 0 where
  place : ℕ
  within : place < length xs
  not_first : get_or xs place 0 ≢ a
  not_second : get_or xs place 0 ≢ b

third : (xs : List ℕ) (a b : ℕ) → AreDistinct xs → 3 ≤ length xs → Third xs a b
third xs a b d long = elim (cases_eq (get_or xs 0 0) a) [
  | inl p ↦ elim (cases_eq (get_or xs 1 0) b) [
    | inl q ↦ record {
      place = 2;
      within = omega arith;
      not_first = λ e. (let z : 2 ≡ 0 = d 2 0 (omega arith) (omega arith) (e ∙ sym p) in omega arith);
      not_second = λ e. (let z : 2 ≡ 1 = d 2 1 (omega arith) (omega arith) (e ∙ sym q) in omega arith);
    }
    | inr n ↦ record { place = 1; within = omega arith; not_first = λ e. (let z : 1 ≡ 0 = d 1 0 (omega arith) (omega arith) (e ∙ sym p) in omega arith); not_second = n }
  ]
  | inr m ↦ elim (cases_eq (get_or xs 0 0) b) [
    | inr n ↦ record { place = 0; within = omega arith; not_first = m; not_second = n }
    | inl q ↦ elim (cases_eq (get_or xs 1 0) a) [
      | inl p ↦ record {
        place = 2;
        within = omega arith;
        not_first = λ e. (let z : 2 ≡ 1 = d 2 1 (omega arith) (omega arith) (e ∙ sym p) in omega arith);
        not_second = λ e. (let z : 2 ≡ 0 = d 2 0 (omega arith) (omega arith) (e ∙ sym q) in omega arith);
      }
      | inr n ↦ record { place = 1; within = omega arith; not_first = n; not_second = λ e. (let z : 1 ≡ 0 = d 1 0 (omega arith) (omega arith) (e ∙ sym q) in omega arith) }
    ]
  ]
]

two_distinct : (a b : ℕ) → a ≢ b → AreDistinct (a ∷ b ∷ [])
two_distinct a b n zero zero p q e = refl
two_distinct a b n zero (suc zero) p q e = absurd (n e)
two_distinct a b n (suc zero) zero p q e = absurd (n (sym e))
two_distinct a b n (suc zero) (suc zero) p q e = refl
two_distinct a b n (suc (suc j)) k p q e = absurd (omega arith)
two_distinct a b n zero (suc (suc k)) p q e = absurd (omega arith)
two_distinct a b n (suc zero) (suc (suc k)) p q e = absurd (omega arith)

-- a clause with these two literals, whose other literals are false by units
pub record AreTwo (st : PropagationState) (c : List ℕ) (a b : ℕ) : Type 0 where
  pub first : is_among c a ≡ true
  pub second : is_among c b ≡ true
  pub apart : a ≢ b
  pub others : (k : ℕ) → k < length c → get_or c k 0 ≢ a → get_or c k 0 ≢ b → IsUnitLit st (negated (get_or c k 0))

module _ (words words' : List ℕ) (db db' : Db) (x : Binaries) (st : PropagationState) (s : Session) (global : ℕ → ℕ) (agrees : StateIsConsistent st) (fits : SessionMatches words (live_refs words db.refs) x.implied st s global) (held : DbMatchesBuffer words db) (clauses : AreLongClauses words (live_refs words db.refs) (length st.values)) (plain : HasNoTautology s) (o : ℕ) (there : Contains (live_refs words db.refs) o) (gone : DeletesClause words db words' db' o) (room : length x.implied ≡ 2 * length st.values) (a b : ℕ) (two : AreTwo st (lits_at words o) a b) (ls part : List ℕ) (order : IsReordering ls (lits_at words o)) (part_order : IsReordering part (a ∷ b ∷ [])) (hs : List ℕ) (hash_order : IsReordering hs (lits_at words o)) (hash_distinct : AreDistinct hs) (hash : ℕ) (its : hash ≡ hash_of hs) where
  abbrev live : List ℕ
  live = live_refs words db.refs

  abbrev live' : List ℕ
  live' = live_refs words' db'.refs

  abbrev c : List ℕ
  c = lits_at words o

  small : (l : ℕ) → is_among c l ≡ true → l < 2 * length st.values
  small l t = let p = among_place c l t in (let z : lit_of words o p.0 < 2 * length st.values = clauses.below o p.0 there p.1.0 in subst (λ y. y < 2 * length st.values) p.1.1 z)

  first : negated a < length x.implied
  first = (let z : a < 2 * length st.values = small a two.first in omega arith)

  second : negated b < length x.implied
  second = (let z : b < 2 * length st.values = small b two.second in omega arith)

  came : CameTwo (solver_clauses (is_redundant words) words live x.implied) (solver_clauses (is_redundant words) words live (with_binary a b x).implied) a b
  came = two_came (is_redundant words) words live x a b first second two.apart

  abbrev d : List ℕ
  d = came.lits

  its_order : IsReordering part d
  its_order = shuffled_trans part (a ∷ b ∷ []) d part_order came.order

  differ : AreDistinct d
  differ = came.order.apart (two_distinct a b two.apart)

  is_two : (l : ℕ) → is_among d l ≡ true → (a ≡ l) ⊎ (b ≡ l)
  is_two l t = elim (or_cases (eqb a l) (is_among (b ∷ []) l) (same_shuffled (a ∷ b ∷ []) d came.order l ∙ t)) [
    | inl e ↦ inl (eqb-true a l e)
    | inr r ↦ elim (or_cases (eqb b l) false r) [ inl e ↦ inr (eqb-true b l e) | inr z ↦ absurd (true≢false (sym z)) ]
  ]

  within : (l : ℕ) → is_among d l ≡ true → is_among c l ≡ true
  within l t = elim (is_two l t) [ inl e ↦ subst (λ z. is_among c z ≡ true) e two.first | inr e ↦ subst (λ z. is_among c z ≡ true) e two.second ]

  has_first : is_among d a ≡ true
  has_first = sym (same_shuffled (a ∷ b ∷ []) d came.order a) ∙ or_left (eqb a a) (is_among (b ∷ []) a) (eq-eqb a a refl)

  has_second : is_among d b ≡ true
  has_second = sym (same_shuffled (a ∷ b ∷ []) d came.order b) ∙ or_right (eqb a b) (is_among (b ∷ []) b) (or_left (eqb b b) false (eq-eqb b b refl))

  each : (k : ℕ) → k < length c → (is_among d (get_or c k 0) ≡ true) ⊎ IsUnitLit st (negated (get_or c k 0))
  each k lt = elim (cases_eq (get_or c k 0) a) [
    | inl e ↦ inl (subst (λ z. is_among d z ≡ true) (sym e) has_first)
    | inr n ↦ elim (cases_eq (get_or c k 0) b) [ inl e ↦ inl (subst (λ z. is_among d z ≡ true) (sym e) has_second) | inr m ↦ inr (two.others k lt n m) ]
  ]

  other : Third c a b
  other = third c a b (clauses.distinct o there) (clauses.long o there)

  missing : is_among d (get_or c other.place 0) ≡ false
  missing = sym (same_shuffled (a ∷ b ∷ []) d came.order (get_or c other.place 0))
      ∙ or_from (eqb a (get_or c other.place 0)) (is_among (b ∷ []) (get_or c other.place 0)) (ne_eqb a (get_or c other.place 0) (λ e. other.not_first (sym e))) (or_from (eqb b (get_or c other.place 0)) false (ne_eqb b (get_or c other.place 0) (λ e. other.not_second (sym e))) refl)

  long : 1 < length d
  long = omega (arith, came.order.size)

  abbrev step : Step
  step = AtClause false (map (with_var global) part) (hash ∷ [])

  abbrev now : List LiveClause
  now = solver_clauses (is_redundant words') words' live' (with_binary a b x).implied

  middle : MatchesClauseList (solver_clauses (is_redundant words) words live (with_binary a b x).implied) st (after step s) global
  middle =
      listed_derived s global part d (come_shorter words live x.implied st s global agrees fits clauses plain o there part d its_order differ long within) st (solver_clauses (is_redundant words) words live x.implied)
      (solver_clauses (is_redundant words) words live (with_binary a b x).implied) false came.inserted (listed words live x.implied st s global fits) (hash ∷ [])

  derive : IsAllowedStep s step
  derive = derive_shorter words live x.implied st s global agrees fits clauses plain o there part d its_order differ long within hs hash hash_order hash_distinct its each

  goes : InsertsClause now (solver_clauses (is_redundant words) words live (with_binary a b x).implied) (record { redundant = is_redundant words o; literals = lits_at words o })
  goes = deleted_there words words' db db' (with_binary a b x).implied o held there gone

  pub fits_paired : is_redundant words o ≡ false → Both words' live' (with_binary a b x).implied st s global step (DeleteClause (map (with_var global) ls) Simplified)
  fits_paired side =
      let t : Session = after step s in
      let y = listed_simplified t global st (solver_clauses (is_redundant words) words live (with_binary a b x).implied) now (is_redundant words o) ls c order goes middle side
      (replace_shorter words live x.implied st s global agrees fits clauses plain o there part d its_order differ long within ls (get_or c other.place 0) (hash ∷ []) order (among_at c other.place other.within) missing) in
      record { derive = derive; delete = y.0; fits = fits_listed words' live' (with_binary a b x).implied st (after (DeleteClause (map (with_var global) ls) Simplified) t) global y.1 (paired_binary x a b first second two.apart fits.paired) }

  pub fits_paired_redundant : is_redundant words o ≡ true → Both words' live' (with_binary a b x).implied st s global step (DeleteClause (map (with_var global) ls) Redundant)
  fits_paired_redundant side =
      let t : Session = after step s in
      let y = listed_redundant t global st (solver_clauses (is_redundant words) words live (with_binary a b x).implied) now (is_redundant words o) ls c order goes middle side in
      record { derive = derive; delete = y.0; fits = fits_listed words' live' (with_binary a b x).implied st (after (DeleteClause (map (with_var global) ls) Redundant) t) global y.1 (paired_binary x a b first second two.apart fits.paired) }
