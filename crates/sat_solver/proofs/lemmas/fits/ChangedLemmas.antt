-- How the clauses of the parts change, as one list.
use Rattle.std.proofs.Common.{ℕ, zero, suc, ◌<◌, ◌≡◌, ◌≢◌, Bool, true, false, cond, List, [], ◌∷◌, ◌++◌, length, get_or, sym, ◌∙◌, ap, subst, arith, inl, inr}
use Rattle.std.proofs.lemmas.Bool.{cases_order}
use Rattle.std.specs.List.{Contains}
use Rattle.sat_base.specs.values.Literals.{negated}
use Rattle.sat_store.specs.clause.Buffer.{lits_at}
use Rattle.sat_store.specs.clause.Header.{Header, is_learned}
use Rattle.sat_parts.specs.clause.Db.{Db, DbMatchesBuffer, AreStrictlyIncreasing, is_live, live_refs, without_ref, AddsLongClause, DeletesClause}
use Rattle.sat_parts.specs.clause.Orders.{AreDistinct, IsReordering}
use Rattle.sat_parts.specs.prop.Binaries.{Binaries, with_binary}
use Rattle.sat_parts.proofs.lemmas.clause.ListLemmas.{rising_tail, rising_above, rising_distinct, place_in, in_without}
use Rattle.sat_parts.proofs.lemmas.clause.OrderLemmas.{shuffled_refl, shuffled_swapped}
use Rattle.sat_parts.proofs.lemmas.prop.BuildLemmas.{live_in}
use Rattle.sat_solver.specs.session.LiveClauses.{LiveClause}
use Rattle.sat_solver.specs.session.SolverClauses.{pair, binaries, longs, solver_clauses, InsertsClause}
use Rattle.sat_solver.proofs.lemmas.trail.ClauseLemmas.{binary_comes, binary_comes_turned}
use Rattle.sat_solver.proofs.lemmas.trail.InsertedLemmas.{inserted_after, inserted_before, long_goes, long_comes}
use Rattle.sat_solver.specs.session.Matching.{is_redundant}
use Rattle.sat_solver.proofs.lemmas.fits.FitLemmas.{longs_same}

-- the list of live clauses has every reference once, in rising order
rising_cons : (x : ℕ) (xs : List ℕ) → ((p : ℕ) → Contains xs p → x < p) → AreStrictlyIncreasing xs → AreStrictlyIncreasing (x ∷ xs)
rising_cons x xs above h zero zero a b = absurd (omega arith)
rising_cons x xs above h zero (suc k) a b = above (get_or xs k 0) (place_in xs k (omega arith))
rising_cons x xs above h (suc j) zero a b = absurd (omega arith)
rising_cons x xs above h (suc j) (suc k) a b = h j k (omega arith) (omega arith)

rising_live : (words refs : List ℕ) → AreStrictlyIncreasing refs → AreStrictlyIncreasing (live_refs words refs)
rising_live words [] h = h
rising_live words (x ∷ xs) h = go (is_live words x) (rising_live words xs (rising_tail x xs h))
  where
    go : (b : Bool) → AreStrictlyIncreasing (live_refs words xs) → AreStrictlyIncreasing (cond b (x ∷ live_refs words xs) (live_refs words xs))
    go true ih = rising_cons x (live_refs words xs) (λ p c. rising_above x xs p h (live_in words xs p c)) ih
    go false ih = ih

pub live_distinct : (words : List ℕ) (db : Db) → DbMatchesBuffer words db → AreDistinct (live_refs words db.refs)
live_distinct words db h j k a b e = rising_distinct (live_refs words db.refs) j k (rising_live words db.refs h.rising) a b e

module _ (words words' : List ℕ) (db db' : Db) (implied : List (List ℕ)) where
  abbrev live : List ℕ
  live = live_refs words db.refs

  abbrev live' : List ℕ
  live' = live_refs words' db'.refs

  -- adding a long clause inserts it into the list
  pub added_there : (o : ℕ) (header : Header) (ls : List ℕ) (r : Bool) → DbMatchesBuffer words db → AddsLongClause words db words' db' o header ls → is_learned header.tier ≡ r →
      InsertsClause (solver_clauses (is_redundant words) words live implied) (solver_clauses (is_redundant words') words' live' implied) (record { redundant = r; literals = ls })
  added_there o header ls r held adds side =
      let its : longs (is_redundant words') words' live ≡ longs (is_redundant words) words live =
      longs_same (is_redundant words) (is_redundant words') words words' live (λ p k.
      let kept = adds.added.others p (held.holds_clauses.clauses p (live_in words db.refs p k)) in (ap (λ (h : Header). is_learned h.tier) kept.header, kept.lits)) in
      let c : LiveClause = record { redundant = is_redundant words' o; literals = lits_at words' o } in
      let new : LiveClause = record { redundant = r; literals = ls } in
      let same : c ≡ new = ap (λ b. record { redundant = b; literals = lits_at words' o }) (ap (λ (h : Header). is_learned h.tier) adds.added.header_there ∙ side) ∙ ap (λ ms. record { redundant = r; literals = ms }) adds.added.lits_there in
      inserted_after (binaries implied) (longs (is_redundant words) words live) (longs (is_redundant words') words' live') new
      (subst (λ ds. InsertsClause ds (longs (is_redundant words') words' live') new) its
      (subst (λ os. InsertsClause (longs (is_redundant words') words' live) (longs (is_redundant words') words' os) new) (sym adds.live)
      (subst (λ d. InsertsClause (longs (is_redundant words') words' live) (longs (is_redundant words') words' (live ++ o ∷ [])) d) same (long_comes (is_redundant words') words' live o))))

  -- deleting a long clause removes it from the list
  pub deleted_there : (o : ℕ) → DbMatchesBuffer words db → Contains live o → DeletesClause words db words' db' o →
      InsertsClause (solver_clauses (is_redundant words') words' live' implied) (solver_clauses (is_redundant words) words live implied) (record { redundant = is_redundant words o; literals = lits_at words o })
  deleted_there o held there d =
      let its : longs (is_redundant words') words' (without_ref o live) ≡ longs (is_redundant words) words (without_ref o live) =
      longs_same (is_redundant words) (is_redundant words') words words' (without_ref o live) (λ p k.
      let x = in_without o p live k in
      let kept = d.put.others p (live_in words db.refs p x.0) x.1 in (ap (λ (h : Header). is_learned h.tier) kept.header, kept.lits)) in
      let c : LiveClause = record { redundant = is_redundant words o; literals = lits_at words o } in
      inserted_after (binaries implied) (longs (is_redundant words') words' live') (longs (is_redundant words) words live) c
      (subst (λ os. InsertsClause (longs (is_redundant words') words' os) (longs (is_redundant words) words live) c) (sym d.live)
      (subst (λ ds. InsertsClause ds (longs (is_redundant words) words live) c) (sym its) (long_goes (is_redundant words) words live o (live_distinct words db held) there)))

-- a binary clause was inserted, with its literals in either order
pub record CameTwo (old new : List LiveClause) (a b : ℕ) : Type 0 where
  pub lits : List ℕ
  pub order : IsReordering (a ∷ b ∷ []) lits
  pub inserted : InsertsClause old new (record { redundant = false; literals = lits })

pub two_came : (redundant : ℕ → Bool) (words live : List ℕ) (x : Binaries) (a b : ℕ) → negated a < length x.implied → negated b < length x.implied → a ≢ b →
    CameTwo (solver_clauses redundant words live x.implied) (solver_clauses redundant words live (with_binary a b x).implied) a b
two_came redundant words live x a b n m d =
    let rest : List LiveClause = longs redundant words live in
    elim (cases_order a b) [
      | inl e ↦ absurd (d e)
      | inr o ↦ elim o [
        | inl lt ↦ record { lits = a ∷ b ∷ []; order = shuffled_refl (a ∷ b ∷ []); inserted = inserted_before rest (binaries x.implied) (binaries (with_binary a b x).implied) (pair a b) (binary_comes x a b n m lt) }
        | inr gt ↦ record {
          lits = b ∷ a ∷ [];
          order = shuffled_swapped (a ∷ b ∷ []) 0 1 (omega arith) (omega arith);
          inserted = inserted_before rest (binaries x.implied) (binaries (with_binary a b x).implied) (pair b a) (binary_comes_turned x a b n m gt);
        }
      ]
    ]
